-- A whole tree is read exactly where its lines are those of a valid one.
use Rattle.std.proofs.Common.{◌≡◌, ℕ, zero, suc, ◌+◌, Bool, true, false, ℤ, List, [], ◌∷◌, ◌++◌, length, Some, None, Ok, Err, refl, sym, ap, subst}
use Rattle.sched_model.specs.PlainMode.{PlainMode}
use Rattle.sched_model.specs.ConstraintProblem.{alternatives, decisions}
use Rattle.proof_tree.specs.Items.{Head, ModeNamed, Refute, Branch, Short, Full, Cycle, ScheduleOf, Start, TaskAt, MessageAt, TableOf, Absent, End}
use Rattle.proof_tree.specs.TreeLines.{Items, leaf_holds, EachOf, ValidLines, TreeStands}
use Rattle.proof_tree.specs.Reading.{Refusal, Place, Read, ◌>>=◌, next_item, each, leaf_end, tree_at, tree, BadLeaf, Grammar, Unfinished}

abbrev pub place : ℕ → Items → Place
place k ls = record { line = k; rest = ls }

pub bind_ok : {A B : Type 0} (r : Read A) (f : A × Place → Read B) (y : B × Place) → (r >>= f) ≡ Ok y → (x : A × Place) × (r ≡ Ok x) × (f x ≡ Ok y)
bind_ok (Ok x) f y e = (x, refl, e)
bind_ok (Err d) f y e = absurd cc

abbrev pub good : {A : Type 0} → A × Place → Read A
good x = Ok x

pub ok_is : {A : Type 0} (x y : A × Place) → good x ≡ good y → x ≡ y
ok_is x y e = cc

pub refused : {A : Type 0} (f : Refusal) (x : A × Place) → ◌≡◌ {A = Read A} (Err f) (Ok x) → ⊥
refused f x e = absurd cc

-- ---- what is read is valid

each_gives : {B : Type 0} (R : ℤ → Place → Read B) (V : ℤ → Items → Items → Type 0) → ((a : ℤ) (at : Place) (x : B × Place) → R a at ≡ Ok x → V a at.rest x.1.rest)
    → (bs : List ℤ) (at : Place) (y : List B × Place) → each R bs at ≡ Ok y → EachOf V bs at.rest y.1.rest
each_gives R V g [] at y e = ap (λ z. z.1.rest) (ok_is ([], at) y e)
each_gives {B} R V g (a ∷ bs) at y e =
    let b = bind_ok (R a at) (λ x. each R bs x.1 >>= λ z. Ok (x.0 ∷ z.0, z.1)) y e in
    let c = bind_ok (each R bs b.0.1) (λ z. Ok (b.0.0 ∷ z.0, z.1)) y b.2 in
    let end : c.0.1.rest ≡ y.1.rest = ap (λ z. z.1.rest) (ok_is (b.0.0 ∷ c.0.0, c.0.1) y c.2) in
    (b.0.1.rest, g a at b.0 b.1, subst (λ (l : Items). EachOf V bs b.0.1.rest l) end (each_gives R V g bs b.0.1 c.0 c.1))

leaf_gives : (b : Bool) (line : ℕ) (at : Place) (x : Unit {0} × Place) → leaf_end b line at ≡ Ok x → (b ≡ true) × (at.rest ≡ x.1.rest)
leaf_gives true line at x e = (refl, ap (λ z. z.1.rest) (ok_is (tt, at) x e))
leaf_gives false line at x e = absurd cc

pub gives : (o : ℕ) (m : PlainMode) (r n : ℕ) (p : List ℤ) (k : ℕ) (ls : Items) (x : Unit {0} × Place) → tree_at o m r n p (place k ls) (next_item ls) ≡ Ok x → ValidLines m r n p ls x.1.rest
gives o m r n p k [] x e = absurd (refused (Grammar k) x e)
gives o m r n p k (None ∷ ls) x e = absurd (refused (Grammar k) x e)
gives o m r zero p k (Some Branch ∷ ls) x e = absurd (refused (BadLeaf k) x e)
gives o m r (suc n) p k (Some Branch ∷ ls) x e =
    let b = bind_ok (each (λ a to. tree_at o m r n (p ++ a ∷ []) to (next_item to.rest)) (alternatives m r p) (place (k + 1) ls)) (λ y. Ok (tt, y.1)) x e in
    let end : b.0.1.rest ≡ x.1.rest = ap (λ z. z.1.rest) (ok_is (tt, b.0.1) x b.2) in
    subst (λ (l : Items). EachOf (λ a. ValidLines m r n (p ++ a ∷ [])) (alternatives m r p) ls l) end
    (each_gives (λ a to. tree_at o m r n (p ++ a ∷ []) to (next_item to.rest)) (λ a. ValidLines m r n (p ++ a ∷ [])) (λ a to y f. gives o m r n (p ++ a ∷ []) to.line to.rest y f) (alternatives m r p) (place (k + 1) ls) b.0 b.1)
gives o m r n p k (Some Short ∷ ls) x e = leaf_gives (leaf_holds m r p Short) k (place (k + 1) ls) x e
gives o m r n p k (Some (Full j) ∷ ls) x e = leaf_gives (leaf_holds m r p (Full j)) k (place (k + 1) ls) x e
gives o m r n p k (Some (Cycle refs) ∷ ls) x e = leaf_gives (leaf_holds m r p (Cycle refs)) k (place (k + 1) ls) x e
gives o m r n p k (Some Head ∷ ls) x e = absurd (refused (Grammar k) x e)
gives o m r n p k (Some (ModeNamed a) ∷ ls) x e = absurd (refused (Unfinished o) x e)
gives o m r n p k (Some (Refute a) ∷ ls) x e = absurd (refused (Unfinished o) x e)
gives o m r n p k (Some (ScheduleOf a) ∷ ls) x e = absurd (refused (Unfinished o) x e)
gives o m r n p k (Some (Start a) ∷ ls) x e = absurd (refused (Grammar k) x e)
gives o m r n p k (Some (TaskAt a b) ∷ ls) x e = absurd (refused (Grammar k) x e)
gives o m r n p k (Some (MessageAt a b c) ∷ ls) x e = absurd (refused (Grammar k) x e)
gives o m r n p k (Some (TableOf a b) ∷ ls) x e = absurd (refused (Grammar k) x e)
gives o m r n p k (Some Absent ∷ ls) x e = absurd (refused (Unfinished o) x e)
gives o m r n p k (Some End ∷ ls) x e = absurd (refused (Unfinished o) x e)

pub tree_gives : (o : ℕ) (m : PlainMode) (r : ℕ) (at : Place) (x : Unit {0} × Place) → tree o m r at ≡ Ok x → TreeStands m r at.rest x.1.rest
tree_gives o m r at x e = gives o m r (length (decisions m)) [] at.line at.rest x e

-- ---- what is valid is read

each_takes : {B : Type 0} (R : ℤ → Place → Read B) (V : ℤ → Items → Items → Type 0) → ((a : ℤ) (at : Place) (rest : Items) → V a at.rest rest → (x : B × Place) × (R a at ≡ Ok x) × (x.1.rest ≡ rest))
    → (bs : List ℤ) (at : Place) (rest : Items) → EachOf V bs at.rest rest → (y : List B × Place) × (each R bs at ≡ Ok y) × (y.1.rest ≡ rest)
each_takes R V t [] at rest v = (([], at), refl, v)
each_takes R V t (a ∷ bs) at rest v =
    let one = t a at v.0 v.1 in
    let others = each_takes R V t bs one.0.1 rest (subst (λ (l : Items). EachOf V bs l rest) (sym one.2) v.2) in
    ((one.0.0 ∷ others.0.0, others.0.1), rw (one.1, others.1) refl, others.2)

pub takes : (o : ℕ) (m : PlainMode) (r n : ℕ) (p : List ℤ) (k : ℕ) (ls rest : Items) → ValidLines m r n p ls rest → (x : Unit {0} × Place) × (tree_at o m r n p (place k ls) (next_item ls) ≡ Ok x) × (x.1.rest ≡ rest)
takes o m r n p k [] rest v = absurd v
takes o m r n p k (None ∷ ls) rest v = absurd v
takes o m r zero p k (Some Branch ∷ ls) rest v = absurd v
takes o m r (suc n) p k (Some Branch ∷ ls) rest v =
    let y = each_takes (λ a to. tree_at o m r n (p ++ a ∷ []) to (next_item to.rest)) (λ a. ValidLines m r n (p ++ a ∷ [])) (λ a to l w. takes o m r n (p ++ a ∷ []) to.line to.rest l w) (alternatives m r p) (place (k + 1) ls) rest v in
    ((tt, y.0.1), rw y.1 refl, y.2)
takes o m r n p k (Some Short ∷ ls) rest v = ((tt, place (k + 1) ls), rw v.0 refl, v.1)
takes o m r n p k (Some (Full j) ∷ ls) rest v = ((tt, place (k + 1) ls), rw v.0 refl, v.1)
takes o m r n p k (Some (Cycle refs) ∷ ls) rest v = ((tt, place (k + 1) ls), rw v.0 refl, v.1)
takes o m r n p k (Some other ∷ ls) rest v = absurd v

pub tree_takes : (o : ℕ) (m : PlainMode) (r : ℕ) (at : Place) (rest : Items) → TreeStands m r at.rest rest → (x : Unit {0} × Place) × (tree o m r at ≡ Ok x) × (x.1.rest ≡ rest)
tree_takes o m r at rest v = takes o m r (length (decisions m)) [] at.line at.rest rest v
