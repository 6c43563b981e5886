-- A valid tree shows that no full list is open, and an own tree is valid
use Rattle.std.proofs.Common.{◌≡◌, ℕ, zero, suc, ◌+◌, ◌-◌, ◌<◌, List, [], ◌∷◌, ◌++◌, length, get_or, Contains, refl, sym, subst, arith, ℤ, pos, append_assoc, length-append}
use Rattle.std.proofs.lemmas.List.{take_at, get_or_at}
use Rattle.tick_num.proofs.Cycles.{cycles_exclude}
use Rattle.sched_model.specs.PlainMode.{PlainMode}
use Rattle.sched_model.specs.ConstraintProblem.{alternatives, decisions}
use Rattle.sched_model.specs.OpenPrefix.{FullOpen}
use Rattle.sched_model.specs.RefutationTree.{Node, branch, short, full, cycle, EachOf, ValidFrom, IsTree, OwnFrom, IsOwnTree}
use Rattle.sched_model.proofs.Fronts.{in_force_front, load_front}

-- the tree of an item of the list
pub each_has : (V : ℤ → List Node → List Node → Type 0) (bs : List ℤ) (nodes rest : List Node) → EachOf V bs nodes rest → (a : ℤ) (k : ℕ) → k < length bs → get_or bs k a ≡ a → (x y : List Node) × V a x y
each_has V [] nodes rest e a k l h = absurd (omega arith)
each_has V (b ∷ bs) nodes rest e a zero l h = (nodes, e.0, subst (λ (c : ℤ). V c nodes e.0) h e.1)
each_has V (b ∷ bs) nodes rest e a (suc k) l h = each_has V bs e.0 rest e.2 a k (omega arith) h

pub refuted : (m : PlainMode) (r : ℕ) (n : ℕ) (p : List ℤ) (nodes rest : List Node) → ValidFrom m r n p nodes rest → length p + n ≡ length (decisions m) → (u : List ℤ) → FullOpen m r (p ++ u) → ⊥
refuted m r n p [] rest t e u f = absurd t
refuted m r zero p (branch ∷ nodes) rest t e u f = absurd t
refuted m r (suc n) p (branch ∷ nodes) rest t e [] f = absurd (omega (arith, f.full, length-append {A = ℤ} p []))
refuted m r (suc n) p (branch ∷ nodes) rest t e (a ∷ u) f =
    let q = p ++ a ∷ u in
    let c = f.chosen (length p) (omega (arith, length-append {A = ℤ} p (a ∷ u))) in
    let here = take_at p (a ∷ u) (length p) refl in
    let this = get_or_at p a u (pos 0) (length p) refl in
    let c' : Contains (alternatives m r p) a = subst (λ (b : ℤ). Contains (alternatives m r p) b) this (subst (λ (l : List ℤ). Contains (alternatives m r l) (get_or q (length p) (pos 0))) here c) in
    let d = each_has (λ b. ValidFrom m r n (p ++ b ∷ [])) (alternatives m r p) nodes rest t a c'.0 c'.1 c'.2 in
    refuted m r n (p ++ a ∷ []) d.0 d.1 d.2 (omega (arith, e, length-append {A = ℤ} p (a ∷ []))) u (subst (FullOpen m r) (sym (append_assoc p (a ∷ []) u)) f)
refuted m r n p (short ∷ nodes) rest t e u f = absurd (omega (arith, t.0, f.is_open.slots))
refuted m r n p (full j ∷ nodes) rest t e u f = absurd (omega (arith, t.0, t.1, t.2, f.is_open.loads (j - 1) (omega (arith, t.0, t.1)), load_front r (j - 1) (decisions m) p u))
refuted m r n p (cycle refs ∷ nodes) rest t e u f = cycles_exclude _ _ t.0 f.is_open.values.0 (in_force_front m r f.is_open.values.0 p u f.is_open.values.1)

pub tree_refutes : (m : PlainMode) (r : ℕ) (nodes : List Node) → IsTree m r nodes → (p : List ℤ) → FullOpen m r p → ⊥
tree_refutes m r nodes t p f = refuted m r (length (decisions m)) [] nodes [] t (omega arith) p f

-- ---- own trees
each_valid : (V W : ℤ → List Node → List Node → Type 0) → ((a : ℤ) (x y : List Node) → V a x y → W a x y) → (bs : List ℤ) (x y : List Node) → EachOf V bs x y → EachOf W bs x y
each_valid V W f [] x y e = e
each_valid V W f (b ∷ bs) x y e = (e.0, f b x e.0 e.1, each_valid V W f bs e.0 y e.2)

pub own_valid : (m : PlainMode) (r n : ℕ) (p : List ℤ) (nodes rest : List Node) → OwnFrom m r n p nodes rest → ValidFrom m r n p nodes rest
own_valid m r n p [] rest t = t
own_valid m r zero p (branch ∷ nodes) rest t = t
own_valid m r (suc n) p (branch ∷ nodes) rest t = each_valid _ (λ a. ValidFrom m r n (p ++ a ∷ [])) (λ a. own_valid m r n (p ++ a ∷ [])) (alternatives m r p) nodes rest t.1
own_valid m r n p (short ∷ nodes) rest t = t
own_valid m r n p (full j ∷ nodes) rest t = (t.1, t.2, t.4, t.5)
own_valid m r n p (cycle refs ∷ nodes) rest t = (t.3, t.4)

pub own_tree_valid : (m : PlainMode) (r : ℕ) (nodes : List Node) → IsOwnTree m r nodes → IsTree m r nodes
own_tree_valid m r nodes t = own_valid m r (length (decisions m)) [] nodes [] t
