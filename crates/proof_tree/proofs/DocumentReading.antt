-- A document that is read stands there: the counts of a mode, the modes, and the whole.
use Rattle.std.proofs.Common.{◌≡◌, ℕ, zero, suc, ◌+◌, Bool, true, false, cond, eqb, ltb, List, [], ◌∷◌, length, Option, Some, None, Result, Ok, Err, refl, sym, ap, subst, ◌∙◌, arith}
use Rattle.std.specs.List.{enumerate_from}
use Rattle.std.specs.Str.{bytes_eq}
use Rattle.std.proofs.lemmas.Bool.{eqb-true}
use Rattle.std.proofs.lemmas.List.{nil_from_length}
use Rattle.sched_model.specs.PlainMode.{most_rounds}
use Rattle.sched_model.specs.declared.schedule.Schedule.{Schedule}
use Rattle.proof_tree.specs.Items.{Head, ModeNamed, Refute, Branch, Short, Full, Cycle, ScheduleOf, Absent, End}
use Rattle.proof_tree.specs.TreeLines.{Items, TreesFrom}
use Rattle.proof_tree.specs.Accepting.{DocMode, EachIs, schedule_of, ModeEnds, IsMode, IsPlan}
use Rattle.proof_tree.specs.Reading.{Refusal, Grammar, Names, Extra, MissingCount, Place, Read, ◌>>=◌, next_item, schedule, tree, counts_at, mode_line, mode, fixed, is_head, is_end, with_mode, read_modes, close_at, close, behind_head, read_document}
use Rattle.proof_tree.proofs.TreeReading.{place, bind_ok, ok_is, refused, tree_gives}
use Rattle.proof_tree.proofs.ScheduleReading.{due_is, same_name, chosen, schedule_is}

neither : {A : Type 0} (b : Bool) (f g : Refusal) (x : A × Place) → ◌≡◌ {A = Read A} (cond b (Err f) (Err g)) (Ok x) → ⊥
neither true f g x e = refused f x e
neither false f g x e = refused g x e

-- from count r on: some trees, and then the end
abbrev pub FromCount : DocMode → ℕ → Items → Option Schedule × Place → Type 0
FromCount d r ls x = (n : ℕ) × (end : Items) × TreesFrom d.mode r n ls end × ModeEnds d x.0 (r + n) end x.1.rest

add_zero : (r : ℕ) → r ≡ r + 0
add_zero r = omega arith

counts_is : (o : ℕ) (d : DocMode) (left r k : ℕ) (ls : Items) (x : Option Schedule × Place) → counts_at o d left r (place k ls) (next_item ls) ≡ Ok x → left + r ≡ most_rounds d.mode + 1 → FromCount d r ls x
counts_is o d left r k [] x e l = absurd (refused (Grammar k) x e)
counts_is o d left r k (None ∷ ls) x e l = absurd (refused (Grammar k) x e)
counts_is o d left r k (Some (ScheduleOf a) ∷ ls) x e l =
    let c = chosen (eqb a r) (schedule d r (place (k + 1) ls)) (MissingCount o r) x e in
    let s = schedule_is d r (place (k + 1) ls) x c.1 in
    let line : Some (ScheduleOf a) ∷ ls ≡ Some (ScheduleOf r) ∷ ls = ap (λ (i : ℕ). Some (ScheduleOf i) ∷ ls) (eqb-true a r c.0) in
    let ends : ModeEnds d (Some (schedule_of s.0)) r (Some (ScheduleOf a) ∷ ls) x.1.rest = (s.0, ls, refl, line, s.1) in
    (0, Some (ScheduleOf a) ∷ ls, refl, subst (λ (q : ℕ). ModeEnds d x.0 q (Some (ScheduleOf a) ∷ ls) x.1.rest) (add_zero r) (subst (λ (p : Option Schedule). ModeEnds d p r (Some (ScheduleOf a) ∷ ls) x.1.rest) (sym s.2) ends))
counts_is o d zero r k (Some (Refute a) ∷ ls) x e l = absurd (neither (eqb a r) (Extra k) (MissingCount o r) x e)
counts_is o d (suc left) r k (Some (Refute a) ∷ ls) x e l =
    let c = chosen (eqb a r) (tree o d.mode r (place (k + 1) ls) >>= λ t. counts_at o d left (r + 1) t.1 (next_item t.1.rest)) (MissingCount o r) x e in
    let t = bind_ok (tree o d.mode r (place (k + 1) ls)) (λ t. counts_at o d left (r + 1) t.1 (next_item t.1.rest)) x c.1 in
    let others = counts_is o d left (r + 1) t.0.1.line t.0.1.rest x t.2 (omega arith) in
    let line : Some (Refute a) ∷ ls ≡ Some (Refute r) ∷ ls = ap (λ (i : ℕ). Some (Refute i) ∷ ls) (eqb-true a r c.0) in
    let count : (r + 1) + others.0 ≡ r + suc others.0 = omega arith in
    (suc others.0, others.1, (ls, t.0.1.rest, line, tree_gives o d.mode r (place (k + 1) ls) t.0 t.1, others.2), subst (λ (q : ℕ). ModeEnds d x.0 q others.1 x.1.rest) count others.3)
counts_is o d zero r k (Some Absent ∷ ls) x e l =
    let y = ok_is (None, place (k + 1) ls) x e in
    let count : r + 0 ≡ most_rounds d.mode + 1 = omega arith in
    subst (FromCount d r (Some Absent ∷ ls)) y (0, Some Absent ∷ ls, refl, (count, refl))
counts_is o d (suc left) r k (Some Absent ∷ ls) x e l = absurd (refused (MissingCount o r) x e)
counts_is o d left r k (Some Branch ∷ ls) x e l = absurd (neither (ltb 1 r) (Extra k) (Grammar k) x e)
counts_is o d left r k (Some Short ∷ ls) x e l = absurd (neither (ltb 1 r) (Extra k) (Grammar k) x e)
counts_is o d left r k (Some (Full j) ∷ ls) x e l = absurd (neither (ltb 1 r) (Extra k) (Grammar k) x e)
counts_is o d left r k (Some (Cycle c) ∷ ls) x e l = absurd (neither (ltb 1 r) (Extra k) (Grammar k) x e)
counts_is o d left r k (Some other ∷ ls) x e l = absurd (refused (Grammar k) x e)

line_is : (d : DocMode) (k : ℕ) (ls : Items) (x : Unit {0} × Place) → mode_line d (place k ls) (next_item ls) ≡ Ok x → ls ≡ Some (ModeNamed d.name) ∷ x.1.rest
line_is d k [] x e = absurd (refused (Grammar k) x e)
line_is d k (None ∷ ls) x e = absurd (refused (Grammar k) x e)
line_is d k (Some (ModeNamed n) ∷ ls) x e =
    let u = due_is (bytes_eq n d.name) (Names k) tt (place (k + 1) ls) x e in
    ap (λ (m : List ℕ). Some (ModeNamed m) ∷ ls) (same_name n d.name u.0) ∙ ap (λ (z : Unit {0} × Place). Some (ModeNamed d.name) ∷ z.1.rest) u.1
line_is d k (Some other ∷ ls) x e = absurd (refused (Grammar k) x e)

pub mode_is : (p : ℕ × DocMode) (at : Place) (x : Option Schedule × Place) → mode p at ≡ Ok x → IsMode p.1 x.0 at.rest x.1.rest
mode_is p at x e =
    let b = bind_ok (mode_line p.1 at (next_item at.rest)) (λ y. counts_at p.0 p.1 (most_rounds p.1.mode) 1 y.1 (next_item y.1.rest)) x e in
    let c = counts_is p.0 p.1 (most_rounds p.1.mode) 1 b.0.1.line b.0.1.rest x b.2 refl in
    let count : 1 + c.0 ≡ c.0 + 1 = omega arith in
    (c.0, b.0.1.rest, c.1, line_is p.1 at.line at.rest b.0 b.1, c.2, subst (λ (q : ℕ). ModeEnds p.1 x.0 q c.1 x.1.rest) count c.3)

pub head_is : (k : ℕ) (ls : Items) (x : Unit {0} × Place) → fixed is_head (place k ls) ≡ Ok x → ls ≡ Some Head ∷ x.1.rest
head_is k [] x e = absurd (refused (Grammar k) x e)
head_is k (None ∷ ls) x e = absurd (refused (Grammar k) x e)
head_is k (Some Head ∷ ls) x e = ap (λ (z : Unit {0} × Place). Some Head ∷ z.1.rest) (ok_is (tt, place (k + 1) ls) x e)
head_is k (Some other ∷ ls) x e = absurd (refused (Grammar k) x e)

pub end_is : (k : ℕ) (ls : Items) (x : Unit {0} × Place) → fixed is_end (place k ls) ≡ Ok x → ls ≡ Some End ∷ x.1.rest
end_is k [] x e = absurd (refused (Grammar k) x e)
end_is k (None ∷ ls) x e = absurd (refused (Grammar k) x e)
end_is k (Some End ∷ ls) x e = ap (λ (z : Unit {0} × Place). Some End ∷ z.1.rest) (ok_is (tt, place (k + 1) ls) x e)
end_is k (Some other ∷ ls) x e = absurd (refused (Grammar k) x e)

-- an end of a reading that is a refusal is no place
unended : (f : Refusal) (at : Place) → ◌≡◌ {A = Result Place Refusal} (Err f) (Ok at) → ⊥
unended f at e = absurd cc

place_is : (a b : Place) → ◌≡◌ {A = Result Place Refusal} (Ok a) (Ok b) → a ≡ b
place_is a b e = cc

-- the modes that were read stand there
modes_are : (i : ℕ) (modes : List DocMode) (at to : Place) → (read_modes (enumerate_from i modes) at).ended ≡ Ok to → EachIs IsMode modes (read_modes (enumerate_from i modes) at).plans at.rest to.rest
modes_are i [] at to e = ap (λ (p : Place). p.rest) (place_is at to e)
modes_are i (d ∷ ds) at to e = one_more i d ds at to (λ x. modes_are (i + 1) ds x) (mode (i, d) at) refl e
  where
    one_more : (i : ℕ) (d : DocMode) (ds : List DocMode) (at to : Place)
        → ((x to : Place) → (read_modes (enumerate_from (i + 1) ds) x).ended ≡ Ok to → EachIs IsMode ds (read_modes (enumerate_from (i + 1) ds) x).plans x.rest to.rest)
        → (r : Read (Option Schedule)) → mode (i, d) at ≡ r → (with_mode r (read_modes (enumerate_from (i + 1) ds))).ended ≡ Ok to
        → EachIs IsMode (d ∷ ds) (with_mode r (read_modes (enumerate_from (i + 1) ds))).plans at.rest to.rest
    one_more i d ds at to more (Ok x) m e = (x.1.rest, mode_is (i, d) at x m, more x.1 to e)
    one_more i d ds at to more (Err f) m e = absurd (unended f to e)

close_at_is : (r : Read (Unit {0})) (to : Place) → close_at r ≡ Ok to → (x : Unit {0} × Place) × (r ≡ Ok x) × (x.1.rest ≡ [])
close_at_is (Err f) to e = absurd (unended f to e)
close_at_is (Ok x) to e = (x, refl, nil_from_length x.1.rest (eqb-true (length x.1.rest) 0 (ended (eqb (length x.1.rest) 0) e)))
  where
    ended : (b : Bool) → cond b (Ok x.1) (Err (Grammar x.1.line)) ≡ Ok to → b ≡ true
    ended true f = refl
    ended false f = absurd (unended (Grammar x.1.line) to f)

close_is : (r : Result Place Refusal) (to : Place) → close r ≡ Ok to → (at : Place) × (r ≡ Ok at) × (at.rest ≡ Some End ∷ [])
close_is (Err f) to e = absurd (unended f to e)
close_is (Ok at) to e =
    let c = close_at_is (fixed is_end at) to e in
    (at, refl, end_is at.line at.rest c.0 c.1 ∙ ap (λ (l : Items). Some End ∷ l) c.2)

-- a document that was read to its end tells the plans that were read
pub document_is : (modes : List DocMode) (items : Items) (to : Place) → (read_document modes items).ended ≡ Ok to → IsPlan modes (read_document modes items).plans items
document_is modes items to e = behind (fixed is_head (place 1 items)) refl e
  where
    behind : (r : Read (Unit {0})) → fixed is_head (place 1 items) ≡ r → (behind_head r modes).ended ≡ Ok to → IsPlan modes (behind_head r modes).plans items
    behind (Err f) h e = absurd (unended f to e)
    behind (Ok x) h e =
        let c = close_is (read_modes (enumerate_from 0 modes) x.1).ended to e in
        (x.1.rest, head_is 1 items x h, subst (λ (l : Items). EachIs IsMode modes (read_modes (enumerate_from 0 modes) x.1).plans x.1.rest l) c.2 (modes_are 0 modes x.1 c.0 c.1))
