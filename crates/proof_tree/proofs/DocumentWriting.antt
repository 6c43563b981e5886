-- A document that stands there is read to its end: counts, modes, and the whole.
use Rattle.std.proofs.Common.{◌≡◌, ℕ, zero, suc, ◌+◌, ◌≤◌, List, [], ◌∷◌, length, Option, Some, None, Ok, refl, sym, subst, ◌∙◌, arith, eq-eqb}
use Rattle.std.specs.List.{enumerate_from, AllByRecursion, AllZip}
use Rattle.sched_model.specs.PlainMode.{most_rounds}
use Rattle.sched_model.specs.ValidMode.{IsValid}
use Rattle.sched_model.specs.declared.schedule.Schedule.{Schedule}
use Rattle.proof_tree.specs.Items.{End}
use Rattle.proof_tree.specs.TreeLines.{Items, TreesFrom}
use Rattle.proof_tree.specs.Accepting.{DocMode, EachIs, Tells, ModeEnds, IsMode, IsPlan, IsRight}
use Rattle.proof_tree.specs.Reading.{Place, next_item, counts_at, mode_line, mode, fixed, is_head, is_end, Reading, read_modes, read_document}
use Rattle.proof_tree.proofs.TreeReading.{place, tree_takes}
use Rattle.proof_tree.proofs.FewestRounds.{few, told_rounds}
use Rattle.proof_tree.proofs.ScheduleWriting.{Reads, same, schedule_reads}

ends_most : (d : DocMode) (plan : Option Schedule) (q : ℕ) (ls rest : Items) → IsValid d.mode → IsRight d plan → ModeEnds d plan q ls rest → q ≤ most_rounds d.mode + 1
ends_most d None q ls rest ok right e = omega (arith, e.0)
ends_most d (Some s) q ls rest ok right e = let f : length s.starts ≤ most_rounds d.mode = few d.mode (length s.starts) s ok right in omega (arith, told_rounds d q s ls rest e)

counts_reads : (o : ℕ) (d : DocMode) → IsValid d.mode → (n left r q : ℕ) (plan : Option Schedule) (at : Place) (mid rest : Items) → IsRight d plan
    → TreesFrom d.mode r n at.rest mid → ModeEnds d plan q mid rest → q ≡ r + n → left + r ≡ most_rounds d.mode + 1 → Reads (counts_at o d left r at (next_item at.rest)) plan rest
counts_reads o d ok zero zero r q None at mid rest right t e qe le =
    (place (at.line + 1) rest, subst (λ (l : Items). counts_at o d zero r (place at.line l) (next_item l) ≡ Ok (None, place (at.line + 1) rest)) (sym (t ∙ e.1)) refl, refl)
counts_reads o d ok zero (suc left) r q None at mid rest right t e qe le = absurd (omega (arith, e.0))
counts_reads o d ok zero left r q (Some s) at mid rest right t e qe le =
    let qr : q ≡ r = omega arith in
    let tells : Tells d r e.0 e.1 rest = subst (λ (k : ℕ). Tells d k e.0 e.1 rest) qr e.4 in
    let go = schedule_reads d r e.0 (place (at.line + 1) e.1) rest tells in
    (go.0, subst (λ (l : Items). counts_at o d left r (place at.line l) (next_item l) ≡ Ok (Some s, go.0)) (sym (t ∙ e.3)) (rw (eq-eqb q r qr, go.1, e.2) refl), go.2)
counts_reads o d ok (suc n) zero r q plan at mid rest right t e qe le = absurd (omega (arith, ends_most d plan q mid rest ok right e))
counts_reads o d ok (suc n) (suc left) r q plan at mid rest right t e qe le =
    let tr = tree_takes o d.mode r (place (at.line + 1) t.0) t.1 t.3 in
    let go = counts_reads o d ok n left (r + 1) q plan tr.0.1 mid rest right (subst (λ (l : Items). TreesFrom d.mode (r + 1) n l mid) (sym tr.2) t.4) e (omega arith) (omega arith) in
    (go.0, subst (λ (l : Items). counts_at o d (suc left) r (place at.line l) (next_item l) ≡ Ok (plan, go.0)) (sym t.2) (rw (eq-eqb r r refl, tr.1, go.1) refl), go.2)

mode_reads : (p : ℕ × DocMode) → IsValid p.1.mode → (plan : Option Schedule) (at : Place) (rest : Items) → IsRight p.1 plan → IsMode p.1 plan at.rest rest → Reads (mode p at) plan rest
mode_reads p ok plan at rest right v =
    let go = counts_reads p.0 p.1 ok v.0 (most_rounds p.1.mode) 1 (v.0 + 1) plan (place (at.line + 1) v.1) v.2 rest right v.4 v.5 (omega arith) refl in
    let line : mode_line p.1 at (next_item at.rest) ≡ Ok (tt, place (at.line + 1) v.1) = subst (λ (l : Items). mode_line p.1 (place at.line l) (next_item l) ≡ Ok (tt, place (at.line + 1) v.1)) (sym v.3) (rw (same p.1.name) refl) in
    (go.0, rw (line, go.1) refl, go.2)

-- a reading that gives these plans and comes to a place with this rest
abbrev ReadsTo : Reading → List (Option Schedule) → Items → Type 0
ReadsTo r plans rest = (to : Place) × (r.plans ≡ plans) × (r.ended ≡ Ok to) × (to.rest ≡ rest)

modes_read : (i : ℕ) (modes : List DocMode) (plans : List (Option Schedule)) (at : Place) (rest : Items) → AllByRecursion (λ d. IsValid d.mode) modes → AllZip IsRight modes plans → EachIs IsMode modes plans at.rest rest
    → ReadsTo (read_modes (enumerate_from i modes) at) plans rest
modes_read i [] [] at rest ok right v = (at, refl, refl, v)
modes_read i [] (p ∷ ps) at rest ok right v = absurd v
modes_read i (d ∷ ds) [] at rest ok right v = absurd v
modes_read i (d ∷ ds) (p ∷ ps) at rest ok right v =
    let one = mode_reads (i, d) ok.0 p at v.0 right.0 v.1 in
    let others = modes_read (i + 1) ds ps one.0 rest ok.1 right.1 (subst (λ (l : Items). EachIs IsMode ds ps l rest) (sym one.2) v.2) in
    (others.0, rw (one.1, others.1) refl, rw one.1 others.2, others.3)

pub document_reads : (modes : List DocMode) (items : Items) (plans : List (Option Schedule)) → AllByRecursion (λ d. IsValid d.mode) modes → AllZip IsRight modes plans → IsPlan modes plans items
    → (to : Place) × ((read_document modes items).plans ≡ plans) × ((read_document modes items).ended ≡ Ok to)
document_reads modes items plans ok right v =
    let head : fixed is_head (place 1 items) ≡ Ok (tt, place 2 v.0) = subst (λ (l : Items). fixed is_head (place 1 l) ≡ Ok (tt, place 2 v.0)) (sym v.1) refl in
    let all = modes_read 0 modes plans (place 2 v.0) (Some End ∷ []) ok right v.2 in
    let last : fixed is_end all.0 ≡ Ok (tt, place (all.0.line + 1) []) = subst (λ (l : Items). fixed is_end (place all.0.line l) ≡ Ok (tt, place (all.0.line + 1) [])) (sym all.3) refl in
    (place (all.0.line + 1) [], rw head all.1, rw (head, all.2, last) refl)
