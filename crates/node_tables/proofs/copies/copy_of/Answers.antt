use Rattle.std.proofs.Common.{◌≡◌, ℕ, ◌+◌, ◌≤◌, ℤ, ap, sym, ◌∙◌, arith, length, to_z, of_z, w64, to_z-of_z, FitsSigned, subst}
use Rattle.sched_model.specs.declared.schedule.Schedule.{Schedule}
use Rattle.node_tables.specs.OwnParts.{counted_at}
use Rattle.node_tables.proofs.CopyCounts.{up_to, up_to_more, up_to_rises, all_copies}
use Rattle.node_tables.proofs.copies.copy_of.Goals as goal

-- the copies in the first rounds, over the moments as they are
same_moments : (s : Schedule) (hyper number : ℕ) (low high : ℤ) → FitsSigned w64 low → FitsSigned w64 high → (n : ℕ) →
    up_to s hyper number (to_z w64 (of_z w64 low)) (to_z w64 (of_z w64 high)) n ≡ up_to s hyper number low high n
same_moments s hyper number low high one two n =
    ap (λ (z : ℤ). up_to s hyper number z (to_z w64 (of_z w64 high)) n) (to_z-of_z one) ∙ ap (λ (z : ℤ). up_to s hyper number low z n) (to_z-of_z two)

-- with those of one more round
one_more : (c : goal.After-copies_in-copies) → let s = c.args.schedule.now in
    c.loop-round.copies + c.copies_in-copies.result ≡ up_to s c.args.hyper c.args.number c.args.opened c.args.start (c.loop-round.round + 1)
one_more c =
    let s = c.args.schedule.now in
    let before : c.loop-round.copies ≡ up_to s c.args.hyper c.args.number c.args.opened c.args.start c.loop-round.round = c.loop-round.invariant ∙ same_moments s c.args.hyper c.args.number c.args.opened c.args.start c.ranges.opened c.ranges.start c.loop-round.round in
    let here : c.copies_in-copies.result ≡ counted_at s c.args.hyper c.args.number c.args.opened c.args.start c.loop-round.round =
    c.copies_in-copies.ensures
    ∙ ap (λ (z : ℤ). counted_at s c.args.hyper c.args.number z (to_z w64 (of_z w64 c.args.start)) c.loop-round.round) (to_z-of_z c.ranges.opened)
    ∙ ap (λ (z : ℤ). counted_at s c.args.hyper c.args.number c.args.opened z c.loop-round.round) (to_z-of_z c.ranges.start) in
    ap (λ (x : ℕ). x + c.copies_in-copies.result) before
    ∙ ap (λ (x : ℕ). up_to s c.args.hyper c.args.number c.args.opened c.args.start c.loop-round.round + x) here
    ∙ sym (up_to_more s c.args.hyper c.args.number c.args.opened c.args.start c.loop-round.round)

pub overflow_add-copies : goal.overflow_add-copies
overflow_add-copies c =
    let s = c.args.schedule.now in
    let within : c.loop-round.round + 1 ≤ length s.starts = omega (arith, c.loop-round-test.true, ap length c.as_slice-round-end.ensures) in
    let most = up_to_rises s c.args.hyper c.args.number c.args.opened c.args.start (c.loop-round.round + 1) (length s.starts) within in
    let four = subst (λ (x : ℕ). x ≤ 4) (all_copies s c.args.hyper c.args.number c.args.opened c.args.start) c.requires.few in
    let low = subst (λ (x : ℕ). x ≤ up_to s c.args.hyper c.args.number c.args.opened c.args.start (length s.starts)) (sym (one_more c)) most in
    record { fits = omega (arith, low, four) }

pub loop-round-preserved : goal.loop-round-preserved
loop-round-preserved c = one_more c ∙ sym (same_moments c.args.schedule.now c.args.hyper c.args.number c.args.opened c.args.start c.ranges.opened c.ranges.start (c.loop-round.round + 1))

pub returns : goal.returns
returns c =
    let s = c.args.schedule.now in
    let end : c.loop-round.round ≡ length s.starts = omega (arith, c.loop-round-test.false, c.loop-round.auto.round-end, ap length c.as_slice-round-end.ensures) in
    c.loop-round.invariant ∙ same_moments s c.args.hyper c.args.number c.args.opened c.args.start c.ranges.opened c.ranges.start c.loop-round.round ∙ ap (λ (n : ℕ). up_to s c.args.hyper c.args.number c.args.opened c.args.start n) end
    ∙ sym (all_copies s c.args.hyper c.args.number c.args.opened c.args.start)
