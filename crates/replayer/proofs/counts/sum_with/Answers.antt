use Rattle.std.proofs.Common.{rules, FitsSigned, w64, sym, ap, arith, ◌∙◌, get_or, pos, ◌+ℤ◌, ℤ}
use Rattle.std.specs.Int.{w128}
use Rattle.std.proofs.lemmas.Int.{ints, to_z-of_z}
use Rattle.std.proofs.lemmas.List.Sums.{fold_more}
use Rattle.replayer.proofs.counts.sum_with.Goals as goal

pub loop-value-preserved : goal.loop-value-preserved
loop-value-preserved c =
    let value = get_or c.as_slice-value-items.result.now c.loop-value.value-index (pos 0) in
    let value_fits : FitsSigned w64 value = search rules in
    let sum_fits : FitsSigned w128 c.args.sum = search rules in
    let new_fits : FitsSigned w128 c.plus-total.result = search rules in
    let total_fits : FitsSigned w128 c.loop-value.total = search rules in
    let more = simp to_z-of_z at c.plus-total.ensures in
    let inv = simp to_z-of_z at c.loop-value.invariant.total in
    let least = simp to_z-of_z at c.loop-value.invariant.least in
    let most = simp to_z-of_z at c.loop-value.invariant.most in
    record {
      total = simp to_z-of_z (more ∙ ap (λ (s : ℤ). s +ℤ value) inv ∙ sym (fold_more (λ (s x : ℤ). s +ℤ x) c.args.sum c.as_slice-value-items.result.now c.loop-value.value-index (pos 0) c.loop-value-test.true));
      least = simp to_z-of_z (omega (arith, ints, more, least, value_fits));
      most = simp to_z-of_z (omega (arith, ints, more, most, value_fits));
    }
