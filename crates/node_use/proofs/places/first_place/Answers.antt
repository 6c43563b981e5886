use Rattle.std.proofs.Common.{rules, arith, ◌≡◌, ◌∙◌, ap, w64, ℤ, pos, ◌-ℤ◌, to_z, of_z, FitsSigned}
use Rattle.std.specs.Int.{int_div_euclid}
use Rattle.std.proofs.lemmas.Int.{ints, to_z-of_z}
use Rattle.node_use.proofs.places.first_place.Goals as goal

pub returns-clause-value : goal.returns-clause-value
returns-clause-value c =
    let least : FitsSigned w64 c.least_end-least.result = search rules in
    let place : FitsSigned w64 c.quotient-place.result = search rules in
    let d = c.ranges.divisor in
    let l = c.ranges.latest in
    let v = simp to_z-of_z at c.quotient-place.ensures.value in
    let w = simp to_z-of_z at c.least_end-least.ensures.value in
    let e : to_z w64 (of_z w64 (to_z w64 (of_z w64 c.quotient-place.result) -ℤ pos 1)) ≡ c.quotient-place.result -ℤ pos 1 = omega (arith, ints, c.quotient-place.ensures.low, c.quotient-place.ensures.high) in
    e ∙ ap (λ (x : ℤ). x -ℤ pos 1) (v ∙ ap (λ (x : ℤ). int_div_euclid x c.args.divisor) w)
