use Rattle.std.proofs.Common.{rules, arith, ◌≤◌, ◌+◌, ◌∙◌, ap, w64, ℤ, pos, ◌+ℤ◌, ◌-ℤ◌, to_z, of_z, FitsSigned}
use Rattle.std.specs.Int.{int_div_euclid}
use Rattle.std.proofs.lemmas.Int.{ints, to_z-of_z}
use Rattle.sched_model.specs.Numbers.{gcd}
use Rattle.node_use.specs.Between.{plain}
use Rattle.node_use.proofs.PlaceLemmas.{in_room}
use Rattle.node_use.proofs.places.places_of.Goals as goal

pub returns-clause-value : goal.returns-clause-value
returns-clause-value c =
    let d : FitsSigned w64 c.divisor_of-divisor.result = search rules in
    let one : FitsSigned w64 c.latest.result = search rules in
    let two : FitsSigned w64 c.latest-2.result = search rules in
    let low : FitsSigned w64 c.first_place-low.result = search rules in
    let high : FitsSigned w64 c.last_place-high.result = search rules in
    let u = simp to_z-of_z at c.first_place-low.ensures.value in
    let v = simp to_z-of_z at c.last_place-high.ensures.value in
    let room : c.args.first.wcet + c.args.second.wcet ≤ gcd c.args.first.period c.args.second.period = omega (arith, ints, c.if-divisor-both.false, c.divisor_of-divisor.ensures.value) in
    in_room (plain c.args.first) (plain c.args.second) c.divisor_of-divisor.result (to_z w64 (of_z w64 c.first_place-low.result)) (to_z w64 (of_z w64 c.last_place-high.result))
    c.divisor_of-divisor.ensures.value room
    (to_z-of_z w64 c.first_place-low.result low ∙ u ∙ ap (λ (x : ℤ). int_div_euclid (pos c.args.second.wcet -ℤ x +ℤ c.divisor_of-divisor.result -ℤ pos 1) c.divisor_of-divisor.result -ℤ pos 1) c.latest.ensures.value)
    (to_z-of_z w64 c.last_place-high.result high ∙ v ∙ ap (λ (x : ℤ). int_div_euclid (x -ℤ pos c.args.first.wcet) c.divisor_of-divisor.result) c.latest-2.ensures.value)
