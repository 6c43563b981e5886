use Rattle.std.proofs.Common.{rules, ◌∙◌, w64, to_z, of_z, FitsSigned}
use Rattle.std.proofs.lemmas.Int.{to_z-of_z}
use Rattle.node_use.specs.Between.{plain}
use Rattle.node_use.proofs.PlaceLemmas.{same_between, divisor_bounds}
use Rattle.node_use.proofs.places.order_diffs.Goals as goal

pub returns : goal.returns
returns c =
    let start : FitsSigned w64 c.place_start-start.result = search rules in
    let after : FitsSigned w64 c.after_run-after.result = search rules in
    let before : FitsSigned w64 c.before_run-before.result = search rules in
    let z = c.ranges.z in
    let d = c.ranges.divisor in
    let s = simp to_z-of_z at c.place_start-start.ensures.value in
    let a = simp to_z-of_z at c.after_run-after.ensures in
    let b = simp to_z-of_z at c.before_run-before.ensures in
    same_between c.args.first_var c.args.second_var (plain c.args.first) (plain c.args.second) c.args.z c.args.divisor c.place_start-start.result
    (to_z w64 (of_z w64 c.after_run-after.result)) (to_z w64 (of_z w64 c.before_run-before.result))
    c.requires.divisor s (to_z-of_z w64 c.after_run-after.result after ∙ a) (to_z-of_z w64 c.before_run-before.result before ∙ b)

pub before_run-before-requires-clause-divisor : goal.before_run-before-requires-clause-divisor
before_run-before-requires-clause-divisor c =
    let d = c.ranges.divisor in
    let b = divisor_bounds c.args.first c.args.second c.args.divisor c.requires.first c.requires.second c.requires.divisor in
    simp to_z-of_z b
