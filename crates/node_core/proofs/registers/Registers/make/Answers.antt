use Rattle.std.proofs.Common.{ap, length, List, Option, ℤ, ◌∙◌}
use Rattle.node_core.specs.Registers.{InRow}
use Rattle.node_core.proofs.RegisterLemmas.{emptied_is, length-no_outs, length-no_ins}
use Rattle.node_core.proofs.registers.Registers.make.Goals as goal

pub returns : goal.returns
returns c = emptied_is c.in_ok-make.field-0 c.in_ok-no_rows.field-0.items c.in_ok-make.ensures c.in_ok-no_rows.ensures

pub invariant_of-result : goal.invariant_of-result
invariant_of-result c = (
  ap (λ (xs : List (Option ℤ)). length xs) c.in_ok-make.ensures ∙ length-no_outs,
  ap (λ (xs : List InRow). length xs) c.in_ok-no_rows.ensures ∙ length-no_ins,
)
