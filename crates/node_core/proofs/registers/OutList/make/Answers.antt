use Rattle.std.proofs.Common.{arith, ap, length, List, Option, ℤ, ◌∙◌}
use Rattle.node_core.proofs.RegisterLemmas.{length-no_outs, no_outs_is}
use Rattle.node_core.proofs.registers.OutList.make.Goals as goal

pub invariant_of-result : goal.invariant_of-result
invariant_of-result c = (
  ap (λ (xs : List (Option ℤ)). length xs) c.in_ok-no_outs.ensures ∙ length-no_outs,
  omega arith,
  c.in_ok-no_outs.ensures ∙ no_outs_is,
)
