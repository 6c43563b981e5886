use Rattle.std.proofs.Common.{[], length, arith}
use Rattle.sched_model.specs.ConstraintProblem.{decisions}
use Rattle.sched_model.proofs.OwnTrees.{leads_to_list, list_leads}
use Rattle.sched_model.proofs.laws.leading_is_full_open.Goals as goal

pub returns : goal.returns
returns c = λ m r. (λ l. leads_to_list m r (length (decisions m)) [] (omega arith) (λ k h. absurd (omega (arith, h))) l, λ f. list_leads m r (length (decisions m)) [] f.0 (omega arith) f.1)
