use Rattle.std.proofs.Common.{◌≡◌}
use Rattle.sched_model.specs.PlainMode.{plain_at}
use Rattle.planner.proofs.Trying.{Refuting}
use Rattle.planner.proofs.plan.plan_mode.Given as goal

abbrev pub invariant-loop-before : goal.invariant-loop-before
invariant-loop-before l = record {
  refuting : Refuting (plain_at l.set l.mode) l.budget l.refuted.items l.left l.before;
  mode : l.problem.mode ≡ plain_at l.set l.mode;
}
