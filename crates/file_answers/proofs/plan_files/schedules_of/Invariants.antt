use Rattle.std.proofs.Common.{◌≡◌, ◌++◌, map, Some}
use Rattle.file_answers.proofs.plan_files.schedules_of.Given as goal

abbrev pub invariant-loop-plan : goal.invariant-loop-plan
invariant-loop-plan l = map Some l.schedules.items ++ l.plan-iterator.rest.items ≡ l.fn.plans
