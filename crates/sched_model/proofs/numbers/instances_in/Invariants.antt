use Rattle.std.proofs.Common.{◌≡◌, take, sum_by}
use Rattle.sched_model.specs.Rows.{slots_by}
use Rattle.sched_model.proofs.numbers.instances_in.Given as goal

abbrev pub invariant-loop-app : goal.invariant-loop-app
invariant-loop-app l = l.total ≡ sum_by (slots_by l.hyper) (take l.app-index l.apps)
