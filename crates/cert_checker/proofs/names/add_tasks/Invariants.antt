use Rattle.std.proofs.Common.{◌≡◌, ◌++◌, map, take}
use Rattle.cert_checker.proofs.names.add_tasks.Given as goal

abbrev pub invariant-loop-task : goal.invariant-loop-task
invariant-loop-task l = l.list ≡ l.initial.list ++ map (λ t. t.name) (take l.task-index l.tasks)
