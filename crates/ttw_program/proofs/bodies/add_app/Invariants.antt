use Rattle.std.proofs.Common.{◌≡◌, ◌++◌, take, map}
use Rattle.ttw_program.proofs.bodies.add_app.Given as goal

abbrev pub invariant-loop-task : goal.invariant-loop-task
invariant-loop-task l = map (λ n. n.now) l.names.items ≡ map (λ n. n.now) l.initial.names.items ++ map (λ t. t.body) (take l.task-index l.task-items)
