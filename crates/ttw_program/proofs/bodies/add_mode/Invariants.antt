use Rattle.std.proofs.Common.{◌≡◌, ◌++◌, take, map}
use Rattle.std.specs.List.{flat_map}
use Rattle.ttw_program.proofs.bodies.add_mode.Given as goal

abbrev pub invariant-loop-app : goal.invariant-loop-app
invariant-loop-app l = map (λ n. n.now) l.names.items ≡ map (λ n. n.now) l.initial.names.items ++ flat_map (λ app. map (λ t. t.body) app.tasks) (take l.app-index l.app-items)
