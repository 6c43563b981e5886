use Rattle.std.proofs.Common.{◌≡◌, take, map}
use Rattle.std.specs.List.{flat_map}
use Rattle.ttw_program.proofs.bodies.names_of.Given as goal

abbrev pub invariant-loop-mode : goal.invariant-loop-mode
invariant-loop-mode l = map (λ n. n.now) l.names.items ≡ flat_map (λ mode. flat_map (λ app. map (λ t. t.body) app.tasks) mode.apps) (take l.mode-index l.mode-items)
