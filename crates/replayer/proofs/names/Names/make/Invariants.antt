use Rattle.std.proofs.Common.{◌≡◌, take, map}
use Rattle.std.specs.List.{flat_map}
use Rattle.replayer.proofs.names.Names.make.Given as goal

abbrev pub invariant-loop-mode : goal.invariant-loop-mode
invariant-loop-mode l =
    (l.tasks ≡ flat_map (λ mode. flat_map (λ app. map (λ t. t.name) app.tasks) mode.apps) (take l.mode-index l.mode-items))
    × (l.messages ≡ flat_map (λ mode. flat_map (λ app. map (λ m. m.name) app.messages) mode.apps) (take l.mode-index l.mode-items))
