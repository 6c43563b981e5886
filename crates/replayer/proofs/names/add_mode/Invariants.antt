use Rattle.std.proofs.Common.{◌≡◌, ◌++◌, take, map}
use Rattle.std.specs.List.{flat_map}
use Rattle.replayer.proofs.names.add_mode.Given as goal

abbrev pub invariant-loop-app : goal.invariant-loop-app
invariant-loop-app l =
    (l.tasks ≡ l.initial.tasks ++ flat_map (λ app. map (λ t. t.name) app.tasks) (take l.app-index l.app-items))
    × (l.messages ≡ l.initial.messages ++ flat_map (λ app. map (λ m. m.name) app.messages) (take l.app-index l.app-items))
