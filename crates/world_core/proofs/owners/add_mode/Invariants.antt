use Rattle.std.proofs.Common.{◌≡◌, ◌++◌, take}
use Rattle.std.specs.List.{flat_map}
use Rattle.world_core.specs.Owners.{nodes_in}
use Rattle.world_core.proofs.owners.add_mode.Given as goal

abbrev pub invariant-loop-app : goal.invariant-loop-app
invariant-loop-app l = l.owners.items ≡ l.initial.owners.items ++ flat_map nodes_in (take l.app-index l.app-items)
