use Rattle.std.proofs.Common.{◌≡◌, take}
use Rattle.world_core.specs.Owners.{owners_in}
use Rattle.world_core.proofs.owners.owners_of.Given as goal

abbrev pub invariant-loop-mode : goal.invariant-loop-mode
invariant-loop-mode l = l.owners.items ≡ owners_in (take l.mode-index l.modes)
