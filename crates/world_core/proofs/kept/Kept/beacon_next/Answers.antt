use Rattle.std.proofs.Common.{ap, ◌∙◌}
use Rattle.world_core.specs.declared.cycle.Entry.{Entry}
use Rattle.world_core.specs.WorldSteps.{opens}
use Rattle.world_core.proofs.kept.Kept.beacon_next.Goals as goal

pub returns : goal.returns
returns c = c.is_beacon.ensures ∙ ap (λ (e : Entry). opens e.action) c.coming_entry.ensures
