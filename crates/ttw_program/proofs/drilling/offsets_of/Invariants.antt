use Rattle.std.proofs.Common.{◌≡◌, take}
use Rattle.ttw_program.specs.Drills.{all_offsets}
use Rattle.ttw_program.proofs.drilling.offsets_of.Given as goal

abbrev pub invariant-loop-schedule : goal.invariant-loop-schedule
invariant-loop-schedule l = l.sum ≡ all_offsets (take l.schedule-index l.schedules)
