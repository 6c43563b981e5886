-- What the certificates of an accepted document show.
use Rattle.std.specs.Prelude.{length, Option, Some, None}
use Rattle.sched_model.specs.RightSchedule.{Fewest, NoSchedule}
use Rattle.sched_model.specs.declared.schedule.Schedule.{Schedule}
use Rattle.proof_tree.specs.Accepting.{DocMode}

-- the mode's schedule has the fewest rounds, and where it has none, no schedule is right
abbrev pub IsBest : DocMode → Option Schedule → Type 0
IsBest d (Some s) = Fewest d.mode (length s.starts)
IsBest d None = NoSchedule d.mode
