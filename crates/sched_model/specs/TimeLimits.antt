-- The times that a schedule may have
use Rattle.std.specs.Prelude.{All, ℤ, pos, ◌≤ℤ◌}
use Rattle.sched_model.specs.declared.schedule.Schedule.{Schedule}

-- from 0 to 2,000,000,000,000 ticks
abbrev pub IsTime : ℤ → Type 0
IsTime z = (pos 0 ≤ℤ z) × (z ≤ℤ pos 2000000000000)

-- every time of the schedule is
pub record HasTimes (s : Schedule) : Type 0 where
  pub starts : All IsTime s.starts
  pub tasks : All IsTime s.tasks
  pub messages : All (λ w. IsTime w.0 × IsTime w.1) s.messages
