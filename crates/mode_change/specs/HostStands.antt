-- A host that stands for a list of its calls, the latest first
use Rattle.std.specs.Prelude.{◌≡◌, List, ◌∷◌}
use Rattle.sched_model.specs.declared.schedule.Schedule.{Schedule}
use Rattle.runtime_model.specs.HostCalls.{HostCall, host_after, AllMay}
use Rattle.runtime_model.specs.Plans.{round_counts, first_rounds}
use Rattle.mode_change.specs.HostSeen.{HostSeen}

-- its state is that of the timeline after the calls, each of which met its condition, and its numbers of rounds are those of the schedules
pub record HostStands (schedules : List Schedule) (s : HostSeen) (calls : List HostCall) : Type 0 where
  pub host : s.host ≡ host_after (round_counts schedules) calls
  pub each_may : AllMay (round_counts schedules) calls
  pub rounds : s.rounds ≡ round_counts schedules
  pub firsts : s.firsts ≡ first_rounds 1 (round_counts schedules)

-- for every list for which the host stood it stands after one more call
abbrev pub GoesOn : HostSeen → HostSeen → HostCall → Type 0
GoesOn old new c = (schedules : List Schedule) (calls : List HostCall) → HostStands schedules old calls → HostStands schedules new (c ∷ calls)
