-- Whether the next entry is a beacon
use Rattle.std.specs.Prelude.{◌≡◌, Bool, List}
use Rattle.app_graph.specs.declared.mode_set.ModeSet.{ModeSet}
use Rattle.app_graph.specs.Validation.{KeepsRules}
use Rattle.sched_model.specs.declared.schedule.Schedule.{Schedule}
use Rattle.task_body.specs.Body.{BodySeen}
use Rattle.runtime_model.specs.Laws.{RequestsFit}
use Rattle.runtime_model.specs.Outcomes.{PlainEvent}
use Rattle.runtime_model.specs.Plans.{AreSchedules}
use Rattle.runtime_model.specs.Script.{beacon_next}
use Rattle.world_core.specs.StandsFor.{StandsFor, system_with}
use Rattle.world_core.specs.Worlds.{WorldSeen}

-- For every set, schedules, bodies and events for which the world stands: the answer is whether the next entry after these events is a beacon
abbrev pub TellsNext : WorldSeen → Bool → Type 0
TellsNext w answer =
    (set : ModeSet) (schedules : List Schedule) (made now : List BodySeen) (es : List PlainEvent) →
    KeepsRules set → AreSchedules set schedules → RequestsFit (system_with set schedules made) es → StandsFor set schedules made w now es →
    answer ≡ beacon_next (system_with set schedules made) es
