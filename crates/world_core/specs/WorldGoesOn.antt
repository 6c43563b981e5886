-- A world that stood for some events stands for them and one more
use Rattle.std.specs.Prelude.{◌≡◌, ◌∷◌, List}
use Rattle.app_graph.specs.declared.mode_set.ModeSet.{ModeSet}
use Rattle.app_graph.specs.Validation.{KeepsRules}
use Rattle.sched_model.specs.declared.schedule.Schedule.{Schedule}
use Rattle.task_body.specs.Body.{BodySeen}
use Rattle.runtime_model.specs.Laws.{RequestsFit}
use Rattle.runtime_model.specs.Outcomes.{PlainEvent}
use Rattle.runtime_model.specs.Plans.{AreSchedules}
use Rattle.runtime_model.specs.History.{history, step_of}
use Rattle.world_core.specs.declared.happened.Event.{Event}
use Rattle.world_core.specs.declared.happened.Happened.{Happened}
use Rattle.world_core.specs.Happened.{happened}
use Rattle.world_core.specs.StandsFor.{StandsFor, HaveBodies, plain_event, system_with}
use Rattle.world_core.specs.Worlds.{WorldSeen}

-- For every set, schedules, bodies and events for which the old world stood with the bodies as they were: the new one stands, with the bodies as they are then,
-- for these events and this one, and what is answered is what happened by the definitions
abbrev pub GoesOn : WorldSeen → List BodySeen → WorldSeen → List BodySeen → Event → Happened → Type 0
GoesOn old before new after event answer =
    (set : ModeSet) (schedules : List Schedule) (made : List BodySeen) (es : List PlainEvent) →
    KeepsRules set → AreSchedules set schedules → HaveBodies set made → RequestsFit (system_with set schedules made) es →
    StandsFor set schedules made old before es →
    StandsFor set schedules made new after (plain_event event ∷ es)
    × (answer ≡ happened (system_with set schedules made) (step_of (system_with set schedules made) (plain_event event) (history (system_with set schedules made) es)))
