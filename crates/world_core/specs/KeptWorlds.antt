-- What is kept of every world: it stands for some events of some right system, whatever its bodies answered
use Rattle.std.specs.Prelude.{◌≡◌, ◌≢◌, ℕ, ◌<◌, List, length, Option, ℤ}
use Rattle.app_graph.specs.declared.mode_set.ModeSet.{ModeSet}
use Rattle.app_graph.specs.Validation.{KeepsRules}
use Rattle.sched_model.specs.declared.schedule.Schedule.{Schedule}
use Rattle.runtime_model.specs.Laws.{RequestsFit}
use Rattle.runtime_model.specs.Outcomes.{PlainEvent, Step}
use Rattle.runtime_model.specs.Plans.{AreSchedules}
use Rattle.runtime_model.specs.System.{system_of}
use Rattle.runtime_model.specs.History.{history}
use Rattle.world_core.specs.declared.happened.Event.{Event}
use Rattle.world_core.specs.declared.happened.Event.TheVariants.{Advance, Request, Restart}
use Rattle.world_core.specs.Standing.{Stands}
use Rattle.world_core.specs.Worlds.{WorldSeen}

pub record IsWorld (w : WorldSeen) : Type 0 where
  pub set : ModeSet
  pub schedules : List Schedule
  pub answers : List Step → ℕ → List (Option ℤ) → ℤ
  pub events : List PlainEvent
  pub rules : KeepsRules set
  pub right : AreSchedules set schedules
  pub requests : RequestsFit (system_of set schedules answers) events
  pub stands : Stands (system_of set schedules answers) w (history (system_of set schedules answers) events)
  pub one_each : length w.places ≡ length w.owners

-- an event may happen: a request names a mode, and a restart a node that isn't the host
abbrev pub MayHappen : WorldSeen → Event → Type 0
MayHappen w (Advance lost) = Unit {0}
MayHappen w (Request mode) = mode < length w.cycles
MayHappen w (Restart node) = (node < length w.nodes) × (node ≢ w.host_node)
