-- What the program promises of a plan and of a replay, in a page
use Rattle.std.specs.Prelude.{◌≡◌, ◌⊎◌, ℕ, ◌<◌, true, List, [], ◌++◌, length, Option, Some, None, slice_index_or}
use Rattle.std.specs.List.{AllZip, AllByRecursion}
use Rattle.ttw_io.specs.Outside.{Told, file}
use Rattle.app_graph.specs.declared.mode_set.ModeSet.{ModeSet}
use Rattle.mode_file.specs.Reading.{Reads}
use Rattle.sched_model.specs.PlainMode.{message_at}
use Rattle.sched_model.specs.RightSchedule.{IsSchedule, Fewest, NoSchedule}
use Rattle.sched_model.specs.declared.schedule.Schedule.{Schedule}
use Rattle.proof_tree.specs.Accepting.{Accepts, DocMode, doc_modes}
use Rattle.task_body.specs.Body.{BodySeen}
use Rattle.node_core.specs.declared.packet.Packet.{Packet}
use Rattle.replay_script.specs.declared.line.Line.{Line}
use Rattle.runtime_model.specs.Entries.{slot}
use Rattle.runtime_model.specs.History.{history, spot_next, entry_at, moment, now_after}
use Rattle.runtime_model.specs.HostOfEvents.{beacon_place}
use Rattle.runtime_model.specs.LookingBack.{last_beacon, synced}
use Rattle.runtime_model.specs.Outcomes.{PlainEvent, Step}
use Rattle.runtime_model.specs.Plans.{Plan, AreSchedules, Carried}
use Rattle.runtime_model.specs.System.{System, plan_at}
use Rattle.world_core.specs.Cycle.{slot_of}
use Rattle.world_core.specs.NodeStates.{sent_now}
use Rattle.world_core.specs.StandsFor.{StandsFor, system_with}
use Rattle.world_core.specs.Worlds.{WorldSeen, node_at}
use Rattle.world_core.specs.WorldSteps.{at_entry}
use Rattle.replayer.specs.Replaying.{SpelledBy}
use Rattle.replayer.specs.Trace.{trace}
use Rattle.ttw_program.specs.Checks.{CheckDue, accepted_text}
use Rattle.ttw_program.specs.Commands.{plan, replay, command}
use Rattle.ttw_program.specs.Due.{Due}
use Rattle.file_answers.specs.PlanFiles.{IsRefused}
use Rattle.ttw_program.specs.Plans.{IsWithin, SpendsFirst}
use Rattle.file_answers.specs.declared.status.Status.{Status}
use Rattle.file_answers.specs.declared.status.Status.TheVariants.{Done, NoSchedule as Unplanned, Budget}

-- ---- plans

-- the schedule meets every constraint in all periods, and no schedule of fewer rounds does; or there is none, and no number of rounds has one
abbrev pub HasFewest : DocMode → Option Schedule → Type 0
HasFewest d None = NoSchedule d.mode
HasFewest d (Some s) = IsSchedule d.mode (length s.starts) s × Fewest d.mode (length s.starts)

-- A document with the fewest rounds of each mode, and a certificate: what it says is accepted, with these schedules alone, and so it is by `check`;
-- so no command refuses it as a document (`tables` and `replay` still want a schedule for every mode). No search exceeded the budget
pub record IsCertified (set : ModeSet) (budget : ℕ) (text : List ℕ) : Type 0 where
  pub plans : List (Option Schedule)
  pub fewest : AllZip HasFewest (doc_modes set) plans
  pub accepted : Accepts set text plans
  pub no_other : (others : List (Option Schedule)) → Accepts set text others → others ≡ plans
  pub checked : CheckDue set text Done (accepted_text set plans)
  pub taken : (status : Status) (line : List ℕ) → IsRefused set text status line → ⊥
  pub within : AllByRecursion (IsWithin set budget) set.modes

-- `plan` of a mode file that says a set writes such a document, or tells exactly which mode's search exceeds the budget
abbrev pub PlanHolds : Type 0
PlanHolds = (words : List (List ℕ)) (name : List ℕ) (budget : ℕ) (told : List ℕ → Told) (bodies : List BodySeen) (bytes : List ℕ) (set : ModeSet) (status : Status) (text : List ℕ) →
    command words ≡ plan name budget → told name ≡ file bytes → Reads bytes set → Due words told bodies status text →
    ((status ≡ Done ⊎ (status ≡ Unplanned)) × IsCertified set budget text)
    ⊎ ((status ≡ Budget) × ((mode : ℕ) × (rounds : ℕ) × SpendsFirst set budget mode rounds))

-- ---- replays

-- what node v sends by its own rule on its own state, once the ticks up to the slot have passed: the slot of message i in the round at place j
abbrev pub packet_of : Plan → WorldSeen → (j i v : ℕ) → Option Packet
packet_of p x j i v = sent_now (node_at (at_entry x) v) (slot_of 1 (slice_index_or p.schedule.tables j []) (message_at p.mode i).number)

-- a node that sends this packet heard the last beacon and has not restarted since; that beacon began the slot's round at this tick, and the round's table
-- places the packet's message in the slot
pub record IsPlacedByBeacon (y : System) (es : List PlainEvent) (j i v : ℕ) (packet : Packet) : Type 0 where
  pub heard : synced v (history y es) ≡ true
  pub round : (g : Step) × (last_beacon (history y es) ≡ Some g) × (beacon_place y g g.out ≡ j) × (moment y g ≡ now_after y (history y es))
  pub placed : Carried (plan_at y (spot_next y (history y es)).hyper.mode) j i
  pub message : packet.message ≡ (message_at (plan_at y (spot_next y (history y es)).hyper.mode).mode i).number

-- where a slot comes next, at most one node sends, and only a message that a beacon placed which it heard in that round
abbrev pub HasOneSender : System → List PlainEvent → WorldSeen → Type 0
HasOneSender y es x =
    let p = plan_at y (spot_next y (history y es)).hyper.mode in
    (j i v : ℕ) (packet : Packet) → (entry_at y (spot_next y (history y es))).action ≡ slot j i → v < y.nodes → packet_of p x j i v ≡ Some packet →
    IsPlacedByBeacon y es j i v packet
    × ((w : ℕ) (other : Packet) → w < y.nodes → packet_of p x j i w ≡ Some other → w ≡ v)

-- A replay: its trace is that of the events that the script spells, with right schedules and the bodies that were handed in, and after each of the events
-- the world that stands for those so far has one sender
pub record IsSafeReplay (set : ModeSet) (bodies : List BodySeen) (text : List ℕ) : Type 0 where
  pub schedules : List Schedule
  pub right : AreSchedules set schedules
  pub script : List Line
  pub events : List PlainEvent
  pub spelled : SpelledBy set schedules bodies script events
  pub traced : text ≡ trace set (system_with set schedules bodies) events
  pub one_sender : (later earlier : List PlainEvent) (x : WorldSeen) (now : List BodySeen) → events ≡ later ++ earlier → StandsFor set schedules bodies x now earlier →
      HasOneSender (system_with set schedules bodies) earlier x

-- whatever `replay` of a mode file that says a set writes with the status of success is such a replay
abbrev pub ReplayHolds : Type 0
ReplayHolds = (words : List (List ℕ)) (name other script : List ℕ) (told : List ℕ → Told) (bodies : List BodySeen) (bytes : List ℕ) (set : ModeSet) (text : List ℕ) →
    command words ≡ replay name other script → told name ≡ file bytes → Reads bytes set → Due words told bodies Done text → IsSafeReplay set bodies text

-- both
pub record Headline : Type 0 where
  pub plan : PlanHolds
  pub replay : ReplayHolds
