-- A replay under way: what its private calls keep
use Rattle.std.specs.Prelude.{◌≡◌, ◌≢◌, ℕ, ◌<◌, ◌≤◌, List, [], ◌++◌, length, Option, Result, OnOk, OnErr}
use Rattle.ttw_io.specs.Buffering.{Passes}
use Rattle.ttw_io.specs.Outside.{AddsFront}
use Rattle.app_graph.specs.declared.mode_set.ModeSet.{ModeSet}
use Rattle.app_graph.specs.Validation.{KeepsRules}
use Rattle.sched_model.specs.declared.schedule.Schedule.{Schedule}
use Rattle.task_body.specs.Body.{BodySeen}
use Rattle.runtime_model.specs.Laws.{RequestsFit}
use Rattle.runtime_model.specs.Outcomes.{PlainEvent}
use Rattle.runtime_model.specs.Plans.{AreSchedules}
use Rattle.runtime_model.specs.Script.{ScriptLine, go, until_beacon, lose, asks, restarts_node, LeadTo, Makes}
use Rattle.runtime_model.specs.System.{System}
use Rattle.runtime_model.specs.History.{history, now_after}
use Rattle.world_core.specs.declared.happened.Event.{Event}
use Rattle.world_core.specs.declared.happened.Event.TheVariants.{Advance, Request, Restart}
use Rattle.world_core.specs.StandsFor.{StandsFor, HaveBodies, system_with}
use Rattle.world_core.specs.Worlds.{WorldSeen}
use Rattle.replayer.specs.Counting.{HasRoom, counts_of}
use Rattle.replayer.specs.Trace.{all_happened, lines_of, trace}
use Rattle.replayer.specs.declared.counts.Counts.{Counts}
use Rattle.replayer.specs.declared.tracer.Tracer.{Tracer}

-- ---- a replay as a whole

-- the set, its schedules, the bodies at the start, all events of the script, and what the sink held at the start
pub record Run : Type 0 where
  pub set : ModeSet
  pub schedules : List Schedule
  pub made : List BodySeen
  pub events : List PlainEvent
  pub held : Option (List ℕ)

-- its system
abbrev pub system : Run → System
system r = system_with r.set r.schedules r.made

-- the schedules are right, each task has a body, and the events are not too many and not too late
pub record IsRun (r : Run) : Type 0 where
  pub rules : KeepsRules r.set
  pub right : AreSchedules r.set r.schedules
  pub have : HaveBodies r.set r.made
  pub requests : RequestsFit (system r) r.events
  pub few : length r.events ≤ 1000001000000000000
  pub early : now_after (system r) (history (system r) r.events) ≤ 1020000000000000000

-- these are the first of its events
abbrev pub IsFront : Run → List PlainEvent → Type 0
IsFront r es = (more : List PlainEvent) × (r.events ≡ more ++ es)

-- ---- a replay under way

-- the world, the bodies, what the sink holds, the set whose names are used, the text that isn't written yet, and the counts so far
pub record Under : Type 0 where
  pub world : WorldSeen
  pub bodies : List BodySeen
  pub held : Option (List ℕ)
  pub names : ModeSet
  pub text : List ℕ
  pub counts : Counts

-- a replay with this world, these bodies, this held by the sink and this tracer
abbrev pub under : WorldSeen → List BodySeen → Option (List ℕ) → Tracer → Under
under world bodies held t = record { world = world; bodies = bodies; held = held; names = t.names; text = t.buffer.bytes; counts = t.counts }

-- the replay stands after these events
pub record IsAt (r : Run) (es : List PlainEvent) (x : Under) : Type 0 where
  pub front : IsFront r es
  pub stands : StandsFor r.set r.schedules r.made x.world x.bodies es
  pub names : x.names ≡ r.set
  pub written : Passes r.held x.held (lines_of r.set (system r) es) x.text
  pub counts : x.counts ≡ counts_of (all_happened (system r) es)
  pub room : HasRoom x.counts

-- ---- a line

-- an event as a line
abbrev pub line_of_event : Event → ScriptLine
line_of_event (Advance lost) = lose lost
line_of_event (Request mode) = asks mode
line_of_event (Restart node) = restarts_node node

-- the line names a mode of the system, or a node that isn't the host
abbrev pub LineFits : System → ScriptLine → Type 0
LineFits y (go n) = Unit {0}
LineFits y until_beacon = Unit {0}
LineFits y (lose bits) = Unit {0}
LineFits y (asks m) = m < length y.plans
LineFits y (restarts_node v) = (v < y.nodes) × (v ≢ y.host)

-- some replay stands there and goes on with the line
pub record MayDo (x : Under) (line : ScriptLine) : Type 0 where
  pub run : Run
  pub events : List PlainEvent
  pub next : List PlainEvent
  pub is_run : IsRun run
  pub is_at : IsAt run events x
  pub fits : LineFits (system run) line
  pub makes : Makes (system run) line events next
  pub front : IsFront run next

-- every replay that stood at x and goes on with the line stands at z after it
abbrev pub Does : Under → ScriptLine → Under → Type 0
Does x line z = (r : Run) (es fs : List PlainEvent) → IsRun r → IsAt r es x → Makes (system r) line es fs → IsFront r fs → IsAt r fs z

-- of the trace of every such replay the sink holds a prefix
abbrev pub Stops : Under → ScriptLine → Option (List ℕ) → Type 0
Stops x line held =
    (r : Run) (es fs : List PlainEvent) → IsRun r → IsAt r es x → Makes (system r) line es fs → IsFront r fs → AddsFront r.held held (trace r.set (system r) r.events)

-- the line was done; after a failure the sink holds a prefix of the trace
pub record IsDone {A E : Type 0} (result : Result A E) (x : Under) (line : ScriptLine) (z : Under) : Type 0 where
  pub ok : OnOk result (Does x line z)
  pub err : OnErr result (Stops x line z.held)

-- every replay that stood at x before its first event, and whose first events these lines spell, stands at z after them
abbrev pub Follows : Under → List ScriptLine → Under → Type 0
Follows x ls z = (r : Run) (fs : List PlainEvent) → IsRun r → IsAt r [] x → LeadTo (system r) ls [] fs → IsFront r fs → IsAt r fs z
