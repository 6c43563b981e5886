-- When a world stands for a list of events, the latest first
use Rattle.std.specs.Prelude.{◌≡◌, ◌≢◌, ℕ, suc, ◌-◌, ◌<◌, true, false, cond, nat_eq, List, length, map, slice_index_or, Contains, Option, Some, None, pos}
use Rattle.std.specs.List.{flat_map}
use Rattle.sched_model.specs.PlainMode.{hyper, task_at, message_at}
use Rattle.runtime_model.specs.Timeline.{drains, timeline_of}
use Rattle.runtime_model.specs.HostCalls.{host_of}
use Rattle.runtime_model.specs.Plans.{Plan, first_rounds, node_of}
use Rattle.runtime_model.specs.Entries.{cycle}
use Rattle.runtime_model.specs.Outcomes.{Step}
use Rattle.runtime_model.specs.LookingBack.{synced, settled, coasts, last_heard, last_beacon}
use Rattle.runtime_model.specs.System.{System, plan_at}
use Rattle.runtime_model.specs.History.{last_spot, next_place, marks_of, moment, now_after}
use Rattle.runtime_model.specs.NodeKinds.{NodeKind, listening, in_sync, coasting, kind_by}
use Rattle.runtime_model.specs.Registers.{RunSeen, out_register, value_of, in_register, values_of, running}
use Rattle.runtime_model.specs.NodeTables.{part_of}
use Rattle.runtime_model.specs.HostOfEvents.{schedule_counts, beacon_place}
use Rattle.mode_change.specs.HostSeen.{plain_beacon}
use Rattle.node_tables.specs.Parts.{typed_table}
use Rattle.node_core.specs.declared.registers.Run.{Run}
use Rattle.node_core.specs.Registers.{RegistersSeen, out_of, register_of, row_of}
use Rattle.node_core.specs.Rules.{announced}
use Rattle.node_core.specs.PartLookups.{kept_message}
use Rattle.node_core.specs.Running.{RunningNode}
use Rattle.world_core.specs.declared.state.State.{State}
use Rattle.world_core.specs.declared.state.State.TheVariants.{Listens, Syncs, Coasts}
use Rattle.world_core.specs.Cycle.{kept_entry}
use Rattle.world_core.specs.NodeStates.{StateFits, table_of, registers_of, running_of}
use Rattle.world_core.specs.Worlds.{WorldSeen, node_at}

-- ---- what a world keeps of its system

pub record KeepsPlans (y : System) (w : WorldSeen) : Type 0 where
  pub nodes : length w.nodes ≡ y.nodes
  pub host_node : w.host_node ≡ y.host
  pub cycles : w.cycles ≡ map (λ p. map (kept_entry p) (cycle y.nodes p)) y.plans
  pub hypers : w.hypers ≡ map (λ p. pos (hyper p.mode)) y.plans
  pub owners : w.owners ≡ flat_map (λ p. map (λ t. t.node) p.mode.tasks) y.plans
  pub rounds : w.host.rounds ≡ schedule_counts y
  pub firsts : w.host.firsts ≡ first_rounds 1 (schedule_counts y)

-- ---- the clock and the host

-- it stands at the hyperperiod of the last event, before the next entry of its cycle
pub record KeepsTime (y : System) (w : WorldSeen) (ds : List Step) : Type 0 where
  pub place : w.place ≡ next_place ds
  pub begin : w.begin ≡ pos (last_spot ds).begin
  pub moment : w.moment ≡ pos (now_after y ds)

-- the place of a beacon's round in its mode, from 0
abbrev pub place_of_round : System → Option Step → ℕ
place_of_round y None = 0
place_of_round y (Some d) = beacon_place y d d.out

-- the host's round, from 1: once its hyperperiod has begun that of the last beacon, before that the first
abbrev pub round_after : System → List Step → ℕ
round_after y ds = cond (last_spot ds).hyper.begun (suc (place_of_round y (last_beacon ds))) 1

-- the host is that of the timeline, and is in a round exactly where its hyperperiod has begun
abbrev pub HostStands : System → WorldSeen → List Step → Type 0
HostStands y w ds = w.host.host ≡ host_of (timeline_of (marks_of ds)) (round_after y ds) (last_spot ds).hyper.begun

-- ---- a node

-- the kind of a node's state
abbrev pub kind_of : State → NodeKind
kind_of (Listens t) = listening
kind_of (Syncs n) = in_sync (announced n)
kind_of (Coasts n) = coasting

-- What a running node knows of its place, where d is the last beacon, heard or not. From the first beacon of the hyperperiod on
-- it is where the host is; before that it has turned, and is neither opening nor draining
pub record KnowsPlace (y : System) (ds : List Step) (d : Step) (n : RunningNode) : Type 0 where
  pub mode : n.mode ≡ d.spot.hyper.mode
  pub round : n.round ≡ beacon_place y d d.out
  pub at_beacon : n.at_beacon ≡ nat_eq (now_after y ds) (moment y d)
  pub begun : let s = last_spot ds in s.hyper.begun ≡ true →
      (n.tick ≡ pos (now_after y ds - s.begin)) × (n.opening ≡ s.hyper.opening) × (n.draining ≡ drains s.hyper.phase)
  pub turned : (last_spot ds).hyper.begun ≡ false → (n.tick ≡ pos 0) × (n.opening ≡ false) × (n.draining ≡ false)

-- a running node keeps the last beacon that it heard, and knows its place
pub record Knows (y : System) (v : ℕ) (ds : List Step) (n : RunningNode) : Type 0 where
  pub heard : last_heard v ds ≡ Some (plain_beacon n.heard)
  pub place : (d : Step) × (last_beacon ds ≡ Some d) × KnowsPlace y ds d n

-- the task is one of the mode's on node v
abbrev pub IsOn : Plan → ℕ → ℕ → Type 0
IsOn p v a = (a < length p.mode.tasks) × (node_of p a ≡ v)

-- the run in progress by the task's number
abbrev pub by_number : Plan → Option RunSeen → Option Run
by_number p None = None
by_number p (Some r) = Some (record { task = (task_at p.mode r.task).number; value = r.value })

-- The registers of node v, where p is the running mode's plan: the out register of each task on the node, the in register of each task on the node and message
-- that it consumes, and the run in progress, as they are read off the stay. All other registers are empty
pub record KeepsRegisters (p : Plan) (v stay : ℕ) (ds : List Step) (g : RegistersSeen) : Type 0 where
  pub outs : (a : ℕ) → IsOn p v a → out_of g (task_at p.mode a).number ≡ value_of (out_register p stay a ds)
  pub other_outs : (number : ℕ) → ((a : ℕ) → IsOn p v a → (task_at p.mode a).number ≢ number) → out_of g number ≡ None
  pub ins : (b i : ℕ) → IsOn p v b → i < length p.mode.messages → Contains (message_at p.mode i).to b →
      register_of g.ins (task_at p.mode b).number (kept_message p v i) ≡ values_of (in_register p stay b i ds)
  pub other_ins : (number : ℕ) → ((i : ℕ) → i < length p.mode.messages → (message_at p.mode i).number ≢ number) →
      (c : ℕ) → slice_index_or (row_of g.ins number) c None ≡ None
  pub run : g.run ≡ by_number p (running v stay ds)

-- node v after these steps
pub record NodeStands (y : System) (v : ℕ) (ds : List Step) (n : State) : Type 0 where
  pub table : table_of n ≡ typed_table (part_of y.plans v)
  pub kind : kind_of n ≡ kind_by (synced v ds) (settled v ds) (coasts v ds)
  pub knows : (r : RunningNode) → running_of n ≡ Some r → Knows y v ds r
  pub registers : KeepsRegisters (plan_at y (last_spot ds).hyper.mode) v (last_spot ds).stay ds (registers_of n)

-- ---- the world

-- the world stands for the steps, whatever its bodies answered
pub record Stands (y : System) (w : WorldSeen) (ds : List Step) : Type 0 where
  pub plans : KeepsPlans y w
  pub time : KeepsTime y w ds
  pub host : HostStands y w ds
  pub each : (v : ℕ) → v < y.nodes → NodeStands y v ds (node_at w v)
  pub fits : (v : ℕ) → v < y.nodes → StateFits (node_at w v)
