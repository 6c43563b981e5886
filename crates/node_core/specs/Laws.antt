-- Laws of the rules of nodes
use Rattle.std.specs.Prelude.{◌≡◌, ℕ, ◌<◌, Bool, true, cond, ◌&&◌, nat_eq, List, length, slice_index_or, All, Some, None, is_some, ℤ}
use Rattle.app_graph.specs.declared.mode_set.ModeSet.{ModeSet}
use Rattle.app_graph.specs.Validation.{KeepsRules}
use Rattle.sched_model.specs.declared.schedule.Schedule.{Schedule}
use Rattle.runtime_model.specs.NodeTables.{part_of}
use Rattle.runtime_model.specs.Plans.{plans_of, AreSchedules}
use Rattle.runtime_model.specs.System.{no_plan}
use Rattle.beacon_codec.specs.declared.packet.Beacon.{Beacon}
use Rattle.node_tables.specs.declared.tables.NodeTable.{NodeTable}
use Rattle.node_tables.specs.declared.tables.OwnMessage.{OwnMessage}
use Rattle.node_tables.specs.Parts.{typed_table}
use Rattle.node_core.specs.declared.packet.Packet.{Packet}
use Rattle.node_core.specs.Lookup.{consumer_place}
use Rattle.node_core.specs.Registers.{out_of, register_of}
use Rattle.node_core.specs.Running.{RunningNode, mode_of}
use Rattle.node_core.specs.Rules.{first_heard, heard, coasted, passed, message_of_slot, takes, received, starts, started, end_answer, ended}
use Rattle.node_core.specs.Conditions.{MayHear, MayMiss, MayPass, MayReceive, MayStart}
use Rattle.node_core.specs.Fits.{TableFits, NodeFits}
use Rattle.node_core.specs.PartLookups.{PartLooksUp}

-- what holds of every node that runs is kept by each call whose condition holds
pub record KeptByRules : Type 0 where
  pub first : (t : NodeTable) (b : Beacon) → TableFits t → MayHear t b → NodeFits (first_heard t b)
  pub hearing : (n : RunningNode) (b : Beacon) → NodeFits n → MayHear n.table b → NodeFits (heard n b)
  pub coasting : (n : RunningNode) → NodeFits n → MayMiss n → NodeFits (coasted n)
  pub passing : (n : RunningNode) (ticks : ℤ) → NodeFits n → MayPass n ticks → NodeFits (passed n ticks)
  pub receiving : (n : RunningNode) (slot : ℕ) (packet : Packet) → NodeFits n → MayReceive n slot packet → NodeFits (received n slot packet)
  pub starting : (n : RunningNode) (task : ℕ) (value : ℤ) → NodeFits n → MayStart n task → NodeFits (started n task value)
  pub ending : (n : RunningNode) (task : ℕ) → NodeFits n → NodeFits (ended n task)

-- the task consumes the message
abbrev pub consumes : ℕ → OwnMessage → Bool
consumes task m = is_some (consumer_place task m)

-- What the calls do to each register. An end fills the out register of its task, and changes no other one.
-- A packet fills the in registers of all tasks that consume its message, and changes no other one.
-- A start empties the in registers of its task, and changes no other one
pub record RegistersByRules : Type 0 where
  pub ending : (n : RunningNode) (task : ℕ) (value : ℤ) → NodeFits n → task < 1024 → end_answer n task ≡ Some value
      → (a : ℕ) → out_of (ended n task).registers a ≡ cond (nat_eq a task) (Some value) (out_of n.registers a)
  pub receiving : (n : RunningNode) (slot : ℕ) (packet : Packet) (m : OwnMessage) → NodeFits n → message_of_slot n slot ≡ Some m → takes n slot ≡ true
      → (b : ℕ) → All (λ x. register_of (received n slot packet).registers.ins b x ≡ cond (nat_eq x.number m.number && consumes b x) (Some packet.values) (register_of n.registers.ins b x)) (mode_of n).messages
  pub starting : (n : RunningNode) (task : ℕ) (value : ℤ) → NodeFits n → starts n task ≡ true
      → (b : ℕ) → All (λ x. register_of (started n task value).registers.ins b x ≡ cond (nat_eq b task) None (register_of n.registers.ins b x)) (mode_of n).messages

-- the part of each node in right plans is within the limits of a table
abbrev pub PartsFit : Type 0
PartsFit = (set : ModeSet) (schedules : List Schedule) (v : ℕ) → KeepsRules set → AreSchedules set schedules → v < length set.nodes → TableFits (typed_table (part_of (plans_of set schedules) v))

-- what each node finds in its part of right plans, for each mode
abbrev pub PartsLookUp : Type 0
PartsLookUp = (set : ModeSet) (schedules : List Schedule) (v m : ℕ) → KeepsRules set → AreSchedules set schedules → m < length set.modes →
    let plans = plans_of set schedules in PartLooksUp plans v m (slice_index_or plans m no_plan) (typed_table (part_of plans v))
