-- What a node finds in its part of the plans
use Rattle.std.specs.Prelude.{◌≡◌, ◌≢◌, ℕ, suc, ◌+◌, ◌<◌, true, cond, nat_eq, List, [], length, map, filter, slice_index_or, Contains, Some, None, pos}
use Rattle.sched_model.specs.Numbers.{below}
use Rattle.sched_model.specs.PlainMode.{hyper, task_at, message_at}
use Rattle.sched_model.specs.Rounds.{round_start}
use Rattle.runtime_model.specs.NodeTables.{is_own, numbers}
use Rattle.runtime_model.specs.Packets.{takes_on}
use Rattle.runtime_model.specs.Placement.{release}
use Rattle.runtime_model.specs.Copies.{copy_at}
use Rattle.runtime_model.specs.Plans.{Plan, first_round, node_of, offset, place_from, sender_of}
use Rattle.node_tables.specs.declared.tables.NodeTable.{NodeTable}
use Rattle.node_tables.specs.declared.tables.OwnTask.{OwnTask}
use Rattle.node_tables.specs.declared.tables.OwnMessage.{OwnMessage}
use Rattle.node_tables.specs.declared.tables.OwnSlot.{OwnSlot}
use Rattle.node_core.specs.Lookup.{mode_at, round_at, mode_of_round, own_slot, own_message, own_task, consumer_place}

-- task a, as its node keeps it
abbrev pub kept_task : Plan → ℕ → OwnTask
kept_task p a = record { number = (task_at p.mode a).number; period = pos (task_at p.mode a).period; offset = pos (offset p a); wcet = pos (task_at p.mode a).wcet }

-- the consumers of message i on node v
abbrev pub consumers_on : Plan → ℕ → ℕ → List ℕ
consumers_on p v i = filter (λ b. nat_eq (node_of p b) v) (message_at p.mode i).to

-- message i, as node v keeps it
abbrev pub kept_message : Plan → ℕ → ℕ → OwnMessage
kept_message p v i = record {
  number = (message_at p.mode i).number;
  role = cond (nat_eq (sender_of p i) v) 1 0 + cond (takes_on p i v) 2 0;
  producers = numbers p (message_at p.mode i).from;
  consumers = numbers p (consumers_on p v i);
}

-- the table of the round at place j
abbrev pub table_at : Plan → ℕ → List ℕ
table_at p j = slice_index_or p.schedule.tables j []

-- the message that stands at place k of that table
abbrev pub message_in_slot : Plan → ℕ → ℕ → ℕ
message_in_slot p j k = place_from 0 p.mode.messages (slice_index_or (table_at p j) k 0)

-- that place as a node keeps it: slots are numbered from 1
abbrev pub kept_slot : Plan → ℕ → ℕ → OwnSlot
kept_slot p j k = record { slot = suc k; message = slice_index_or (table_at p j) k 0; release = release p j (message_in_slot p j k); copy = copy_at p j (message_in_slot p j k) }

-- What node v finds in its table t of these plans, for mode m, whose plan is p
pub record PartLooksUp (plans : List Plan) (v m : ℕ) (p : Plan) (t : NodeTable) : Type 0 where
  -- the hyperperiod, the number of the first round and the number of rounds
  pub hyper : (mode_at t m).hyper ≡ pos (hyper p.mode)
  pub first : (mode_at t m).first_round ≡ first_round plans m
  pub rounds : length (mode_at t m).rounds ≡ length p.schedule.starts
  -- the mode of a round's number, and the start of a round
  pub mode : (j : ℕ) → j < length p.schedule.starts → mode_of_round t (first_round plans m + j) ≡ m
  pub start : (j : ℕ) → j < length p.schedule.starts → (round_at (mode_at t m) j).start ≡ round_start p.schedule j
  -- each task of the mode on v by its number, and no other
  pub task : (a : ℕ) → a < length p.mode.tasks → node_of p a ≡ v → own_task (mode_at t m).tasks (task_at p.mode a).number ≡ Some (kept_task p a)
  pub no_task : (x : ℕ) → ((a : ℕ) → a < length p.mode.tasks → node_of p a ≡ v → (task_at p.mode a).number ≢ x) → own_task (mode_at t m).tasks x ≡ None
  -- each own message by its number, and no other
  pub message : (i : ℕ) → i < length p.mode.messages → is_own p v i ≡ true → own_message (mode_at t m).messages (message_at p.mode i).number ≡ Some (kept_message p v i)
  pub no_message : (x : ℕ) → ((i : ℕ) → i < length p.mode.messages → is_own p v i ≡ true → (message_at p.mode i).number ≢ x) → own_message (mode_at t m).messages x ≡ None
  -- all own messages, in file order
  pub messages : (mode_at t m).messages ≡ map (kept_message p v) (filter (is_own p v) (below (length p.mode.messages)))
  -- each slot of a round with an own message, and no other
  pub slot : (j k : ℕ) → j < length p.schedule.starts → k < length (table_at p j) → own_slot (round_at (mode_at t m) j) (suc k) ≡ cond (is_own p v (message_in_slot p j k)) (Some (kept_slot p j k)) None
  pub no_slot : (j s : ℕ) → j < length p.schedule.starts → ((k : ℕ) → k < length (table_at p j) → s ≢ suc k) → own_slot (round_at (mode_at t m) j) s ≡ None
  -- the number in a table is that of the message that stands there
  pub in_slot : (j k : ℕ) → j < length p.schedule.starts → k < length (table_at p j) → (message_in_slot p j k < length p.mode.messages) × ((message_at p.mode (message_in_slot p j k)).number ≡ slice_index_or (table_at p j) k 0)
  -- each consumer of a message on v at its place among them, and no other
  pub consumer : (i b : ℕ) → i < length p.mode.messages → Contains (message_at p.mode i).to b → node_of p b ≡ v → (c : ℕ) × (c < length (consumers_on p v i)) × (slice_index_or (consumers_on p v i) c 0 ≡ b) × (consumer_place (task_at p.mode b).number (kept_message p v i) ≡ Some c)
  pub no_consumer : (i x : ℕ) → i < length p.mode.messages → ((b : ℕ) → Contains (message_at p.mode i).to b → node_of p b ≡ v → (task_at p.mode b).number ≢ x) → consumer_place x (kept_message p v i) ≡ None
