-- What is kept of every node
use Rattle.std.specs.Prelude.{◌≡◌, ℕ, ◌+◌, ◌<◌, ◌≤◌, List, [], ◌∷◌, length, Option, Some, None, All, IfSome, ℤ, pos, ◌≤ℤ◌, ◌<ℤ◌}
use Rattle.std.specs.List.{AllPairs}
use Rattle.node_tables.specs.declared.tables.NodeTable.{NodeTable}
use Rattle.node_tables.specs.declared.tables.ModeTable.{ModeTable}
use Rattle.node_tables.specs.declared.tables.OwnTask.{OwnTask}
use Rattle.node_tables.specs.declared.tables.OwnMessage.{OwnMessage}
use Rattle.node_tables.specs.declared.tables.OwnRound.{OwnRound}
use Rattle.node_core.specs.Lookup.{mode_at, own_message, consumer_place}
use Rattle.node_core.specs.Registers.{InRow, RegistersSeen, row_of}
use Rattle.node_core.specs.Running.{RunningNode}

-- the numbers of an own message are in range: it has at most 4 producers and 16 consumers
pub record MessageFits (m : OwnMessage) : Type 0 where
  pub number : m.number < 512
  pub few_producers : length m.producers ≤ 4
  pub producers : All (λ a. a < 1024) m.producers
  pub few_consumers : length m.consumers ≤ 16

-- how many values a consumer takes from a message
abbrev pub count_at : OwnMessage → Option ℕ → ℕ
count_at m None = 0
count_at m (Some c) = length m.producers

-- how many values a task takes
abbrev pub input_count : ℕ → List OwnMessage → ℕ
input_count task [] = 0
input_count task (m ∷ messages) = count_at m (consumer_place task m) + input_count task messages

-- a round starts within the hyperperiod
pub record StartFits (hyper : ℤ) (r : OwnRound) : Type 0 where
  pub low : pos 0 ≤ℤ r.start
  pub high : r.start <ℤ hyper

-- a message has a lower number than another
abbrev pub IsBefore : OwnMessage → OwnMessage → Type 0
IsBefore m x = m.number < x.number

-- so has a task
abbrev pub IsTaskBefore : OwnTask → OwnTask → Type 0
IsTaskBefore t x = t.number < x.number

-- a mode's part is within the limits: its hyperperiod is at most 10^12, some round is in it, tasks have numbers below 1024,
-- tasks and messages stand in ascending order of their numbers, and no task takes more than 64 values
pub record ModeFits (m : ModeTable) : Type 0 where
  pub some_tick : pos 1 ≤ℤ m.hyper
  pub most_ticks : m.hyper ≤ℤ pos 1000000000000
  pub some_round : 1 ≤ length m.rounds
  pub starts : All (StartFits m.hyper) m.rounds
  pub tasks : All (λ t. t.number < 1024) m.tasks
  pub messages : All MessageFits m.messages
  pub ascending : AllPairs IsBefore m.messages
  pub tasks_ascending : AllPairs IsTaskBefore m.tasks
  pub inputs : (task : ℕ) → input_count task m.messages ≤ 64

-- a table is within the limits, in each of its modes
pub record TableFits (t : NodeTable) : Type 0 where
  pub some : 1 ≤ length t.modes
  pub modes : All ModeFits t.modes

-- a round of the table and its start, which is a tick of the hyperperiod
pub record SpotFits (t : NodeTable) (mode round : ℕ) (start : ℤ) : Type 0 where
  pub mode_known : mode < length t.modes
  pub round_known : round < length (mode_at t mode).rounds
  pub from_zero : pos 0 ≤ℤ start
  pub below : start <ℤ (mode_at t mode).hyper

-- each full in register of a row has this number of values
abbrev pub RowFits : ℕ → InRow → Type 0
RowFits n row = All (λ x. IfSome x (λ values. length values ≡ n)) row

-- each full in register of a message has one value per producer
abbrev pub InsFit : List OwnMessage → List InRow → Type 0
InsFit messages ins = (m : OwnMessage) → own_message messages m.number ≡ Some m → RowFits (length m.producers) (row_of ins m.number)

-- there is a register for every task number, and a row for every message number
pub record HasRoom (g : RegistersSeen) : Type 0 where
  pub outs : length g.outs ≡ 1024
  pub rows : length g.ins ≡ 512

-- a node stands in a mode and a round of its table, at a tick of the hyperperiod, and its registers fit
pub record NodeFits (n : RunningNode) : Type 0 where
  pub table : TableFits n.table
  pub spot : SpotFits n.table n.mode n.round n.tick
  pub ins : InsFit (mode_at n.table n.mode).messages n.registers.ins
  pub room : HasRoom n.registers
