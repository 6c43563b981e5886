-- When a schedule is right, the fewest rounds, and that there is no schedule
use Rattle.std.specs.Prelude.{◌≡◌, ℕ, suc, ◌<◌, ◌≤◌, ◌⊎◌, true, List, length, map, Contains, All, pos, ◌+ℤ◌, ◌≤ℤ◌, ◌<ℤ◌}
use Rattle.tick_num.specs.Classes.{NeverMeet}
use Rattle.sched_model.specs.declared.schedule.Schedule.{Schedule}
use Rattle.sched_model.specs.Numbers.{distinct}
use Rattle.sched_model.specs.PlainMode.{PlainMode, hyper, task_at, message_at}
use Rattle.sched_model.specs.TaskGraph.{first, last, Reaches}
use Rattle.sched_model.specs.Rounds.{round_start, task_start, opens, closes, start, Carries, InWindow, Serves}

-- a number of the table is that of a message of the mode
abbrev pub IsMessage : PlainMode → ℕ → Type 0
IsMessage m n = Contains (map (λ msg. msg.number) m.messages) n

-- a schedule of r rounds for the mode: its lists have the lengths of the mode, and its tables have messages of the mode
pub record HasShape (m : PlainMode) (r : ℕ) (s : Schedule) : Type 0 where
  pub some : 1 ≤ r
  pub starts : length s.starts ≡ r
  pub tables : length s.tables ≡ r
  pub tasks : length s.tasks ≡ length m.tasks
  pub messages : length s.messages ≡ length m.messages
  pub numbers : All (λ table. All (IsMessage m) table) s.tables

-- the rounds begin at 0, do not overlap, and end with the hyperperiod
pub record RoundsFit (m : PlainMode) (s : Schedule) : Type 0 where
  pub begin : round_start s 0 ≡ pos 0
  pub apart : (j : ℕ) → suc j < length s.starts → (round_start s j +ℤ pos m.round) ≤ℤ round_start s (suc j)
  pub end : (j : ℕ) → suc j ≡ length s.starts → (round_start s j +ℤ pos m.round) ≤ℤ pos (hyper m)

-- no round starts later than the greatest gap after the one before, over the hyperperiod's end too
pub record GapsFit (m : PlainMode) (s : Schedule) : Type 0 where
  pub within : (j : ℕ) → suc j < length s.starts → round_start s (suc j) ≤ℤ (round_start s j +ℤ pos m.gap)
  pub across : (j : ℕ) → suc j ≡ length s.starts → pos (hyper m) ≤ℤ (round_start s j +ℤ pos m.gap)

-- a task starts at 0 or later, and a first task within its period
pub record OffsetFits (m : PlainMode) (s : Schedule) (a : ℕ) : Type 0 where
  pub from_zero : pos 0 ≤ℤ task_start s a
  pub early : first m a ≡ true → task_start s a <ℤ pos (task_at m a).period

-- a message's window opens after its producers' ends and closes within a period of them;
-- its consumers start at its close or later, and within a period of its opening
pub record MessageFits (m : PlainMode) (s : Schedule) (i : ℕ) : Type 0 where
  pub sent : (a : ℕ) → Contains (message_at m i).from a → (task_start s a +ℤ pos (task_at m a).wcet) ≤ℤ opens s i
  pub kept : (a : ℕ) → Contains (message_at m i).from a → closes s i ≤ℤ (task_start s a +ℤ pos (task_at m a).wcet +ℤ pos (message_at m i).period)
  pub lasts : opens s i <ℤ closes s i
  pub taken : (b : ℕ) → Contains (message_at m i).to b → closes s i ≤ℤ task_start s b
  pub next : (b : ℕ) → Contains (message_at m i).to b → task_start s b <ℤ (opens s i +ℤ pos (message_at m i).period)

-- last task l ends within the deadline from the start of first task f
abbrev pub ChainFits : PlainMode → Schedule → ℕ → ℕ → Type 0
ChainFits m s f l = (task_start s l +ℤ pos (task_at m l).wcet) ≤ℤ (task_start s f +ℤ pos (task_at m f).deadline)

-- tasks a and b never run at once, in no period
abbrev pub RunsApart : PlainMode → Schedule → ℕ → ℕ → Type 0
RunsApart m s a b =
    NeverMeet (pos (task_at m a).period) (pos (task_at m a).wcet) (task_start s a) (pos (task_at m b).period) (pos (task_at m b).wcet) (task_start s b)

-- a table has no more messages than a round has slots, and none twice
pub record TableFits (m : PlainMode) (table : List ℕ) : Type 0 where
  pub slots : length table ≤ m.slots
  pub once : distinct table ≡ true

-- exactly c numbers have the property: those of a row of c different numbers
pub record Exactly (c : ℕ) (P : ℕ → Type 0) : Type 0 where
  pub row : ℕ → ℕ
  pub apart : (x y : ℕ) → x < y → y < c → row x ≡ row y → ⊥
  pub each : (x : ℕ) → x < c → P (row x)
  pub only : (g : ℕ) → P g → (x : ℕ) × (x < c) × (row x ≡ g)

-- round instance g lies in a window of message i, or starts before the first one
abbrev pub Timely : PlainMode → Schedule → ℕ → ℕ → Type 0
Timely m s i g = ((k : ℕ) × InWindow m s i k g) ⊎ (start m s g <ℤ opens s i)

-- S7: the tables fit, and in every window of every message exactly as many round instances carry it as it has copies
pub record AllServed (m : PlainMode) (s : Schedule) : Type 0 where
  pub tables : All (TableFits m) s.tables
  pub windows : (i k : ℕ) → i < length m.messages → Exactly (message_at m i).copies (Serves m s i k)

-- a right schedule of r rounds, in every period
pub record IsSchedule (m : PlainMode) (r : ℕ) (s : Schedule) : Type 0 where
  pub shape : HasShape m r s
  pub s1 : RoundsFit m s
  pub s2 : GapsFit m s
  pub s3 : (a : ℕ) → a < length m.tasks → OffsetFits m s a
  pub s4 : (i : ℕ) → i < length m.messages → MessageFits m s i
  pub s5 : (f l : ℕ) → f < length m.tasks → l < length m.tasks → first m f ≡ true → last m l ≡ true → Reaches m f l → ChainFits m s f l
  pub s6 : (a b : ℕ) → a < b → b < length m.tasks → (task_at m a).node ≡ (task_at m b).node → RunsApart m s a b
  pub s7 : AllServed m s
  pub s8 : (i g : ℕ) → i < length m.messages → 1 ≤ g → Carries m s i g → Timely m s i g

-- there is a right schedule of r rounds, and none of fewer
pub record Fewest (m : PlainMode) (r : ℕ) : Type 0 where
  pub found : (s : Schedule) × IsSchedule m r s
  pub least : (q : ℕ) (s : Schedule) → IsSchedule m q s → r ≤ q

-- no number of rounds has a right schedule
abbrev pub NoSchedule : PlainMode → Type 0
NoSchedule m = (r : ℕ) (s : Schedule) → IsSchedule m r s → ⊥
