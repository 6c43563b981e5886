-- Which plan documents are accepted, in whole trees and whole schedules.
use Rattle.std.specs.Prelude.{◌≡◌, ℕ, ◌+◌, ⊤, Bool, true, nat_le, pos, List, [], ◌∷◌, length, map, ◌==◌, unwrap_or, position, Option, Some, None, if◌then◌else◌}
use Rattle.std.specs.List.{slice_split, list_all, list_any, AllZip}
use Rattle.std.specs.Str.{bytes_eq}
use Rattle.app_graph.specs.declared.mode_set.ModeSet.{ModeSet}
use Rattle.app_graph.specs.declared.mode_set.Mode.{Mode}
use Rattle.sched_model.specs.Numbers.{below}
use Rattle.sched_model.specs.PlainMode.{PlainMode, message_at, most_rounds, plain_mode}
use Rattle.sched_model.specs.RightSchedule.{IsSchedule}
use Rattle.sched_model.specs.declared.schedule.Schedule.{Schedule}
use Rattle.proof_tree.specs.Items.{Item, Head, ModeNamed, ScheduleOf, Start, TaskAt, MessageAt, TableOf, Absent, End}
use Rattle.proof_tree.specs.Grammar.{item_of}
use Rattle.proof_tree.specs.Names.{tasks_in, messages_in}
use Rattle.proof_tree.specs.TreeLines.{Items, TreesFrom}

-- ---- what a document is about

-- a mode as a document knows it: its name, those of its tasks and messages in file order, and its plain mode
pub record DocMode : Type 0 where
  pub name : List ℕ
  pub tasks : List (List ℕ)
  pub messages : List (List ℕ)
  pub mode : PlainMode

-- a mode of the set
abbrev pub doc_mode : ModeSet → Mode → DocMode
doc_mode set mode = record {
  name = mode.name;
  tasks = map (λ task. task.name) (tasks_in mode.apps);
  messages = map (λ message. message.name) (messages_in mode.apps);
  mode = plain_mode set mode;
}

-- the modes of the set, in file order
abbrev pub doc_modes : ModeSet → List DocMode
doc_modes set = map (doc_mode set) set.modes

-- the number of the message of this name
abbrev pub number_of : DocMode → List ℕ → ℕ
number_of d name = (message_at d.mode (unwrap_or (position (bytes_eq name) d.messages) 0)).number

-- it is the name of a message
abbrev pub is_message : DocMode → List ℕ → Bool
is_message d name = list_any (bytes_eq name) d.messages

-- ---- the lines of the bytes

-- the most bytes of a document
abbrev pub limit : ℕ
limit = 4294967296

-- the most bytes of a line, without its line feed
abbrev pub longest : ℕ
longest = 4096

-- what a line says that ends at this place, where it is within the limits and has a form
abbrev pub line_item : ℕ → List ℕ → Option Item
line_item end line = if nat_le (length line) longest then (if nat_le end limit then item_of line else None) else None

-- what stands after the last line feed is a line without one, which has no form
abbrev pub items_from : ℕ → List (List ℕ) → Items
items_from at [] = []
items_from at ([] ∷ []) = []
items_from at ((c ∷ cs) ∷ []) = None ∷ []
items_from at (l ∷ m ∷ ls) = line_item (at + length l + 1) l ∷ items_from (at + length l + 1) (m ∷ ls)

-- what the lines of a document say
abbrev pub items_of : List ℕ → Items
items_of bytes = items_from 0 (slice_split (λ b. b == 10) bytes)

-- ---- schedules

-- each gives a value, one after another, and then comes the rest
abbrev pub EachIs : {A B : Type 0} → (A → B → Items → Items → Type 0) → List A → List B → Items → Items → Type 0
EachIs V [] [] ls rest = ls ≡ rest
EachIs V [] (b ∷ bs) ls rest = ⊥
EachIs V (a ∷ as') [] ls rest = ⊥
EachIs V (a ∷ as') (b ∷ bs) ls rest = (mid : Items) × V a b ls mid × EachIs V as' bs mid rest

-- the line of a task with this name and offset
abbrev pub OneTask : List ℕ → ℕ → Items → Items → Type 0
OneTask name o ls rest = ls ≡ Some (TaskAt name o) ∷ rest

-- the line of a message with this name, and where its first window opens and closes
abbrev pub OneMessage : List ℕ → ℕ × ℕ → Items → Items → Type 0
OneMessage name w ls rest = ls ≡ Some (MessageAt name w.0 w.1) ∷ rest

-- the table of the round at place j, with the numbers of its messages
abbrev pub OneTable : DocMode → ℕ → List ℕ → Items → Items → Type 0
OneTable d j numbers ls rest = (names : List (List ℕ)) × (list_all (is_message d) names ≡ true) × (numbers ≡ map (number_of d) names) × (ls ≡ Some (TableOf (j + 1) names) ∷ rest)

-- the numbers of a schedule, as they stand in a document
pub record Told : Type 0 where
  pub starts : List ℕ
  pub tasks : List ℕ
  pub messages : List (ℕ × ℕ)
  pub tables : List (List ℕ)

-- the schedule of these numbers
abbrev pub schedule_of : Told → Schedule
schedule_of t = record { starts = map pos t.starts; tasks = map pos t.tasks; messages = map (λ w. (pos w.0, pos w.1)) t.messages; tables = t.tables }

-- the lines of a schedule of r rounds, behind the one that begins it
pub record Tells (d : DocMode) (r : ℕ) (t : Told) (ls rest : Items) : Type 0 where
  pub counted : length t.starts ≡ r
  pub first : Items
  pub second : Items
  pub third : Items
  pub starts : ls ≡ Some (Start t.starts) ∷ first
  pub tasks : EachIs OneTask d.tasks t.tasks first second
  pub messages : EachIs OneMessage d.messages t.messages second third
  pub tables : EachIs (OneTable d) (below r) t.tables third rest

-- ---- whole documents

-- r rounds are due: a schedule of r rounds, or `none` behind the trees for all numbers of rounds
abbrev pub ModeEnds : DocMode → Option Schedule → ℕ → Items → Items → Type 0
ModeEnds d None r ls rest = (r ≡ most_rounds d.mode + 1) × (ls ≡ Some Absent ∷ rest)
ModeEnds d (Some s) r ls rest = (t : Told) × (tail : Items) × (s ≡ schedule_of t) × (ls ≡ Some (ScheduleOf r) ∷ tail) × Tells d r t tail rest

-- a mode: its name, valid trees for 1 round, 2 rounds and so on, and then its schedule or `none`
abbrev pub IsMode : DocMode → Option Schedule → Items → Items → Type 0
IsMode d plan ls rest = (n : ℕ) × (mid : Items) × (end : Items) × (ls ≡ Some (ModeNamed d.name) ∷ mid) × TreesFrom d.mode 1 n mid end × ModeEnds d plan (n + 1) end rest

-- the lines tell these plans, one per mode, and have valid trees for all fewer rounds
abbrev pub IsPlan : List DocMode → List (Option Schedule) → Items → Type 0
IsPlan modes plans ls = (mid : Items) × (ls ≡ Some Head ∷ mid) × EachIs IsMode modes plans mid (Some End ∷ [])

-- a mode's schedule, where it has one, is right
abbrev pub IsRight : DocMode → Option Schedule → Type 0
IsRight d None = ⊤
IsRight d (Some s) = IsSchedule d.mode (length s.starts) s

-- the document is accepted with these plans
pub record AcceptedFor (modes : List DocMode) (bytes : List ℕ) (plans : List (Option Schedule)) : Type 0 where
  pub told : IsPlan modes plans (items_of bytes)
  pub right : AllZip IsRight modes plans

-- the document is accepted for the set, with these plans
abbrev pub Accepts : ModeSet → List ℕ → List (Option Schedule) → Type 0
Accepts set bytes plans = AcceptedFor (doc_modes set) bytes plans
