-- The refusal of the first refused line: the table of places, read from the front, with whole trees by recursion.
use Rattle.std.specs.Prelude.{ℕ, zero, suc, ◌+◌, ◌==◌, Bool, true, false, nat_lt, ℤ, List, [], ◌∷◌, ◌++◌, length, map, Option, Some, None, Result, Ok, Err, if◌then◌else◌}
use Rattle.std.specs.List.{list_all, enumerate_from}
use Rattle.std.specs.Str.{bytes_eq}
use Rattle.sched_model.specs.Numbers.{below}
use Rattle.sched_model.specs.PlainMode.{PlainMode, most_rounds}
use Rattle.sched_model.specs.ConstraintProblem.{alternatives, decisions}
use Rattle.sched_model.specs.declared.schedule.Schedule.{Schedule}
use Rattle.proof_tree.specs.Items.{Item, Head, ModeNamed, Refute, Branch, Short, Full, Cycle, ScheduleOf, Start, TaskAt, MessageAt, TableOf, Absent, End}
use Rattle.proof_tree.specs.TreeLines.{Items, leaf_holds}
use Rattle.proof_tree.specs.Accepting.{DocMode, is_message, number_of, schedule_of}

-- a line, a line, a mode and a clause, a line, a line, a mode and a number of rounds, and a mode
pub data Refusal : Type 0 where
  Grammar : ℕ → Refusal
  Names : ℕ → Refusal
  Clause : ℕ → ℕ → Refusal
  BadLeaf : ℕ → Refusal
  Extra : ℕ → Refusal
  MissingCount : ℕ → ℕ → Refusal
  Unfinished : ℕ → Refusal

-- the number of the line that is due, from 1, and the lines from there on
pub record Place : Type 0 where
  pub line : ℕ
  pub rest : Items

-- a value and the place behind it, or the refusal
abbrev pub Read : Type 0 → Type 0
Read A = Result (A × Place) Refusal

infixl 10 ◌>>=◌
-- and then
abbrev pub ◌>>=◌ : {A B : Type 0} → Read A → (A × Place → Read B) → Read B
(Ok x) >>= f = f x
(Err e) >>= f = Err e

-- the form that is due; a line without a form and the document's end have none
abbrev pub next_item : Items → Option Item
next_item [] = None
next_item (item ∷ rest) = item

-- the place behind the line that is due
abbrev pub after : Place → Place
after at = record { line = at.line + 1; rest = tail at.rest }
  where
    tail : Items → Items
    tail [] = []
    tail (item ∷ rest) = rest

-- each in order, with what was read of the earlier ones
abbrev pub each : {A B : Type 0} → (A → Place → Read B) → List A → Place → Read (List B)
each R [] at = Ok ([], at)
each R (a ∷ bs) at = R a at >>= λ x. each R bs x.1 >>= λ y. Ok (x.0 ∷ y.0, y.1)

-- ---- trees

-- a leaf, where what it says is so
abbrev pub leaf_end : Bool → ℕ → Place → Read (Unit {0})
leaf_end true line at = Ok (tt, at)
leaf_end false line at = Err (BadLeaf line)

-- what stands where a node of a tree is due, other than a node
abbrev pub not_node : ℕ → Place → Option Item → Read (Unit {0})
not_node o at (Some (Refute x)) = Err (Unfinished o)
not_node o at (Some (ScheduleOf x)) = Err (Unfinished o)
not_node o at (Some Absent) = Err (Unfinished o)
not_node o at (Some (ModeNamed name)) = Err (Unfinished o)
not_node o at (Some End) = Err (Unfinished o)
not_node o at _ = Err (Grammar at.line)

-- a whole tree of mode o for r rounds after the choices p, where n decisions are left and this item is next
abbrev pub tree_at : ℕ → PlainMode → ℕ → ℕ → List ℤ → Place → Option Item → Read (Unit {0})
tree_at o m r n p at None = Err (Grammar at.line)
tree_at o m r n p at (Some Short) = leaf_end (leaf_holds m r p Short) at.line (after at)
tree_at o m r zero p at (Some Branch) = Err (BadLeaf at.line)
tree_at o m r (suc n) p at (Some Branch) = each (λ a to. tree_at o m r n (p ++ a ∷ []) to (next_item to.rest)) (alternatives m r p) (after at) >>= λ x. Ok (tt, x.1)
tree_at o m r n p at (Some (Full j)) = leaf_end (leaf_holds m r p (Full j)) at.line (after at)
tree_at o m r n p at (Some (Cycle refs)) = leaf_end (leaf_holds m r p (Cycle refs)) at.line (after at)
tree_at o m r n p at other = not_node o at other

-- a whole tree of mode o for r rounds
abbrev pub tree : ℕ → PlainMode → ℕ → Place → Read (Unit {0})
tree o m r at = tree_at o m r (length (decisions m)) [] at (next_item at.rest)

-- ---- schedules

-- a value, where the test holds
abbrev pub due : {A : Type 0} → Bool → Refusal → A → Place → Read A
due test refusal x at = if test then Ok (x, at) else Err refusal

-- the r starts
abbrev pub starts_at : ℕ → Place → Option Item → Read (List ℕ)
starts_at r at (Some (Start ns)) = due (length ns == r) (Grammar at.line) ns (after at)
starts_at r at _ = Err (Grammar at.line)

-- the offset of the task of this name
abbrev pub task_at : List ℕ → Place → Option Item → Read ℕ
task_at name at (Some (TaskAt n o)) = due (bytes_eq n name) (Names at.line) o (after at)
task_at name at _ = Err (Grammar at.line)

-- where the first window of the message of this name opens and closes
abbrev pub message_at : List ℕ → Place → Option Item → Read (ℕ × ℕ)
message_at name at (Some (MessageAt n o q)) = due (bytes_eq n name) (Names at.line) (o, q) (after at)
message_at name at _ = Err (Grammar at.line)

-- the numbers of the messages of round j
abbrev pub table_at : DocMode → ℕ → Place → Option Item → Read (List ℕ)
table_at d j at (Some (TableOf x names)) = if x == j then due (list_all (is_message d) names) (Names at.line) (map (number_of d) names) (after at) else Err (Grammar at.line)
table_at d j at _ = Err (Grammar at.line)

-- a schedule of r rounds, behind the line that begins it
abbrev pub schedule : DocMode → ℕ → Place → Read (Option Schedule)
schedule d r at =
    starts_at r at (next_item at.rest) >>= λ a.
    each (λ name to. task_at name to (next_item to.rest)) d.tasks a.1 >>= λ b.
    each (λ name to. message_at name to (next_item to.rest)) d.messages b.1 >>= λ c.
    each (λ j to. table_at d (j + 1) to (next_item to.rest)) (below r) c.1 >>= λ e.
    Ok (Some (schedule_of (record { starts = a.0; tasks = b.0; messages = c.0; tables = e.0 })), e.1)

-- ---- counts of rounds: r is due, and as many are left up to the greatest

-- a line of a tree where a number of rounds is due: one too many, where a tree came before
abbrev pub tree_line : ℕ → Place → Read (Option Schedule)
tree_line r at = if nat_lt 1 r then Err (Extra at.line) else Err (Grammar at.line)

-- r rounds are due, and as many numbers are left up to the most
abbrev pub counts_at : ℕ → DocMode → ℕ → ℕ → Place → Option Item → Read (Option Schedule)
counts_at o d left r at None = Err (Grammar at.line)
counts_at o d left r at (Some (ScheduleOf x)) = if x == r then schedule d r (after at) else Err (MissingCount o r)
counts_at o d zero r at (Some (Refute x)) = if x == r then Err (Extra at.line) else Err (MissingCount o r)
counts_at o d (suc left) r at (Some (Refute x)) =
    if x == r then (tree o d.mode r (after at) >>= λ t. counts_at o d left (r + 1) t.1 (next_item t.1.rest)) else Err (MissingCount o r)
counts_at o d zero r at (Some Absent) = Ok (None, after at)
counts_at o d (suc left) r at (Some Absent) = Err (MissingCount o r)
counts_at o d left r at (Some Branch) = tree_line r at
counts_at o d left r at (Some Short) = tree_line r at
counts_at o d left r at (Some (Full j)) = tree_line r at
counts_at o d left r at (Some (Cycle refs)) = tree_line r at
counts_at o d left r at _ = Err (Grammar at.line)

-- ---- modes, and the document

-- the line that begins this mode
abbrev pub mode_line : DocMode → Place → Option Item → Read (Unit {0})
mode_line d at (Some (ModeNamed name)) = due (bytes_eq name d.name) (Names at.line) tt (after at)
mode_line d at _ = Err (Grammar at.line)

-- mode number p.0: its name, its trees, and its schedule or `none`
abbrev pub mode : ℕ × DocMode → Place → Read (Option Schedule)
mode p at = mode_line p.1 at (next_item at.rest) >>= λ x. counts_at p.0 p.1 (most_rounds p.1.mode) 1 x.1 (next_item x.1.rest)

-- the first line
abbrev pub is_head : Option Item → Bool
is_head (Some Head) = true
is_head _ = false

-- the last line
abbrev pub is_end : Option Item → Bool
is_end (Some End) = true
is_end _ = false

-- the one line that may stand here
abbrev pub fixed : (Option Item → Bool) → Place → Read (Unit {0})
fixed test at = due (test (next_item at.rest)) (Grammar at.line) tt (after at)

-- what was read of a document: the plans of the modes before the refused line, and that line's refusal,
-- or the place behind the document, where each schedule before it is right
pub record Reading : Type 0 where
  pub plans : List (Option Schedule)
  pub ended : Result Place Refusal

-- a mode, and what is read behind it
abbrev pub with_mode : Read (Option Schedule) → (Place → Reading) → Reading
with_mode (Ok x) rest = record { plans = x.0 ∷ (rest x.1).plans; ended = (rest x.1).ended }
with_mode (Err f) rest = record { plans = []; ended = Err f }

-- the modes, one after the other
abbrev pub read_modes : List (ℕ × DocMode) → Place → Reading
read_modes [] at = record { plans = []; ended = Ok at }
read_modes (p ∷ ps) at = with_mode (mode p at) (read_modes ps)

-- the last line, and nothing behind it
abbrev pub close_at : Read (Unit {0}) → Result Place Refusal
close_at (Ok x) = if length x.1.rest == 0 then Ok x.1 else Err (Grammar x.1.line)
close_at (Err f) = Err f

-- the end of a document whose modes were read
abbrev pub close : Result Place Refusal → Result Place Refusal
close (Ok at) = close_at (fixed is_end at)
close (Err f) = Err f

-- the modes behind the first line, and the end
abbrev pub behind_head : Read (Unit {0}) → List DocMode → Reading
behind_head (Ok x) modes = let r = read_modes (enumerate_from 0 modes) x.1 in record { plans = r.plans; ended = close r.ended }
behind_head (Err f) modes = record { plans = []; ended = Err f }

-- a document
abbrev pub read_document : List DocMode → Items → Reading
read_document modes items = behind_head (fixed is_head (record { line = 1; rest = items })) modes
