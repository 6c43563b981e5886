-- A schedule that is read line by line: the parts that were read, and what is still to be read
use Rattle.std.specs.Prelude.{◌≡◌, ℕ, ◌+◌, ◌≤◌, All, ℤ, pos, List, ◌++◌, length, drop, map, Option, Some, Ok}
use Rattle.app_graph.specs.declared.mode_set.ModeSet.{ModeSet}
use Rattle.sched_model.specs.Numbers.{below}
use Rattle.sched_model.specs.PlainMode.{mode_at}
use Rattle.sched_model.specs.RightSchedule.{IsMessage}
use Rattle.sched_model.specs.TimeLimits.{IsTime}
use Rattle.sched_model.specs.declared.schedule.Schedule.{Schedule}
use Rattle.proof_tree.specs.Accepting.{DocMode, doc_mode}
use Rattle.proof_tree.specs.Reading.{Place, Read, ◌>>=◌, next_item, each, task_at, message_at, table_at}
use Rattle.cert_checker.specs.declared.draft.Draft.{Draft}

-- the mode of this number, as a document knows it
abbrev pub doc_at : ModeSet → ℕ → DocMode
doc_at set mode = doc_mode set (mode_at set mode)

-- numbers that were read, as moments
abbrev pub moments : Read (List ℕ) → Read (List ℤ)
moments read = read >>= λ x. Ok (map pos x.0, x.1)

-- two numbers, as moments
abbrev pub moments_of : ℕ × ℕ → ℤ × ℤ
moments_of w = (pos w.0, pos w.1)

-- the tables that are left, and then the schedule
abbrev pub tables_due : DocMode → List ℤ → List ℤ → List (ℤ × ℤ) → List (List ℕ) → Place → Read (Option Schedule)
tables_due d starts tasks messages tables at =
    each (λ j to. table_at d (j + 1) to (next_item to.rest)) (drop (length tables) (below (length starts))) at >>= λ x.
    Ok (Some (record { starts = starts; tasks = tasks; messages = messages; tables = tables ++ x.0 }), x.1)

-- the messages that are left, and then the tables
abbrev pub messages_due : DocMode → List ℤ → List ℤ → List (ℤ × ℤ) → List (List ℕ) → Place → Read (Option Schedule)
messages_due d starts tasks messages tables at =
    each (λ name to. message_at name to (next_item to.rest)) (drop (length messages) d.messages) at >>= λ x.
    tables_due d starts tasks (messages ++ map moments_of x.0) tables x.1

-- the tasks that are left, and then the messages
abbrev pub tasks_due : DocMode → List ℤ → List ℤ → List (ℤ × ℤ) → List (List ℕ) → Place → Read (Option Schedule)
tasks_due d starts tasks messages tables at =
    each (λ name to. task_at name to (next_item to.rest)) (drop (length tasks) d.tasks) at >>= λ x.
    messages_due d starts (tasks ++ map pos x.0) messages tables x.1

-- what is left of a draft
abbrev pub draft_due : DocMode → Draft → Place → Read (Option Schedule)
draft_due d s at = tasks_due d s.starts.items s.tasks.items s.messages.items s.tables.items at

-- so much of a schedule of one round or more was read, in file order, for a mode whose tasks and messages have a name each
pub record InHand (d : DocMode) (s : Draft) : Type 0 where
  pub task_count : length d.tasks ≡ length d.mode.tasks
  pub message_count : length d.messages ≡ length d.mode.messages
  pub task_names : s.task_names ≡ d.tasks
  pub message_names : s.message_names ≡ d.messages
  pub some : 1 ≤ length s.starts.items
  pub tasks : length s.tasks.items ≤ length d.tasks
  pub messages : length s.messages.items ≤ length d.messages
  pub tables : length s.tables.items ≤ length s.starts.items
  pub start_times : All IsTime s.starts.items
  pub task_times : All IsTime s.tasks.items
  pub message_times : All (λ w. IsTime w.0 × IsTime w.1) s.messages.items
  pub numbers : All (λ table. All (IsMessage d.mode) table) s.tables.items

-- all of it was read
pub record IsWhole (d : DocMode) (s : Draft) : Type 0 where
  pub tasks : length s.tasks.items ≡ length d.tasks
  pub messages : length s.messages.items ≡ length d.messages
  pub tables : length s.tables.items ≡ length s.starts.items
