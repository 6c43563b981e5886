-- Round instances over all of time, and the windows of messages. A moment is a whole number of ticks from the mode's start.
use Rattle.std.specs.Prelude.{◌≡◌, ℕ, ◌-◌, ◌*◌, ◌/◌, ◌%◌, ◌≤◌, true, [], length, slice_index_or, ℤ, pos, ◌+ℤ◌, ◌≤ℤ◌}
use Rattle.sched_model.specs.declared.schedule.Schedule.{Schedule}
use Rattle.sched_model.specs.Numbers.{has}
use Rattle.sched_model.specs.PlainMode.{PlainMode, hyper, message_at}

-- the start of the round at this place, from 0
abbrev pub round_start : Schedule → ℕ → ℤ
round_start s j = slice_index_or s.starts j (pos 0)

-- the start of a task's first run
abbrev pub task_start : Schedule → ℕ → ℤ
task_start s a = slice_index_or s.tasks a (pos 0)

-- where a message's first window opens
abbrev pub opens : Schedule → ℕ → ℤ
opens s i = (slice_index_or s.messages i (pos 0, pos 0)).0

-- where it closes
abbrev pub closes : Schedule → ℕ → ℤ
closes s i = (slice_index_or s.messages i (pos 0, pos 0)).1

-- round instances are numbered from 1 on: with R rounds, instance n * R + j + 1 is the round at place j in hyperperiod n
abbrev pub start : PlainMode → Schedule → ℕ → ℤ
start m s g = let r = length s.starts in round_start s ((g - 1) % r) +ℤ pos ((g - 1) / r * hyper m)

-- the table of round instance g has message i
abbrev pub Carries : PlainMode → Schedule → ℕ → ℕ → Type 0
Carries m s i g = has (slice_index_or s.tables ((g - 1) % length s.starts) []) (message_at m i).number ≡ true

-- round instance g lies in window k of message i, from its start to its end
abbrev pub InWindow : PlainMode → Schedule → ℕ → ℕ → ℕ → Type 0
InWindow m s i k g =
    let shift = pos (k * (message_at m i).period) in
    ((opens s i +ℤ shift) ≤ℤ start m s g) × ((start m s g +ℤ pos m.round) ≤ℤ (closes s i +ℤ shift))

-- round instance g carries message i in its window k
abbrev pub Serves : PlainMode → Schedule → ℕ → ℕ → ℕ → Type 0
Serves m s i k g = (1 ≤ g) × Carries m s i g × InWindow m s i k g
