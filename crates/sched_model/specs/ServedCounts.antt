-- How often the windows of a message are served by some rounds of one hyperperiod
use Rattle.std.specs.Prelude.{◌≡◌, ℕ, zero, suc, ◌+◌, ◌*◌, ◌<◌, Bool, cond, nat_eq, int_le, ◌&&◌, List, slice_index_or, [], pos, ◌+ℤ◌}
use Rattle.sched_model.specs.declared.schedule.Schedule.{Schedule}
use Rattle.sched_model.specs.Numbers.{has}
use Rattle.sched_model.specs.PlainMode.{PlainMode, message_at}
use Rattle.sched_model.specs.Rounds.{closes}
use Rattle.sched_model.specs.OneHyperperiod.{first_start, window_then}

-- the round at place j carries message i, first in window k
abbrev pub serves_first : PlainMode → Schedule → ℕ → ℕ → ℕ → Bool
serves_first m s i k j =
    has (slice_index_or s.tables j []) (message_at m i).number
    && (nat_eq (window_then m s i j) k
    && int_le (first_start m s i j +ℤ pos m.round) (closes s i +ℤ pos (window_then m s i j * (message_at m i).period)))

-- 1 where a test is passed
abbrev pub one_if : Bool → ℕ
one_if b = cond b 1 0

-- how many of the numbers below n pass a test
abbrev pub how_many : (ℕ → Bool) → ℕ → ℕ
how_many t zero = 0
how_many t (suc n) = how_many t n + one_if (t n)

-- the counts tell of each of some windows, from base on, how many of the first n rounds serve it
abbrev pub Counts : PlainMode → Schedule → ℕ → ℕ → ℕ → ℕ → List ℕ → Type 0
Counts m s i base some n counts = (k : ℕ) → k < some → slice_index_or counts k 0 ≡ how_many (serves_first m s i (base + k)) n
