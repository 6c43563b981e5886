-- Which copy of a message a slot carries
use Rattle.std.specs.Prelude.{ℕ, ◌+◌, cond, ◌&&◌, int_le, List, [], ◌∷◌, length, filter, slice_index_or, ℤ, pos, ◌+ℤ◌, ◌-ℤ◌}
use Rattle.std.specs.List.{flat_map}
use Rattle.sched_model.specs.declared.schedule.Schedule.{Schedule}
use Rattle.sched_model.specs.Numbers.{below, has}
use Rattle.sched_model.specs.PlainMode.{hyper, message_at}
use Rattle.sched_model.specs.Rounds.{round_start, opens}
use Rattle.runtime_model.specs.Plans.{Plan}
use Rattle.runtime_model.specs.Placement.{release}

-- the starts, in a hyperperiod that begins at this moment, of the rounds whose tables have the message with this number
abbrev pub starts_with : Schedule → ℕ → ℤ → List ℤ
starts_with s number begin =
    flat_map (λ j. cond (has (slice_index_or s.tables j []) number) ((begin +ℤ round_start s j) ∷ []) []) (below (length s.starts))

-- how many of them are from one moment to another
abbrev pub starts_between : Schedule → ℕ → ℤ → ℤ → ℤ → ℕ
starts_between s number begin low high = length (filter (λ t. int_le low t && int_le t high) (starts_with s number begin))

-- The copy that a slot carries at this moment of a hyperperiod, where the window of the message opened at another:
-- how many rounds with the message have started in the window, that of the slot among them, in this hyperperiod or in the one before
abbrev pub copy_of : Schedule → ℕ → ℕ → ℤ → ℤ → ℕ
copy_of s hyper number opened now =
    starts_between s number (pos 0 -ℤ pos hyper) opened now + starts_between s number (pos 0) opened now

-- the copy of a slot of the round at place j with message i: the first one of a window has copy 1
abbrev pub copy_at : Plan → ℕ → ℕ → ℕ
copy_at p j i =
    copy_of p.schedule (hyper p.mode) (message_at p.mode i).number (opens p.schedule i +ℤ release p j i) (round_start p.schedule j)
