-- The body `tally`: it counts how often each task was fired
use Rattle.std.specs.Prelude.{ℕ, List, Option, Some, None, fold, slice_index_or, slice_set, ℤ, pos, ◌+ℤ◌}
use Rattle.std.specs.Int.{saturate_signed, w64}

-- a sum that stays within 64 bits
abbrev pub plus : ℤ → ℤ → ℤ
plus x y = saturate_signed w64 (x +ℤ y)

-- a sum and one more input, which may be absent
abbrev pub plus_input : ℤ → Option ℤ → ℤ
plus_input x None = x
plus_input x (Some y) = plus x y

-- the task's number after one more fire
abbrev pub next_number : List ℤ → ℕ → ℤ
next_number numbers task = plus (slice_index_or numbers task (pos 0)) (pos 1)

-- the answer of a fire: the task's new number plus each present input, in order
abbrev pub answer : List ℤ → ℕ → List (Option ℤ) → ℤ
answer numbers task inputs = fold plus_input (next_number numbers task) inputs

-- the numbers after a fire, which changes the task's alone
abbrev pub numbers_after_fire : List ℤ → ℕ → List (Option ℤ) → List ℤ
numbers_after_fire numbers task inputs = slice_set numbers task (next_number numbers task)
