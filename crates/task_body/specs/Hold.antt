-- The body `hold`: it answers the last input that it got
use Rattle.std.specs.Prelude.{ℕ, List, Option, Some, None, fold, slice_index_or, slice_set, ℤ, pos}

-- a number, replaced by an input that is there
abbrev pub held : ℤ → Option ℤ → ℤ
held x None = x
held x (Some y) = y

-- the answer of a fire: the last present input, else the task's number
abbrev pub answer : List ℤ → ℕ → List (Option ℤ) → ℤ
answer numbers task inputs = fold held (slice_index_or numbers task (pos 0)) inputs

-- the numbers after a fire, which changes the task's alone, to the answer
abbrev pub numbers_after_fire : List ℤ → ℕ → List (Option ℤ) → List ℤ
numbers_after_fire numbers task inputs = slice_set numbers task (answer numbers task inputs)
