-- The lines of a text.
use Rattle.std.specs.Prelude.{ℕ, ◌-◌, ◌==◌, List, [], ◌∷◌, length, take, slice_index_or, Option, Some, None, if◌then◌else◌}
use Rattle.std.specs.List.{onto_first}

-- the lines, each with its line feed where it has one: an empty text has none
abbrev pub lines : List ℕ → List (List ℕ)
lines [] = []
lines (b ∷ bs) = if b == 10 then (b ∷ []) ∷ lines bs else onto_first b (lines bs)

-- a line without its line feed, where it ends with one
abbrev pub without_feed : List ℕ → Option (List ℕ)
without_feed line = if slice_index_or line (length line - 1) 0 == 10 then Some (take (length line - 1) line) else None
