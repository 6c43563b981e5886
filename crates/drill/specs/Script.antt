-- The script of the drill
use Rattle.std.specs.Prelude.{ℕ, List, [], ◌∷◌}
use Rattle.std.specs.List.{flat_map, range_with_len}
use Rattle.replay_script.specs.declared.line.Line.{Line}
use Rattle.replay_script.specs.declared.line.Line.TheVariants.{Go, Request}

-- a request of a mode, and Advances for three hyperperiods of 168 entries
abbrev pub visit : ℕ → List Line
visit mode = Request mode ∷ Go 504 ∷ []

-- the visits of the modes 1 to n
unfoldable pub visits : ℕ → List Line
visits n = flat_map visit (range_with_len 1 n)

-- Advances for two hyperperiods in mode 0, and then a visit of each other mode
abbrev pub drill_script : List Line
drill_script = Go 336 ∷ visits 7
