-- The commands, and the words that are one
use Rattle.std.specs.Prelude.{ℕ, codes, List, [], ◌∷◌, ◌&&◌, nat_le, Option, Some, None, if◌then◌else◌}
use Rattle.std.specs.Str.{bytes_eq}
use Rattle.ttw_text.specs.Names.{is_name}
use Rattle.ttw_text.specs.Numbers.{number_of}

-- a command with the names of its files and its numbers, or none
pub data Command : Type 0 where
  plan : List ℕ → ℕ → Command
  check : List ℕ → List ℕ → Command
  tables : List ℕ → List ℕ → List ℕ → Command
  replay : List ℕ → List ℕ → List ℕ → Command
  drill : ℕ → Command
  guard : List ℕ → ℕ → Command
  none : Command

-- plans for a mode file within a budget from 1 to 100,000
abbrev pub plan_within : List ℕ → Option ℕ → Command
plan_within file None = none
plan_within file (Some budget) = if nat_le 1 budget && nat_le budget 100000 then plan file budget else none

-- the guard of a mode file under a drift from 1 to 100,000 millionths
abbrev pub guard_under : List ℕ → Option ℕ → Command
guard_under file None = none
guard_under file (Some ppm) = if nat_le 1 ppm && nat_le ppm 100000 then guard file ppm else none

-- the drill of a seed from 0 to 1,000,000
abbrev pub drill_of : Option ℕ → Command
drill_of None = none
drill_of (Some seed) = if nat_le seed 1000000 then drill seed else none

-- the command of two words
abbrev pub of_two : List ℕ → List ℕ → Command
of_two verb last = if bytes_eq verb (codes "drill") then drill_of (number_of last) else none

-- the command of three words
abbrev pub of_three : List ℕ → List ℕ → List ℕ → Command
of_three verb file last =
    if bytes_eq verb (codes "plan") then plan_within file (number_of last)
    else (if bytes_eq verb (codes "check") then check file last
    else (if bytes_eq verb (codes "guard") then guard_under file (number_of last) else none))

-- the command of four words: a node has a name's spelling
abbrev pub of_four : List ℕ → List ℕ → List ℕ → List ℕ → Command
of_four verb file other last =
    if bytes_eq verb (codes "replay") then replay file other last
    else (if bytes_eq verb (codes "tables") && is_name last then tables file other last else none)

-- the command of any words
abbrev pub command : List (List ℕ) → Command
command (verb ∷ last ∷ []) = of_two verb last
command (verb ∷ file ∷ last ∷ []) = of_three verb file last
command (verb ∷ file ∷ other ∷ last ∷ []) = of_four verb file other last
command _ = none
