-- The forms of a script's lines
use Rattle.std.specs.Prelude.{ℕ, Bool, true, nat_le, nat_eq, codes, List, [], ◌∷◌, length, Option, Some, None, option_map, if◌then◌else◌}
use Rattle.std.specs.Option.{option_and_then}
use Rattle.std.specs.List.{list_all}
use Rattle.std.specs.Str.{bytes_eq}
use Rattle.ttw_text.specs.Names.{is_name}
use Rattle.ttw_text.specs.Numbers.{number_up_to}
use Rattle.ttw_text.specs.Words.{only, only_name, parts}

-- what a line asks for, with the names as they stand: nothing, where it is passed over; a number of Advances; Advances until a beacon;
-- an Advance that nodes lose; a mode; the restart of a node
pub data Form : Type 0 where
  Passed : Form
  Go : ℕ → Form
  UntilBeacon : Form
  Lose : List (List ℕ) → Form
  Request : List ℕ → Form
  Restart : List ℕ → Form

-- `go N`: N is from 0 to 1,000,000
abbrev pub go_form : List (List ℕ) → Option Form
go_form words = option_map Go (option_and_then (number_up_to 1000000) (only words))

-- `until beacon`
abbrev pub until_form : List (List ℕ) → Option Form
until_form words = option_and_then (λ word. if bytes_eq word (codes "beacon") then Some UntilBeacon else None) (only words)

-- `lose NODE ..`: one name or more
abbrev pub lose_form : List (List ℕ) → Option Form
lose_form [] = None
lose_form (word ∷ words) = if list_all is_name (word ∷ words) then Some (Lose (word ∷ words)) else None

-- the first word says which form it is, of which the words after it are. `request MODE` and `restart NODE` have one name
abbrev pub words_form : List ℕ → List (List ℕ) → Option Form
words_form first words =
    if bytes_eq first (codes "go") then go_form words
    else if bytes_eq first (codes "until") then until_form words
    else if bytes_eq first (codes "lose") then lose_form words
    else if bytes_eq first (codes "request") then option_map Request (only_name words)
    else if bytes_eq first (codes "restart") then option_map Restart (only_name words)
    else None

-- all words of a line, the first one included
abbrev pub parts_form : List (List ℕ) → Option Form
parts_form [] = None
parts_form (first ∷ words) = words_form first words

-- an empty line and one that begins with `#` are passed over
abbrev pub is_passed : List ℕ → Bool
is_passed [] = true
is_passed (byte ∷ bytes) = nat_eq byte 35

-- the form of a line, without its line feed; none where it has none of these, or more than 4,096 bytes
abbrev pub line_form : List ℕ → Option Form
line_form line = if nat_le (length line) 4096 then (if is_passed line then Some Passed else parts_form (parts line)) else None
