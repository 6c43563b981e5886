-- The grammar of the lines of a plan document.
use Rattle.std.specs.Prelude.{◌≡◌, ℕ, Bool, false, codes, List, [], ◌∷◌, map, Option, Some, None, if◌then◌else◌, option_map, is_some, unwrap_or}
use Rattle.std.specs.Option.{option_and_then}
use Rattle.std.specs.List.{list_all}
use Rattle.std.specs.Str.{bytes_eq}
use Rattle.ttw_text.specs.Names.{is_name}
use Rattle.ttw_text.specs.Numbers.{number_up_to}
use Rattle.ttw_text.specs.Words.{is_empty, only, only_name, parts}
use Rattle.proof_tree.specs.Items.{Item, Head, ModeNamed, Refute, Branch, Short, Full, Cycle, ScheduleOf, Start, TaskAt, MessageAt, TableOf, Absent, End}

-- the greatest number of a plan document
abbrev pub greatest : ℕ
greatest = 2000000000000

-- the number that a word spells, where it is within a document's limit
abbrev pub plan_number : List ℕ → Option ℕ
plan_number word = number_up_to greatest word

-- a word is a number
abbrev pub is_number : List ℕ → Bool
is_number word = is_some (plan_number word)

-- the number of a word that is one
abbrev pub value : List ℕ → ℕ
value word = unwrap_or (plan_number word) 0

-- the first word of a line is taken, and this is its number
pub record TakesValue (old new : List (List ℕ)) (number : ℕ) : Type 0 where
  pub word : List ℕ
  pub first : old ≡ word ∷ new
  pub spells : number ≡ value word

-- ---- what may follow the first word

-- one number
abbrev pub one_number : List (List ℕ) → Option ℕ
one_number ws = option_and_then plan_number (only ws)

-- one or more numbers
abbrev pub some_numbers : List (List ℕ) → Option (List (List ℕ))
some_numbers [] = None
some_numbers (w ∷ ws) = if list_all is_number (w ∷ ws) then Some (w ∷ ws) else None

-- a number, and possibly names
abbrev pub number_names : List (List ℕ) → Option (ℕ × List (List ℕ))
number_names [] = None
number_names (w ∷ ws) = option_and_then (λ j. if list_all is_name ws then Some (j, ws) else None) (plan_number w)

-- the number 1
abbrev pub is_one : List (List ℕ) → Bool
is_one (w ∷ []) = bytes_eq w (codes "1")
is_one _ = false

-- a name and a number
abbrev pub name_number : List (List ℕ) → Option (List ℕ × ℕ)
name_number [] = None
name_number (n ∷ ws) = if is_name n then option_map (λ o. (n, o)) (one_number ws) else None

-- two numbers
abbrev pub two_numbers : List (List ℕ) → Option (ℕ × ℕ)
two_numbers [] = None
two_numbers (w ∷ ws) = option_and_then (λ x. option_map (λ y. (x, y)) (one_number ws)) (plan_number w)

-- a name and two numbers
abbrev pub name_numbers : List (List ℕ) → Option (List ℕ × (ℕ × ℕ))
name_numbers [] = None
name_numbers (n ∷ ws) = if is_name n then option_map (λ p. (n, p)) (two_numbers ws) else None

-- ---- the forms

-- what a line of these words says, by its first word
abbrev pub form : List ℕ → List (List ℕ) → Option Item
form w args =
    if bytes_eq w (codes "branch") then (if is_empty args then Some Branch else None)
    else if bytes_eq w (codes "short") then (if is_empty args then Some Short else None)
    else if bytes_eq w (codes "full") then option_map Full (one_number args)
    else if bytes_eq w (codes "refute") then option_map Refute (one_number args)
    else if bytes_eq w (codes "cycle") then option_map (λ ws. Cycle (map value ws)) (some_numbers args)
    else if bytes_eq w (codes "start") then option_map (λ ws. Start (map value ws)) (some_numbers args)
    else if bytes_eq w (codes "table") then option_map (λ t. TableOf t.0 t.1) (number_names args)
    else if bytes_eq w (codes "mode") then option_map ModeNamed (only_name args)
    else if bytes_eq w (codes "ttw") then (if is_one args then Some Head else None)
    else if bytes_eq w (codes "none") then (if is_empty args then Some Absent else None)
    else if bytes_eq w (codes "schedule") then option_map ScheduleOf (one_number args)
    else if bytes_eq w (codes "task") then option_map (λ t. TaskAt t.0 t.1) (name_number args)
    else if bytes_eq w (codes "message") then option_map (λ t. MessageAt t.0 t.1.0 t.1.1) (name_numbers args)
    else if bytes_eq w (codes "end") then (if is_empty args then Some End else None)
    else None

-- what a line of these words says
abbrev pub item_of_words : List (List ℕ) → Option Item
item_of_words [] = None
item_of_words (w ∷ args) = form w args

-- what a line says, without its line feed, where it has one of the forms
abbrev pub item_of : List ℕ → Option Item
item_of line = item_of_words (parts line)
