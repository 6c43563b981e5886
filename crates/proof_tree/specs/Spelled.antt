-- Which lines say what: the grammar as a relation.
use Rattle.std.specs.Prelude.{◌≡◌, ℕ, ◌↔◌, Bool, true, ◌&&◌, nat_lt, nat_le, List, ◌∷◌, length, Some}
use Rattle.std.specs.List.{list_all, join_with_byte}
use Rattle.ttw_text.specs.Names.{is_name}
use Rattle.proof_tree.specs.Items.{Item, Head, ModeNamed, Refute, Branch, Short, Full, Cycle, ScheduleOf, Start, TaskAt, MessageAt, TableOf, Absent, End, first_word, other_words}
use Rattle.proof_tree.specs.Grammar.{greatest, item_of}

-- a number is within a document's limit
abbrev pub fits : ℕ → Bool
fits n = nat_le n greatest

-- its names are names, its numbers are within the limit, and a cycle and a list of starts have one or more
abbrev pub is_writable : Item → Bool
is_writable Head = true
is_writable (ModeNamed name) = is_name name
is_writable (Refute rounds) = fits rounds
is_writable Branch = true
is_writable Short = true
is_writable (Full round) = fits round
is_writable (Cycle refs) = nat_lt 0 (length refs) && list_all fits refs
is_writable (ScheduleOf rounds) = fits rounds
is_writable (Start times) = nat_lt 0 (length times) && list_all fits times
is_writable (TaskAt name offset) = is_name name && fits offset
is_writable (MessageAt name opens closes) = is_name name && (fits opens && fits closes)
is_writable (TableOf round names) = fits round && list_all is_name names
is_writable Absent = true
is_writable End = true

-- the line, without its line feed, is the words of this meaning, separated by one space
pub record Says (line : List ℕ) (item : Item) : Type 0 where
  pub words : line ≡ join_with_byte 32 (first_word item ∷ other_words item)
  pub writable : is_writable item ≡ true

-- what a line is read as is what it says, and a line says one thing at most
abbrev pub LinesAreExact : Type 0
LinesAreExact = (line : List ℕ) (item : Item) → (item_of line ≡ Some item) ↔ Says line item
