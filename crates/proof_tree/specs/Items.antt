-- What a line of a plan document says, and how it is spelled.
use Rattle.std.specs.Prelude.{ℕ, codes, List, [], ◌∷◌, ◌++◌, map}
use Rattle.std.specs.List.{join_with_byte, flat_map}
use Rattle.ttw_text.specs.Numbers.{spelled}

-- what a line says: the document's head; the name of a mode; a tree for so many rounds, and its nodes;
-- a schedule of so many rounds, its starts, its tasks and messages with their times, and its tables by
-- their numbers; that a mode has no schedule; the document's end
pub data Item : Type 0 where
  Head : Item
  ModeNamed : List ℕ → Item
  Refute : ℕ → Item
  Branch : Item
  Short : Item
  Full : ℕ → Item
  Cycle : List ℕ → Item
  ScheduleOf : ℕ → Item
  Start : List ℕ → Item
  TaskAt : List ℕ → ℕ → Item
  MessageAt : List ℕ → ℕ → ℕ → Item
  TableOf : ℕ → List (List ℕ) → Item
  Absent : Item
  End : Item

-- the first word of the line that says it
abbrev pub first_word : Item → List ℕ
first_word Head = codes "ttw"
first_word (ModeNamed name) = codes "mode"
first_word (Refute rounds) = codes "refute"
first_word Branch = codes "branch"
first_word Short = codes "short"
first_word (Full round) = codes "full"
first_word (Cycle refs) = codes "cycle"
first_word (ScheduleOf rounds) = codes "schedule"
first_word (Start times) = codes "start"
first_word (TaskAt name offset) = codes "task"
first_word (MessageAt name opens closes) = codes "message"
first_word (TableOf round names) = codes "table"
first_word Absent = codes "none"
first_word End = codes "end"

-- the words after it
abbrev pub other_words : Item → List (List ℕ)
other_words Head = codes "1" ∷ []
other_words (ModeNamed name) = name ∷ []
other_words (Refute rounds) = spelled rounds ∷ []
other_words Branch = []
other_words Short = []
other_words (Full round) = spelled round ∷ []
other_words (Cycle refs) = map spelled refs
other_words (ScheduleOf rounds) = spelled rounds ∷ []
other_words (Start times) = map spelled times
other_words (TaskAt name offset) = name ∷ spelled offset ∷ []
other_words (MessageAt name opens closes) = name ∷ spelled opens ∷ spelled closes ∷ []
other_words (TableOf round names) = spelled round ∷ names
other_words Absent = []
other_words End = []

-- a line: words separated by one space, and a line feed
abbrev pub line : List ℕ → List (List ℕ) → List ℕ
line first others = join_with_byte 32 (first ∷ others) ++ 10 ∷ []

-- the line that says it
abbrev pub line_of : Item → List ℕ
line_of item = line (first_word item) (other_words item)

-- the lines that say these, in order
abbrev pub text_of : List Item → List ℕ
text_of items = flat_map line_of items
