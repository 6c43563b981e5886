-- The words of a line.
use Rattle.std.specs.Prelude.{◌≡◌, ℕ, ◌==◌, ◌≢◌, Bool, true, false, List, [], ◌∷◌, Option, Some, None, All, if◌then◌else◌}
use Rattle.std.specs.List.{slice_split}
use Rattle.std.specs.Option.{option_and_then}
use Rattle.ttw_text.specs.Names.{is_name}
use Rattle.ttw_text.specs.Numbers.{number_of, number_up_to}

-- the parts between single spaces: an empty line has one empty part
abbrev pub parts : List ℕ → List (List ℕ)
parts line = slice_split (λ b. b == 32) line

-- the parts of a line that is left, if one is
abbrev pub parts_left : Option (List ℕ) → List (List ℕ)
parts_left None = []
parts_left (Some line) = parts line

-- it has neither a space nor a line feed
abbrev pub IsWord : List ℕ → Type 0
IsWord text = All (λ b. (b ≢ 32) × (b ≢ 10)) text

-- there are no words
abbrev pub is_empty : List (List ℕ) → Bool
is_empty [] = true
is_empty (word ∷ words) = false

-- the word, where there is one and no more
abbrev pub only : List (List ℕ) → Option (List ℕ)
only (word ∷ []) = Some word
only words = None

-- the word, where there is one and no more, and it is a name
abbrev pub only_name : List (List ℕ) → Option (List ℕ)
only_name words = option_and_then (λ word. if is_name word then Some word else None) (only words)

-- the first part of a line spells this number, and these parts come after it
pub record Fronts (line : List ℕ) (number : ℕ) (others : List (List ℕ)) : Type 0 where
  pub word : List ℕ
  pub first : parts line ≡ word ∷ others
  pub spells : number_of word ≡ Some number

-- the first part is taken: this is the number that it spells, where that is at most the limit
pub record TakesNumber (most : ℕ) (old new : List (List ℕ)) (number : Option ℕ) : Type 0 where
  pub word : List ℕ
  pub first : old ≡ word ∷ new
  pub spells : number ≡ number_up_to most word
