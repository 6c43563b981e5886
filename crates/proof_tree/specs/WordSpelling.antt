-- How the words of a line are spelled.
use Rattle.std.specs.Prelude.{ℕ, List, ◌∷◌, map, ℤ, unsigned_abs}
use Rattle.ttw_text.specs.Numbers.{spelled}
use Rattle.proof_tree.specs.declared.words.Word.{Word}
use Rattle.proof_tree.specs.declared.words.Word.TheVariants.{Text, Number}
use Rattle.proof_tree.specs.declared.words.Words.{Words}
use Rattle.proof_tree.specs.declared.words.Words.TheVariants.{Given, Numbers, Times, Table}
use Rattle.proof_tree.specs.Names.{name_of, messages_in}

-- a word
abbrev pub spelling_of : Word → List ℕ
spelling_of (Text text) = text.now
spelling_of (Number n) = spelled n

-- a time, which is not below 0
abbrev pub spelled_time : ℤ → List ℕ
spelled_time time = spelled (unsigned_abs time)

-- the words of a line after its first
abbrev pub spellings_of : Words → List (List ℕ)
spellings_of (Given words) = map spelling_of words.now
spellings_of (Numbers numbers) = map spelled numbers.now
spellings_of (Times times) = map spelled_time times.now
spellings_of (Table round numbers apps) = spelled round ∷ map (name_of (messages_in apps.now)) numbers.now

-- a word after a space
abbrev pub after_space : List ℕ → List ℕ
after_space word = 32 ∷ word
