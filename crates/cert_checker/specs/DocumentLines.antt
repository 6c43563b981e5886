-- The lines of a document's bytes, each as it is cut off
use Rattle.std.specs.Prelude.{ℕ, ◌+◌, List, [], ◌∷◌, length, Option}
use Rattle.std.specs.Option.{option_and_then}
use Rattle.ttw_text.specs.Lines.{without_feed}
use Rattle.proof_tree.specs.Items.{Item}
use Rattle.proof_tree.specs.TreeLines.{Items}
use Rattle.proof_tree.specs.Accepting.{line_item}

-- what a line says that ends at this place, its line feed included; without one it has no form
abbrev pub line_read : ℕ → List ℕ → Option Item
line_read end line = option_and_then (line_item end) (without_feed line)

-- what the lines say that begin at this place
abbrev pub items_left : ℕ → List (List ℕ) → Items
items_left at [] = []
items_left at (line ∷ lines) = line_read (at + length line) line ∷ items_left (at + length line) lines
