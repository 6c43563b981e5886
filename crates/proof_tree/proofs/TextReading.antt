-- The text of lines is read back.
use Rattle.std.proofs.Common.{◌≡◌, ℕ, ◌+◌, ◌<◌, ◌≤◌, false, cond, leb, List, [], ◌∷◌, ◌++◌, length, map, Option, Some, None, refl, ap, ◌∙◌, arith, append_assoc, length-append}
use Rattle.std.specs.List.{join_with_byte, slice_split, AllByRecursion}
use Rattle.std.proofs.lemmas.Bool.{cond-true, ne_eqb, le-leb}
use Rattle.std.proofs.lemmas.List.Elements.{All-append, All-cons}
use Rattle.std.proofs.lemmas.List.Splits.{slice_split_at, length-slice_split}
use Rattle.std.specs.Prelude.{All}
use Rattle.ttw_text.specs.Words.{IsWord}
use Rattle.ttw_text.proofs.LineLemmas.{is_feed}
use Rattle.proof_tree.specs.Items.{Item, first_word, other_words, text_of}
use Rattle.proof_tree.specs.Grammar.{item_of}
use Rattle.proof_tree.specs.Spelled.{Says}
use Rattle.proof_tree.specs.TreeLines.{Items}
use Rattle.proof_tree.specs.Accepting.{limit, longest, line_item, items_from}
use Rattle.proof_tree.specs.DocumentLaws.{HasRoom, TextsAreRead}
use Rattle.proof_tree.proofs.LineReading.{said_is_read, first_is_word, others_are_words}

-- no line feed is in it
abbrev Unfed : List ℕ → Type 0
Unfed text = All (λ b. is_feed b ≡ false) text

word_unfed : (word : List ℕ) → IsWord word → Unfed word
word_unfed word is = λ k d below. ne_eqb _ 10 (is k d below).1

joined_unfed : (w : List ℕ) (ws : List (List ℕ)) → IsWord w → AllByRecursion IsWord ws → Unfed (join_with_byte 32 (w ∷ ws))
joined_unfed w [] h hs = word_unfed w h
joined_unfed w (v ∷ vs) h hs =
    All-append (λ b. is_feed b ≡ false) w (32 ∷ join_with_byte 32 (v ∷ vs)) (word_unfed w h)
    (All-cons (λ b. is_feed b ≡ false) 32 (join_with_byte 32 (v ∷ vs)) refl (joined_unfed v vs hs.0 hs.1))

-- a line's item, and then those of the lines behind it
one_line : (at : ℕ) (l : List ℕ) (ls : List (List ℕ)) → 0 < length ls → items_from at (l ∷ ls) ≡ line_item (at + length l + 1) l ∷ items_from (at + length l + 1) ls
one_line at l [] some = absurd (omega arith)
one_line at l (m ∷ ls) some = refl

fitting_line : (end : ℕ) (i : Item) → HasRoom i → end ≤ limit → line_item end (join_with_byte 32 (first_word i ∷ other_words i)) ≡ Some i
fitting_line end i room le =
    let l = join_with_byte 32 (first_word i ∷ other_words i) in
    let says : Says l i = record { words = refl; writable = room.writable } in
    cond-true (leb (length l) longest) (cond (leb end limit) (item_of l) None) None (le-leb (length l) longest room.short)
    ∙ cond-true (leb end limit) (item_of l) None (le-leb end limit le)
    ∙ said_is_read l i says

text_back : (items : List Item) (at : ℕ) → AllByRecursion HasRoom items → at + length (text_of items) ≤ limit → items_from at (slice_split is_feed (text_of items)) ≡ map Some items
text_back [] at room le = refl
text_back (i ∷ items) at room le =
    let l = join_with_byte 32 (first_word i ∷ other_words i) in
    let rest = text_of items in
    let split : slice_split is_feed ((l ++ 10 ∷ []) ++ rest) ≡ l ∷ slice_split is_feed rest =
    ap (slice_split is_feed) (append_assoc l (10 ∷ []) rest)
    ∙ slice_split_at is_feed l 10 rest (joined_unfed (first_word i) (other_words i) (first_is_word i) (others_are_words i room.0.writable)) refl in
    let some : 0 < length (slice_split is_feed rest) = omega (arith, length-slice_split is_feed rest) in
    let whole : length ((l ++ 10 ∷ []) ++ rest) ≡ length l + 1 + length rest = length-append (l ++ 10 ∷ []) rest ∙ ap (λ (n : ℕ). n + length rest) (length-append l (10 ∷ [])) in
    let here : at + length l + 1 ≤ limit = omega (arith, le, whole) in
    let behind : at + length l + 1 + length rest ≤ limit = omega (arith, le, whole) in
    ap (items_from at) split
    ∙ one_line at l (slice_split is_feed rest) some
    ∙ ap (λ (o : Option Item). o ∷ items_from (at + length l + 1) (slice_split is_feed rest)) (fitting_line (at + length l + 1) i room.0 here)
    ∙ ap (λ (os : Items). Some i ∷ os) (text_back items (at + length l + 1) room.1 behind)

pub texts_are_read : TextsAreRead
texts_are_read items room le = text_back items 0 room (omega (arith, le))
