-- The first part of a line, by the place of its space.
use Rattle.std.proofs.Common.{◌≡◌, ◌≢◌, ℕ, zero, suc, ◌+◌, ◌<◌, ◌≤◌, Bool, true, false, not, eqb, leb, List, [], ◌∷◌, ◌++◌, length, take, drop, Option, Some, None, Bor, refl, sym, ap, ◌∙◌, arith}
use Rattle.std.proofs.lemmas.Bool.{leb-true, ne_eqb, and_parts, false≢true}
use Rattle.std.proofs.lemmas.List.Splits.{slice_split_none, slice_split_first, slice_split_at, length-slice_split}
use Rattle.std.proofs.lemmas.List.Sums.{fails_before_first, AllPass-from_list_all}
use Rattle.std.specs.List.{position}
use Rattle.std.specs.Option.{is_some, option_copied}
use Rattle.std.specs.Str.{all_ascii_digits}
use Rattle.ttw_text.specs.Names.{is_name, is_name_byte}
use Rattle.ttw_text.specs.Numbers.{spelled}
use Rattle.ttw_text.specs.Words.{parts, parts_left, IsWord, is_empty}
use Rattle.ttw_text.proofs.PlaceLemmas.{place_is, none_passes}
use Rattle.ttw_text.proofs.Spellings.{spelled_spells}

abbrev pub is_space : ℕ → Bool
is_space b = eqb b 32

pub parts_at : (line : List ℕ) (at : ℕ) → position is_space line ≡ Some at → parts line ≡ take at line ∷ parts (drop (at + 1) line)
parts_at line at found = let place = place_is is_space line at found in rw (← place.1) (slice_split_first is_space line 0 place.0)

pub parts_at_end : (line : List ℕ) → position is_space line ≡ None → parts line ≡ line ∷ []
parts_at_end line none =
    let long = none_passes is_space line none in
    slice_split_none is_space line (λ k d below. fails_before_first is_space line k d (omega arith))

-- a line has a part, so none is left exactly where no line is
some_part : (ps : List (List ℕ)) → 0 < length ps → false ≡ is_empty ps
some_part [] some = absurd (omega arith)
some_part (p ∷ ps) some = refl

pub none_left : (line : Option (Bor (List ℕ))) (none : Bool) → is_some line ≡ not none → none ≡ is_empty (parts_left (option_copied line))
none_left None true e = refl
none_left None false e = absurd cc
none_left (Some line) true e = absurd cc
none_left (Some line) false e = some_part (parts line.now) (omega (arith, length-slice_split is_space line.now))

-- ---- the laws of words

pub parts-append : (word rest : List ℕ) → IsWord word → parts (word ++ 32 ∷ rest) ≡ word ∷ parts rest
parts-append word rest is = slice_split_at is_space word 32 rest (λ k d below. ne_eqb _ 32 (is k d below).0) refl

pub parts_alone : (word : List ℕ) → IsWord word → parts word ≡ word ∷ []
parts_alone word is = slice_split_none is_space word (λ k d below. ne_eqb _ 32 (is k d below).0)

name_byte_not : (b other : ℕ) → is_name_byte b ≡ true → is_name_byte other ≡ false → b ≢ other
name_byte_not b other may may_not same = false≢true (sym may_not ∙ ap is_name_byte (sym same) ∙ may)

pub name_is_word : (text : List ℕ) → is_name text ≡ true → IsWord text
name_is_word text name =
    let pass = AllPass-from_list_all is_name_byte text (and_parts _ _ name).1 in
    λ k d below. (name_byte_not _ 32 (pass k d below) refl, name_byte_not _ 10 (pass k d below) refl)

pub digits_are_word : (ds : List ℕ) → all_ascii_digits ds ≡ true → IsWord ds
digits_are_word [] all = λ k d below. absurd (omega arith)
digits_are_word (c ∷ cs) all =
    let here = and_parts _ _ all in
    let range = and_parts (leb 48 c) (leb c 57) here.0 in
    let low : 48 ≤ c = leb-true 48 c range.0 in
    at low (digits_are_word cs here.1)
  where
    at : 48 ≤ c → IsWord cs → IsWord (c ∷ cs)
    at low rest zero d below = (omega arith, omega arith)
    at low rest (suc k) d below = rest k d (omega arith)

pub spelled_is_word : (n : ℕ) → IsWord (spelled n)
spelled_is_word n = digits_are_word (spelled n) (spelled_spells n).digits
