-- The number at the front of a line.
use Rattle.std.proofs.Common.{◌≡◌, ◌≢◌, ℕ, zero, suc, ◌+◌, ◌-◌, ◌*◌, ◌^◌, ◌<◌, ◌≤◌, Bool, true, ltb, leb, eqb, ◌&&◌, ◌||◌, cond, List, [], ◌∷◌, ◌++◌, length, get_or, take, drop, Some, None, refl, sym, ap, ◌∙◌, ◌⊎◌, arith}
use Rattle.std.proofs.lemmas.Bool.{cond-true, lt-ltb, leb-true, and_parts}
use Rattle.std.proofs.lemmas.List.{take_more, drop_more, take-append-drop, take_all}
use Rattle.std.proofs.lemmas.Str.{digit_value_digit}
use Rattle.std.specs.Char.{digit_value, is_ascii_digit}
use Rattle.std.specs.Str.{all_ascii_digits}
use Rattle.std.specs.Str.Parse.{digits_value, digits_value_after}
use Rattle.ttw_text.specs.Numbers.{number_of}
use Rattle.ttw_text.specs.Words.{Fronts, parts}
use Rattle.ttw_text.proofs.WordLemmas.{digits_are_word, parts-append, parts_alone}

value_push : (n c : ℕ) (cs : List ℕ) → digits_value_after 10 n (cs ++ c ∷ []) ≡ digits_value_after 10 n cs * 10 + digit_value c
value_push n c [] = refl
value_push n c (d ∷ ds) = value_push (n * 10 + digit_value d) c ds

digits_push : (c : ℕ) (cs : List ℕ) → all_ascii_digits cs ≡ true → is_ascii_digit c ≡ true → all_ascii_digits (cs ++ c ∷ []) ≡ true
digits_push c [] all digit = ap (λ (b : Bool). b && true) digit
digits_push c (d ∷ ds) all digit =
    let here = and_parts (is_ascii_digit d) (all_ascii_digits ds) all in
    ap (λ (b : Bool). b && all_ascii_digits (ds ++ c ∷ [])) here.0 ∙ digits_push c ds here.1 digit

-- so many digits stand at the front, and write this number
pub record FrontDigits (line : List ℕ) (at value : ℕ) : Type 0 where
  pub digits : all_ascii_digits (take at line) ≡ true
  pub writes : value ≡ digits_value 10 (take at line)
  pub within : at ≤ length line

-- one digit more
pub digit_more : (line : List ℕ) (at value : ℕ) → at < length line → is_ascii_digit (get_or line at 0) ≡ true → FrontDigits line at value →
    FrontDigits line (at + 1) (value * 10 + (get_or line at 0 - 48))
digit_more line at value below digit front =
    let c = get_or line at 0 in
    let range = and_parts (leb 48 c) (leb c 57) digit in
    let is : digit_value c + 48 ≡ c = digit_value_digit c (leb-true 48 c range.0, leb-true c 57 range.1) in
    let more : take (at + 1) line ≡ take at line ++ c ∷ [] = take_more line at 0 below in
    let push = value_push 0 c (take at line) in
    record {
      digits = ap all_ascii_digits more ∙ digits_push c (take at line) front.digits digit;
      writes = sym (ap (digits_value 10) more ∙ (let e : digits_value_after 10 0 (take at line ++ c ∷ []) ≡ value * 10 + (c - 48) = omega (arith, push, is, front.writes) in e));
      within = omega (arith, below);
    }

-- digits without a leading zero but 0 itself spell their number
numeral : (line : List ℕ) (at value : ℕ) → FrontDigits line at value → 1 ≤ at → value < 2 ^ 64 → (at ≤ 1 ⊎ (get_or line 0 0 ≢ 48)) → number_of (take at line) ≡ Some value
numeral line zero value front some fits zeros = absurd (omega (arith, some))
numeral [] (suc k) value front some fits zeros = absurd (omega (arith, front.within))
numeral (c ∷ cs) (suc k) value front some fits zeros =
    let here = and_parts (is_ascii_digit c) (all_ascii_digits (take k cs)) front.digits in
    let range = and_parts (leb 48 c) (leb c 57) here.0 in
    let low : 48 ≤ c = leb-true 48 c range.0 in
    let lead : (ltb 48 c || eqb (length (take k cs)) 0) ≡ true = leads low zeros in
    ap (λ (b : Bool). cond ((all_ascii_digits (c ∷ take k cs) && b) && ltb (digits_value 10 (c ∷ take k cs)) (2 ^ 64)) (Some (digits_value 10 (c ∷ take k cs))) None) lead
    ∙ ap (λ (b : Bool). cond ((b && true) && ltb (digits_value 10 (c ∷ take k cs)) (2 ^ 64)) (Some (digits_value 10 (c ∷ take k cs))) None) front.digits
    ∙ ap (λ n. cond (ltb n (2 ^ 64)) (Some n) None) (sym front.writes)
    ∙ cond-true _ _ _ (lt-ltb value (2 ^ 64) fits)
  where
    leads : 48 ≤ c → (suc k ≤ 1 ⊎ (c ≢ 48)) → (ltb 48 c || eqb (length (take k cs)) 0) ≡ true
    leads low zeros = grind (arith, low, zeros)

-- a line that is digits
pub all_front : (line : List ℕ) (at value : ℕ) → FrontDigits line at value → 1 ≤ at → value < 2 ^ 64 → (at ≤ 1 ⊎ (get_or line 0 0 ≢ 48)) → at ≡ length line → Fronts line value []
all_front line at value front some fits zeros whole = record {
  word = take at line;
  first = let same = take_all at line (omega (arith, whole)) in ap parts (sym same) ∙ parts_alone (take at line) (digits_are_word (take at line) front.digits);
  spells = numeral line at value front some fits zeros;
}

-- digits with a space behind them
pub part_front : (line : List ℕ) (at value : ℕ) → FrontDigits line at value → 1 ≤ at → value < 2 ^ 64 → (at ≤ 1 ⊎ (get_or line 0 0 ≢ 48)) → at < length line → get_or line at 0 ≡ 32 → Fronts line value (parts (drop (at + 1) line))
part_front line at value front some fits zeros below space =
    let cut : line ≡ take at line ++ 32 ∷ drop (at + 1) line = sym (take-append-drop at line) ∙ ap (λ (r : List ℕ). take at line ++ r) (drop_more line at 0 below ∙ ap (λ b. b ∷ drop (at + 1) line) space) in
    record {
      word = take at line;
      first = ap parts cut ∙ parts-append (take at line) (drop (at + 1) line) (digits_are_word (take at line) front.digits);
      spells = numeral line at value front some fits zeros;
    }
