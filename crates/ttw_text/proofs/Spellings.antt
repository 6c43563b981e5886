-- Spellings a digit at a time, and what they read as.
use Rattle.std.proofs.Common.{◌≡◌, ℕ, zero, suc, ◌+◌, ◌/◌, ◌%◌, ◌^◌, ◌<◌, ◌≤◌, ◌↔◌, Bool, true, false, ltb, eqb, ◌&&◌, List, [], ◌∷◌, ◌++◌, length, get_or, Option, Some, None, ℤ, pos, negsuc, int_le, unsigned_abs, refl, sym, ap, ◌∙◌, inl, inr, arith, length-append, subst}
use Rattle.std.proofs.lemmas.Bool.{cases_lt, lt-ltb, le-ltb, ltb-true, le-leb, and_parts, and_from, or_cases, or_left, or_right, eqb-true, eq-eqb, cases_Bool, cond-true, cond-false, false≢true}
use Rattle.std.proofs.lemmas.Int.Digits.{digits_value_push}
use Rattle.std.proofs.lemmas.List.{get_or_append_left}
use Rattle.std.proofs.lemmas.Str.Parse.{IsNumeralModel, numerals_by_value, tells_all_ascii_digits}
use Rattle.std.proofs.lemmas.Fmt.{decimal_by_steps_wide, decimal-digits_value, length-decimal-le_wide}
use Rattle.std.proofs.lemmas.Str.{digit_value_digit}
use lib.Dec.{leb-zero}
use Rattle.std.specs.Char.{digit_value}
use Rattle.std.specs.Fmt.{decimal}
use Rattle.std.specs.Str.{all_ascii_digits}
use Rattle.std.specs.Str.Parse.{digits_value}
use Rattle.ttw_text.specs.Numbers.{digits_in, spelled, signed_spelled, is_numeral, number_of}

digits_in_digit : (most n : ℕ) → n < 10 → digits_in (suc most) n ≡ (48 + n) ∷ []
digits_in_digit most n small =
    ap
    (λ (b : Bool). elim b as (λ _. List ℕ) [ true ↦ (48 + n) ∷ [] | false ↦ digits_in most (n / 10) ++ (48 + n % 10) ∷ [] ])
    (lt-ltb n 10 small)

digits_in_step : (most n : ℕ) → 10 ≤ n → digits_in (suc most) n ≡ digits_in most (n / 10) ++ (48 + n % 10) ∷ []
digits_in_step most n big =
    ap
    (λ (b : Bool). elim b as (λ _. List ℕ) [ true ↦ (48 + n) ∷ [] | false ↦ digits_in most (n / 10) ++ (48 + n % 10) ∷ [] ])
    (le-ltb n 10 big)

-- more room than a number needs changes nothing
digits_in_room : (most other n : ℕ) → n < most → n < other → digits_in most n ≡ digits_in other n
digits_in_room zero other n few many = absurd (omega arith)
digits_in_room (suc most) zero n few many = absurd (omega arith)
digits_in_room (suc most) (suc other) n few many =
    elim (cases_lt n 10) [
      | inl small ↦ digits_in_digit most n small ∙ sym (digits_in_digit other n small)
      | inr big ↦
          digits_in_step most n big
          ∙ ap (λ (ds : List ℕ). ds ++ (48 + n % 10) ∷ []) (digits_in_room most other (n / 10) (omega arith) (omega arith))
          ∙ sym (digits_in_step other n big)
    ]

pub spelled_digit : (n : ℕ) → n < 10 → spelled n ≡ (48 + n) ∷ []
unfolding spelled
spelled_digit n small = let e : n + 1 ≡ suc n = omega arith in ap (λ (most : ℕ). digits_in most n) e ∙ digits_in_digit n n small

pub spelled_step : (n : ℕ) → 10 ≤ n → spelled n ≡ spelled (n / 10) ++ (48 + n % 10) ∷ []
unfolding spelled
spelled_step n big =
    let e : n + 1 ≡ suc n = omega arith in
    ap (λ (most : ℕ). digits_in most n) e
    ∙ digits_in_step n n big
    ∙ ap (λ (ds : List ℕ). ds ++ (48 + n % 10) ∷ []) (digits_in_room n (n / 10 + 1) (n / 10) (omega arith) (omega arith))

-- the same spelling as the one that std prints
pub spelled-decimal : (n : ℕ) → n < 10 ^ 64 → spelled n ≡ decimal n
spelled-decimal n fits = decimal_by_steps_wide (λ m ds. spelled m ≡ ds) spelled_digit step n fits
  where
    step : (m : ℕ) (ds : List ℕ) → 10 ≤ m → spelled (m / 10) ≡ ds → spelled m ≡ ds ++ (48 + m % 10) ∷ []
    step m ds big e = spelled_step m big ∙ ap (λ (front : List ℕ). front ++ (48 + m % 10) ∷ []) e

-- these digits spell this number
pub record Spells (n : ℕ) (ds : List ℕ) : Type 0 where
  pub value : digits_value 10 ds ≡ n
  pub digits : all_ascii_digits ds ≡ true
  pub some : 0 < length ds
  pub first : 0 < n → 48 < get_or ds 0 0
  pub alone : n ≡ 0 → length ds ≡ 1

all_digits_push : (ds : List ℕ) (d : ℕ) → d < 10 → all_ascii_digits ds ≡ true → all_ascii_digits (ds ++ (48 + d) ∷ []) ≡ true
all_digits_push [] d small all = and_from _ _ (and_from _ _ (le-leb 48 (48 + d) (omega arith)) (le-leb (48 + d) 57 (omega arith))) refl
all_digits_push (c ∷ cs) d small all = and_from _ _ (and_parts _ _ all).0 (all_digits_push cs d small (and_parts _ _ all).1)

value_of_digit : (d : ℕ) → d < 10 → digit_value (48 + d) ≡ d
value_of_digit d small = omega (arith, digit_value_digit (48 + d) (omega arith, omega arith))

spells_digit : (n : ℕ) → n < 10 → Spells n ((48 + n) ∷ [])
spells_digit n small = record {
  value = omega (arith, value_of_digit n small);
  digits = all_digits_push [] n small refl;
  some = omega arith;
  first = λ above. omega arith;
  alone = λ none. refl;
}

spells_step : (n : ℕ) (ds : List ℕ) → 10 ≤ n → Spells (n / 10) ds → Spells n (ds ++ (48 + n % 10) ∷ [])
spells_step n ds big front = record {
  value = omega (arith, digits_value_push 10 ds (48 + n % 10), front.value, value_of_digit (n % 10) (omega arith));
  digits = all_digits_push ds (n % 10) (omega arith) front.digits;
  some = omega (arith, length-append ds ((48 + n % 10) ∷ []), front.some);
  first = λ above. omega (arith, get_or_append_left ds ((48 + n % 10) ∷ []) 0 0 front.some, front.first (omega arith));
  alone = λ none. absurd (omega arith);
}

spells_in : (most n : ℕ) → n < most → Spells n (spelled n)
spells_in zero n few = absurd (omega arith)
spells_in (suc most) n few =
    elim (cases_lt n 10) [
      | inl small ↦ let P : List ℕ → Type 0 = λ ds. Spells n ds in subst P (sym (spelled_digit n small)) (spells_digit n small)
      | inr big ↦ let P : List ℕ → Type 0 = λ ds. Spells n ds in subst P (sym (spelled_step n big)) (spells_step n (spelled (n / 10)) big (spells_in most (n / 10) (omega arith)))
    ]

pub spelled_spells : (n : ℕ) → Spells n (spelled n)
spelled_spells n = spells_in (n + 1) n (omega arith)

pub spelled_injective : (m n : ℕ) → spelled m ≡ spelled n → m ≡ n
spelled_injective m n same = sym (spelled_spells m).value ∙ ap (digits_value 10) same ∙ (spelled_spells n).value

-- a minus is no digit
not_minus : (n : ℕ) (ds : List ℕ) → spelled n ≡ 45 ∷ ds → ⊥
not_minus n ds e = false≢true (sym (ap all_ascii_digits e) ∙ (spelled_spells n).digits)

pub signed_spelled_injective : (y z : ℤ) → signed_spelled y ≡ signed_spelled z → y ≡ z
signed_spelled_injective (pos m) (pos n) same = ap pos (spelled_injective m n same)
signed_spelled_injective (pos m) (negsuc n) same = absurd (not_minus m (spelled (suc n)) same)
signed_spelled_injective (negsuc m) (pos n) same = absurd (not_minus n (spelled (suc m)) (sym same))
signed_spelled_injective (negsuc m) (negsuc n) same =
    let rest : spelled (suc m) ≡ spelled (suc n) = cc in
    let e : m ≡ n = omega (arith, spelled_injective (suc m) (suc n) rest) in
    ap negsuc e

-- ---- what is read

is_numeral_from : (n : ℕ) (ds : List ℕ) → Spells n ds → is_numeral ds ≡ true
is_numeral_from n [] spells = absurd (omega (arith, spells.some))
is_numeral_from n (c ∷ cs) spells =
    and_from _ _ spells.digits
    (elim (cases_lt 0 n) [
      | inl above ↦ or_left _ _ (lt-ltb 48 c (spells.first above))
      | inr none ↦ or_right _ _ (eq-eqb (length cs) 0 (omega (arith, spells.alone (omega arith))))
    ])

pub number_of-spelled : (n : ℕ) → n < 2 ^ 64 → number_of (spelled n) ≡ Some n
number_of-spelled n fits =
    let spells = spelled_spells n in
    let small : digits_value 10 (spelled n) < 2 ^ 64 = omega (arith, spells.value) in
    cond-true _ _ _ (and_from _ _ (is_numeral_from n (spelled n) spells) (lt-ltb _ _ small)) ∙ ap Some spells.value

no_leading_zero : (ds : List ℕ) → is_numeral ds ≡ true → (all_ascii_digits ds ≡ true) × (0 < length ds) × (get_or ds 0 0 ≡ 48 → length ds ≡ 1)
no_leading_zero [] numeral = absurd (false≢true numeral)
no_leading_zero (c ∷ cs) numeral =
    let parts = and_parts _ _ numeral in (
      parts.0,
      omega arith,
      λ zero_first. elim (or_cases (ltb 48 c) (eqb (length cs) 0) parts.1) [
        | inl above ↦ absurd (omega (arith, ltb-true 48 c above))
        | inr alone ↦ omega (arith, eqb-true (length cs) 0 alone)
      ],
    )

all_digits_model : IsNumeralModel (λ ds. all_ascii_digits ds ≡ true) (digits_value 10)
all_digits_model = numerals_by_value _ tells_all_ascii_digits

pub numeral_is_spelled : (text : List ℕ) → is_numeral text ≡ true → digits_value 10 text < 2 ^ 64 → text ≡ spelled (digits_value 10 text)
numeral_is_spelled text numeral fits =
    let parts = no_leading_zero text numeral in
    sym (spelled-decimal (digits_value 10 text) (omega arith) ∙ decimal-digits_value all_digits_model text parts.0 parts.1 parts.2 fits)

pub number_of-only : (text : List ℕ) (n : ℕ) → number_of text ≡ Some n → (text ≡ spelled n) × (n < 2 ^ 64)
number_of-only text n read =
    elim (cases_Bool (is_numeral text && ltb (digits_value 10 text) (2 ^ 64))) [
      | inl passes ↦
          let value : digits_value 10 text ≡ n = let e : Some (digits_value 10 text) ≡ Some n = sym (cond-true _ _ _ passes) ∙ read in cc in
          let parts = and_parts _ _ passes in
          let fits : digits_value 10 text < 2 ^ 64 = ltb-true _ _ parts.1 in
          (numeral_is_spelled text parts.0 fits ∙ ap spelled value, omega arith)
      | inr fails ↦ let none : Option ℕ = None in let e : none ≡ Some n = sym (cond-false _ _ _ fails) ∙ read in absurd cc
    ]

-- ---- how long a spelling is

pub length-spelled_digit : (n : ℕ) → n < 10 → length (spelled n) ≡ 1
length-spelled_digit n small = ap length (spelled_digit n small)

pub length-spelled_step : (n : ℕ) → 10 ≤ n → length (spelled n) ≡ length (spelled (n / 10)) + 1
length-spelled_step n big = ap length (spelled_step n big) ∙ length-append _ _

pub length-spelled-le : (most n : ℕ) → 0 < most → n < 10 ^ most → n < 10 ^ 64 → length (spelled n) ≤ most
length-spelled-le most n some fits wide = omega (arith, ap length (spelled-decimal n wide), length-decimal-le_wide most n some fits wide)

-- ---- what `read_u64` answers

pub reads_spelling : (text : List ℕ) (r : Option ℕ) → r ≡ number_of text → (n : ℕ) → n < 2 ^ 64 → (r ≡ Some n) ↔ (text ≡ spelled n)
reads_spelling text r is n fits = (
  λ some. (number_of-only text n (sym is ∙ some)).0,
  λ same. is ∙ ap number_of same ∙ number_of-spelled n fits,
)

-- ---- what `signed` writes

pub length-spelled_wide : (n : ℕ) → n < 2 ^ 128 → length (spelled n) ≤ 39
length-spelled_wide n fits = length-spelled-le 39 n (omega arith) (omega arith) (omega arith)

pub minus_first : (z : ℤ) → int_le (pos 0) z ≡ false → 45 ∷ spelled (unsigned_abs z) ≡ signed_spelled z
minus_first (pos n) below = absurd (false≢true (sym below ∙ leb-zero n))
minus_first (negsuc n) below = refl
