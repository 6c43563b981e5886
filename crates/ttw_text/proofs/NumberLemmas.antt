-- Reading the digits of a number from the left.
use Rattle.std.proofs.Common.{◌≡◌, ℕ, ◌+◌, ◌-◌, ◌*◌, ◌^◌, ◌<◌, ◌≤◌, Bool, true, false, ltb, ◌&&◌, cond, leb, List, [], ◌∷◌, length, get_or, drop, Option, Some, None, sym, ap, ◌∙◌, arith}
use Rattle.std.proofs.lemmas.Bool.{cond-true, cond-false, lt-ltb, le-ltb, leb-true, and_parts, and_right}
use Rattle.std.proofs.lemmas.List.{drop_more, drop_all}
use Rattle.std.proofs.lemmas.Str.{digit_value_digit}
use Rattle.std.specs.Char.{digit_value, is_ascii_digit}
use Rattle.std.specs.Str.{all_ascii_digits}
use Rattle.std.specs.Str.Parse.{digits_value_after}

-- the number below 2 ^ 64 that these digits give after those of n
abbrev pub read_on : ℕ → List ℕ → Option ℕ
read_on n ds = cond (all_ascii_digits ds && ltb (digits_value_after 10 n ds) (2 ^ 64)) (Some (digits_value_after 10 n ds)) None

pub read_on_digit : (n c : ℕ) (cs : List ℕ) → is_ascii_digit c ≡ true → read_on n (c ∷ cs) ≡ read_on (n * 10 + digit_value c) cs
read_on_digit n c cs digit =
    ap (λ (b : Bool). cond ((b && all_ascii_digits cs) && ltb (digits_value_after 10 n (c ∷ cs)) (2 ^ 64)) (Some (digits_value_after 10 n (c ∷ cs))) None) digit

pub read_on_other : (n c : ℕ) (cs : List ℕ) → is_ascii_digit c ≡ false → read_on n (c ∷ cs) ≡ None
read_on_other n c cs other =
    ap (λ (b : Bool). cond ((b && all_ascii_digits cs) && ltb (digits_value_after 10 n (c ∷ cs)) (2 ^ 64)) (Some (digits_value_after 10 n (c ∷ cs))) None) other

value_after-ge : (n : ℕ) (ds : List ℕ) → n ≤ digits_value_after 10 n ds
value_after-ge n [] = omega arith
value_after-ge n (c ∷ cs) = omega (arith, value_after-ge (n * 10 + digit_value c) cs)

pub read_on_over : (n : ℕ) (ds : List ℕ) → 2 ^ 64 ≤ n → read_on n ds ≡ None
read_on_over n ds over = cond-false _ _ _ (and_right (all_ascii_digits ds) _ (le-ltb _ _ (omega (arith, value_after-ge n ds))))

pub read_on_end : (n : ℕ) → n < 2 ^ 64 → read_on n [] ≡ Some n
read_on_end n fits = cond-true _ _ _ (lt-ltb n (2 ^ 64) fits)

-- the digit at this place takes the number past 64 bits
pub over_at : (value i : ℕ) (ds : List ℕ) → i < length ds → is_ascii_digit (get_or ds i 0) ≡ true →
    2 ^ 64 ≤ value * 10 + (get_or ds i 0 - 48) → read_on value (drop i ds) ≡ read_on 0 ds → None ≡ read_on 0 ds
over_at value i ds within digit over so_far =
    let c = get_or ds i 0 in
    let range = and_parts (leb 48 c) (leb c 57) digit in
    let is : digit_value c + 48 ≡ c = digit_value_digit c (leb-true 48 c range.0, leb-true c 57 range.1) in
    sym (
    sym so_far
    ∙ ap (read_on value) (drop_more ds i 0 within)
    ∙ read_on_digit value c (drop (i + 1) ds) digit
    ∙ read_on_over (value * 10 + digit_value c) (drop (i + 1) ds) (omega arith)
    )

pub end_at : (value i : ℕ) (ds : List ℕ) → length ds ≤ i → value < 2 ^ 64 → read_on value (drop i ds) ≡ read_on 0 ds → Some value ≡ read_on 0 ds
end_at value i ds past fits so_far = sym (read_on_end value fits) ∙ sym (ap (read_on value) (drop_all i ds past)) ∙ so_far
