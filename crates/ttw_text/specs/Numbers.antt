-- The one spelling of a number: its decimal digits without a leading zero.
use Rattle.std.specs.Prelude.{ℕ, zero, suc, ◌+◌, ◌/◌, ◌%◌, ◌^◌, Bool, true, false, ◌&&◌, ◌||◌, ◌==◌, nat_lt, nat_le, List, [], ◌∷◌, ◌++◌, length, Option, Some, None, if◌then◌else◌, ℤ, pos, negsuc}
use Rattle.std.specs.Option.{option_and_then}
use Rattle.std.specs.Str.{all_ascii_digits}
use Rattle.std.specs.Str.Parse.{digits_value}

-- the digits of a number that has at most so many
abbrev pub digits_in : ℕ → ℕ → List ℕ
digits_in zero n = []
digits_in (suc most) n =
    elim (nat_lt n 10) as (λ _. List ℕ) [
      | true ↦ (48 + n) ∷ []
      | false ↦ digits_in most (n / 10) ++ (48 + n % 10) ∷ []
    ]

-- the spelling of a number
unfoldable pub spelled : ℕ → List ℕ
spelled n = digits_in (n + 1) n

-- the spelling of a signed number: a minus stands before one below 0
abbrev pub signed_spelled : ℤ → List ℕ
signed_spelled (pos n) = spelled n
signed_spelled (negsuc n) = 45 ∷ spelled (suc n)

-- one digit or more, and no leading zero but `0` itself
abbrev pub is_numeral : List ℕ → Bool
is_numeral [] = false
is_numeral (c ∷ cs) = all_ascii_digits (c ∷ cs) && (nat_lt 48 c || length cs == 0)

-- the number below 2 ^ 64 that a text spells
abbrev pub number_of : List ℕ → Option ℕ
number_of text = if is_numeral text && nat_lt (digits_value 10 text) (2 ^ 64) then Some (digits_value 10 text) else None

-- the number up to `most` that a text spells
abbrev pub number_up_to : ℕ → List ℕ → Option ℕ
number_up_to most text = option_and_then (λ n. if nat_le n most then Some n else None) (number_of text)
