-- Lists of numbers, and divisors
use Rattle.std.specs.Prelude.{ℕ, zero, suc, ◌%◌, Bool, true, not, ◌&&◌, cond, nat_eq, List, [], ◌∷◌, ◌++◌, ℤ, pos, negsuc, ◌+ℤ◌, ◌-ℤ◌}
use Rattle.std.specs.List.{list_any}

-- the numbers below n, ascending
abbrev pub below : ℕ → List ℕ
below zero = []
below (suc n) = below n ++ n ∷ []

-- x stands in the list
abbrev pub has : List ℕ → ℕ → Bool
has xs x = list_any (nat_eq x) xs

-- no number stands twice in the list
abbrev pub distinct : List ℕ → Bool
distinct [] = true
distinct (x ∷ xs) = not (has xs x) && distinct xs

-- a whole number, where a negative one counts as 0
abbrev pub natural : ℤ → ℕ
natural (pos n) = n
natural (negsuc n) = 0

-- n whole numbers from low on, ascending
abbrev pub counted : ℤ → ℕ → List ℤ
counted low zero = []
counted low (suc n) = low ∷ counted (low +ℤ pos 1) n

-- the whole numbers from low to high, ascending; none where low is above high
abbrev pub span : ℤ → ℤ → List ℤ
span low high = counted low (natural (high +ℤ pos 1 -ℤ low))

-- the greatest of 1 to n that divides both
abbrev pub divisor_below : ℕ → ℕ → ℕ → ℕ
divisor_below zero a b = 1
divisor_below (suc n) a b = cond (nat_eq (a % suc n) 0 && nat_eq (b % suc n) 0) (suc n) (divisor_below n a b)

-- the greatest common divisor of two positive numbers
abbrev pub gcd : ℕ → ℕ → ℕ
gcd a b = divisor_below a a b
