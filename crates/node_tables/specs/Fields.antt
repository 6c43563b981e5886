-- The fields of an image: the numbers of a format, one after the other, each with its range.
use Rattle.std.specs.Prelude.{◌≡◌, ℕ, ◌≤◌, ℤ, ◌≤ℤ◌, List, [], ◌∷◌}
use Rattle.std.specs.Int.{w16, w64, to_be_bytes, cast_unsigned}
use Rattle.std.specs.List.{flat_map, AllByRecursion}

-- A field of 1, 2 or 8 bytes: the least and the greatest value that it may have, and its value.
-- A known field has no bytes: the one value that it may have, and its value
pub data Field : Type 0 where
  Byte : ℕ → ℕ → ℕ → Field
  Short : ℕ → ℕ → ℕ → Field
  Long : ℤ → ℤ → ℤ → Field
  Known : ℕ → ℕ → Field

-- two bytes, the high one first
unfoldable pub short_bytes : ℕ → List ℕ
short_bytes n = to_be_bytes w16 n

-- eight bytes in two's complement, the highest first
unfoldable pub long_bytes : ℤ → List ℕ
long_bytes z = to_be_bytes w64 (cast_unsigned w64 z)

-- the bytes of its value
abbrev pub bytes_of : Field → List ℕ
bytes_of (Byte low high n) = n ∷ []
bytes_of (Short low high n) = short_bytes n
bytes_of (Long low high z) = long_bytes z
bytes_of (Known value n) = []

-- its value is in its range
abbrev pub IsInRange : Field → Type 0
IsInRange (Byte low high n) = (low ≤ n) × (n ≤ high)
IsInRange (Short low high n) = (low ≤ n) × (n ≤ high)
IsInRange (Long low high z) = (low ≤ℤ z) × (z ≤ℤ high)
IsInRange (Known value n) = n ≡ value

-- the bytes of fields
abbrev pub bytes : List Field → List ℕ
bytes fields = flat_map bytes_of fields

-- each field is in its range
abbrev pub AreInRange : List Field → Type 0
AreInRange fields = AllByRecursion IsInRange fields
