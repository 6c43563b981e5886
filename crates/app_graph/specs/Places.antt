-- A map from names to the places in a list where they first stand
use Rattle.std.specs.Prelude.{◌≡◌, ℕ, Bool, List, position, unwrap_or}
use Rattle.std.specs.Borrow.{Bor}
use Rattle.std.specs.Map.{lookup}
use Rattle.std.specs.Str.{bytes_eq}

-- the key of the map has these bytes
abbrev pub named : List ℕ → Bor (List ℕ) → Bool
named name key = bytes_eq name key.now

-- of each name the map has the first place of an element with it
abbrev pub Places : {X : Type 0} → (X → List ℕ) → List (Bor (List ℕ) × ℕ) → List X → Type 0
Places f entries xs = (name : List ℕ) → lookup (named name) entries ≡ position (λ x. bytes_eq name (f x)) xs

-- the first place of an element with the name, and 0 where there is none
abbrev pub place_by : {X : Type 0} → (X → List ℕ) → List X → List ℕ → ℕ
place_by f xs name = unwrap_or (position (λ x. bytes_eq name (f x)) xs) 0
