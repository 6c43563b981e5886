-- The stack of a search: the choices of the prefix that is due, and the greatest alternative at each of them
use Rattle.std.specs.Prelude.{◌≡◌, ℕ, zero, suc, ◌-◌, ◌≤◌, Bool, true, false, int_lt, List, [], ◌∷◌, ◌++◌, length, take, slice_index_or, ℤ, pos, ◌+ℤ◌, if◌then◌else◌}

abbrev pub at_ : List ℤ → ℕ → ℤ
at_ xs k = slice_index_or xs k (pos 0)

-- the stack that comes next, or none
pub data Step : Type 0 where
  Due : List ℤ → List ℤ → Step
  Complete : Step

-- what is due once all below the first k choices is done: the next alternative of the last of them that has one left
abbrev pub next_due : ℕ → List ℤ → List ℤ → Step
next_due zero prefix highs = Complete
next_due (suc k) prefix highs =
    if int_lt (at_ prefix k) (at_ highs k) then Due (take k prefix ++ (at_ prefix k +ℤ pos 1) ∷ []) (take (suc k) highs) else next_due k prefix highs

-- another prefix is due, or none
abbrev pub StepIs : Bool → List ℤ → List ℤ → Step → Type 0
StepIs true prefix highs s = s ≡ Due prefix highs
StepIs false prefix highs s = s ≡ Complete

-- q is a front of p and one choice more
abbrev pub Follows : List ℤ → List ℤ → Type 0
Follows p q = (length q - 1 ≤ length p) × (take (length q - 1) q ≡ take (length q - 1) p)
