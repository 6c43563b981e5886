-- What a rule says of the numbers below n
use Rattle.std.proofs.Common.{◌≡◌, ℕ, ◌+◌, [], ◌∷◌, ◌++◌, refl, arith}
use Rattle.std.proofs.lemmas.List.FromFn.{map-range_with_len_more}
use Rattle.drill.specs.Generated.{below}

pub below_none : {X : Type 0} (f : ℕ → X) → below 0 f ≡ []
unfolding below
below_none f = refl

pub below_more : {X : Type 0} (n : ℕ) (f : ℕ → X) → below (n + 1) f ≡ below n f ++ f n ∷ []
unfolding below
below_more n f = map-range_with_len_more f 0 n n (omega arith)
