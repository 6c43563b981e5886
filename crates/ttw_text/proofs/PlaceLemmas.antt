-- Where a list first has an element that passes.
use Rattle.std.proofs.Common.{◌≡◌, ℕ, ◌<◌, ◌≤◌, Bool, ltb, List, length, Option, Some, None, sym, ◌∙◌, inl, inr}
use Rattle.std.proofs.lemmas.Bool.{cases_Bool, cond-true, cond-false, ltb-true, ltb-false}
use Rattle.std.specs.List.{position, position_or_len}

pub place_is : {X : Type 0} (p : X → Bool) (xs : List X) (at : ℕ) → position p xs ≡ Some at → (position_or_len p xs < length xs) × (position_or_len p xs ≡ at)
place_is p xs at found =
    elim (cases_Bool (ltb (position_or_len p xs) (length xs))) [
      | inl within ↦ let e : Some (position_or_len p xs) ≡ Some at = sym (cond-true _ _ _ within) ∙ found in (ltb-true _ _ within, cc)
      | inr past ↦ let none : Option ℕ = None in let e : none ≡ Some at = sym (cond-false _ _ _ past) ∙ found in absurd cc
    ]

pub none_passes : {X : Type 0} (p : X → Bool) (xs : List X) → position p xs ≡ None → length xs ≤ position_or_len p xs
none_passes p xs none =
    elim (cases_Bool (ltb (position_or_len p xs) (length xs))) [
      | inl within ↦ let nothing : Option ℕ = None in let e : Some (position_or_len p xs) ≡ nothing = sym (cond-true _ _ _ within) ∙ none in absurd cc
      | inr past ↦ ltb-false _ _ past
    ]
