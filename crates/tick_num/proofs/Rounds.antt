-- What one round over a list of constraints does: each variable is raised to what its constraints force from the values before
use Rattle.std.proofs.Common.{◌≡◌, ℕ, suc, ◌<◌, cond, eqb, List, [], ◌∷◌, length, get_or, refl, ◌∙◌, arith, ◌⊎◌, inl, inr, ⊎_elim, ℤ, pos, ◌-ℤ◌, ◌≤ℤ◌}
use Rattle.std.specs.Int.{int_max}
use Rattle.std.specs.List.{AllByRecursion}
use Rattle.std.proofs.lemmas.Int.{ints, clamps}
use Rattle.std.proofs.lemmas.Bool.{cases_Bool, cond-true, cond-false, eqb-true, eq-eqb}
use Rattle.tick_num.specs.declared.differences.Diff.{Diff}
use Rattle.tick_num.specs.Differences.{diff}

-- the constraint at a position
abbrev pub at : List Diff → ℕ → Diff
at ds i = get_or ds i (diff 0 0 (pos 0))

-- the least value of y that the constraint allows beside a value of x
abbrev pub forced : (ℕ → ℤ) → Diff → ℤ
forced v d = v d.x -ℤ d.c

-- the values after a round over the list
pub raised : (ℕ → ℤ) → List Diff → ℕ → ℤ
raised v [] y = v y
raised v (d ∷ ds) y = cond (eqb d.y y) (int_max (raised v ds y) (forced v d)) (raised v ds y)

-- the value of y stays, or a constraint forces the new one
abbrev pub Tight : (ℕ → ℤ) → (ℕ → ℤ) → List Diff → ℕ → Type 0
Tight v w ds y = (w y ≡ v y) ⊎ ((i : ℕ) × (i < length ds) × ((at ds i).y ≡ y) × (w y ≡ forced v (at ds i)))

-- no value falls, each constraint is met from the values before, and each value that rises is forced by a constraint
pub record RoundOf (v w : ℕ → ℤ) (ds : List Diff) : Type 0 where
  pub up : (y : ℕ) → v y ≤ℤ w y
  pub met : AllByRecursion (λ d. forced v d ≤ℤ w d.y) ds
  pub tight : (y : ℕ) → Tight v w ds y

higher : (a b : ℤ) → (int_max a b ≡ a) ⊎ (int_max a b ≡ b)
higher a b = ⊎_elim (λ e. inl (cond-true _ a b e)) (λ e. inr (cond-false _ a b e)) (cases_Bool _)

grows : (v : ℕ → ℤ) (d : Diff) (ds : List Diff) (y : ℕ) → raised v ds y ≤ℤ raised v (d ∷ ds) y
unfolding raised
grows v d ds y =
    ⊎_elim
    (λ e. let is = cond-true (eqb d.y y) (int_max (raised v ds y) (forced v d)) (raised v ds y) e in omega (arith, ints, clamps, is))
    (λ e. let is = cond-false (eqb d.y y) (int_max (raised v ds y) (forced v d)) (raised v ds y) e in omega (arith, ints, is))
    (cases_Bool (eqb d.y y))

chain : (a b c : ℤ) → a ≤ℤ b → b ≤ℤ c → a ≤ℤ c
chain a b c h k = omega (arith, ints)

met_after : (v : ℕ → ℤ) (d : Diff) (ds cs : List Diff) → AllByRecursion (λ (e : Diff). forced v e ≤ℤ raised v ds e.y) cs → AllByRecursion (λ (e : Diff). forced v e ≤ℤ raised v (d ∷ ds) e.y) cs
met_after v d ds [] h = tt
met_after v d ds (e ∷ cs) h = (chain _ _ _ h.0 (grows v d ds e.y), met_after v d ds cs h.1)

-- one constraint more in front
raised_more : (v : ℕ → ℤ) (d : Diff) (ds : List Diff) → RoundOf v (raised v ds) ds → RoundOf v (raised v (d ∷ ds)) (d ∷ ds)
unfolding raised
raised_more v d ds rest = record {
  up = λ y. chain _ _ _ (rest.up y) (grows v d ds y);
  met = (here, met_after v d ds ds rest.met);
  tight = tight;
}
  where
    here : forced v d ≤ℤ raised v (d ∷ ds) d.y
    here = let is = cond-true (eqb d.y d.y) (int_max (raised v ds d.y) (forced v d)) (raised v ds d.y) (eq-eqb d.y d.y refl) in omega (arith, ints, clamps, is)

    later : (y : ℕ) → raised v (d ∷ ds) y ≡ raised v ds y → Tight v (raised v (d ∷ ds)) (d ∷ ds) y
    later y is = ⊎_elim
        (λ (e : raised v ds y ≡ v y). inl (is ∙ e))
        (λ (w : (i : ℕ) × (i < length ds) × ((at ds i).y ≡ y) × (raised v ds y ≡ forced v (at ds i))). inr (suc w.0, omega (arith, w.1), w.2, is ∙ w.3))
        (rest.tight y)

    tight : (y : ℕ) → Tight v (raised v (d ∷ ds)) (d ∷ ds) y
    tight y = ⊎_elim
        (λ e. let is = cond-true (eqb d.y y) (int_max (raised v ds y) (forced v d)) (raised v ds y) e in ⊎_elim
        (λ f. later y (is ∙ f))
        (λ f. inr (0, omega arith, eqb-true d.y y e, is ∙ f))
        (higher (raised v ds y) (forced v d)))
        (λ e. later y (cond-false (eqb d.y y) (int_max (raised v ds y) (forced v d)) (raised v ds y) e))
        (cases_Bool (eqb d.y y))

pub raised_does : (v : ℕ → ℤ) (ds : List Diff) → RoundOf v (raised v ds) ds
unfolding raised
raised_does v [] = record { up = λ y. omega (arith, ints); met = tt; tight = λ y. inl refl }
raised_does v (d ∷ ds) = raised_more v d ds (raised_does v ds)
