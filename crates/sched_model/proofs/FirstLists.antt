-- At most one full open list is the first
use Rattle.std.proofs.Common.{◌≡◌, ℕ, List, [], ◌∷◌, length, refl, sym, ◌∙◌, ap, arith, ◌⊎◌, inl, inr, ℤ}
use Rattle.std.proofs.lemmas.Int.{ints, by_lt_z}
use borrow.Author.Differences.{same_in}
use Rattle.sched_model.specs.PlainMode.{PlainMode}
use Rattle.sched_model.specs.PrintedSchedule.{Before, FirstList}

-- of two lists of one length one comes first, or they are equal
pub compared : (p q : List ℤ) → length p ≡ length q → (p ≡ q) ⊎ (Before p q) ⊎ (Before q p)
compared [] [] e = inl refl
compared [] (y ∷ q) e = absurd (omega (arith, e))
compared (x ∷ p) [] e = absurd (omega (arith, e))
compared (x ∷ p) (y ∷ q) e =
    by_lt_z {P = (x ∷ p ≡ y ∷ q) ⊎ (Before (x ∷ p) (y ∷ q)) ⊎ (Before (y ∷ q) (x ∷ p))} x y
    (λ less. inr (inl (inl less)))
    (λ no. by_lt_z {P = (x ∷ p ≡ y ∷ q) ⊎ (Before (x ∷ p) (y ∷ q)) ⊎ (Before (y ∷ q) (x ∷ p))} y x
    (λ less. inr (inr (inl less)))
    (λ no'. let same : x ≡ y = same_in x y (omega (arith, ints, no, no')) in rest same (compared p q (omega (arith, e)))))
  where
    rest : x ≡ y → (p ≡ q) ⊎ (Before p q) ⊎ (Before q p) → (x ∷ p ≡ y ∷ q) ⊎ (Before (x ∷ p) (y ∷ q)) ⊎ (Before (y ∷ q) (x ∷ p))
    rest h (inl f) = inl (ap (λ z. z ∷ p) h ∙ ap (λ l. y ∷ l) f)
    rest h (inr (inl b)) = inr (inl (inr (h, b)))
    rest h (inr (inr b)) = inr (inr (inr (sym h, b)))

pub first_one : (m : PlainMode) (r : ℕ) (p q : List ℤ) → FirstList m r p → FirstList m r q → p ≡ q
first_one m r p q a b = decide (compared p q (a.here.full ∙ sym b.here.full))
  where
    decide : (p ≡ q) ⊎ (Before p q) ⊎ (Before q p) → p ≡ q
    decide (inl e) = e
    decide (inr (inl h)) = absurd (b.none_before p a.here h)
    decide (inr (inr h)) = absurd (a.none_before q b.here h)
