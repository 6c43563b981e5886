-- The first of a span of whole numbers
use Rattle.std.proofs.Common.{◌≡◌, suc, List, [], ◌∷◌, refl, ◌∙◌, ap, arith, ℤ, pos, negsuc, ◌+ℤ◌, ◌-ℤ◌, ◌≤ℤ◌, ◌<ℤ◌}
use Rattle.std.proofs.lemmas.Int.{ints}
use borrow.Author.Differences.{same_in}
use Rattle.sched_model.specs.Numbers.{counted, natural, span}

natural_suc : (z w : ℤ) → z ≡ w +ℤ pos 1 → pos 0 ≤ℤ w → natural z ≡ suc (natural w)
natural_suc z (pos n) e h = ap natural e ∙ omega arith
natural_suc z (negsuc n) e h = absurd (omega (arith, ints))

natural_none : (z : ℤ) → z ≤ℤ pos 0 → natural z ≡ 0
natural_none (pos n) h = omega (arith, ints)
natural_none (negsuc n) h = refl

pub span_first : (a high : ℤ) → a ≤ℤ high → span a high ≡ a ∷ span (a +ℤ pos 1) high
span_first a high h =
    let next = high +ℤ pos 1 -ℤ (a +ℤ pos 1) in
    ap (counted a) (natural_suc (high +ℤ pos 1 -ℤ a) next (same_in _ _ (omega (arith, ints))) (omega (arith, ints)))

pub span_none : (a high : ℤ) → high <ℤ a → span a high ≡ []
span_none a high h = ap (counted a) (natural_none (high +ℤ pos 1 -ℤ a) (omega (arith, ints)))

-- one number alone
pub span_one : (a high : ℤ) → high ≡ a → span a high ≡ a ∷ []
span_one a high e = span_first a high (omega (arith, ints, e)) ∙ ap (λ (l : List ℤ). a ∷ l) (span_none (a +ℤ pos 1) high (omega (arith, ints, e)))
