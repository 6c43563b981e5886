-- What lies in a span of whole numbers
use Rattle.std.proofs.Common.{◌≡◌, ℕ, zero, suc, ◌<◌, ◌≤◌, length, get_or, Contains, refl, sym, ◌∙◌, ap, arith, ℤ, pos, negsuc, ◌+ℤ◌, ◌-ℤ◌, ◌≤ℤ◌, ◌<ℤ◌}
use Rattle.std.proofs.lemmas.Int.{ints}
use borrow.Author.Differences.{up, same_in}
use Rattle.sched_model.specs.Numbers.{counted, natural, span}

pub length-counted : (low : ℤ) (n : ℕ) → length (counted low n) ≡ n
length-counted low zero = refl
length-counted low (suc n) = ap suc (length-counted (low +ℤ pos 1) n)

pub get_or-counted : (low : ℤ) (n k : ℕ) (d : ℤ) → k < n → get_or (counted low n) k d ≡ low +ℤ pos k
get_or-counted low zero k d l = absurd (omega arith)
get_or-counted low (suc n) zero d l = same_in _ _ (omega (arith, ints))
get_or-counted low (suc n) (suc k) d l = let e = get_or-counted (low +ℤ pos 1) n k d (omega arith) in same_in _ _ (omega (arith, ints, e))

natural_is : (z : ℤ) → (up z ≡ natural z)
natural_is (pos n) = refl
natural_is (negsuc n) = refl

-- what is below 0 counts as none
natural_low : (z : ℤ) → natural z ≤ up z
natural_low (pos n) = omega arith
natural_low (negsuc n) = omega arith

natural_most : (z : ℤ) (k : ℕ) → k < natural z → pos k <ℤ z
natural_most (pos n) k h = omega (arith, ints)
natural_most (negsuc n) k h = absurd (omega arith)

natural_least : (z : ℤ) (k : ℕ) → pos k <ℤ z → k < natural z
natural_least (pos n) k h = omega (arith, ints)
natural_least (negsuc n) k h = absurd (omega (arith, ints))

pub span_bounds : (low high z : ℤ) → Contains (span low high) z → (low ≤ℤ z) × (z ≤ℤ high)
span_bounds low high z c =
    let n = natural (high +ℤ pos 1 -ℤ low) in
    let l : c.0 < n = omega (arith, c.1, length-counted low n) in
    let e = sym (get_or-counted low n c.0 z l) ∙ c.2 in
    let m = natural_most (high +ℤ pos 1 -ℤ low) c.0 l in
    (omega (arith, ints, e), omega (arith, ints, e, m))

difference : (low z : ℤ) → low ≤ℤ z → (k : ℕ) × (z ≡ low +ℤ pos k)
difference low z h = (natural (z -ℤ low), at (z -ℤ low) refl)
  where
    at : (d : ℤ) → d ≡ z -ℤ low → z ≡ low +ℤ pos (natural d)
    at (pos n) e = same_in _ _ (omega (arith, ints, e))
    at (negsuc n) e = absurd (omega (arith, ints, e))

pub in_span : (low high z : ℤ) → low ≤ℤ z → z ≤ℤ high → Contains (span low high) z
in_span low high z a b =
    let n = natural (high +ℤ pos 1 -ℤ low) in
    let d = difference low z a in
    let l : d.0 < n = natural_least (high +ℤ pos 1 -ℤ low) d.0 (omega (arith, ints, d.1)) in
    (d.0, omega (arith, l, length-counted low n), get_or-counted low n d.0 z l ∙ sym d.1)
