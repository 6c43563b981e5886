use Rattle.std.proofs.Common.{ℕ, ◌+◌, ◌*◌, ◌<◌, ◌≤◌, ◌≡◌, sym, ap, subst, arith, ℤ, pos, negsuc, ◌+ℤ◌, ◌*ℤ◌, ◌≤ℤ◌, ◌<ℤ◌}
use Rattle.std.specs.Int.{int_div_euclid}
use Rattle.std.proofs.lemmas.Int.{ints}
use borrow.Author.Differences.{up, down, same_in, sum_is_lem}
use Rattle.std.proofs.lemmas.Nat.{div-add-mod', mod_below}

floored' : (a : ℤ) (n : ℕ) → 0 < n → let q = int_div_euclid a (pos n) in (up q * n + down a ≤ up a + down q * n) × (up a + down q * n < up q * n + n + down a)
floored' (pos a) n h = (omega (arith, div-add-mod' a n, mod_below a n h), omega (arith, div-add-mod' a n, mod_below a n h))
floored' (negsuc a) n h = (omega (arith, div-add-mod' a n, mod_below a n h), omega (arith, div-add-mod' a n, mod_below a n h))

-- q is a divided by n, rounded down
pub floored : (a q : ℤ) (n : ℕ) → 0 < n → q ≡ int_div_euclid a (pos n) → (up q * n + down a ≤ up a + down q * n) × (up a + down q * n < up q * n + n + down a)
floored a q n h e = subst (λ (r : ℤ). (up r * n + down a ≤ up a + down r * n) × (up a + down r * n < up r * n + n + down a)) (sym e) (floored' a n h)

-- (a + b) * c, in the parts that omega reads
pub sum-times : (a b c : ℤ) → (a +ℤ b) *ℤ c ≡ a *ℤ c +ℤ b *ℤ c
sum-times a b c = same_in _ _ (omega (arith, ints, ap (λ n. n * up c) (sum_is_lem a b), ap (λ n. n * down c) (sum_is_lem a b)))

pub floor_low : (a b q : ℤ) → pos 1 ≤ℤ b → q ≡ int_div_euclid a b → (q *ℤ b) ≤ℤ a
floor_low a (pos n) q h e = omega (arith, ints, floored a q n (omega (arith, ints)) e)
floor_low a (negsuc n) q h e = absurd (omega (arith, ints))

pub floor_high : (a b q : ℤ) → pos 1 ≤ℤ b → q ≡ int_div_euclid a b → a <ℤ ((q +ℤ pos 1) *ℤ b)
floor_high a (pos n) q h e = omega (arith, ints, floored a q n (omega (arith, ints)) e, sum-times q (pos 1) (pos n))
floor_high a (negsuc n) q h e = absurd (omega (arith, ints))
