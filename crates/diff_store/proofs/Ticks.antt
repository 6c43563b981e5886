-- Numbers of the code that are far from the range's ends
use Rattle.std.proofs.Common.{◌≡◌, ◌↔◌, ⊎_elim, w64, FitsSigned, to_z, of_z, neg_ℤ, arith, true, false, ℤ, pos, ◌-ℤ◌, ◌≤ℤ◌, ◌<ℤ◌}
use lib.Signed.{le_z}
use Rattle.std.proofs.lemmas.Int.{ints}
use Rattle.std.specs.Bool.{IsTrue}
use Rattle.std.proofs.lemmas.Bool.{cases_Bool}
use borrow.Author.Differences.{same_in}

-- a value that is lower than it may be by a bound
pub record Modest (v c : ℤ) : Type 0 where
  pub from_zero : pos 0 ≤ℤ v
  pub top : (v -ℤ c) ≤ℤ pos 8_100_000_000_000_000_000
  pub low : neg_ℤ (pos 10_000_000_000_000) ≤ℤ c
  pub high : c ≤ℤ pos 10_000_000_000_000

pub modest_fits : (v c : ℤ) → Modest v c → FitsSigned w64 (to_z w64 (of_z w64 v) -ℤ to_z w64 (of_z w64 c))
modest_fits v c m =
    let z = m.from_zero in
    let t = m.top in
    let l = m.low in
    let h = m.high in
    grind (arith, ints, z, t, l, h)

pub modest_is : (v c : ℤ) → Modest v c → to_z w64 (of_z w64 (to_z w64 (of_z w64 v) -ℤ to_z w64 (of_z w64 c))) ≡ v -ℤ c
modest_is v c m =
    let z = m.from_zero in
    let t = m.top in
    let l = m.low in
    let h = m.high in
    same_in _ _ (omega (arith, ints, z, t, l, h))

module _ (v c w : ℤ) (m : Modest v c) (low : pos 0 ≤ℤ w) (high : w ≤ℤ pos 8_100_000_000_000_000_000) where
  -- what the code's test says
  pub test_met : le_z (to_z w64 (of_z w64 (to_z w64 (of_z w64 v) -ℤ to_z w64 (of_z w64 c)))) (to_z w64 (of_z w64 w)) ≡ true → (v -ℤ w) ≤ℤ c
  test_met h =
      let z = m.from_zero in
      let t = m.top in
      let l = m.low in
      let k = m.high in
      grind (arith, ints, z, t, l, k, low, high, h)

  pub test_broken : le_z (to_z w64 (of_z w64 (to_z w64 (of_z w64 v) -ℤ to_z w64 (of_z w64 c)))) (to_z w64 (of_z w64 w)) ≡ false → w <ℤ (v -ℤ c)
  test_broken h =
      let z = m.from_zero in
      let t = m.top in
      let l = m.low in
      let k = m.high in
      grind (arith, ints, z, t, l, k, low, high, h)

pub modest_of : (v c : ℤ) → pos 0 ≤ℤ v → v ≤ℤ pos 4_000_010_000_000_000_000 → (neg_ℤ (pos 10_000_000_000_000) ≤ℤ c) × (c ≤ℤ pos 10_000_000_000_000) → Modest v c
modest_of v c z t s = record { from_zero = z; top = let l = s.0 in omega (arith, ints, t, l); low = s.0; high = s.1 }

pub test_exact : (v c w : ℤ) → Modest v c → pos 0 ≤ℤ w → w ≤ℤ pos 8_100_000_000_000_000_000 → IsTrue (le_z (to_z w64 (of_z w64 (to_z w64 (of_z w64 v) -ℤ to_z w64 (of_z w64 c)))) (to_z w64 (of_z w64 w))) ↔ ((v -ℤ w) ≤ℤ c)
test_exact v c w m low high = (
  test_met v c w m low high,
  λ meets. ⊎_elim (λ e. e) (λ e. absurd (let b = test_broken v c w m low high e in omega (arith, ints, b, meets))) (cases_Bool _),
)

pub tick_is : (x : ℤ) → pos 0 ≤ℤ x → x ≤ℤ pos 4_000_010_000_000_000_000 → to_z w64 (of_z w64 x) ≡ x
tick_is x low high = same_in _ _ (omega (arith, ints, low, high))

pub value_is : (x : ℤ) → pos 0 ≤ℤ x → x ≤ℤ pos 8_100_000_000_000_000_000 → to_z w64 (of_z w64 x) ≡ x
value_is x low high = same_in _ _ (omega (arith, ints, low, high))
