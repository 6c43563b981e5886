use Rattle.std.proofs.Common.{◌≡◌, ℕ, zero, suc, ◌+◌, ◌*◌, ◌/◌, ◌%◌, ◌<◌, ◌≤◌, ap, subst, arith, ⊎_elim}
use Rattle.std.specs.Int.{IsGcd}
use Rattle.std.proofs.lemmas.Nat.Gcd.{IsGcd-from_zero, IsGcd-from_mod, same_from_IsGcd}
use Rattle.std.proofs.lemmas.Nat.{div-add-mod', mod_below}
use Rattle.std.proofs.lemmas.Bool.{cases_lt}

-- g is a multiple of a less a multiple of b, and a multiple of b less a multiple of a
pub record Combines (a b g : ℕ) : Type 0 where
  pub forth : (x : ℕ) × (y : ℕ) × (x * a ≡ y * b + g)
  pub back : (u : ℕ) × (v : ℕ) × (u * b ≡ v * a + g)

pub combines_even : (a b : ℕ) → 0 < a → a % b ≡ 0 → Combines a b b
combines_even a b some e = go (a / b) (div-add-mod' a b)
  where
    go : (q : ℕ) → q * b + a % b ≡ a → Combines a b b
    go zero h = absurd (omega arith)
    go (suc q) h = record { forth = (1, q, omega arith); back = (1, 0, omega arith) }

pub combines_step : (a b g : ℕ) → Combines b (a % b) g → Combines a b g
combines_step a b g c =
    let q = a / b in
    let r = a % b in
    let e : q * b + r ≡ a = div-add-mod' a b in
    let x = c.forth.0 in
    let y = c.forth.1 in
    let u = c.back.0 in
    let v = c.back.1 in
    record {
      forth = (u, v + u * q, omega (arith, ap (λ n. u * n) e, c.back.2));
      back = (x + y * q, y, omega (arith, ap (λ n. y * n) e, c.forth.2));
    }

-- by Euclid's steps, of which n are enough
euclid : (n a b : ℕ) → b ≤ n → 0 < a → 0 < b → (g : ℕ) × IsGcd a b g × Combines a b g
euclid zero a b le p q = absurd (omega arith)
euclid (suc n) a b le p q =
    let small : a % b < b = mod_below a b q in
    ⊎_elim
    (λ h. let d = euclid n b (a % b) (omega arith) q h in
    (d.0, IsGcd-from_mod a b d.0 d.1, combines_step a b d.0 d.2))
    (λ h. let none : a % b ≡ 0 = omega arith in
    (b, IsGcd-from_mod a b b (IsGcd-from_zero b (a % b) none), combines_even a b p none))
    (cases_lt 0 (a % b))

pub combines : (a b g : ℕ) → 0 < a → 0 < b → IsGcd a b g → Combines a b g
combines a b g p q h =
    let d = euclid b a b (omega arith) p q in
    subst (λ n. Combines a b n) (same_from_IsGcd a b d.0 g d.1 h) d.2

pub gcd_exists : (a b : ℕ) → 0 < a → 0 < b → (g : ℕ) × IsGcd a b g
gcd_exists a b p q = let d = euclid b a b (omega arith) p q in (d.0, d.1)
