use Rattle.std.proofs.Common.{◌≡◌, ℕ, ◌+◌, ◌*◌, ◌/◌, ◌<◌, ◌≤◌, refl, sym, ap, arith, ◌⊎◌, inl, inr, ⊎_elim, ℤ, pos, negsuc, ◌+ℤ◌, ◌-ℤ◌, ◌≤ℤ◌}
use Rattle.std.specs.Int.{int_div_euclid}
use Rattle.std.proofs.lemmas.Int.{ints}
use Rattle.std.proofs.Math.Nat.{mul-le-mul_right, mul-div_cancel'}
use borrow.Author.Differences.{up, down}
use Rattle.std.proofs.lemmas.Bool.{cases_lt}
use Rattle.tick_num.specs.Classes.{NeverMeet, FitsAt, GcdClassLaw}
use Rattle.tick_num.proofs.Euclid.{Combines, combines}
use Rattle.tick_num.proofs.Floor.{floored, sum-times}

-- a place that fits keeps the runs apart: a multiple of g that is not below 0 moves the second run past the first, and any other before it
apart_at : (p q g c d k l : ℕ) (e1 o1 e2 o2 z : ℤ) → p ≡ g * c → q ≡ g * d → FitsAt (pos g) e1 o1 e2 o2 z →
    ((o1 +ℤ pos (k * p) +ℤ e1) ≤ℤ (o2 +ℤ pos (l * q))) ⊎ ((o2 +ℤ pos (l * q) +ℤ e2) ≤ℤ (o1 +ℤ pos (k * p)))
apart_at p q g c d k l e1 o1 e2 o2 z ep eq f =
    let ahead = up z + l * d in
    let behind = down z + k * c in
    let kp : k * p ≡ k * (g * c) = ap (λ n. k * n) ep in
    let lq : l * q ≡ l * (g * d) = ap (λ n. l * n) eq in
    ⊎_elim
    (λ (h : ahead < behind). inr (let m : (ahead + 1) * g ≤ behind * g = mul-le-mul_right g (omega arith) in omega (arith, ints, m, kp, lq, sum-times z (pos 1) (pos g))))
    (λ (h : behind ≤ ahead). inl (let m : behind * g ≤ ahead * g = mul-le-mul_right g h in omega (arith, ints, m, kp, lq)))
    (cases_lt ahead behind)

-- runs k and l whose starts differ by a times g less b times g
shifted : (p q g a b : ℕ) → Combines p q g → (k : ℕ) × (l : ℕ) × (k * p + b * g ≡ l * q + a * g)
shifted p q g a b c =
    let x = c.forth.0 in
    let y = c.forth.1 in
    let u = c.back.0 in
    let v = c.back.1 in
    (a * x + b * v, a * y + b * u, omega (arith, ap (λ n. a * n) c.forth.2, ap (λ n. b * n) c.back.2))

-- the place is the difference of the offsets by g, rounded down
fits_from : (p q g : ℕ) (e1 o1 e2 o2 : ℤ) → 0 < g → Combines p q g → pos 1 ≤ℤ e1 → pos 1 ≤ℤ e2 → NeverMeet (pos p) e1 o1 (pos q) e2 o2 → (z : ℤ) × FitsAt (pos g) e1 o1 e2 o2 z
fits_from p q g e1 o1 e2 o2 some c h1 h2 apart =
    let d = o2 -ℤ o1 in
    let z = int_div_euclid d (pos g) in
    let f = floored d z g some refl in
    let here = shifted p q g (up z) (down z) c in
    let next = shifted p q g (up z + 1) (down z) c in (
      z,
      (
        ⊎_elim (λ h. omega (arith, ints, h, here.2, f)) (λ h. absurd (omega (arith, ints, h, here.2, f))) (apart here.0 here.1),
        ⊎_elim (λ h. absurd (omega (arith, ints, h, next.2, f))) (λ h. omega (arith, ints, h, next.2, f, sum-times z (pos 1) (pos g))) (apart next.0 next.1),
      ),
    )

pub class_law : GcdClassLaw
class_law (pos p) e1 o1 (pos q) e2 o2 (pos g) hp hq hg h h1 h2 i1 i2 = (
  fits_from p q g e1 o1 e2 o2 (omega (arith, ints)) (combines p q g (omega (arith, ints)) (omega (arith, ints)) h) h1 h2,
  λ f k l. apart_at p q g (p / g) (q / g) k l e1 o1 e2 o2 f.0 (sym (mul-div_cancel' g h.0)) (sym (mul-div_cancel' g h.1)) f.1,
)
class_law (negsuc p) e1 o1 p2 e2 o2 g hp hq hg h h1 h2 i1 i2 = absurd (omega (arith, ints))
class_law (pos p) e1 o1 (negsuc q) e2 o2 g hp hq hg h h1 h2 i1 i2 = absurd (omega (arith, ints))
class_law (pos p) e1 o1 (pos q) e2 o2 (negsuc g) hp hq hg h h1 h2 i1 i2 = absurd (omega (arith, ints))
