-- The gap of two starts in the class of the greatest common divisor of two periods
use Rattle.std.proofs.Common.{◌≡◌, ℕ, ◌+◌, ◌-◌, ◌*◌, ◌<◌, ◌≤◌, Bool, false, leb, ◌↔◌, IsTrue, refl, sym, ap, subst, arith, ⊎_elim, ℤ, pos, negsuc, ◌+ℤ◌, ◌-ℤ◌, ◌*ℤ◌, ◌≤ℤ◌, ◌<ℤ◌, unsigned_abs}
use Rattle.std.specs.Int.{IsGcd, int_rem_euclid, int_div_euclid}
use Rattle.std.proofs.lemmas.Int.{ints}
use Rattle.std.proofs.lemmas.Nat.{div-add-mod', mod_below}
use Rattle.std.proofs.lemmas.Nat.Gcd.{le_of_dvd}
use Rattle.std.proofs.lemmas.Bool.{cases_lt, leb-true, le-leb}
use Rattle.std.proofs.Math.Nat.{mul-le-mul_right}
use borrow.Author.Differences.{up, down, same_in}
use Rattle.tick_num.specs.Classes.{NeverMeet, GcdClassLaw}
use Rattle.tick_num.proofs.Floor.{sum-times}
use Rattle.sched_model.proofs.Passing.{fails_so}

-- d is g times the quotient and the remainder, as omega reads it
split' : (d : ℤ) (n : ℕ) → 0 < n → let q = int_div_euclid d (pos n) in let r = int_rem_euclid d (pos n) in
    (up q * n + up r + down d ≡ up d + down q * n) × (down r ≡ 0) × (up r < n)
split' (pos a) n h = (omega (arith, div-add-mod' a n, mod_below a n h), refl, omega (arith, mod_below a n h))
split' (negsuc a) n h = (omega (arith, div-add-mod' a n, mod_below a n h), refl, omega (arith, mod_below a n h))

split : (d r : ℤ) (n : ℕ) → 0 < n → r ≡ int_rem_euclid d (pos n) → (q : ℤ) × (q *ℤ pos n +ℤ r ≡ d) × (pos 0 ≤ℤ r) × (r <ℤ pos n)
split d r n h e =
    let q = int_div_euclid d (pos n) in
    let s = split' d n h in
    (q, subst (λ (x : ℤ). q *ℤ pos n +ℤ x ≡ d) (sym e) (same_in _ _ (omega (arith, ints, s))), subst (λ (x : ℤ). pos 0 ≤ℤ x) (sym e) (omega (arith, ints, s)), subst (λ (x : ℤ). x <ℤ pos n) (sym e) (omega (arith, ints, s)))

at_most_from_times : (z y : ℤ) (g : ℕ) → (z *ℤ pos g) <ℤ ((y +ℤ pos 1) *ℤ pos g) → z ≤ℤ y
at_most_from_times z y g h =
    ⊎_elim
    (λ (less : up y + down z < up z + down y).
    let m : (up y + down z + 1) * g ≤ (up z + down y) * g = mul-le-mul_right g (omega (arith, less)) in
    absurd (omega (arith, ints, h, m, sum-times y (pos 1) (pos g))))
    (λ (le : up z + down y ≤ up y + down z). omega (arith, ints, le))
    (cases_lt (up y + down z) (up z + down y))

-- the gap holds the first run before it and the second in it exactly where the runs never meet
gap_decides : (p1 e1 o1 p2 e2 o2 r : ℤ) (n : ℕ) → GcdClassLaw → pos 1 ≤ℤ p1 → pos 1 ≤ℤ e1 → pos 0 ≤ℤ o1 → pos 1 ≤ℤ p2 → pos 1 ≤ℤ e2 → pos 0 ≤ℤ o2 → 0 < n →
    IsGcd (unsigned_abs p1) (unsigned_abs p2) n → r ≡ int_rem_euclid (o2 -ℤ o1) (pos n) →
    ((e1 ≤ℤ r) × (e2 ≤ℤ (pos n -ℤ r)) → NeverMeet p1 e1 o1 p2 e2 o2) × (NeverMeet p1 e1 o1 p2 e2 o2 → (e1 ≤ℤ r) × (e2 ≤ℤ (pos n -ℤ r)))
gap_decides p1 e1 o1 p2 e2 o2 r n law a1 b1 c1 a2 b2 c2 some i e =
    let s = split (o2 -ℤ o1) r n some e in
    let q = s.0 in
    let l = law p1 e1 o1 p2 e2 o2 (pos n) (omega (arith, ints)) (omega (arith, ints)) (omega (arith, ints)) i b1 b2 c1 c2 in (
      λ h. l.1 (q, (omega (arith, ints, s, h), omega (arith, ints, s, h, sum-times q (pos 1) (pos n)))),
      λ h.
          let w = l.0 h in
          let z = w.0 in
          let t = sum-times z (pos 1) (pos n) in
          let u = sum-times q (pos 1) (pos n) in
          let low : z ≤ℤ q = at_most_from_times z q n (omega (arith, ints, s, w.1, t, u, b1)) in
          let high : q ≤ℤ z = at_most_from_times q z n (omega (arith, ints, s, w.1, t, u, b2)) in
          let same = ap (λ (x : ℤ). x *ℤ pos n) (let k : q ≡ z = same_in _ _ (omega (arith, ints, low, high)) in k) in
          (omega (arith, ints, s, w.1, same), omega (arith, ints, s, w.1, same, t)),
    )

module _ (p1 e1 o1 p2 e2 o2 r n : ℕ) (law : GcdClassLaw) (a1 : 1 ≤ p1) (b1 : 1 ≤ e1) (a2 : 1 ≤ p2) (b2 : 1 ≤ e2) (some : 1 ≤ n) (i : IsGcd p1 p2 n)
    (e : pos r ≡ int_rem_euclid (pos o2 -ℤ pos o1) (pos n)) (within : r < n) where
  abbrev Apart : Type 0
  Apart = NeverMeet (pos p1) (pos e1) (pos o1) (pos p2) (pos e2) (pos o2)

  both : ((pos e1 ≤ℤ pos r) × (pos e2 ≤ℤ (pos n -ℤ pos r)) → Apart) × (Apart → (pos e1 ≤ℤ pos r) × (pos e2 ≤ℤ (pos n -ℤ pos r)))
  both = gap_decides (pos p1) (pos e1) (pos o1) (pos p2) (pos e2) (pos o2) (pos r) n law (omega (arith, ints, a1)) (omega (arith, ints, b1)) (omega (arith, ints)) (omega (arith, ints, a2)) (omega (arith, ints, b2)) (omega (arith, ints)) (omega (arith, some)) i e

  -- the first run is too long
  pub first_too_long : r < e1 → IsTrue false ↔ Apart
  first_too_long l = fails_so Apart (λ f. let h = (both.1 f).0 in omega (arith, ints, h, l))

  -- the second run decides
  pub second_decides : e1 ≤ r → IsTrue (leb e2 (n - r)) ↔ Apart
  second_decides l = (
    λ t. let h = leb-true e2 (n - r) t in both.0 (omega (arith, ints, l), omega (arith, ints, h, within)),
    λ f. let h = (both.1 f).1 in le-leb e2 (n - r) (omega (arith, ints, h, within)),
  )

-- the same of equal numbers
pub same_runs : (b : Bool) (p1 e1 p2 e2 q1 f1 q2 f2 : ℕ) (o1 o2 w1 w2 : ℤ) → p1 ≡ q1 → e1 ≡ f1 → o1 ≡ w1 → p2 ≡ q2 → e2 ≡ f2 → o2 ≡ w2
    → (IsTrue b ↔ NeverMeet (pos p1) (pos e1) o1 (pos p2) (pos e2) o2) → IsTrue b ↔ NeverMeet (pos q1) (pos f1) w1 (pos q2) (pos f2) w2
same_runs b p1 e1 p2 e2 q1 f1 q2 f2 o1 o2 w1 w2 a1 a2 a3 a4 a5 a6 h =
    subst (λ x. IsTrue b ↔ NeverMeet (pos x) (pos f1) w1 (pos q2) (pos f2) w2) a1
    (subst (λ x. IsTrue b ↔ NeverMeet (pos p1) (pos x) w1 (pos q2) (pos f2) w2) a2
    (subst (λ (x : ℤ). IsTrue b ↔ NeverMeet (pos p1) (pos e1) x (pos q2) (pos f2) w2) a3
    (subst (λ x. IsTrue b ↔ NeverMeet (pos p1) (pos e1) o1 (pos x) (pos f2) w2) a4
    (subst (λ x. IsTrue b ↔ NeverMeet (pos p1) (pos e1) o1 (pos p2) (pos x) w2) a5
    (subst (λ (x : ℤ). IsTrue b ↔ NeverMeet (pos p1) (pos e1) o1 (pos p2) (pos e2) x) a6 h)))))

-- a divisor is no greater
pub gcd_most : (a b n : ℕ) → 1 ≤ b → IsGcd a b n → n ≤ b
gcd_most a b n p i = le_of_dvd (omega (arith, p)) i.1
