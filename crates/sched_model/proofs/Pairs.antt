-- The place of one task between the runs of another
use Rattle.std.proofs.Common.{◌≡◌, ℕ, zero, suc, ◌+◌, ◌*◌, ◌%◌, ◌<◌, ◌≤◌, eqb, ◌&&◌, List, [], Contains, refl, subst, arith, ⊎_elim, ℤ, pos, ◌+ℤ◌, ◌-ℤ◌, ◌*ℤ◌, ◌≤ℤ◌, ◌<ℤ◌}
use Rattle.std.specs.List.{AllByRecursion}
use Prim.Native.Nat.{◌∣◌}
use Rattle.std.specs.Int.{IsGcd, int_div_euclid}
use Rattle.std.proofs.lemmas.Int.{ints}
use Rattle.std.proofs.lemmas.Bool.{cases_lt, cond_both, eqb-true, and_parts, and_from, eq-eqb, both_ways, cond_above}
use Rattle.std.proofs.lemmas.Nat.Gcd.{le_of_dvd, dvd_of_mod-eq-zero, mod-eq-zero_of_dvd}
use Rattle.std.proofs.Math.Nat.{one-dvd, pos_of_dvd_of_pos, mul-le-mul_right}
use borrow.Author.Differences.{up, down, same_in}
use Rattle.tick_num.specs.Classes.{NeverMeet, FitsAt}
use Rattle.tick_num.proofs.ClassLaw.{class_law}
use Rattle.tick_num.proofs.Floor.{floor_low, floor_high, sum-times}
use Rattle.tick_num.proofs.Euclid.{gcd_exists}
use Rattle.sched_model.specs.PlainMode.{PlainMode, PlainTask, task_at}
use Rattle.sched_model.specs.Numbers.{gcd, divisor_below, span}
use Rattle.sched_model.specs.ConstraintProblem.{latest, places, order, chosen, task_var}
use Rattle.tick_num.specs.Differences.{Meets}
use Rattle.sched_model.proofs.Spans.{in_span}

-- ---- the greatest divisor is the greatest common divisor
divides_both : (n a b : ℕ) → (divisor_below n a b ∣ a) × (divisor_below n a b ∣ b)
divides_both zero a b = (one-dvd a, one-dvd b)
divides_both (suc n) a b =
    let t = eqb (a % suc n) 0 && eqb (b % suc n) 0 in
    cond_both t (suc n) (divisor_below n a b) (λ x. (x ∣ a) × (x ∣ b))
    (λ e. let w = and_parts (eqb (a % suc n) 0) (eqb (b % suc n) 0) e in (dvd_of_mod-eq-zero (suc n) (eqb-true (a % suc n) 0 w.0), dvd_of_mod-eq-zero (suc n) (eqb-true (b % suc n) 0 w.1)))
    (λ _. divides_both n a b)

greatest_below : (n a b d : ℕ) → d ≤ n → d ∣ a → d ∣ b → d ≤ divisor_below n a b
greatest_below zero a b d le p q = omega arith
greatest_below (suc n) a b d le p q =
    let t = eqb (a % suc n) 0 && eqb (b % suc n) 0 in
    cond_both t (suc n) (divisor_below n a b) (λ x. d ≤ x) (λ _. le)
    (λ e. ⊎_elim
    (λ (less : d < suc n). greatest_below n a b d (omega arith) p q)
    (λ (ge : suc n ≤ d).
    let same : d ≡ suc n = omega (arith, le) in
    let p' = eq-eqb (a % suc n) 0 (mod-eq-zero_of_dvd (suc n) (subst (λ x. x ∣ a) same p)) in
    let q' = eq-eqb (b % suc n) 0 (mod-eq-zero_of_dvd (suc n) (subst (λ x. x ∣ b) same q)) in
    absurd (both_ways t e (and_from (eqb (a % suc n) 0) (eqb (b % suc n) 0) p' q')))
    (cases_lt d (suc n)))

pub gcd_is : (a b : ℕ) → 1 ≤ a → 1 ≤ b → IsGcd a b (gcd a b)
gcd_is a b p q =
    let w = gcd_exists a b p q in
    let d = divides_both a a b in
    let some : 0 < w.0 = pos_of_dvd_of_pos w.1.0 p in
    let below = greatest_below a a b w.0 (le_of_dvd p w.1.0) w.1.0 w.1.1 in
    let above = le_of_dvd some (w.1.2 (gcd a b) d.0 d.1) in
    subst (IsGcd a b) (let e : w.0 ≡ gcd a b = omega (arith, below, above) in e) w.1

pub gcd_some : (a b : ℕ) → 1 ≤ a → 1 ≤ b → 1 ≤ gcd a b
gcd_some a b p q = pos_of_dvd_of_pos (gcd_is a b p q).0 p

-- ---- the two constraints say that the place fits, and so the runs never meet
abbrev pub Fits : PlainTask → PlainTask → ℤ → ℤ → ℤ → Type 0
Fits s t o1 o2 z = FitsAt (pos (gcd s.period t.period)) (pos s.wcet) o1 (pos t.wcet) o2 z

pub order_fits : (m : PlainMode) (r : ℕ) (v : ℕ → ℤ) (a b : ℕ) (z : ℤ) → AllByRecursion (Meets v) (chosen m r (order a b) z) → Fits (task_at m a) (task_at m b) (v (task_var r a)) (v (task_var r b)) z
order_fits m r v a b z h = (omega (arith, ints, h.0), omega (arith, ints, h.1.0))

pub fits_order : (m : PlainMode) (r : ℕ) (v : ℕ → ℤ) (a b : ℕ) (z : ℤ) → Fits (task_at m a) (task_at m b) (v (task_var r a)) (v (task_var r b)) z → AllByRecursion (Meets v) (chosen m r (order a b) z)
fits_order m r v a b z f = (omega (arith, ints, f.0), (omega (arith, ints, f.1), tt))

pub never_meet : (s t : PlainTask) (o1 o2 z : ℤ) → 1 ≤ s.period → 1 ≤ t.period → 1 ≤ s.wcet → 1 ≤ t.wcet → pos 0 ≤ℤ o1 → pos 0 ≤ℤ o2 → Fits s t o1 o2 z →
    NeverMeet (pos s.period) (pos s.wcet) o1 (pos t.period) (pos t.wcet) o2
never_meet s t o1 o2 z p q e f i j h =
    let g = gcd_some s.period t.period p q in
    (class_law (pos s.period) (pos s.wcet) o1 (pos t.period) (pos t.wcet) o2 (pos (gcd s.period t.period)) (omega (arith, ints)) (omega (arith, ints)) (omega (arith, ints))
    (gcd_is s.period t.period p q) (omega (arith, ints)) (omega (arith, ints)) i j).1 (z, h)

pub place_of : (s t : PlainTask) (o1 o2 : ℤ) → 1 ≤ s.period → 1 ≤ t.period → 1 ≤ s.wcet → 1 ≤ t.wcet → pos 0 ≤ℤ o1 → pos 0 ≤ℤ o2 →
    NeverMeet (pos s.period) (pos s.wcet) o1 (pos t.period) (pos t.wcet) o2 → (z : ℤ) × Fits s t o1 o2 z
place_of s t o1 o2 p q e f i j h =
    let g = gcd_some s.period t.period p q in
    (class_law (pos s.period) (pos s.wcet) o1 (pos t.period) (pos t.wcet) o2 (pos (gcd s.period t.period)) (omega (arith, ints)) (omega (arith, ints)) (omega (arith, ints))
    (gcd_is s.period t.period p q) (omega (arith, ints)) (omega (arith, ints)) i j).0 h

-- ---- one place at most
-- a product is below the next only where the number is
pub at_most_from_times : (z y : ℤ) (g : ℕ) → (z *ℤ pos g) <ℤ ((y +ℤ pos 1) *ℤ pos g) → z ≤ℤ y
at_most_from_times z y g h =
    ⊎_elim
    (λ (less : up y + down z < up z + down y).
    let m : (up y + down z + 1) * g ≤ (up z + down y) * g = mul-le-mul_right g (omega (arith, less)) in
    absurd (omega (arith, ints, h, m, sum-times y (pos 1) (pos g))))
    (λ (le : up z + down y ≤ up y + down z). omega (arith, ints, le))
    (cases_lt (up y + down z) (up z + down y))

one_place : (g e1 e2 : ℕ) (o1 o2 z y : ℤ) → 1 ≤ e1 → 1 ≤ e2 → FitsAt (pos g) (pos e1) o1 (pos e2) o2 z → FitsAt (pos g) (pos e1) o1 (pos e2) o2 y → z ≤ℤ y
one_place g e1 e2 o1 o2 z y h k a b = at_most_from_times z y g (omega (arith, ints, a.0, b.1))

pub same_place : (s t : PlainTask) (o1 o2 z y : ℤ) → 1 ≤ s.wcet → 1 ≤ t.wcet → Fits s t o1 o2 z → Fits s t o1 o2 y → z ≡ y
same_place s t o1 o2 z y h k a b =
    let g = gcd s.period t.period in
    let up = one_place g s.wcet t.wcet o1 o2 z y h k a b in
    let down = one_place g s.wcet t.wcet o1 o2 y z h k b a in
    same_in _ _ (omega (arith, ints, up, down))

-- ---- and it is among the alternatives, where no task starts after its latest time
pub among_places : (s t : PlainTask) (o1 o2 z : ℤ) → 1 ≤ s.period → 1 ≤ t.period → pos 0 ≤ℤ o1 → pos 0 ≤ℤ o2 → o1 ≤ℤ latest s → o2 ≤ℤ latest t → Fits s t o1 o2 z → Contains (places s t) z
among_places s t o1 o2 z p q i j l k f =
    let d = gcd s.period t.period in
    let some = gcd_some s.period t.period p q in
    let one : pos 1 ≤ℤ pos d = omega (arith, ints, some) in
    let times = sum-times z (pos 1) (pos d) in
    let room : s.wcet + t.wcet ≤ d = omega (arith, ints, f, times) in
    let x = pos t.wcet -ℤ latest s +ℤ pos d -ℤ pos 1 in
    let y = latest t -ℤ pos s.wcet in
    let low = int_div_euclid x (pos d) in
    let high = int_div_euclid y (pos d) in
    let low_is = floor_low x (pos d) low one refl in
    let high_is = floor_high y (pos d) high one refl in
    let above : z ≤ℤ high = at_most_from_times z high d (omega (arith, ints, f, k, i, high_is)) in
    let below : low ≤ℤ (z +ℤ pos 1) = at_most_from_times low (z +ℤ pos 1) d (omega (arith, ints, f, l, j, low_is, times, sum-times (z +ℤ pos 1) (pos 1) (pos d))) in
    subst (λ (zs : List ℤ). Contains zs z) (cond_above d (s.wcet + t.wcet) [] (span (low -ℤ pos 1) high) (span (low -ℤ pos 1) high) room refl)
    (in_span (low -ℤ pos 1) high z (omega (arith, ints, below)) above)
