-- The greatest common divisor, places and their bounds
use Rattle.std.proofs.Common.{◌≡◌, ℕ, ◌+◌, ◌*◌, ◌/◌, ◌<◌, ◌≤◌, refl, sym, ◌∙◌, ap, subst, arith, length, List, [], ◌∷◌, Contains, ltb, cond, w64, FitsSigned, ℤ, pos, negsuc, neg_ℤ, ◌+ℤ◌, ◌-ℤ◌, ◌*ℤ◌, ◌≤ℤ◌, ◌<ℤ◌}
use Rattle.std.specs.Int.{IsGcd, int_div_euclid}
use Rattle.std.specs.Int.RustNames.{unsigned_abs}
use Rattle.std.proofs.lemmas.Int.{ints}
use Rattle.std.proofs.lemmas.Bool.{cond_above, cond_both}
use Rattle.std.proofs.lemmas.Nat.Gcd.{le_of_dvd}
use Rattle.std.proofs.Math.Nat.{mul-le-mul_left, mul-le-mul_right}
use borrow.Author.Differences.{up, down, same_in}
use Rattle.tick_num.specs.Differences.{diff}
use Rattle.tick_num.proofs.Floor.{floor_low, floor_high, sum-times}
use Rattle.sched_model.specs.PlainMode.{PlainTask}
use Rattle.sched_model.specs.Numbers.{gcd, span}
use Rattle.sched_model.specs.ConstraintProblem.{latest, places}
use Rattle.sched_model.proofs.Pairs.{gcd_is, gcd_some}
use Rattle.sched_model.proofs.Spans.{span_bounds}
use Rattle.node_use.specs.declared.places.TaskTimes.{TaskTimes}
use Rattle.node_use.specs.Between.{IsTimed, PairsAreDecisions, between, plain}

-- ---- the greatest common divisor
one_gcd : (a b d e : ℕ) → 0 < d → 0 < e → IsGcd a b d → IsGcd a b e → d ≡ e
one_gcd a b d e p q f g =
    let below = le_of_dvd q (g.2 d f.0 f.1) in
    let above = le_of_dvd p (f.2 e g.0 g.1) in
    omega (arith, below, above)

pub same_gcd : (x y d : ℤ) (a b : ℕ) → x ≡ pos a → y ≡ pos b → 1 ≤ a → 1 ≤ b → pos 0 <ℤ d → IsGcd (unsigned_abs x) (unsigned_abs y) (unsigned_abs d) → d ≡ pos (gcd a b)
same_gcd x y (pos d) a b e f p q s g =
    let h = subst (λ (z : ℤ). IsGcd (unsigned_abs z) (unsigned_abs y) d) e g in
    let k = subst (λ (z : ℤ). IsGcd a (unsigned_abs z) d) f h in
    ap pos (one_gcd a b d (gcd a b) (omega (arith, ints, s)) (gcd_some a b p q) k (gcd_is a b p q))
same_gcd x y (negsuc d) a b e f p q s g = absurd (omega (arith, ints, s))

pub gcd_most : (a b : ℕ) → 1 ≤ a → 1 ≤ b → gcd a b ≤ a
gcd_most a b p q = le_of_dvd p (gcd_is a b p q).0

pub divisor_bounds : (s t : TaskTimes) (d : ℤ) → IsTimed s → IsTimed t → d ≡ pos (gcd s.period t.period) → (pos 1 ≤ℤ d) × (d ≤ℤ pos 1000000000)
divisor_bounds s t d v w e =
    let some = gcd_some s.period t.period (omega (arith, v.wcet, v.within)) (omega (arith, w.wcet, w.within)) in
    let most = gcd_most s.period t.period (omega (arith, v.wcet, v.within)) (omega (arith, w.wcet, w.within)) in
    (omega (arith, ints, e, some), omega (arith, ints, e, most, v.period))

-- ---- quotients
part_most : (a n : ℕ) → 0 < n → a / n ≤ a
part_most a n p = let m : a / n * 1 ≤ a / n * n = mul-le-mul_left (a / n) (omega arith) in omega arith

pub quotient_low : (a b q : ℤ) (n : ℕ) → pos 1 ≤ℤ b → negsuc n ≤ℤ a → q ≡ int_div_euclid a b → negsuc n ≤ℤ q
quotient_low (pos a) (pos b) q n h l e = omega (arith, ints, e)
quotient_low (negsuc a) (pos b) q n h l e = omega (arith, ints, e, l, part_most a b (omega (arith, ints, h)))
quotient_low a (negsuc b) q n h l e = absurd (omega (arith, ints, h))

pub quotient_high : (a b q : ℤ) (n : ℕ) → pos 1 ≤ℤ b → a ≤ℤ pos n → q ≡ int_div_euclid a b → q ≤ℤ pos n
quotient_high (pos a) (pos b) q n h l e = omega (arith, ints, e, l, part_most a b (omega (arith, ints, h)))
quotient_high (negsuc a) (pos b) q n h l e = omega (arith, ints, e)
quotient_high a (negsuc b) q n h l e = absurd (omega (arith, ints, h))

-- ---- the two places are the first and the last of all
pub in_room : (s t : PlainTask) (d low high : ℤ) → d ≡ pos (gcd s.period t.period) → s.wcet + t.wcet ≤ gcd s.period t.period →
    low ≡ int_div_euclid (pos t.wcet -ℤ latest s +ℤ d -ℤ pos 1) d -ℤ pos 1 → high ≡ int_div_euclid (latest t -ℤ pos s.wcet) d → span low high ≡ places s t
in_room s t d low high e room f g =
    let f' = subst (λ (x : ℤ). low ≡ int_div_euclid (pos t.wcet -ℤ latest s +ℤ x -ℤ pos 1) x -ℤ pos 1) e f in
    let g' = subst (λ (x : ℤ). high ≡ int_div_euclid (latest t -ℤ pos s.wcet) x) e g in
    ap (λ (x : ℤ). span x high) f' ∙ cond_above (gcd s.period t.period) (s.wcet + t.wcet) [] _ _ room (ap (span (int_div_euclid (pos t.wcet -ℤ latest s +ℤ pos (gcd s.period t.period) -ℤ pos 1) (pos (gcd s.period t.period)) -ℤ pos 1)) g')

no_place : (zs : List ℤ) (z : ℤ) → zs ≡ [] → Contains zs z → ⊥
no_place zs z e c = omega (arith, c.1, ap length e)

span_of_places : (d n : ℕ) (low high z : ℤ) → Contains (cond (ltb d n) [] (span low high)) z → (low ≤ℤ z) × (z ≤ℤ high)
span_of_places d n low high z c =
    cond_both (ltb d n) [] (span low high) (λ (zs : List ℤ). Contains zs z → (low ≤ℤ z) × (z ≤ℤ high)) (λ _ h. absurd (no_place [] z refl h)) (λ _ h. span_bounds low high z h) c

-- a place begins no later than the second task's latest start, and ends no earlier than the first one's latest start before it
place_times : (d : ℕ) (z x y e : ℤ) → 1 ≤ d → (int_div_euclid (e -ℤ x +ℤ pos d -ℤ pos 1) (pos d) -ℤ pos 1) ≤ℤ z → z ≤ℤ int_div_euclid y (pos d) →
    ((z *ℤ pos d) ≤ℤ y) × ((e -ℤ x -ℤ pos d) ≤ℤ (z *ℤ pos d))
place_times d z x y e p l h = (before, after)
  where
    before : (z *ℤ pos d) ≤ℤ y
    before =
        let q = int_div_euclid y (pos d) in
        let m : (up z + down q) * d ≤ (up q + down z) * d = mul-le-mul_right d (omega (arith, ints, h)) in
        omega (arith, ints, m, floor_low y (pos d) q (omega (arith, ints, p)) refl)

    after : (e -ℤ x -ℤ pos d) ≤ℤ (z *ℤ pos d)
    after =
        let a = e -ℤ x +ℤ pos d -ℤ pos 1 in
        let q = int_div_euclid a (pos d) in
        let m : (up q + down z) * d ≤ (up z + down q + 1) * d = mul-le-mul_right d (omega (arith, ints, l)) in
        omega (arith, ints, m, floor_high a (pos d) q (omega (arith, ints, p)) refl, sum-times q (pos 1) (pos d))

pub start_bounds : (s t : TaskTimes) (d z : ℤ) → IsTimed s → IsTimed t → d ≡ pos (gcd s.period t.period) → Contains (places (plain s) (plain t)) z →
    (negsuc 1003000000000 ≤ℤ (z *ℤ d)) × ((z *ℤ d) ≤ℤ pos 1003000000000)
start_bounds s t d z v w e c =
    let g = gcd s.period t.period in
    let some : 1 ≤ g = gcd_some s.period t.period (omega (arith, v.wcet, v.within)) (omega (arith, w.wcet, w.within)) in
    let most : g ≤ s.period = gcd_most s.period t.period (omega (arith, v.wcet, v.within)) (omega (arith, w.wcet, w.within)) in
    let x = latest (plain s) in
    let y = latest (plain t) -ℤ pos s.wcet in
    let b = span_of_places g (s.wcet + t.wcet) (int_div_euclid (pos t.wcet -ℤ x +ℤ pos g -ℤ pos 1) (pos g) -ℤ pos 1) (int_div_euclid y (pos g)) z c in
    let k = place_times g z x y (pos t.wcet) some b.0 b.1 in
    subst (λ (u : ℤ). (negsuc 1003000000000 ≤ℤ (z *ℤ u)) × ((z *ℤ u) ≤ℤ pos 1003000000000)) (sym e)
    (omega (arith, ints, k.1, most, v.period, v.deadline, v.wcet, w.wcet), omega (arith, ints, k.0, w.period, w.deadline, v.wcet, w.wcet))

pub fits_between : (x : ℤ) → negsuc 1003000000000 ≤ℤ x → x ≤ℤ pos 1003000000000 → FitsSigned w64 x
fits_between (pos n) l h = record { sfits = omega (arith, ints, h) }
fits_between (negsuc n) l h = record { sfits = omega (arith, ints, l) }

-- the constraints, where their bounds are known
pub same_between : (x y : ℕ) (s t : PlainTask) (z d b c f : ℤ) → d ≡ pos (gcd s.period t.period) → b ≡ z *ℤ d → c ≡ neg_ℤ (b +ℤ pos s.wcet) → f ≡ b +ℤ d -ℤ pos t.wcet →
    (diff x y c ∷ diff y x f ∷ []) ≡ between x y s t z
same_between x y s t z d b c f e g h k =
    let once : b +ℤ d ≡ (z +ℤ pos 1) *ℤ d = same_in _ _ (omega (arith, ints, g, sum-times z (pos 1) d)) in
    let c' : c ≡ neg_ℤ (z *ℤ d +ℤ pos s.wcet) = h ∙ ap (λ (u : ℤ). neg_ℤ (u +ℤ pos s.wcet)) g in
    let f' : f ≡ (z +ℤ pos 1) *ℤ d -ℤ pos t.wcet = k ∙ ap (λ (u : ℤ). u -ℤ pos t.wcet) once in
    rw (c', f', e)

-- ---- durations that are those of tasks of a mode
pub pairs_are : PairsAreDecisions
pairs_are m r a b s t e f =
    (λ p. rw (e.period, e.deadline, e.wcet, f.period, f.deadline, f.wcet), λ z. rw (e.period, e.wcet, f.period, f.wcet))
