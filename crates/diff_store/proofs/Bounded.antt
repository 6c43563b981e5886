-- No least value is above what one bound for each variable and one more give: else the values would leave a gap as wide as a bound, and those above it could be lower
use Rattle.std.proofs.Common.{◌≡◌, ℕ, zero, suc, ◌+◌, ◌*◌, ◌<◌, ◌≤◌, Bool, true, false, cond, List, length, All, refl, ap, subst, arith, ◌⊎◌, inl, inr, ⊎_elim, ℤ, pos, ◌+ℤ◌, ◌-ℤ◌, ◌≤ℤ◌, ◌<ℤ◌}
use Rattle.std.specs.Prelude.{int_lt}
use Rattle.std.proofs.lemmas.Int.{ints, by_lt_z}
use Rattle.std.proofs.lemmas.Bool.{cases_lt}
use Rattle.tick_num.specs.declared.differences.Diff.{Diff}
use Rattle.tick_num.specs.Differences.{diff, InRange, listed}
use Rattle.tick_num.proofs.Pigeons.{two_alike}
use Rattle.diff_store.specs.Bounds.{Small}
use Rattle.diff_store.specs.Leasts.{at, LeastOfFirst, Low}

-- between k and k + 1 times the greatest bound
record Step (k : ℕ) (w : ℤ) : Type 0 where
  above : pos (k * 10_000_000_000_000) <ℤ w
  upto : w ≤ℤ pos ((k + 1) * 10_000_000_000_000)

-- a value is on a step or not
on_step : (k : ℕ) (w : ℤ) → Step k w ⊎ (Step k w → ⊥)
on_step k w =
    by_lt_z {P = Step k w ⊎ (Step k w → ⊥)} (pos (k * 10_000_000_000_000)) w
    (λ above. by_lt_z {P = Step k w ⊎ (Step k w → ⊥)} (pos ((k + 1) * 10_000_000_000_000)) w
    (λ high. inr (λ s. let u = s.upto in omega (arith, ints, high, u)))
    (λ upto. inl (record { above = above; upto = upto })))
    (λ low. inr (λ s. let a = s.above in omega (arith, ints, low, a)))

-- one of the first n values is on the step, or none
find_on : (v : ℕ → ℤ) (k n : ℕ) → ((y : ℕ) × (y < n) × Step k (v y)) ⊎ ((y : ℕ) → y < n → Step k (v y) → ⊥)
find_on v k zero = inr (λ y l s. absurd (omega (arith, l)))
find_on v k (suc n) =
    ⊎_elim
    (λ (s : Step k (v n)). inl (n, omega arith, s))
    (λ (no : Step k (v n) → ⊥). ⊎_elim
    (λ (f : (y : ℕ) × (y < n) × Step k (v y)). inl (f.0, (let l = f.1 in omega (arith, l)), f.2))
    (λ (none : (y : ℕ) → y < n → Step k (v y) → ⊥). inr (λ y l s. ⊎_elim
    (λ (less : y < n). none y less s)
    (λ (ge : n ≤ y). no (subst (λ j. Step k (v j)) (let e : y ≡ n = omega (arith, l, ge) in e) s))
    (cases_lt y n)))
    (find_on v k n))
    (on_step k (v n))

-- who is on the step, if one of the first n is
abbrev Found : (ℕ → ℤ) → ℕ → ℕ → Type 0
Found v k n = ((y : ℕ) × (y < n) × Step k (v y)) ⊎ ((y : ℕ) → y < n → Step k (v y) → ⊥)

who : (v : ℕ → ℤ) (k n : ℕ) → Found v k n → ℕ
who v k n (inl f) = f.0
who v k n (inr none) = 0

abbrev IsOn : (ℕ → ℤ) → ℕ → ℕ → ℕ → Type 0
IsOn v n k y = (y < n) × Step k (v y)

who_is : (v : ℕ → ℤ) (k n : ℕ) (f : Found v k n) → IsOn v n k (who v k n f) ⊎ ((y : ℕ) → y < n → Step k (v y) → ⊥)
unfolding who
who_is v k n (inl f) = inl (f.1, f.2)
who_is v k n (inr none) = inr none

-- all of the first m steps are taken, or one is free
free_one : (v : ℕ → ℤ) (n m : ℕ) → ((k : ℕ) → k < m → IsOn v n k (who v k n (find_on v k n))) ⊎ ((k : ℕ) × (k < m) × ((y : ℕ) → y < n → Step k (v y) → ⊥))
free_one v n zero = inl (λ k l. absurd (omega (arith, l)))
free_one v n (suc m) =
    ⊎_elim
    (λ (all : (k : ℕ) → k < m → IsOn v n k (who v k n (find_on v k n))). ⊎_elim
    (λ (last : IsOn v n m (who v m n (find_on v m n))). inl (λ k l. ⊎_elim
    (λ (less : k < m). all k less)
    (λ (ge : m ≤ k). subst (λ j. IsOn v n j (who v j n (find_on v j n))) (let e : m ≡ k = omega (arith, l, ge) in e) last)
    (cases_lt k m)))
    (λ (none : (y : ℕ) → y < n → Step m (v y) → ⊥). inr (m, omega arith, none))
    (who_is v m n (find_on v m n)))
    (λ (f : (k : ℕ) × (k < m) × ((y : ℕ) → y < n → Step k (v y) → ⊥)). inr (f.0, (let l = f.1 in omega (arith, l)), f.2))
    (free_one v n m)

-- of more steps than values one is free
free_step : (v : ℕ → ℤ) (n : ℕ) → (k : ℕ) × (k ≤ n) × ((y : ℕ) → y < n → Step k (v y) → ⊥)
free_step v n =
    ⊎_elim
    (λ (all : (k : ℕ) → k < suc n → IsOn v n k (who v k n (find_on v k n))).
    let f : ℕ → ℕ = λ k. who v k n (find_on v k n) in
    let w = two_alike n f (λ k l. (all k l).0) in
    let i = w.0 in
    let j = w.1 in
    let low = (all i (let a = w.2 in let b = w.3 in omega (arith, a, b))).1.upto in
    let high = (all j w.3).1.above in
    let e = ap v w.4 in
    let less = w.2 in
    absurd (crossed i j (v (f i)) (v (f j)) less low high e))
    (λ (f : (k : ℕ) × (k < suc n) × ((y : ℕ) → y < n → Step k (v y) → ⊥)). (f.0, (let l = f.1 in omega (arith, l)), f.2))
    (free_one v n (suc n))
  where
    crossed : (i j : ℕ) (a b : ℤ) → i < j → a ≤ℤ pos ((i + 1) * 10_000_000_000_000) → pos (j * 10_000_000_000_000) <ℤ b → a ≡ b → ⊥
    crossed i j a b less low high e = omega (arith, ints, less, low, high, e)

-- ---- the values above a free step, each lower by one
abbrev lowered : ℤ → ℤ → ℤ
lowered floor w = cond (int_lt floor w) (w -ℤ pos 1) w

lowered_is : (floor w : ℤ) → ((floor <ℤ w) × (lowered floor w ≡ w -ℤ pos 1)) ⊎ ((w ≤ℤ floor) × (lowered floor w ≡ w))
lowered_is floor w = by (int_lt floor w) refl
  where
    by : (t : Bool) → int_lt floor w ≡ t → ((floor <ℤ w) × (cond t (w -ℤ pos 1) w ≡ w -ℤ pos 1)) ⊎ ((w ≤ℤ floor) × (cond t (w -ℤ pos 1) w ≡ w))
    by true e = inl (omega (arith, ints), refl)
    by false e = inr (omega (arith, ints), refl)

-- a difference stays within a bound, where no value lies on the step above the floor
lowered_meets : (k : ℕ) (a b c : ℤ) → (a -ℤ b) ≤ℤ c → pos 0 ≤ℤ (c +ℤ pos 10_000_000_000_000) → (Step k b → ⊥) → (lowered (pos (k * 10_000_000_000_000)) a -ℤ lowered (pos (k * 10_000_000_000_000)) b) ≤ℤ c
lowered_meets k a b c met small free =
    let floor = pos (k * 10_000_000_000_000) in
    ⊎_elim
    (λ (x : (floor <ℤ a) × (lowered floor a ≡ a -ℤ pos 1)). let x1 = x.1 in ⊎_elim
    (λ (y : (floor <ℤ b) × (lowered floor b ≡ b -ℤ pos 1)). let y1 = y.1 in omega (arith, ints, met, x1, y1))
    (λ (y : (b ≤ℤ floor) × (lowered floor b ≡ b)). let y1 = y.1 in omega (arith, ints, met, x1, y1))
    (lowered_is floor b))
    (λ (x : (a ≤ℤ floor) × (lowered floor a ≡ a)). let x0 = x.0 in let x1 = x.1 in ⊎_elim
    (λ (y : (floor <ℤ b) × (lowered floor b ≡ b -ℤ pos 1)).
    let y0 = y.0 in
    let y1 = y.1 in
    by_lt_z {P = (lowered floor a -ℤ lowered floor b) ≤ℤ c} (pos ((k + 1) * 10_000_000_000_000)) b
    (λ high. omega (arith, ints, small, x0, x1, y1, high))
    (λ upto. absurd (free (record { above = y0; upto = upto }))))
    (λ (y : (b ≤ℤ floor) × (lowered floor b ≡ b)). let y1 = y.1 in omega (arith, ints, met, x1, y1))
    (lowered_is floor b))
    (lowered_is floor a)

lowered_zero : (k : ℕ) (a : ℤ) → pos 0 ≤ℤ a → pos 0 ≤ℤ lowered (pos (k * 10_000_000_000_000)) a
lowered_zero k a z =
    let floor = pos (k * 10_000_000_000_000) in
    ⊎_elim
    (λ (x : (floor <ℤ a) × (lowered floor a ≡ a -ℤ pos 1)). let x0 = x.0 in let x1 = x.1 in omega (arith, ints, x0, x1))
    (λ (x : (a ≤ℤ floor) × (lowered floor a ≡ a)). let x1 = x.1 in omega (arith, ints, z, x1))
    (lowered_is floor a)

lowered_less : (k n : ℕ) (a : ℤ) → k ≤ n → pos ((n + 1) * 10_000_000_000_000) <ℤ a → a ≤ℤ lowered (pos (k * 10_000_000_000_000)) a → ⊥
lowered_less k n a few high up =
    let floor = pos (k * 10_000_000_000_000) in
    ⊎_elim
    (λ (x : (floor <ℤ a) × (lowered floor a ≡ a -ℤ pos 1)). let x1 = x.1 in omega (arith, ints, x1, up))
    (λ (x : (a ≤ℤ floor) × (lowered floor a ≡ a)). let x0 = x.0 in omega (arith, ints, x0, few, high))
    (lowered_is floor a)

module _ (n k : ℕ) (ds : List Diff) (v : ℕ → ℤ) (within : k ≤ length ds) (range : InRange n ds) (small : All Small ds) (h : LeastOfFirst k ds v) where
  bounded : (y : ℕ) → v y ≤ℤ pos ((n + 1) * 10_000_000_000_000)
  bounded y =
      let f = free_step v n in
      let floor = pos (f.0 * 10_000_000_000_000) in
      by_lt_z {P = v y ≤ℤ pos ((n + 1) * 10_000_000_000_000)} (pos ((n + 1) * 10_000_000_000_000)) (v y)
      (λ high. absurd (lowered_less f.0 n (v y) f.1 high (h.least (λ x. lowered floor (v x))
      (λ i l.
      let in' : i < length ds = omega (arith, l, within) in
      let s = (small i (diff 0 0 (pos 0)) in').0 in
      lowered_meets f.0 (v (at ds i).x) (v (at ds i).y) (at ds i).c (h.solves i l) (omega (arith, ints, s)) (f.2 (at ds i).y (range i (diff 0 0 (pos 0)) in').1))
      (λ x. lowered_zero f.0 (v x) (h.from_zero x))
      y)))
      (λ upto. upto)

-- the values of n variables
pub low_values : (n k : ℕ) (ds : List Diff) (vs : List ℤ) → n ≤ 400_000 → k ≤ length ds → InRange n ds → All Small ds → LeastOfFirst k ds (listed vs) → Low (listed vs)
low_values n k ds vs few within range small h y = let b = bounded n k ds (listed vs) within range small h y in omega (arith, ints, few, b)
