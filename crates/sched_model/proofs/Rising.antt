-- Round instances begin in their order
use Rattle.std.proofs.Common.{◌≡◌, ℕ, zero, suc, ◌+◌, ◌-◌, ◌*◌, ◌/◌, ◌%◌, ◌<◌, ◌≤◌, length, ◌∙◌, ap, arith, ⊎_elim, pos, ◌+ℤ◌, ◌≤ℤ◌}
use Rattle.std.proofs.lemmas.Int.{ints}
use Rattle.std.proofs.lemmas.Bool.{cases_lt}
use Rattle.std.proofs.lemmas.Nat.{mod_below, div-add-mod', div-mul-add, mod-mul-add}
use Rattle.sched_model.specs.declared.schedule.Schedule.{Schedule}
use Rattle.sched_model.specs.PlainMode.{PlainMode, hyper}
use Rattle.sched_model.specs.Rounds.{round_start, start}
use Rattle.sched_model.specs.RightSchedule.{RoundsFit}
use Rattle.sched_model.proofs.Given.{Rises}

step_within : (x r : ℕ) → x % r + 1 < r → (suc x % r ≡ suc (x % r)) × (suc x / r ≡ x / r)
step_within x r h =
    let d = div-add-mod' x r in
    let e : suc x ≡ x / r * r + suc (x % r) = omega (arith, d) in
    (ap (λ y. y % r) e ∙ mod-mul-add (x / r) r (suc (x % r)) (omega arith), ap (λ y. y / r) e ∙ div-mul-add (x / r) r (suc (x % r)) (omega arith))

step_over : (x r : ℕ) → 1 ≤ r → r ≤ x % r + 1 → (suc x % r ≡ 0) × (suc x / r ≡ suc (x / r)) × (suc (x % r) ≡ r)
step_over x r some h =
    let d = div-add-mod' x r in
    let b = mod_below x r some in
    let e : suc x ≡ suc (x / r) * r + 0 = omega (arith, d, b) in
    (ap (λ y. y % r) e ∙ mod-mul-add (suc (x / r)) r 0 some, ap (λ y. y / r) e ∙ div-mul-add (suc (x / r)) r 0 some, omega (arith, b))

module _ (m : PlainMode) (s : Schedule) (some : 1 ≤ length s.starts) (fit : RoundsFit m s) where
  -- the next round instance begins after this one's end
  pub next_start : (x : ℕ) → (start m s (suc x) +ℤ pos m.round) ≤ℤ start m s (suc (suc x))
  next_start x =
      let r = length s.starts in
      let at : (y : ℕ) → start m s (suc y) ≡ round_start s (y % r) +ℤ pos (y / r * hyper m) = λ y. ap (λ (z : ℕ). round_start s (z % r) +ℤ pos (z / r * hyper m)) (let e : suc y - 1 ≡ y = omega arith in e) in
      ⊎_elim
      (λ (less : x % r + 1 < r).
      let w = step_within x r less in
      let a = ap (round_start s) w.0 in
      let b = ap (λ y. y * hyper m) w.1 in
      omega (arith, ints, at x, at (suc x), a, b, fit.apart (x % r) (omega arith)))
      (λ (last : r ≤ x % r + 1).
      let w = step_over x r some last in
      let a = ap (round_start s) w.0 in
      let b = ap (λ y. y * hyper m) w.1 in
      omega (arith, ints, at x, at (suc x), a, b, fit.begin, fit.end (x % r) w.2))
      (cases_lt (x % r + 1) r)

  rises_by : (n x : ℕ) → start m s (suc x) ≤ℤ start m s (suc x + n)
  rises_by zero x = let e = ap (start m s) (let z : suc x + 0 ≡ suc x = omega arith in z) in omega (arith, ints, e)
  rises_by (suc n) x =
      let a = rises_by n (suc x) in
      let e = ap (start m s) (let z : suc x + suc n ≡ suc (suc x) + n = omega arith in z) in
      omega (arith, ints, a, e, next_start x)

  pub rises : Rises (start m s)
  rises g h one le =
      let a = rises_by (h - g) (g - 1) in
      let e = ap (start m s) (let z : suc (g - 1) ≡ g = omega arith in z) in
      let f = ap (start m s) (let z : suc (g - 1) + (h - g) ≡ h = omega arith in z) in
      omega (arith, ints, a, e, f)
