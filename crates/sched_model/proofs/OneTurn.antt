-- The clauses on all of time are the finite tests of one hyperperiod
use Rattle.std.proofs.Common.{◌≡◌, ℕ, zero, suc, ◌+◌, ◌-◌, ◌*◌, ◌/◌, ◌%◌, ◌<◌, ◌≤◌, refl, ◌∙◌, ap, subst, arith, ⊎_elim, ◌↔◌, length, ℤ, pos, negsuc, ◌+ℤ◌, ◌-ℤ◌, ◌*ℤ◌, ◌≤ℤ◌, ◌<ℤ◌}
use Rattle.std.specs.Int.{int_div_euclid}
use Rattle.std.proofs.lemmas.Int.{ints}
use Rattle.std.proofs.lemmas.Bool.{cases_lt}
use Rattle.std.proofs.lemmas.Nat.{div-mul-add, mod-mul-add}
use Rattle.std.proofs.Math.Nat.{mul-le-mul_right}
use borrow.Author.Differences.{same_in}
use Rattle.tick_num.proofs.Floor.{floor_low, floor_high, sum-times}
use Rattle.sched_model.specs.declared.schedule.Schedule.{Schedule}
use Rattle.sched_model.specs.Numbers.{natural, gcd}
use Rattle.sched_model.specs.PlainMode.{PlainMode, hyper, task_at, message_at, instance_count}
use Rattle.sched_model.specs.Rounds.{round_start, task_start, opens, closes, start, Carries}
use Rattle.sched_model.specs.RightSchedule.{HasShape, RoundsFit, OffsetFits, MessageFits, RunsApart, AllServed, Timely}
use Rattle.sched_model.specs.OneHyperperiod.{class_place, ClassesApart, Lists, wait, first_start, window_then, EndsInWindow, ServesFirst, ServedOnce, EntriesFit}
use Rattle.sched_model.specs.ValidMode.{IsValid}
use Rattle.sched_model.proofs.Hyperperiods.{hyper_some}
use Rattle.sched_model.proofs.Pairs.{Fits, gcd_some, never_meet, place_of, at_most_from_times}
use Rattle.sched_model.proofs.Graph.{message_edge}
use Rattle.sched_model.proofs.Exactly.{also}
use Rattle.sched_model.proofs.Serving.{Repeats}
use Rattle.sched_model.proofs.Services.{window_repeats}
use Rattle.sched_model.proofs.Rising.{rises}
use Rattle.sched_model.proofs.FirstInstances.{FirstInstances, FirstIn, entries_fit, all_timely, served_once, all_served}

-- ---- quotients as natural numbers
-- rounded up: the least number of h that reach x
reach_up : (x : ℤ) (h : ℕ) → 1 ≤ h → let n = natural (int_div_euclid (x +ℤ pos h -ℤ pos 1) (pos h)) in (x ≤ℤ pos (n * h)) × ((y : ℕ) → y < n → pos (y * h) <ℤ x)
reach_up x h one = at (int_div_euclid (x +ℤ pos h -ℤ pos 1) (pos h)) refl
  where
    at : (c : ℤ) → c ≡ int_div_euclid (x +ℤ pos h -ℤ pos 1) (pos h) → (x ≤ℤ pos (natural c * h)) × ((y : ℕ) → y < natural c → pos (y * h) <ℤ x)
    at (pos n) e =
        let low = floor_low (x +ℤ pos h -ℤ pos 1) (pos h) (pos n) (omega (arith, ints, one)) e in
        let high = floor_high (x +ℤ pos h -ℤ pos 1) (pos h) (pos n) (omega (arith, ints, one)) e in (
          omega (arith, ints, high, sum-times (pos n) (pos 1) (pos h)),
          λ y l. let m : (y + 1) * h ≤ n * h = mul-le-mul_right h (omega (arith, l)) in omega (arith, ints, low, m),
        )
    at (negsuc n) e =
        let high = floor_high (x +ℤ pos h -ℤ pos 1) (pos h) (negsuc n) (omega (arith, ints, one)) e in
        let times = sum-times (negsuc n) (pos 1) (pos h) in
        let m : 1 * h ≤ suc n * h = mul-le-mul_right h (omega arith) in
        (omega (arith, ints, high, times, m), λ y l. absurd (omega (arith, l)))

-- rounded down
reach_down : (x : ℤ) (p : ℕ) → 1 ≤ p → pos 0 ≤ℤ x → let n = natural (int_div_euclid x (pos p)) in (pos (n * p) ≤ℤ x) × (x <ℤ (pos (n * p) +ℤ pos p))
reach_down x p one z = at (int_div_euclid x (pos p)) refl
  where
    at : (c : ℤ) → c ≡ int_div_euclid x (pos p) → (pos (natural c * p) ≤ℤ x) × (x <ℤ (pos (natural c * p) +ℤ pos p))
    at (pos n) e =
        let low = floor_low x (pos p) (pos n) (omega (arith, ints, one)) e in
        let high = floor_high x (pos p) (pos n) (omega (arith, ints, one)) e in
        (omega (arith, ints, low), omega (arith, ints, high, sum-times (pos n) (pos 1) (pos p)))
    at (negsuc n) e =
        let high = floor_high x (pos p) (negsuc n) (omega (arith, ints, one)) e in
        let times = sum-times (negsuc n) (pos 1) (pos p) in
        let m : 1 * p ≤ suc n * p = mul-le-mul_right p (omega arith) in
        absurd (omega (arith, ints, high, times, m, z))

-- ---- S6
-- a place that fits is the quotient
fits_at : (g e1 e2 : ℕ) (o1 o2 z : ℤ) → 1 ≤ g → 1 ≤ e1 → 1 ≤ e2 → ((z *ℤ pos g +ℤ pos e1) ≤ℤ (o2 -ℤ o1)) → ((o2 -ℤ o1) ≤ℤ ((z +ℤ pos 1) *ℤ pos g -ℤ pos e2)) → z ≡ int_div_euclid (o2 -ℤ o1 -ℤ pos e1) (pos g)
fits_at g e1 e2 o1 o2 z one h k a b =
    let x = o2 -ℤ o1 -ℤ pos e1 in
    let c = int_div_euclid x (pos g) in
    let low = floor_low x (pos g) c (omega (arith, ints, one)) refl in
    let high = floor_high x (pos g) c (omega (arith, ints, one)) refl in
    same_in z c (omega (arith, ints, at_most_from_times z c g (omega (arith, ints, a, high)), at_most_from_times c z g (omega (arith, ints, b, low, h, k))))

module _ (m : PlainMode) (r : ℕ) (s : Schedule) (ok : IsValid m) (shape : HasShape m r s) (rounds : RoundsFit m s) (offsets : (a : ℕ) → a < length m.tasks → OffsetFits m s a)
    (messages : (i : ℕ) → i < length m.messages → MessageFits m s i) where
  pub classes_apart : (a b : ℕ) → a < length m.tasks → b < length m.tasks → RunsApart m s a b ↔ ClassesApart m s a b
  classes_apart a b la lb =
      let p = ok.periods _ (ok.task_period a la) in
      let q = ok.periods _ (ok.task_period b lb) in
      let e = (ok.wcet a la).0 in
      let f = (ok.wcet b lb).0 in
      let i = (offsets a la).from_zero in
      let j = (offsets b lb).from_zero in
      let o1 = task_start s a in
      let o2 = task_start s b in (
        λ apart.
            let w = place_of (task_at m a) (task_at m b) o1 o2 p q e f i j apart in
            let z = fits_at (gcd (task_at m a).period (task_at m b).period) (task_at m a).wcet (task_at m b).wcet o1 o2 w.0 (gcd_some _ _ p q) e f w.1.0 w.1.1 in
            subst (λ (z : ℤ). Fits (task_at m a) (task_at m b) o1 o2 z) z w.1,
        λ fits. never_meet (task_at m a) (task_at m b) o1 o2 (class_place m s a b) p q e f i j fits,
      )

  -- ---- S7 and S8
  some : 1 ≤ length s.starts
  some = omega (arith, shape.starts, shape.some)

  abbrev InTable : ℕ → ℕ → Type 0
  InTable i j = Lists m s i j

  rep : (i : ℕ) → i < length m.messages → Repeats (start m s) (length s.starts) (hyper m) (instance_count m (message_at m i)) (message_at m i).period m.round (opens s i) (closes s i)
  rep i l = window_repeats m s i ok some l (messages i l)

  -- the instance of the round at place j in hyperperiod x
  instance_start : (j x : ℕ) → j < length s.starts → start m s (suc j + x * length s.starts) ≡ round_start s j +ℤ pos (x * hyper m)
  instance_start j x l =
      let n = length s.starts in
      let e : suc j + x * n - 1 ≡ x * n + j = omega arith in
      ap (λ y. round_start s (y % n) +ℤ pos (y / n * hyper m)) e
      ∙ ap (λ y. round_start s y +ℤ pos ((x * n + j) / n * hyper m)) (mod-mul-add x n j l) ∙ ap (λ y. round_start s j +ℤ pos (y * hyper m)) (div-mul-add x n j l)

  -- rounds start within the hyperperiod
  pub in_hyper : (j : ℕ) → j < length s.starts → round_start s j <ℤ pos (hyper m)
  in_hyper j l =
      let n = length s.starts in
      let up = rises m s some rounds (suc j) n (omega arith) (omega (arith, l)) in
      let a = instance_start j 0 l in
      let b = instance_start (n - 1) 0 (omega (arith, some)) in
      let c = ap (start m s) (let z : suc (n - 1) + 0 * n ≡ n = omega (arith, some) in z) in
      let d = ap (start m s) (let z : suc j + 0 * n ≡ suc j = omega arith in z) in
      omega (arith, ints, up, a, b, c, d, rounds.end (n - 1) (omega (arith, some)), ok.round)

  opens_late : (i : ℕ) → i < length m.messages → pos 0 ≤ℤ opens s i
  opens_late i l =
      let a = ok.producer i l in
      let b = ok.consumer i l in
      let e = ok.edges a.0 b.0 (message_edge m i a.0 b.0 l a.1 b.1) in
      omega (arith, ints, (messages i l).sent a.0 a.1, (offsets a.0 e.from).from_zero)

  -- the first instance from the opening on starts within a hyperperiod of it
  first_late : (i j : ℕ) → i < length m.messages → j < length s.starts →
      (pos 0 ≤ℤ (first_start m s i j -ℤ opens s i)) × ((first_start m s i j -ℤ opens s i) <ℤ pos (hyper m))
  first_late i j l lj =
      let w = reach_up (opens s i -ℤ round_start s j) (hyper m) (hyper_some m) in
      (omega (arith, ints, w.0), late (wait m s i j) w.1)
    where
      late : (n : ℕ) → ((y : ℕ) → y < n → pos (y * hyper m) <ℤ (opens s i -ℤ round_start s j)) → (round_start s j +ℤ pos (n * hyper m) -ℤ opens s i) <ℤ pos (hyper m)
      late zero f = omega (arith, ints, in_hyper j lj, opens_late i l)
      late (suc n) f = omega (arith, ints, f n (omega arith))

  in_window : (i j : ℕ) (l : i < length m.messages) (lj : j < length s.starts) →
      (pos (window_then m s i j * (message_at m i).period) ≤ℤ (first_start m s i j -ℤ opens s i)) × ((first_start m s i j -ℤ opens s i) <ℤ (pos (window_then m s i j * (message_at m i).period) +ℤ pos (message_at m i).period))
  in_window i j l lj = reach_down (first_start m s i j -ℤ opens s i) (message_at m i).period (ok.periods _ (ok.message_period i l)) (first_late i j l lj).0

  firsts : (i : ℕ) → i < length m.messages → FirstInstances (start m s) (length s.starts) (instance_count m (message_at m i)) (message_at m i).period (opens s i) (wait m s i) (window_then m s i)
  firsts i l = record {
    reached = λ j lj. let a = (first_late i j l lj).0 in let e = instance_start j (wait m s i j) lj in omega (arith, ints, e, a);
    before = λ j x lj less. let w = (reach_up (opens s i -ℤ round_start s j) (hyper m) (hyper_some m)).1 x less in omega (arith, ints, instance_start j x lj, w);
    low = λ j lj. let w = (in_window i j l lj).0 in omega (arith, ints, instance_start j (wait m s i j) lj, w);
    high = λ j lj. let w = (in_window i j l lj).1 in omega (arith, ints, instance_start j (wait m s i j) lj, w);
    small = λ j lj.
        let w = (in_window i j l lj).0 in
        let a = (first_late i j l lj).1 in
        below_factor (window_then m s i j) (instance_count m (message_at m i)) (message_at m i).period (omega (arith, ints, w, a, (rep i l).whole));
  }
    where
      below_factor : (a b p : ℕ) → a * p < b * p → a < b
      below_factor a b p h = ⊎_elim (λ (less : a < b). less) (λ (le : b ≤ a). absurd (let n : b * p ≤ a * p = mul-le-mul_right p le in omega (arith, h, n))) (cases_lt a b)

  -- ---- S8
  -- the bounds of the first instance are those of its round
  ends_both : (i j : ℕ) → j < length s.starts →
      EndsInWindow m s i j ↔ ((start m s (suc j + wait m s i j * length s.starts) +ℤ pos m.round) ≤ℤ (closes s i +ℤ pos (window_then m s i j * (message_at m i).period)))
  ends_both i j l = let e = instance_start j (wait m s i j) l in (λ h. omega (arith, ints, e, h), λ h. omega (arith, ints, e, h))

  pub entries : ((i g : ℕ) → i < length m.messages → 1 ≤ g → Carries m s i g → Timely m s i g) ↔ EntriesFit m s
  entries = (
    λ all i j l lj c. (ends_both i j lj).1 (entries_fit (start m s) (length s.starts) (hyper m) _ _ m.round (opens s i) (closes s i) (InTable i) (rep i l) (wait m s i) (window_then m s i) (firsts i l) (λ g. all i g l) j lj c),
    λ fit i g l one c. all_timely (start m s) (length s.starts) (hyper m) _ _ m.round (opens s i) (closes s i) (InTable i) (rep i l) (wait m s i) (window_then m s i) (firsts i l)
        (λ j lj d. (ends_both i j lj).0 (fit i j l lj d)) g one c,
  )

  -- ---- S7
  abbrev First : (i : ℕ) → i < length m.messages → ℕ → ℕ → Type 0
  First i l = FirstIn (start m s) (length s.starts) (hyper m) (instance_count m (message_at m i)) (message_at m i).period m.round (opens s i) (closes s i) (InTable i) (rep i l) (wait m s i) (window_then m s i) (firsts i l)

  to_first : (i k : ℕ) (l : i < length m.messages) (j : ℕ) → First i l k j → ServesFirst m s i k j
  to_first i k l j w = record { within = w.0; lists = w.1; which = w.2; ends = (ends_both i j w.0).1 w.3 }

  of_first : (i k : ℕ) (l : i < length m.messages) (j : ℕ) → ServesFirst m s i k j → First i l k j
  of_first i k l j w = (w.within, w.lists, w.which, (ends_both i j w.within).0 w.ends)

  pub windows : AllServed m s ↔ ServedOnce m s
  windows = (
    λ all. record {
      tables = all.tables;
      windows = λ i k l lk.
          let c = (message_at m i).copies in
          also c (First i l k) (ServesFirst m s i k) (to_first i k l) (of_first i k l)
          (served_once (start m s) (length s.starts) (hyper m) _ _ m.round (opens s i) (closes s i) (InTable i) (rep i l) (wait m s i) (window_then m s i) (firsts i l) c (λ k. all.windows i k l) k lk);
    },
    λ once. record {
      tables = once.tables;
      windows = λ i k l.
          let c = (message_at m i).copies in
          all_served (start m s) (length s.starts) (hyper m) _ _ m.round (opens s i) (closes s i) (InTable i) (rep i l) (wait m s i) (window_then m s i) (firsts i l) c
          (λ k lk. also c (ServesFirst m s i k) (First i l k) (of_first i k l) (to_first i k l) (once.windows i k l lk)) k;
    },
  )
