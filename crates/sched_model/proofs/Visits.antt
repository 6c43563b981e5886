-- When a round first starts in or after a message's first window, in natural numbers
use Rattle.std.proofs.Common.{◌≡◌, ℕ, ◌+◌, ◌-◌, ◌*◌, ◌/◌, ◌<◌, ◌≤◌, leb, ◌↔◌, IsTrue, sym, ◌∙◌, ap, arith, ⊎_elim, ℤ, pos, negsuc, ◌+ℤ◌, ◌-ℤ◌}
use Rattle.std.specs.Int.{int_div_euclid}
use Rattle.std.proofs.lemmas.Int.{ints}
use Rattle.std.proofs.lemmas.Bool.{cases_lt}
use Rattle.std.proofs.Math.Nat.{zero-div}
use borrow.Author.Differences.{same_in}
use Rattle.sched_model.specs.declared.schedule.Schedule.{Schedule}
use Rattle.sched_model.specs.Numbers.{natural}
use Rattle.sched_model.specs.PlainMode.{PlainMode, hyper, message_at}
use Rattle.sched_model.specs.Rounds.{round_start, opens, closes}
use Rattle.sched_model.specs.OneHyperperiod.{wait, first_start, window_then, EndsInWindow}
use Rattle.sched_model.proofs.TimeTests.{le_test, later}

natural_quotient : (x t h : ℕ) → natural (int_div_euclid (pos x -ℤ pos t) (pos h)) ≡ (x - t) / h
natural_quotient x t h = ⊎_elim
    (λ (less : x < t). ap (λ (z : ℤ). natural (int_div_euclid z (pos h))) (same_in (pos x -ℤ pos t) (negsuc (t - x - 1)) (omega (arith, ints, less)))
    ∙ sym (ap (λ n. n / h) (let e : x - t ≡ 0 = omega (arith, less) in e) ∙ zero-div h))
    (λ (le : t ≤ x). ap (λ (z : ℤ). natural (int_div_euclid z (pos h))) (same_in (pos x -ℤ pos t) (pos (x - t)) (omega (arith, ints, le))))
    (cases_lt x t)

module _ (m : PlainMode) (s : Schedule) (i j start begin ticks : ℕ) (at : pos start ≡ round_start s j) (op : pos begin ≡ opens s i) (whole : ticks ≡ hyper m) (some : 1 ≤ ticks) where
  wait_is : wait m s i j ≡ (begin + ticks - 1 - start) / ticks
  wait_is =
      ap (λ (z : ℤ). natural (int_div_euclid (z -ℤ round_start s j +ℤ pos (hyper m) -ℤ pos 1) (pos (hyper m)))) (sym op)
      ∙ ap (λ (z : ℤ). natural (int_div_euclid (pos begin -ℤ z +ℤ pos (hyper m) -ℤ pos 1) (pos (hyper m)))) (sym at)
      ∙ ap (λ n. natural (int_div_euclid (pos begin -ℤ pos start +ℤ pos n -ℤ pos 1) (pos n))) (sym whole)
      ∙ ap (λ (z : ℤ). natural (int_div_euclid z (pos ticks))) (same_in (pos begin -ℤ pos start +ℤ pos ticks -ℤ pos 1) (pos (begin + ticks - 1) -ℤ pos start) (omega (arith, ints, some)))
      ∙ natural_quotient (begin + ticks - 1) start ticks

  pub first_start_is : (first : ℕ) → first ≡ start + (begin + ticks - 1 - start) / ticks * ticks → pos first ≡ first_start m s i j
  first_start_is first e =
      ap (λ n. pos n) e
      ∙ later start ((begin + ticks - 1 - start) / ticks * ticks) (wait m s i j * hyper m) (round_start s j) at
      (ap (λ n. n * ticks) (sym wait_is) ∙ ap (λ n. wait m s i j * n) whole)

module _ (m : PlainMode) (s : Schedule) (i j first begin period : ℕ) (at : pos first ≡ first_start m s i j) (op : pos begin ≡ opens s i) (each : period ≡ (message_at m i).period) where
  pub window_is : (which : ℕ) → which ≡ (first - begin) / period → which ≡ window_then m s i j
  window_is which e =
      e ∙ sym (natural_quotient first begin period)
      ∙ ap (λ (z : ℤ). natural (int_div_euclid (z -ℤ pos begin) (pos period))) at
      ∙ ap (λ (z : ℤ). natural (int_div_euclid (first_start m s i j -ℤ z) (pos period))) op
      ∙ ap (λ n. natural (int_div_euclid (first_start m s i j -ℤ opens s i) (pos n))) each

  pub ends_is : (which close round : ℕ) → which ≡ window_then m s i j → pos close ≡ closes s i → round ≡ m.round → IsTrue (leb (first + round) (close + which * period)) ↔ EndsInWindow m s i j
  ends_is which close round w c r =
      le_test (first + round) (close + which * period) _ _ (later first round m.round (first_start m s i j) at r)
      (later close (which * period) (window_then m s i j * (message_at m i).period) (closes s i) c (ap (λ n. n * period) w ∙ ap (λ n. window_then m s i j * n) each))
