-- A right schedule has its times within the limits
use Rattle.std.proofs.Common.{ℕ, ◌*◌, ◌/◌, ◌<◌, ◌≤◌, Contains, length, subst, arith, ℤ, pos}
use Rattle.std.proofs.lemmas.Int.{ints}
use Rattle.std.proofs.lemmas.List.{get_or_default}
use Rattle.std.proofs.Math.Nat.{mul-le-mul_right}
use Rattle.sched_model.specs.declared.schedule.Schedule.{Schedule}
use Rattle.sched_model.specs.PlainMode.{PlainMode, hyper, task_at}
use Rattle.sched_model.specs.Rounds.{round_start, task_start, opens, closes}
use Rattle.sched_model.specs.RightSchedule.{IsSchedule}
use Rattle.sched_model.specs.TimeLimits.{IsTime, HasTimes}
use Rattle.sched_model.specs.ValidMode.{IsValid}
use Rattle.sched_model.proofs.Hyperperiods.{period_divides, hyper_some, some_factor}
use Rattle.sched_model.proofs.Graph.{message_edge}
use Rattle.sched_model.proofs.Backward.{on_time, starts_from_zero}
use Rattle.sched_model.proofs.OneTurn.{in_hyper}

period_most : (m : PlainMode) (p : ℕ) → 1 ≤ p → Contains m.periods p → p ≤ hyper m
period_most m p one c =
    let e = period_divides m p one c in
    let some = some_factor (hyper m) (hyper m / p) p (hyper_some m) e in
    let n : 1 * p ≤ hyper m / p * p = mul-le-mul_right p some in
    omega (arith, e, n)

module _ (m : PlainMode) (r : ℕ) (s : Schedule) (ok : IsValid m) (is : IsSchedule m r s) where
  start_time : (j : ℕ) → j < length s.starts → IsTime (round_start s j)
  start_time j l = (
    starts_from_zero m r s ok is j (omega (arith, l, is.shape.starts)),
    omega (arith, ints, in_hyper m r s ok is.shape is.s1 is.s3 is.s4 j l, ok.hyper_limit),
  )

  task_time : (a : ℕ) → a < length m.tasks → IsTime (task_start s a)
  task_time a l =
      let p = period_most m (task_at m a).period (ok.periods _ (ok.task_period a l)) (ok.task_period a l) in
      ((is.s3 a l).from_zero, omega (arith, ints, on_time m r s ok is a l, p, ok.deadline a l, ok.hyper_limit, (ok.wcet a l).0))

  window_time : (i : ℕ) → i < length m.messages → IsTime (opens s i) × IsTime (closes s i)
  window_time i l =
      let f = is.s4 i l in
      let a = ok.producer i l in
      let b = ok.consumer i l in
      let e = ok.edges a.0 b.0 (message_edge m i a.0 b.0 l a.1 b.1) in
      let ta = task_time a.0 e.from in
      let tb = task_time b.0 e.to in
      let sent = f.sent a.0 a.1 in
      let taken = f.taken b.0 b.1 in
      ((omega (arith, ints, sent, ta.0), omega (arith, ints, f.lasts, taken, tb.1)), (omega (arith, ints, sent, ta.0, f.lasts), omega (arith, ints, taken, tb.1)))

  pub times : HasTimes s
  times = record {
    starts = λ j d l. subst IsTime (get_or_default s.starts j (pos 0) d l) (start_time j l);
    tasks = λ a d l. subst IsTime (get_or_default s.tasks a (pos 0) d l) (task_time a (omega (arith, l, is.shape.tasks)));
    messages = λ i d l. subst (λ (w : ℤ × ℤ). IsTime w.0 × IsTime w.1) (get_or_default s.messages i (pos 0, pos 0) d l) (window_time i (omega (arith, l, is.shape.messages)));
  }
