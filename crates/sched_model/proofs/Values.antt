-- The times of a schedule as values of the variables, and the base list that they meet
use Rattle.std.proofs.Common.{◌≡◌, ℕ, suc, ◌+◌, ◌-◌, ◌*◌, ◌/◌, ◌%◌, ◌<◌, eqb, ltb, length, sym, ◌∙◌, ap, arith, ℤ, pos}
use Rattle.std.proofs.lemmas.Int.{ints}
use Rattle.std.proofs.lemmas.Bool.{cond-true, cond-false, lt-ltb, le-ltb, eq-eqb, ne_eqb}
use Rattle.sched_model.specs.declared.schedule.Schedule.{Schedule}
use Rattle.sched_model.specs.PlainMode.{PlainMode}
use Rattle.sched_model.specs.Rounds.{round_start, task_start, opens, closes}
use Rattle.sched_model.specs.RightSchedule.{IsSchedule}
use Rattle.sched_model.specs.ValidMode.{IsValid}
use Rattle.sched_model.specs.ScheduleList.{window_value, task_value, values_of}
use Rattle.sched_model.proofs.Base.{BaseFacts, MessageFacts}
use Rattle.sched_model.proofs.Moments.{Reads}
use Rattle.sched_model.proofs.Graph.{message_edge, reaches_walk}

late : (m : PlainMode) (r : ℕ) (s : Schedule) (y : ℕ) → values_of m r s (r + y) ≡ task_value m s y
late m r s y = cond-false (ltb (r + y) r) (round_start s (r + y)) (task_value m s (r + y - r)) (le-ltb (r + y) r (omega arith)) ∙ ap (task_value m s) (let e : r + y - r ≡ y = omega arith in e)

window : (m : PlainMode) (r : ℕ) (s : Schedule) (y : ℕ) → values_of m r s (r + length m.tasks + y) ≡ window_value s y
window m r s y =
    let n = length m.tasks in
    ap (values_of m r s) (let e : r + n + y ≡ r + (n + y) = omega arith in e) ∙ late m r s (n + y)
    ∙ cond-false (ltb (n + y) n) (task_start s (n + y)) (window_value s (n + y - n)) (le-ltb (n + y) n (omega arith)) ∙ ap (window_value s) (let e : n + y - n ≡ y = omega arith in e)

pub reads_of : (m : PlainMode) (r : ℕ) (s : Schedule) → length s.starts ≡ r → Reads m r s (values_of m r s)
reads_of m r s count = record {
  count = count;
  rounds = λ j l. sym (cond-true (ltb j r) (round_start s j) (task_value m s (j - r)) (lt-ltb j r l));
  tasks = λ a l. sym (late m r s a ∙ cond-true (ltb a (length m.tasks)) (task_start s a) (window_value s (a - length m.tasks)) (lt-ltb a (length m.tasks) l));
  opening = λ i l. sym (window m r s (2 * i) ∙ cond-true (eqb ((2 * i) % 2) 0) (opens s (2 * i / 2)) (closes s (2 * i / 2)) (eq-eqb ((2 * i) % 2) 0 (omega arith)) ∙ ap (opens s) (let e : 2 * i / 2 ≡ i = omega arith in e));
  closing = λ i l. sym (ap (values_of m r s) (let e : r + length m.tasks + 2 * i + 1 ≡ r + length m.tasks + (2 * i + 1) = omega arith in e) ∙ window m r s (2 * i + 1)
      ∙ cond-false (eqb ((2 * i + 1) % 2) 0) (opens s ((2 * i + 1) / 2)) (closes s ((2 * i + 1) / 2)) (ne_eqb ((2 * i + 1) % 2) 0 (λ (e : (2 * i + 1) % 2 ≡ 0). omega arith)) ∙ ap (closes s) (let e : (2 * i + 1) / 2 ≡ i = omega arith in e));
}

module _ (m : PlainMode) (r : ℕ) (s : Schedule) (v : ℕ → ℤ) (ok : IsValid m) (rd : Reads m r s v) (is : IsSchedule m r s) where
  first_is : v 0 ≡ pos 0
  first_is = sym (rd.rounds 0 (omega (arith, is.shape.some))) ∙ is.s1.begin

  message_meets : (i : ℕ) → i < length m.messages → MessageFacts m r v i
  message_meets i l =
      let f = is.s4 i l in
      let o = rd.opening i l in
      let q = rd.closing i l in
      let t = ok.consumer i l in
      let a0 = ok.producer i l in
      record {
        from = λ a c. let e = rd.tasks a (ok.edges a t.0 (message_edge m i a t.0 l c t.1)).from in (omega (arith, ints, o, q, e, f.sent a c), omega (arith, ints, o, q, e, f.kept a c));
        lasts = omega (arith, ints, o, q, f.lasts);
        to = λ b c. let e = rd.tasks b (ok.edges a0.0 b (message_edge m i a0.0 b l a0.1 c)).to in (omega (arith, ints, o, q, e, f.taken b c), omega (arith, ints, o, q, e, f.next b c));
      }

  pub base_facts : BaseFacts m r v
  base_facts = record {
    rounds = λ j l.
        let e = ap v (let x : suc j ≡ j + 1 = omega arith in x) in
        let h : suc j < length s.starts = omega (arith, rd.count) in
        (omega (arith, ints, rd.rounds j (omega arith), rd.rounds (suc j) (omega arith), e, is.s1.apart j h), omega (arith, ints, rd.rounds j (omega arith), rd.rounds (suc j) (omega arith), e, is.s2.within j h));
    turn =
        let h : suc (r - 1) ≡ length s.starts = omega (arith, rd.count, is.shape.some) in
        let e = rd.rounds (r - 1) (omega (arith, is.shape.some)) in
        (omega (arith, ints, first_is, e, is.s1.end (r - 1) h), omega (arith, ints, first_is, e, is.s2.across (r - 1) h));
    tasks = λ a l. let e = rd.tasks a l in (omega (arith, ints, e, first_is, (is.s3 a l).from_zero), λ h. omega (arith, ints, e, first_is, (is.s3 a l).early h));
    messages = message_meets;
    deadlines = λ f lf ef l ll el er. omega (arith, ints, rd.tasks f lf, rd.tasks l ll, is.s5 f l lf ll ef el (reaches_walk m (length m.tasks) f l er));
  }
