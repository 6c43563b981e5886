-- The times of a schedule, of its values and of its rounds
use Rattle.std.proofs.Common.{◌≡◌, ℕ, suc, ◌+◌, ◌-◌, ◌*◌, ◌/◌, ◌<◌, ◌≤◌, List, length, Contains, ◌∙◌, ap, arith, ℤ, pos, ◌+ℤ◌}
use Rattle.std.proofs.lemmas.Int.{ints}
use Rattle.std.proofs.lemmas.List.{length-map}
use borrow.Author.Differences.{same_in}
use Rattle.sched_model.specs.declared.schedule.Schedule.{Schedule}
use Rattle.sched_model.specs.PlainMode.{PlainMode, hyper, message_at}
use Rattle.sched_model.specs.Numbers.{below}
use Rattle.sched_model.specs.ConstraintProblem.{task_var, opens_var, closes_var}
use Rattle.sched_model.specs.Rounds.{round_start, task_start, opens, closes, start}
use Rattle.sched_model.specs.RightSchedule.{RoundsFit, GapsFit, OffsetFits, MessageFits}
use Rattle.sched_model.specs.PrintedSchedule.{schedule_of}
use Rattle.sched_model.proofs.Lists.{length-below, get_or-map_below}
use Rattle.sched_model.proofs.Base.{BaseFacts}
use Rattle.sched_model.proofs.Classes.{later_round, later_turn}

-- the values v are the times of s
pub record Reads (m : PlainMode) (r : ℕ) (s : Schedule) (v : ℕ → ℤ) : Type 0 where
  pub count : length s.starts ≡ r
  pub rounds : (j : ℕ) → j < r → round_start s j ≡ v j
  pub tasks : (a : ℕ) → a < length m.tasks → task_start s a ≡ v (task_var r a)
  pub opening : (i : ℕ) → i < length m.messages → opens s i ≡ v (opens_var m r i)
  pub closing : (i : ℕ) → i < length m.messages → closes s i ≡ v (closes_var m r i)

pub reads_made : (m : PlainMode) (r : ℕ) (p : List ℤ) (v : ℕ → ℤ) → Reads m r (schedule_of m r p v) v
reads_made m r p v = record {
  count = length-map (below r) v ∙ length-below r;
  rounds = λ j l. get_or-map_below v r j (pos 0) l;
  tasks = λ a l. get_or-map_below (λ a. v (task_var r a)) (length m.tasks) a (pos 0) l;
  opening = λ i l. ap (λ (x : ℤ × ℤ). x.0) (get_or-map_below (λ i. (v (opens_var m r i), v (closes_var m r i))) (length m.messages) i (pos 0, pos 0) l);
  closing = λ i l. ap (λ (x : ℤ × ℤ). x.1) (get_or-map_below (λ i. (v (opens_var m r i), v (closes_var m r i))) (length m.messages) i (pos 0, pos 0) l);
}

module _ (m : PlainMode) (r : ℕ) (s : Schedule) (v : ℕ → ℤ) (some : 1 ≤ r) (rd : Reads m r s v) (zero_first : v 0 ≡ pos 0) where
  pub rounds_fit : BaseFacts m r v → RoundsFit m s
  rounds_fit f = record {
    begin = rd.rounds 0 some ∙ zero_first;
    apart = λ j l. let l' : suc j < r = omega (arith, rd.count) in
        let e = ap v (let x : j + 1 ≡ suc j = omega arith in x) in
        omega (arith, ints, rd.rounds j (omega arith), rd.rounds (suc j) l', e, f.rounds j (omega arith));
    end = λ j l. let e = ap v (let x : r - 1 ≡ j = omega (arith, rd.count) in x) in
        omega (arith, ints, rd.rounds j (omega (arith, rd.count)), e, zero_first, f.turn);
  }

  pub gaps_fit : BaseFacts m r v → GapsFit m s
  gaps_fit f = record {
    within = λ j l. let l' : suc j < r = omega (arith, rd.count) in
        let e = ap v (let x : j + 1 ≡ suc j = omega arith in x) in
        omega (arith, ints, rd.rounds j (omega arith), rd.rounds (suc j) l', e, f.rounds j (omega arith));
    across = λ j l. let e = ap v (let x : r - 1 ≡ j = omega (arith, rd.count) in x) in
        omega (arith, ints, rd.rounds j (omega (arith, rd.count)), e, zero_first, f.turn);
  }

  pub offset_fits : BaseFacts m r v → (a : ℕ) → a < length m.tasks → OffsetFits m s a
  offset_fits f a l = record {
    from_zero = omega (arith, ints, rd.tasks a l, zero_first, (f.tasks a l).0);
    early = λ e. omega (arith, ints, rd.tasks a l, zero_first, (f.tasks a l).1 e);
  }

  pub message_fits : ((i : ℕ) → i < length m.messages → (a : ℕ) → Contains (message_at m i).from a → a < length m.tasks) → ((i : ℕ) → i < length m.messages → (b : ℕ) → Contains (message_at m i).to b → b < length m.tasks) →
      BaseFacts m r v → (i : ℕ) → i < length m.messages → MessageFits m s i
  message_fits inf int f i l =
      let g = f.messages i l in
      let o = rd.opening i l in
      let q = rd.closing i l in
      record {
        sent = λ a c. let e = rd.tasks a (inf i l a c) in omega (arith, ints, o, q, e, g.from a c);
        kept = λ a c. let e = rd.tasks a (inf i l a c) in omega (arith, ints, o, q, e, g.from a c);
        lasts = omega (arith, ints, o, q, g.lasts);
        taken = λ b c. let e = rd.tasks b (int i l b c) in omega (arith, ints, o, q, e, g.to b c);
        next = λ b c. let e = rd.tasks b (int i l b c) in omega (arith, ints, o, q, e, g.to b c);
      }

-- ---- round instances of a schedule with right starts
module _ (m : PlainMode) (s : Schedule) (some : 1 ≤ length s.starts) where
  -- j hyperperiods later
  pub start_again : (g j : ℕ) → 1 ≤ g → start m s (g + j * length s.starts) ≡ start m s g +ℤ pos (j * hyper m)
  start_again g j one =
      let r = length s.starts in
      let a = ap (round_start s) (later_round r g j some one) in
      let b : (g + j * r - 1) / r * hyper m ≡ ((g - 1) / r + j) * hyper m = ap (λ x. x * hyper m) (later_turn r g j some one) in
      same_in _ _ (omega (arith, ints, a, b))
