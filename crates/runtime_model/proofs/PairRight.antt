-- The plans of a small system are right
use Rattle.std.proofs.Common.{◌≡◌, ℕ, zero, suc, ◌<◌, ◌≤◌, [], ◌∷◌, get_or, Contains, All, refl, sym, subst, arith, pos, ◌+ℤ◌, ◌≤ℤ◌}
use Rattle.std.proofs.lemmas.Int.{ints}
use Rattle.std.proofs.lemmas.List.Elements.{All-from_recursion}
use Rattle.sched_model.specs.PlainMode.{hyper, task_at}
use Rattle.sched_model.specs.Rounds.{round_start}
use Rattle.sched_model.specs.RightSchedule.{IsMessage, HasShape, RoundsFit, GapsFit, OffsetFits, ChainFits, TableFits, IsSchedule}
use Rattle.sched_model.specs.ValidMode.{IsValid}
use Rattle.runtime_model.specs.Plans.{Plan, RightPlan}
use Rattle.runtime_model.specs.System.{plan_at}
use Rattle.runtime_model.specs.Rows.{single_plan, pair, PairIsRight}

-- a mode of one task on node 1, with one slot in its round
module _ (number : ℕ) where
  abbrev p : Plan
  p = single_plan 1 number 1

  is_hundred : hyper p.mode ≡ 100
  unfolding hyper
  is_hundred = refl

  only_task : (a : ℕ) → a < 1 → a ≡ 0
  only_task a l = omega (arith, l)

  period_is : (q k : ℕ) → k < 1 → get_or (100 ∷ []) k q ≡ q → 1 ≤ q
  period_is q zero l e = omega (arith, e)
  period_is q (suc k) l e = absurd (omega (arith, l))

  valid : IsValid p.mode
  valid = record {
    round = omega arith;
    periods = λ q c. period_is q c.0 c.1 c.2;
    hyper_limit = omega (arith, is_hundred);
    task_period = λ a l. subst (λ z. Contains p.mode.periods (task_at p.mode z).period) (sym (only_task a l)) (0, omega arith, refl);
    wcet = λ a l. subst (λ z. (1 ≤ (task_at p.mode z).wcet) × ((task_at p.mode z).wcet ≤ (task_at p.mode z).period)) (sym (only_task a l)) (omega arith, omega arith);
    deadline = λ a l. subst (λ z. (task_at p.mode z).deadline ≤ hyper p.mode) (sym (only_task a l)) (omega (arith, is_hundred));
    copies = λ i l. absurd (omega (arith, l));
    message_period = λ i l. absurd (omega (arith, l));
    numbers = λ i j l. absurd (omega (arith, l));
    producer = λ i l. absurd (omega (arith, l));
    consumer = λ i l. absurd (omega (arith, l));
    consumer_app = λ i b l. absurd (omega (arith, l));
    rank = λ a. 0;
    ranks = λ a l. omega arith;
    edges = λ a b e. absurd cc;
  }

  shape : HasShape p.mode 1 p.schedule
  shape = record {
    some = omega arith;
    starts = refl;
    tables = refl;
    tasks = refl;
    messages = refl;
    numbers = All-from_recursion (λ table. All (IsMessage p.mode) table) ([] ∷ []) (All-from_recursion (IsMessage p.mode) [] tt, tt);
  }

  rounds : RoundsFit p.mode p.schedule
  rounds = record {
    begin = refl;
    apart = λ j l. absurd (omega (arith, l));
    end = λ j e. subst (λ z. (round_start p.schedule z +ℤ pos 20) ≤ℤ pos (hyper p.mode)) (let q : 0 ≡ j = omega (arith, e) in q) (omega (arith, ints, is_hundred));
  }

  gaps : GapsFit p.mode p.schedule
  gaps = record {
    within = λ j l. absurd (omega (arith, l));
    across = λ j e. subst (λ z. pos (hyper p.mode) ≤ℤ (round_start p.schedule z +ℤ pos 100)) (let q : 0 ≡ j = omega (arith, e) in q) (omega (arith, ints, is_hundred));
  }

  offset_fits : OffsetFits p.mode p.schedule 0
  offset_fits = record { from_zero = omega (arith, ints); early = λ e. omega (arith, ints) }

  chain_fits : ChainFits p.mode p.schedule 0 0
  chain_fits = omega (arith, ints)

  right : IsSchedule p.mode 1 p.schedule
  right = record {
    shape = shape;
    s1 = rounds;
    s2 = gaps;
    s3 = λ a l. subst (λ z. OffsetFits p.mode p.schedule z) (sym (only_task a l)) offset_fits;
    s4 = λ i l. absurd (omega (arith, l));
    s5 = λ f l lf ll first last reaches. subst (λ z. ChainFits p.mode p.schedule z l) (sym (only_task f lf)) (subst (λ z. ChainFits p.mode p.schedule 0 z) (sym (only_task l ll)) chain_fits);
    s6 = λ a b less lb on. absurd (omega (arith, less, lb));
    s7 = record {
      tables = All-from_recursion (TableFits p.mode) ([] ∷ []) (record { slots = omega arith; once = refl }, tt);
      windows = λ i k l. absurd (omega (arith, l));
    };
    s8 = λ i g l. absurd (omega (arith, l));
  }

  pub plan_right : RightPlan 2 p
  plan_right = record { valid = valid; rounds = 1; right = right; node = λ a l. subst (λ z. (task_at p.mode z).node < 2) (sym (only_task a l)) (omega arith); senders = λ i a l. absurd (omega (arith, l)) }

each : (mode : ℕ) → mode < 2 → RightPlan 2 (plan_at pair mode)
each zero l = plan_right 0
each (suc zero) l = plan_right 1
each (suc (suc mode)) l = absurd (omega (arith, l))

pub pair_is_right : PairIsRight
pair_is_right = (omega arith, each)
