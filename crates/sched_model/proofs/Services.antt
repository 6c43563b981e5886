-- The choices of a full open list, under the tables made from it, serve each window of a message as often as it has copies
use Rattle.std.proofs.Common.{◌≡◌, ℕ, ◌-◌, ◌*◌, ◌/◌, ◌%◌, ◌<◌, ◌≤◌, true, eqb, List, [], length, get_or, sym, ◌∙◌, ap, subst, arith, ◌⊎◌, ℤ, pos, ◌<ℤ◌}
use Rattle.std.specs.List.{AllByRecursion}
use Rattle.std.proofs.lemmas.Int.{ints}
use Rattle.std.proofs.lemmas.Bool.{eqb-true, eq-eqb}
use Rattle.std.proofs.lemmas.Nat.{mod_below}
use Rattle.sched_model.specs.declared.schedule.Schedule.{Schedule}
use Rattle.sched_model.specs.PlainMode.{PlainMode, hyper, message_at, instance_count, copy_count}
use Rattle.sched_model.specs.Numbers.{has, natural}
use Rattle.sched_model.specs.ConstraintProblem.{serve, decisions, place, choice, window_of, chosen, chosen_all}
use Rattle.sched_model.specs.Rounds.{round_start, opens, closes, start, Carries, InWindow, Serves}
use Rattle.sched_model.specs.RightSchedule.{MessageFits, Exactly}
use Rattle.tick_num.specs.Differences.{Meets}
use Rattle.sched_model.specs.OpenPrefix.{Chosen}
use Rattle.sched_model.specs.PrintedSchedule.{schedule_of, names, table_of}
use Rattle.sched_model.specs.ValidMode.{IsValid}
use Rattle.sched_model.proofs.Lists.{get_or-map_below}
use Rattle.sched_model.proofs.Tests.{passed_below, passes_below, kept_out_below, kept_in_below}
use Rattle.sched_model.proofs.Hyperperiods.{period_divides, hyper_some, some_factor}
use Rattle.sched_model.proofs.Places.{serve_met}
use Rattle.sched_model.proofs.Counts.{choice_one, choice_rises}
use Rattle.sched_model.proofs.Exactly.{also}
use Rattle.sched_model.proofs.Moments.{Reads, start_again}
use Rattle.sched_model.proofs.Serving.{Within, Repeats, Choices, Named, each_copy, placed_or_early}

pub window_repeats : (m : PlainMode) (s : Schedule) (i : ℕ) → IsValid m → 1 ≤ length s.starts → i < length m.messages → MessageFits m s i →
    Repeats (start m s) (length s.starts) (hyper m) (instance_count m (message_at m i)) (message_at m i).period m.round (opens s i) (closes s i)
window_repeats m s i ok some l fit =
    let p = (message_at m i).period in
    let c = ok.message_period i l in
    let whole = period_divides m p (ok.periods p c) c in
    let a = ok.producer i l in
    record {
      rounds = some;
      some = some_factor (hyper m) (hyper m / p) p (hyper_some m) whole;
      length = ok.round;
      whole = whole;
      again = λ g j one. start_again m s some g j one;
      narrow = omega (arith, ints, fit.sent a.0 a.1, fit.kept a.0 a.1);
    }

-- the two constraints of a choice say that it lies in its window
pub chosen_within : (m : PlainMode) (r : ℕ) (s : Schedule) (v : ℕ → ℤ) (i k : ℕ) (z : ℤ) → 1 ≤ r → i < length m.messages → Reads m r s v → AllByRecursion (Meets v) (chosen m r (serve i k) z) →
    Within (start m s) m.round (opens s i) (closes s i) (message_at m i).period (window_of m i k) (natural z)
chosen_within m r s v i k z some l rd h =
    let g = natural z in
    let j = (g - 1) % r in
    let n = length s.starts in
    let a = ap (λ x. round_start s ((g - 1) % x)) rd.count in
    let b = ap (λ x. (g - 1) / x * hyper m) rd.count in
    let e = rd.rounds j (mod_below (g - 1) r some) in
    let o = rd.opening i l in
    let q = rd.closing i l in
    (omega (arith, ints, a, b, e, o, q, h.0), omega (arith, ints, a, b, e, o, q, h.1.0))

pub choices_of : (m : PlainMode) (r : ℕ) (s : Schedule) (v : ℕ → ℤ) (p : List ℤ) → 1 ≤ r → Reads m r s v → length p ≡ length (decisions m) → Chosen m r p → AllByRecursion (Meets v) (chosen_all m r (decisions m) p) →
    (i : ℕ) → i < length m.messages → Choices (start m s) (instance_count m (message_at m i)) (message_at m i).period m.round (opens s i) (closes s i) (message_at m i).copies (choice m p i)
choices_of m r s v p some rd full ch met i l = record {
  from_one = λ k h. choice_one m r p full ch i k l h;
  rises = λ x y less h. choice_rises m r p full ch i l x y less h;
  within = λ k h. chosen_within m r s v i k (get_or p (place m i k) (pos 0)) some l rd (serve_met m r v p full met i k l h);
}

-- ---- the tables
table_is : (m : PlainMode) (r : ℕ) (p : List ℤ) (v : ℕ → ℤ) (j : ℕ) → j < r → get_or (schedule_of m r p v).tables j [] ≡ table_of m r p j
table_is m r p v j l = get_or-map_below (table_of m r p) r j [] l

module _ (m : PlainMode) (r : ℕ) (p : List ℤ) (v : ℕ → ℤ) (ok : IsValid m) (some : 1 ≤ r) (count : length (schedule_of m r p v).starts ≡ r) (i : ℕ) (l : i < length m.messages) where
  carried_named : (g : ℕ) → Carries m (schedule_of m r p v) i g → Named r (copy_count m (message_at m i)) (choice m p i) g
  carried_named g c =
      let s = schedule_of m r p v in
      let j = (g - 1) % r in
      let n = (message_at m i).number in
      let e = ap (λ x. get_or s.tables ((g - 1) % x) []) count ∙ table_is m r p v j (mod_below (g - 1) r some) in
      let in_table : has (table_of m r p j) n ≡ true = ap (λ t. has t n) (sym e) ∙ c in
      let k = kept_out_below (names m r p j) (λ i. (message_at m i).number) (length m.messages) n in_table in
      let same : i ≡ k.0 = ok.numbers i k.0 l k.1 k.3 in
      let w = passed_below (λ x. eqb ((choice m p i x - 1) % r) j) (copy_count m (message_at m i)) (ap (names m r p j) same ∙ k.2) in
      (w.0, w.1, sym (eqb-true ((choice m p i w.0 - 1) % r) j w.2))

  named_carried : (g : ℕ) → Named r (copy_count m (message_at m i)) (choice m p i) g → Carries m (schedule_of m r p v) i g
  named_carried g w =
      let s = schedule_of m r p v in
      let j = (g - 1) % r in
      let n = (message_at m i).number in
      let e = ap (λ x. get_or s.tables ((g - 1) % x) []) count ∙ table_is m r p v j (mod_below (g - 1) r some) in
      let named = passes_below (λ x. eqb ((choice m p i x - 1) % r) j) (copy_count m (message_at m i)) w.0 w.1 (eq-eqb ((choice m p i w.0 - 1) % r) j (sym w.2)) in
      ap (λ t. has t n) e ∙ kept_in_below (names m r p j) (λ i. (message_at m i).number) (length m.messages) i l named

-- S7 and S8 for a message, from a full list whose choices are met
module _ (m : PlainMode) (r : ℕ) (p : List ℤ) (v : ℕ → ℤ) (ok : IsValid m) (some : 1 ≤ r) (rd : Reads m r (schedule_of m r p v) v) (full : length p ≡ length (decisions m)) (ch : Chosen m r p)
    (met : AllByRecursion (Meets v) (chosen_all m r (decisions m) p)) (i : ℕ) (l : i < length m.messages) (fit : MessageFits m (schedule_of m r p v) i) where
  some_starts : 1 ≤ length (schedule_of m r p v).starts
  some_starts = omega (arith, rd.count)

  rep : Repeats (start m (schedule_of m r p v)) (length (schedule_of m r p v).starts) (hyper m) (instance_count m (message_at m i)) (message_at m i).period m.round (opens (schedule_of m r p v) i) (closes (schedule_of m r p v) i)
  rep = window_repeats m (schedule_of m r p v) i ok some_starts l fit

  made : Choices (start m (schedule_of m r p v)) (instance_count m (message_at m i)) (message_at m i).period m.round (opens (schedule_of m r p v) i) (closes (schedule_of m r p v) i) (message_at m i).copies (choice m p i)
  made = choices_of m r (schedule_of m r p v) v p some rd full ch met i l

  to_named : (g : ℕ) → Carries m (schedule_of m r p v) i g → Named (length (schedule_of m r p v).starts) (copy_count m (message_at m i)) (choice m p i) g
  to_named g c = subst (λ x. Named x (copy_count m (message_at m i)) (choice m p i) g) (sym rd.count) (carried_named m r p v ok some rd.count i l g c)

  to_carried : (g : ℕ) → Named (length (schedule_of m r p v).starts) (copy_count m (message_at m i)) (choice m p i) g → Carries m (schedule_of m r p v) i g
  to_carried g w = named_carried m r p v ok some rd.count i l g (subst (λ x. Named x (copy_count m (message_at m i)) (choice m p i) g) rd.count w)

  pub each_window : (k : ℕ) → Exactly (message_at m i).copies (Serves m (schedule_of m r p v) i k)
  each_window k =
      also (message_at m i).copies _ (Serves m (schedule_of m r p v) i k) (λ g w. (w.0, to_carried g w.1, w.2)) (λ g w. (w.0, to_named g w.1, w.2))
      (each_copy _ _ _ _ _ _ _ _ (message_at m i).copies (choice m p i) (ok.copies i l) rep made k)

  pub nowhere_else : (g : ℕ) → 1 ≤ g → Carries m (schedule_of m r p v) i g → ((k : ℕ) × InWindow m (schedule_of m r p v) i k g) ⊎ (start m (schedule_of m r p v) g <ℤ opens (schedule_of m r p v) i)
  nowhere_else g one c = placed_or_early _ _ _ _ _ _ _ _ (message_at m i).copies (choice m p i) (ok.copies i l) rep made g one (to_named g c)
