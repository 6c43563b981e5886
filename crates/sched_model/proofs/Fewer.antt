-- No schedule has more rounds than a hyperperiod has room for, so trees for all fewer numbers show that a number is the fewest
use Rattle.std.proofs.Common.{◌≡◌, ℕ, zero, suc, ◌+◌, ◌-◌, ◌*◌, ◌<◌, ◌≤◌, ◌↔◌, List, [], length, ap, arith, ⊎_elim, pos, ◌≤ℤ◌}
use Rattle.std.proofs.lemmas.Int.{ints}
use Rattle.std.proofs.lemmas.Bool.{cases_lt}
use Rattle.std.proofs.lemmas.Nat.{le-div}
use Rattle.sched_model.specs.declared.schedule.Schedule.{Schedule}
use Rattle.sched_model.specs.PlainMode.{PlainMode, hyper, most_rounds}
use Rattle.sched_model.specs.Rounds.{round_start}
use Rattle.sched_model.specs.RightSchedule.{RoundsFit, IsSchedule, Fewest, NoSchedule}
use Rattle.sched_model.specs.ConstraintProblem.{decisions}
use Rattle.sched_model.specs.SearchCost.{LeadsAt}
use Rattle.sched_model.specs.PrintedSchedule.{schedule_of}
use Rattle.sched_model.specs.RefutationTree.{Node, IsTree}
use Rattle.sched_model.specs.ValidMode.{IsValid}
use Rattle.sched_model.proofs.Backward.{full_open, made}
use Rattle.sched_model.proofs.Forward.{schedule_of_list, from_zero}
use Rattle.sched_model.proofs.OwnTrees.{leads_to_list, list_leads}
use Rattle.sched_model.proofs.Refutations.{tree_refutes}

-- rounds do not overlap
start_after : (m : PlainMode) (s : Schedule) → RoundsFit m s → (j : ℕ) → j < length s.starts → pos (j * m.round) ≤ℤ round_start s j
start_after m s fit zero l = omega (arith, ints, fit.begin)
start_after m s fit (suc j) l = omega (arith, ints, start_after m s fit j (omega (arith, l)), fit.apart j l)

pub rounds_have_room : (m : PlainMode) (r : ℕ) (s : Schedule) → IsValid m → IsSchedule m r s → r ≤ most_rounds m
rounds_have_room m r s ok is =
    let n = length s.starts in
    let last : suc (n - 1) ≡ n = omega (arith, is.shape.starts, is.shape.some) in
    let a = start_after m s is.s1 (n - 1) (omega (arith, last)) in
    let b = is.s1.end (n - 1) last in
    let whole : r * m.round ≤ hyper m = fits (n - 1) r (hyper m) m.round (omega (arith, last, is.shape.starts)) (omega (arith, ints, a, b)) in
    le-div r (hyper m) m.round ok.round whole
  where
    fits : (j r h t : ℕ) → r ≡ suc j → j * t + t ≤ h → r * t ≤ h
    fits j r h t e l = let p = ap (λ x. x * t) e in omega (arith, p, l)

refuted : (m : PlainMode) (q : ℕ) → IsValid m → (nodes : List Node) → IsTree m q nodes → (s : Schedule) → IsSchedule m q s → ⊥
refuted m q ok nodes t s is = tree_refutes m q nodes t (made m q s ok is).0 (full_open m q s ok is)

pub fewest : (m : PlainMode) (r : ℕ) → IsValid m → (s : Schedule) → IsSchedule m r s → ((q : ℕ) → 1 ≤ q → q < r → (nodes : List Node) × IsTree m q nodes) → Fewest m r
fewest m r ok s is trees = record {
  found = (s, is);
  least = λ q t it. ⊎_elim
      (λ (fewer : q < r). let w = trees q it.shape.some fewer in absurd (refuted m q ok w.0 w.1 t it))
      (λ (le : r ≤ q). le)
      (cases_lt q r);
}

pub no_schedule : (m : PlainMode) → IsValid m → ((q : ℕ) → 1 ≤ q → q ≤ most_rounds m → (nodes : List Node) × IsTree m q nodes) → NoSchedule m
no_schedule m ok trees r s is = let w = trees r is.shape.some (rounds_have_room m r s ok is) in refuted m r ok w.0 w.1 s is

-- ---- the first number that leads
schedule_led : (m : PlainMode) (r : ℕ) → IsValid m → 1 ≤ r → LeadsAt m r → (s : Schedule) × IsSchedule m r s
schedule_led m r ok some l =
    let f = leads_to_list m r (length (decisions m)) [] (omega arith) (λ k h. absurd (omega (arith, h))) l in
    (schedule_of m r f.0 (from_zero m r f.0 f.1), schedule_of_list m r f.0 ok some f.1)

led_by_schedule : (m : PlainMode) (r : ℕ) → IsValid m → (s : Schedule) → IsSchedule m r s → LeadsAt m r
led_by_schedule m r ok s is = list_leads m r (length (decisions m)) [] (made m r s ok is).0 (omega arith) (full_open m r s ok is)

pub fewest_leads : (m : PlainMode) (r : ℕ) → IsValid m → 1 ≤ r → Fewest m r ↔ (LeadsAt m r × ((q : ℕ) → 1 ≤ q → q < r → ¬ (LeadsAt m q)))
fewest_leads m r ok some = (
  λ f. (led_by_schedule m r ok f.found.0 f.found.1, λ q one less l. let s = schedule_led m q ok one l in let k = f.least q s.0 s.1 in omega (arith, less, k)),
  λ w. record {
    found = schedule_led m r ok some w.0;
    least = λ q s is. ⊎_elim (λ (fewer : q < r). absurd (w.1 q is.shape.some fewer (led_by_schedule m q ok s is))) (λ (le : r ≤ q). le) (cases_lt q r);
  },
)

pub none_leads : (m : PlainMode) → IsValid m → NoSchedule m ↔ ((q : ℕ) → 1 ≤ q → q ≤ most_rounds m → ¬ (LeadsAt m q))
none_leads m ok = (
  λ none q one le l. let s = schedule_led m q ok one l in none q s.0 s.1,
  λ no r s is. no r is.shape.some (rounds_have_room m r s ok is) (led_by_schedule m r ok s is),
)
