-- The least values of a problem begin at 0 and make a right schedule
use Rattle.std.proofs.Common.{◌≡◌, ℕ, zero, suc, ◌+◌, ◌-◌, ◌*◌, ◌/◌, ◌%◌, ◌<◌, ◌≤◌, cond, ltb, List, [], ◌∷◌, length, sym, ◌∙◌, ap, subst, arith, ⊎_elim, ℤ, pos, ◌-ℤ◌, ◌≤ℤ◌}
use Rattle.std.specs.List.{AllByRecursion}
use Rattle.std.proofs.lemmas.Int.{ints}
use Rattle.std.proofs.lemmas.Bool.{cases_lt, cond_both, cond-true, lt-ltb, ltb-true}
use Rattle.std.proofs.lemmas.Nat.{div-add-mod', mod_below}
use Rattle.std.proofs.lemmas.List.Elements.{recursion_from_All, All-from_recursion}
use borrow.Author.Differences.{same_in}
use Rattle.tick_num.specs.declared.differences.Diff.{Diff}
use Rattle.tick_num.specs.Differences.{Meets, MeetsAll, LeastValues, NegativeCycle}
use Rattle.tick_num.proofs.Layers as layers
use Rattle.tick_num.proofs.Cycles.{cycles_exclude}
use Rattle.sched_model.specs.declared.schedule.Schedule.{Schedule}
use Rattle.sched_model.specs.PlainMode.{PlainMode}
use Rattle.sched_model.specs.RightSchedule.{IsSchedule}
use Rattle.sched_model.specs.ConstraintProblem.{vars, task_var, opens_var, closes_var, base, in_force}
use Rattle.sched_model.specs.PrintedSchedule.{schedule_of, Printed}
use Rattle.sched_model.specs.ValidMode.{IsValid}
use Rattle.sched_model.proofs.Lists.{all_left}
use Rattle.sched_model.proofs.Base.{BaseFacts, facts_of}
use Rattle.sched_model.proofs.Graph.{message_edge}
use Rattle.sched_model.proofs.Variables.{in_range}
use Rattle.sched_model.proofs.Forward.{schedule_from}
use Rattle.sched_model.proofs.FirstLists.{first_one}

module _ (m : PlainMode) (r : ℕ) (ok : IsValid m) (some : 1 ≤ r) (v : ℕ → ℤ) (f : BaseFacts m r v) where
  round_late : (j : ℕ) → j < r → v 0 ≤ℤ v j
  round_late zero l = omega (arith, ints)
  round_late (suc j) l =
      let e = ap v (let x : j + 1 ≡ suc j = omega arith in x) in
      omega (arith, ints, round_late j (omega arith), (f.rounds j (omega arith)).0, e)

  task_late : (a : ℕ) → a < length m.tasks → v 0 ≤ℤ v (task_var r a)
  task_late a l = omega (arith, ints, (f.tasks a l).0)

  opening_late : (i : ℕ) → i < length m.messages → v 0 ≤ℤ v (opens_var m r i)
  opening_late i l =
      let a = ok.producer i l in
      let b = ok.consumer i l in
      let e = ok.edges a.0 b.0 (message_edge m i a.0 b.0 l a.1 b.1) in
      omega (arith, ints, task_late a.0 e.from, ((f.messages i l).from a.0 a.1).0)

  closing_late : (i : ℕ) → i < length m.messages → v 0 ≤ℤ v (closes_var m r i)
  closing_late i l = omega (arith, ints, opening_late i l, (f.messages i l).lasts)

  -- no variable is below the first round's start
  late : (x : ℕ) → x < vars m r → v 0 ≤ℤ v x
  late x l =
      ⊎_elim
      (λ (round : x < r). round_late x round)
      (λ (le : r ≤ x). ⊎_elim
      (λ (task : x - r < length m.tasks). subst (λ y. v 0 ≤ℤ v y) (let e : r + (x - r) ≡ x = omega (arith, le) in e) (task_late (x - r) task))
      (λ (le' : length m.tasks ≤ x - r). window (x - r - length m.tasks) (omega (arith, le, le')) (mod_below (x - r - length m.tasks) 2 (omega arith)) (div-add-mod' (x - r - length m.tasks) 2))
      (cases_lt (x - r) (length m.tasks)))
      (cases_lt x r)
    where
      window : (y : ℕ) → x ≡ r + length m.tasks + y → y % 2 < 2 → y / 2 * 2 + y % 2 ≡ y → v 0 ≤ℤ v x
      window y e small d =
          let i = y / 2 in
          let li : i < length m.messages = omega (arith, l, e, d) in
          ⊎_elim
          (λ (even : y % 2 < 1). subst (λ z. v 0 ≤ℤ v z) (let s : opens_var m r i ≡ x = omega (arith, e, d, even) in s) (opening_late i li))
          (λ (odd : 1 ≤ y % 2). subst (λ z. v 0 ≤ℤ v z) (let s : closes_var m r i ≡ x = omega (arith, e, d, odd, small) in s) (closing_late i li))
          (cases_lt (y % 2) 1)

-- the same values moved so that the first round starts at 0, and 0 past the variables
moved : ℕ → (ℕ → ℤ) → ℕ → ℤ
moved n v x = cond (ltb x n) (v x -ℤ v 0) (pos 0)

moved_at : (n : ℕ) (v : ℕ → ℤ) (x : ℕ) → x < n → moved n v x ≡ v x -ℤ v 0
unfolding moved
moved_at n v x l = cond-true (ltb x n) (v x -ℤ v 0) (pos 0) (lt-ltb x n l)

moved_meets : (n : ℕ) (v : ℕ → ℤ) (ds : List Diff) → AllByRecursion (λ d. (d.x < n) × (d.y < n)) ds → AllByRecursion (Meets v) ds → AllByRecursion (Meets (moved n v)) ds
moved_meets n v [] h k = tt
moved_meets n v (d ∷ ds) h k = (omega (arith, ints, moved_at n v d.x h.0.0, moved_at n v d.y h.0.1, k.0), moved_meets n v ds h.1 k.1)

moved_from_zero : (n : ℕ) (v : ℕ → ℤ) → ((x : ℕ) → x < n → v 0 ≤ℤ v x) → (x : ℕ) → pos 0 ≤ℤ moved n v x
unfolding moved
moved_from_zero n v h x = cond_both (ltb x n) (v x -ℤ v 0) (pos 0) (λ (z : ℤ). pos 0 ≤ℤ z) (λ e. let l = h x (ltb-true x n e) in omega (arith, ints, l)) (λ e. omega (arith, ints))

module _ (m : PlainMode) (r : ℕ) (p : List ℤ) (ok : IsValid m) (some : 1 ≤ r) where
  -- the first round starts at 0
  pub least_zero : (v : ℕ → ℤ) → LeastValues (in_force m r p) v → v 0 ≡ pos 0
  least_zero v least =
      let ds = in_force m r p in
      let n = vars m r in
      let met = recursion_from_All (Meets v) ds least.solves in
      let w = moved n v in
      let solves = All-from_recursion (Meets w) ds (moved_meets n v ds (recursion_from_All _ ds (in_range m r ok some p)) met) in
      let from_zero = moved_from_zero n v (late m r ok some v (facts_of m r v (all_left (Meets v) (base m r) _ met))) in
      let below = least.least w solves from_zero 0 in
      same_in (v 0) (pos 0) (omega (arith, ints, below, moved_at n v 0 (omega arith), least.from_zero 0))

  pub least_exists : (v : ℕ → ℤ) → MeetsAll v (in_force m r p) → (w : ℕ → ℤ) × LeastValues (in_force m r p) w
  least_exists v solves =
      ⊎_elim
      (λ (w : (w : ℕ → ℤ) × LeastValues (in_force m r p) w). w)
      (λ (c : (refs : List ℕ) × NegativeCycle (in_force m r p) refs × (1 ≤ length refs) × (length refs ≤ vars m r)). absurd (cycles_exclude (in_force m r p) c.0 c.1 v solves))
      (layers.least_or_cycle (vars m r) (in_force m r p) (in_range m r ok some p))

pub printed_right : (m : PlainMode) (r : ℕ) (s : Schedule) → IsValid m → 1 ≤ r → Printed m r s → IsSchedule m r s
printed_right m r s ok some pr =
    subst (IsSchedule m r) (sym pr.made)
    (schedule_from m r pr.list pr.values ok some pr.first.here pr.least.solves (least_zero m r pr.list ok some pr.values pr.least))

-- one schedule is printed
pub printed_one : (m : PlainMode) (r : ℕ) (s t : Schedule) → Printed m r s → Printed m r t → s ≡ t
printed_one m r s t a b =
    let e = first_one m r a.list b.list a.first b.first in
    let least : LeastValues (in_force m r b.list) a.values = subst (λ (p : List ℤ). LeastValues (in_force m r p) a.values) e a.least in
    let same : a.values ≡ b.values = λ i x. layers.least_unique (in_force m r b.list) a.values b.values least b.least x i in
    a.made ∙ ap (λ (p : List ℤ). schedule_of m r p a.values) e ∙ ap (λ (v : ℕ → ℤ). schedule_of m r b.list v) same ∙ sym b.made
