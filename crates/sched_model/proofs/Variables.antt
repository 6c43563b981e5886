-- The constraints in force speak of the problem's variables alone
use Rattle.std.proofs.Common.{ℕ, ◌-◌, ◌<◌, ◌≤◌, List, [], ◌∷◌, length, map, arith, ltb, ℤ}
use Rattle.std.specs.List.{AllByRecursion, flat_map}
use Rattle.std.proofs.lemmas.Bool.{and_parts, ltb-true}
use Rattle.std.proofs.lemmas.Nat.{mod_below}
use Rattle.std.proofs.lemmas.List.Elements.{All-from_recursion}
use Rattle.tick_num.specs.declared.differences.Diff.{Diff}
use Rattle.tick_num.specs.Differences.{InRange}
use Rattle.sched_model.specs.Numbers.{below, natural}
use Rattle.sched_model.specs.PlainMode.{PlainMode, message_at, copy_count}
use Rattle.sched_model.specs.ConstraintProblem.{vars, base, Decision, serve, order, serves, orders, ordered, share, decisions, chosen, chosen_all, in_force}
use Rattle.sched_model.specs.ValidMode.{IsValid}
use Rattle.sched_model.proofs.Lists.{all_both, flat_all, below_all, cond_all}
use Rattle.sched_model.proofs.Base.{base_all}
use Rattle.sched_model.proofs.Graph.{message_edge}

-- ---- decisions are on messages and tasks of the mode
abbrev pub IsOfMode : PlainMode → Decision → Type 0
IsOfMode m (serve i k) = (i < length m.messages) × (k < copy_count m (message_at m i))
IsOfMode m (order a b) = (a < b) × (b < length m.tasks)

pub decisions_of_mode : (m : PlainMode) → AllByRecursion (IsOfMode m) (decisions m)
unfolding decisions
decisions_of_mode m =
    let M = IsOfMode m in
    let n = length m.tasks in
    all_both M (flat_map (serves m) (below (length m.messages))) _
    (flat_all M (serves m) (below (length m.messages)) (below_all (λ i. AllByRecursion M (serves m i)) (length m.messages) (λ i l.
    mapped M (serve i) (below (copy_count m (message_at m i))) (below_all (λ k. M (serve i k)) (copy_count m (message_at m i)) (λ k h. (l, h))))))
    (flat_all M (orders m) (below n) (below_all (λ a. AllByRecursion M (orders m a)) n (λ a la.
    flat_all M (ordered m a) (below n) (below_all (λ b. AllByRecursion M (ordered m a b)) n (λ b lb.
    cond_all M (share m a b) (order a b ∷ []) (λ e. ((ltb-true a b (and_parts (ltb a b) _ e).0, lb), tt)))))))
  where
    mapped : (P : Decision → Type 0) (f : ℕ → Decision) (ks : List ℕ) → AllByRecursion (λ k. P (f k)) ks → AllByRecursion P (map f ks)
    mapped P f [] h = tt
    mapped P f (k ∷ ks) h = (h.0, mapped P f ks h.1)

module _ (m : PlainMode) (r : ℕ) (ok : IsValid m) (some : 1 ≤ r) where
  abbrev Inside : Diff → Type 0
  Inside d = (d.x < vars m r) × (d.y < vars m r)

  base_inside : AllByRecursion Inside (base m r)
  base_inside = base_all Inside m r (record {
    rounds = λ j l. ((omega arith, omega arith), (omega arith, omega arith));
    turn = ((omega arith, omega arith), (omega arith, omega arith));
    tasks = λ a l. ((omega arith, omega arith), λ e. (omega arith, omega arith));
    messages = λ i l.
        let a0 = ok.producer i l in
        let b0 = ok.consumer i l in
        record {
          from = λ a c. let la = (ok.edges a b0.0 (message_edge m i a b0.0 l c b0.1)).from in ((omega arith, omega arith), (omega arith, omega arith));
          lasts = (omega arith, omega arith);
          to = λ b c. let lb = (ok.edges a0.0 b (message_edge m i a0.0 b l a0.1 c)).to in ((omega arith, omega arith), (omega arith, omega arith));
        };
    deadlines = λ f lf ef l ll el er. (omega arith, omega arith);
  })

  choice_inside : (d : Decision) (v : ℤ) → IsOfMode m d → AllByRecursion Inside (chosen m r d v)
  choice_inside (serve i k) v w = let j = mod_below (natural v - 1) r some in ((omega (arith, j, w.0), omega (arith, j, w.0)), ((omega (arith, j, w.0), omega (arith, j, w.0)), tt))
  choice_inside (order a b) v w = ((omega (arith, w), omega (arith, w)), ((omega (arith, w), omega (arith, w)), tt))

  choices_inside : (ds : List Decision) (vs : List ℤ) → AllByRecursion (IsOfMode m) ds → AllByRecursion Inside (chosen_all m r ds vs)
  choices_inside [] vs h = tt
  choices_inside (d ∷ ds) [] h = tt
  choices_inside (d ∷ ds) (v ∷ vs) h = all_both Inside (chosen m r d v) _ (choice_inside d v h.0) (choices_inside ds vs h.1)

  pub in_range : (p : List ℤ) → InRange (vars m r) (in_force m r p)
  in_range p = All-from_recursion Inside (in_force m r p) (all_both Inside (base m r) _ base_inside (choices_inside (decisions m) p (decisions_of_mode m)))
