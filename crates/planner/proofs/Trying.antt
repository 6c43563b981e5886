-- From one number of rounds to the next
use Rattle.std.proofs.Common.{◌≡◌, ℕ, suc, ◌+◌, ◌-◌, ◌<◌, ◌≤◌, List, [], ◌∷◌, ◌++◌, length, Option, Some, None, refl, sym, ◌∙◌, ap, subst, arith, inl, inr}
use Rattle.std.proofs.lemmas.List.{length_push}
use Rattle.sched_model.specs.PlainMode.{PlainMode, most_rounds}
use Rattle.sched_model.specs.SearchCost.{Visited, LeadsAt, CostFrom, Cost, SpentFrom, SpentAt}
use Rattle.sched_model.specs.declared.schedule.Schedule.{Schedule}
use Rattle.sched_model.specs.PrintedSchedule.{Printed}
use Rattle.sched_model.specs.RefutationTree.{OwnTree}
use Rattle.proof_tree.specs.declared.tree.Tree.{Tree}
use Rattle.std.specs.Prelude.{⊤}
use Rattle.sched_model.specs.ValidMode.{IsValid}
use Rattle.proof_tree.specs.OwnDocument.{OwnTreesFrom, OwnAnswer}
use Rattle.constraint_set.specs.Posed.{Posed}
use Rattle.planner.specs.declared.rounds.Tried.{Tried}
use Rattle.planner.specs.declared.rounds.Tried.TheVariants as tries
use Rattle.planner.specs.Laws.{PlansAreBest}
use Rattle.planner.specs.Plans.{IsTried, IsMade}

-- the first k numbers of rounds have no schedule, and left is what they leave of the budget
pub record Refuting (m : PlainMode) (budget : ℕ) (trees : List Tree) (left k : ℕ) : Type 0 where
  pub trees_for : OwnTreesFrom m 1 trees
  pub count : length trees ≡ k
  pub within : left ≤ budget
  pub costs : (n v : ℕ) → k + n ≡ most_rounds m → CostFrom m (k + 1) n v → Cost m (budget - left + v)
  pub spends : (n r : ℕ) → k + n ≡ most_rounds m → SpentFrom m (k + 1) n budget (budget - left) r → SpentAt m budget r

-- what the problem has after it went over to the next number of rounds
pub tried_here : (m : PlainMode) (k left : ℕ) (old new : Posed) (tried : Tried) → old.mode ≡ m → new ≡ record { mode = old.mode; rounds = k + 1 } → IsTried new.mode new.rounds left tried → IsTried m (k + 1) left tried
tried_here m k left old new tried e is t = subst (λ (x : PlainMode). IsTried x (k + 1) left tried) e (subst (λ (x : Posed). IsTried x.mode x.rounds left tried) is t)

module _ (m : PlainMode) (budget : ℕ) where
  tree_more : (r : ℕ) (trees : List Tree) (tree : Tree) → OwnTreesFrom m r trees → OwnTree m (r + length trees) tree.nodes tree.refs × (¬ (LeadsAt m (r + length trees))) → OwnTreesFrom m r (trees ++ tree ∷ [])
  tree_more r [] tree t own = subst (λ q. OwnTree m q tree.nodes tree.refs × (¬ (LeadsAt m q)) × ⊤) (let z : r + 0 ≡ r = omega arith in z) (own.0, own.1, tt)
  tree_more r (first ∷ trees) tree t own =
      (t.0, t.1, tree_more (suc r) trees tree t.2 (subst (λ q. OwnTree m q tree.nodes tree.refs × (¬ (LeadsAt m q))) (let z : r + suc (length trees) ≡ suc r + length trees = omega arith in z) own))

  pub nothing_tried : (trees : List Tree) → trees ≡ [] → Refuting m budget trees budget 0
  nothing_tried trees e = record {
    trees_for = subst (OwnTreesFrom m 1) (sym e) tt;
    count = ap (λ (x : List Tree). length x) e;
    within = omega arith;
    costs = λ n v is h. subst (λ c. CostFrom m 1 (most_rounds m) c) (let z : v ≡ budget - budget + v = omega arith in z) (subst (λ k. CostFrom m 1 k v) (let z : n ≡ most_rounds m = omega (arith, is) in z) h);
    spends = λ n r is h. subst (λ k. SpentFrom m 1 k budget 0 r) (let z : n ≡ most_rounds m = omega (arith, is) in z) (subst (λ c. SpentFrom m 1 n budget c r) (let z : budget - budget ≡ 0 = omega arith in z) h);
  }

  one_refuted : (trees trees' : List Tree) (left left' k visited : ℕ) (tree : Tree) → Refuting m budget trees left k → IsTried m (k + 1) left (tries.Refuted tree visited) → trees' ≡ trees ++ tree ∷ [] → left' ≡ left - visited → Refuting m budget trees' left' (k + 1)
  one_refuted trees trees' left left' k x tree w t e le = record {
    trees_for = subst (OwnTreesFrom m 1) (sym e) (tree_more 1 trees tree w.trees_for (subst (λ q. OwnTree m q tree.nodes tree.refs × (¬ (LeadsAt m q))) (let z : k + 1 ≡ 1 + length trees = omega (arith, w.count) in z) (t.0, t.1)));
    count = ap (λ (y : List Tree). length y) e ∙ length_push trees tree ∙ ap (λ n. n + 1) w.count;
    within = omega (arith, le, w.within);
    costs = λ n v is h. subst (Cost m) (let z : budget - left + (x + v) ≡ budget - left' + v = omega (arith, le, w.within, t.3) in z)
        (w.costs (suc n) (x + v) (omega (arith, is)) (x, t.2, inr (t.1, (v, subst (λ q. CostFrom m q n v) (let z : k + 1 + 1 ≡ suc (k + 1) = omega arith in z) h, refl))));
    spends = λ n r is h. w.spends (suc n) r (omega (arith, is)) (
      x,
      t.2,
      inr (
        omega (arith, w.within, t.3),
        t.1,
        subst (λ c. SpentFrom m (suc (k + 1)) n budget c r) (let z : budget - left' ≡ budget - left + x = omega (arith, le, w.within, t.3) in z)
            (subst (λ q. SpentFrom m q n budget (budget - left') r) (let z : k + 1 + 1 ≡ suc (k + 1) = omega arith in z) h),
      ),
    );
  }

  made_cost : (trees : List Tree) (left k x : ℕ) → Refuting m budget trees left k → k < most_rounds m → LeadsAt m (k + 1) → Visited m (k + 1) x → Cost m (budget - left + x)
  made_cost trees left k x w l leads v = w.costs (suc (most_rounds m - suc k)) x (omega (arith, l)) (x, v, inl (leads, refl))

  spent_at : (trees : List Tree) (left k : ℕ) → Refuting m budget trees left k → k < most_rounds m → (v : ℕ) × Visited m (k + 1) v × (left < v) → SpentAt m budget (k + 1)
  spent_at trees left k w l (v, h, over) = w.spends (suc (most_rounds m - suc k)) (k + 1) (omega (arith, l)) (v, h, inl (omega (arith, over, w.within), refl))

  -- ---- as the loop ends
  pub made_plan : (trees list : List Tree) (answer : Option Schedule) (left k x cost : ℕ) (s : Schedule) (tried : Tried) → PlansAreBest → IsValid m → list ≡ trees → answer ≡ Some s → cost ≡ budget - left + x
      → Refuting m budget trees left k → k < most_rounds m → IsTried m (k + 1) left tried → tried ≡ tries.Made s x → IsMade m budget list answer cost
  made_plan trees list answer left k x cost s tried law ok e ea ec w l t is =
      let a : IsTried m (k + 1) left (tries.Made s x) = subst (IsTried m (k + 1) left) is t in
      let size : length list ≡ k = ap (λ (y : List Tree). length y) e ∙ w.count in
      let own : OwnTreesFrom m 1 list = subst (OwnTreesFrom m 1) (sym e) w.trees_for in
      let ans : OwnAnswer m (length list + 1) answer = subst (OwnAnswer m (length list + 1)) (sym ea) (subst (λ n. LeadsAt m (n + 1) × Printed m (n + 1) s) (sym size) (a.1, a.0)) in
      (own, ans, law m ok list answer own ans, subst (Cost m) (sym ec) (made_cost trees left k x w l a.1 a.2), omega (arith, ec, w.within, a.3))

  pub none_plan : (trees list : List Tree) (answer : Option Schedule) (left k cost : ℕ) → PlansAreBest → IsValid m → list ≡ trees → answer ≡ None → cost ≡ budget - left
      → Refuting m budget trees left k → most_rounds m ≡ k → IsMade m budget list answer cost
  none_plan trees list answer left k cost law ok e ea ec w is =
      let own : OwnTreesFrom m 1 list = subst (OwnTreesFrom m 1) (sym e) w.trees_for in
      let ans : OwnAnswer m (length list + 1) answer = subst (OwnAnswer m (length list + 1)) (sym ea) (ap (λ (y : List Tree). length y + 1) e ∙ ap (λ n. n + 1) (w.count ∙ sym is)) in
      (own, ans, law m ok list answer own ans, subst (Cost m) (let z : budget - left + 0 ≡ cost = omega (arith, ec) in z) (w.costs 0 0 (omega (arith, is)) refl), omega (arith, ec))

  pub spent_plan : (trees : List Tree) (left k : ℕ) (tried : Tried) → Refuting m budget trees left k → k < most_rounds m → IsTried m (k + 1) left tried → tried ≡ tries.Spent → SpentAt m budget (k + 1)
  spent_plan trees left k tried w l t is = spent_at trees left k w l (subst (IsTried m (k + 1) left) is t)

  pub next_try : (trees trees' : List Tree) (left left' k x : ℕ) (tree : Tree) (tried : Tried) → Refuting m budget trees left k → IsTried m (k + 1) left tried → tried ≡ tries.Refuted tree x → trees' ≡ trees ++ tree ∷ [] → left' ≡ left - x → Refuting m budget trees' left' (k + 1)
  next_try trees trees' left left' k x tree tried w t is e le = one_refuted trees trees' left left' k x tree w (subst (IsTried m (k + 1) left) is t) e le
