-- From the loop of the search to its answers
use Rattle.std.proofs.Common.{◌≡◌, ℕ, suc, ◌+◌, ◌*◌, ◌<◌, List, [], length, map, refl, sym, ◌∙◌, ap, subst, arith, ℤ}
use Rattle.std.proofs.lemmas.List.{length-map}
use Rattle.tick_num.specs.declared.differences.Diff.{Diff}
use Rattle.tick_num.specs.Differences.{LeastValues, listed}
use Rattle.sched_model.specs.PrintedSchedule.{FirstList}
use Rattle.sched_model.specs.declared.trees.TreeNode.{TreeNode}
use Rattle.sched_model.specs.PlainMode.{PlainMode}
use Rattle.sched_model.specs.ConstraintProblem.{vars, base, decisions, in_force}
use Rattle.sched_model.specs.SearchCost.{Visited}
use Rattle.sched_model.specs.RefutationTree.{Node, node_of, IsOwnTree, OwnTree}
use Rattle.sched_model.proofs.Refutations.{own_valid}
use Rattle.sched_model.proofs.OwnTrees.{tree_count, tree_excludes}
use Rattle.branch_search.specs.declared.canonical.Answer.{Answer}
use Rattle.branch_search.specs.declared.canonical.Answer.TheVariants.{Found, Refuted, Spent}
use Rattle.branch_search.specs.Forcing.{HasSolution, Fronts}
use Rattle.branch_search.specs.Walking.{Standing, FrontTally}
use Rattle.branch_search.specs.Answers.{IsAnswer, HasTree, HasList}
use Rattle.branch_search.specs.declared.walk.Next.{Next}
use Rattle.branch_search.specs.declared.walk.Next.TheVariants as nexts
use Rattle.branch_search.specs.Coming.{Comes, Benched, TallyFor}
use Rattle.branch_search.proofs.Walks.{more_due}
use Rattle.constraint_set.specs.Loads.{Tally, tally_of}
use Rattle.branch_search.proofs.Tallies.{tally_first}
use Rattle.branch_search.proofs.Comings.{root_stands}

-- what is known before each visit
pub record Ready (m : PlainMode) (r : ℕ) (p g : List ℤ) (nodes : List TreeNode) (refs : List ℕ) (list : List Diff) (loads : Tally) (v c n : ℕ) : Type 0 where
  pub standing : Standing m r p g nodes refs
  pub fronts : Fronts m r p list
  pub tally : FrontTally m r p loads
  pub variables : v ≡ vars m r
  pub room : c ≡ length (base m r) + 2 * length (decisions m)
  pub count : length nodes ≡ n

module _ (m : PlainMode) (r : ℕ) where
  ready_root : (list : List Diff) (loads : Tally) (v c : ℕ) → loads ≡ tally_of m r [] → v ≡ vars m r → c ≡ length (base m r) + 2 * length (decisions m) → Ready m r [] [] [] [] list loads v c 0
  ready_root list loads v c t ev ec = record {
    standing = root_stands m r;
    fronts = (list, refl);
    tally = tally_first m r loads t;
    variables = ev;
    room = ec;
    count = refl;
  }

  pub ready_first : (p g : List ℤ) (nodes : List TreeNode) (refs : List ℕ) (list : List Diff) (loads : Tally) (v c : ℕ) → p ≡ [] → g ≡ [] → nodes ≡ [] → refs ≡ [] → loads ≡ tally_of m r [] → v ≡ vars m r → c ≡ length (base m r) + 2 * length (decisions m) →
      Ready m r p g nodes refs list loads v c 0
  ready_first p g nodes refs list loads v c ep eg en er t ev ec =
      subst (λ (x : List ℤ). Ready m r x g nodes refs list loads v c 0) (sym ep)
      (subst (λ (x : List ℤ). Ready m r [] x nodes refs list loads v c 0) (sym eg)
      (subst (λ (x : List TreeNode). Ready m r [] [] x refs list loads v c 0) (sym en)
      (subst (λ (x : List ℕ). Ready m r [] [] [] x list loads v c 0) (sym er) (ready_root list loads v c t ev ec))))

  pub ready_next : (p g q h : List ℤ) (nodes nodes' : List TreeNode) (refs refs' : List ℕ) (list list' : List Diff) (loads loads' : Tally) (v c v' c' n : ℕ) (next : Next) → Ready m r p g nodes refs list loads v c n → Comes m r p (length nodes) q h nodes' refs' next → Benched m r q list' next → TallyFor m r q loads' next → next ≡ nexts.Due → v' ≡ v → c' ≡ c →
      Ready m r q h nodes' refs' list' loads' v' c' (n + 1)
  ready_next p g q h nodes nodes' refs refs' list list' loads loads' v c v' c' n next s a b d is ev ec =
      let w = subst (Comes m r p (length nodes) q h nodes' refs') is a in
      record {
        standing = w.0;
        fronts = subst (Benched m r q list') is b;
        tally = subst (TallyFor m r q loads') is d;
        variables = ev ∙ s.variables;
        room = ec ∙ s.room;
        count = omega (arith, w.2, s.count);
      }

  pub spent_answer : (p g : List ℤ) (nodes : List TreeNode) (refs : List ℕ) (n : ℕ) → Standing m r p g nodes refs → length nodes ≡ n → (v : ℕ) → Visited m r v → n < v
  spent_answer p g nodes refs n s e v h = omega (arith, e, length-map nodes (node_of refs), more_due m r p g (map (node_of refs) nodes) v s.reached h)

  own_counts : (nodes : List Node) → IsOwnTree m r nodes → Visited m r (length nodes)
  own_counts nodes t =
      let w = tree_count m r (length (decisions m)) [] nodes [] t in
      subst (Visited m r) (let e : w.0 ≡ length nodes = omega (arith, w.2) in e) w.1

  pub refuted_answer : (p q h : List ℤ) (before n budget : ℕ) (nodes : List TreeNode) (refs : List ℕ) (next : Next) (answer : Answer) → Comes m r p before q h nodes refs next → next ≡ nexts.Refuted → before ≡ n → n < budget → HasTree nodes refs (n + 1) answer → IsAnswer m r budget answer
  refuted_answer p q h before n budget nodes refs next (Found c v k) w is e l a = absurd a
  refuted_answer p q h before n budget nodes refs next (Refuted tree k) w is e l a =
      let t = subst (Comes m r p before q h nodes refs) is w in
      let own : OwnTree m r tree.nodes tree.refs = subst (λ (x : List TreeNode). OwnTree m r x tree.refs) (sym a.0) (subst (OwnTree m r nodes) (sym a.1) t.0) in
      let size : k ≡ length tree.nodes = omega (arith, a.2, t.1, e, ap (λ (x : List TreeNode). length x) a.0) in (
        own,
        size,
        subst (Visited m r) (length-map tree.nodes (node_of tree.refs) ∙ sym size) (own_counts (map (node_of tree.refs) tree.nodes) own.tree),
        omega (arith, a.2, l),
        λ leads. tree_excludes m r (length (decisions m)) [] (map (node_of tree.refs) tree.nodes) [] (own_valid m r (length (decisions m)) [] (map (node_of tree.refs) tree.nodes) [] own.tree) leads,
      )
  refuted_answer p q h before n budget nodes refs next Spent w is e l a = absurd a

  -- at a full open prefix there is a solution, so the values are the least
  pub found_list : (q : List ℤ) (list : List Diff) (next : Next) → Benched m r q list next → next ≡ nexts.Found → (list ≡ in_force m r q) × HasSolution list
  found_list q list next b is = subst (Benched m r q list) is b

  pub found_answer : (p q h : List ℤ) (before n budget : ℕ) (nodes : List TreeNode) (refs : List ℕ) (list : List Diff) (values vs : List ℤ) (next : Next) (answer : Answer) → Comes m r p before q h nodes refs next → list ≡ in_force m r q → LeastValues list (listed values) → length values ≡ vars m r → next ≡ nexts.Found → before ≡ n → n < budget → vs ≡ values → HasList q vs (n + 1) answer → IsAnswer m r budget answer
  found_answer p q h before n budget nodes refs list values vs next (Found c ws k) w forced least size is e l same a =
      let f = subst (Comes m r p before q h nodes refs) is w in
      let least' : LeastValues (in_force m r q) (listed values) = subst (λ (ds : List Diff). LeastValues ds (listed values)) forced least in
      let count : suc before ≡ k = omega (arith, e, a.2) in (
        subst (FirstList m r) (sym a.0) f.0,
        subst (λ (z : List ℤ). LeastValues (in_force m r z) (listed ws)) (sym a.0) (subst (λ (z : List ℤ). LeastValues (in_force m r q) (listed z)) (sym (a.1 ∙ same)) least'),
        ap (λ (z : List ℤ). length z) (a.1 ∙ same) ∙ size,
        f.2,
        subst (Visited m r) count f.3,
        omega (arith, a.2, l),
      )
  found_answer p q h before n budget nodes refs list values vs next (Refuted tree k) w forced least size is e l same a = absurd a
  found_answer p q h before n budget nodes refs list values vs next Spent w forced least size is e l same a = absurd a
