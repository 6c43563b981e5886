-- The constraints of a problem fit the solver
use Rattle.std.proofs.Common.{◌≡◌, ℕ, ◌+◌, ◌-◌, ◌<◌, ◌≤◌, List, [], ◌∷◌, ◌++◌, length, get_or, take, All, sym, ◌∙◌, ap, subst, arith, ℤ, pos, replicate, length-append, append_assoc}
use Rattle.std.proofs.lemmas.List.{get_or_append_left, get_or-append-add, length-replicate, take_all, take_more, length-take-le}
use Rattle.sched_model.specs.PlainMode.{PlainMode}
use Rattle.sched_model.specs.ConstraintProblem.{order, vars, base, decisions, chosen, chosen_all, in_force}
use Rattle.sched_model.specs.OpenPrefix.{Chosen}
use Rattle.sched_model.specs.ProblemLimits.{ProblemFits}
use Rattle.branch_search.specs.Walking.{Fits}
use Rattle.branch_search.proofs.Forces.{force_length, choices_push}

module _ (m : PlainMode) (r : ℕ) (f : ProblemFits m r) where
  pub base_few : length (base m r) ≤ 65536
  base_few = omega (arith, f.few [], force_length m r [] (omega arith))

  pub decisions_few : length (decisions m) ≤ 32768
  decisions_few =
      let p : List ℤ = replicate (length (decisions m)) (pos 0) in
      let count : length p ≡ length (decisions m) = length-replicate (length (decisions m)) (pos 0) in
      omega (arith, f.few p, count, force_length m r p (omega (arith, count)))

  -- all constraints in force after chosen prefixes fit
  all_fit : (p : List ℤ) → length p ≤ length (decisions m) → Chosen m r p → All (Fits (vars m r)) (in_force m r p)
  all_fit p l c = λ k d less. let range = f.in_range p k d less in (range.0, range.1, f.small p l c k d less)

  pub base_fits : All (Fits (vars m r)) (base m r)
  base_fits = λ k d l.
      let rest = chosen_all m r (decisions m) [] in
      subst (Fits (vars m r)) (get_or_append_left (base m r) rest d k l) (all_fit [] (omega arith) (λ i less. absurd (omega (arith, less))) k d (omega (arith, l, length-append (base m r) rest)))

  pub last_fits : (p : List ℤ) → 0 < length p → length p ≤ length (decisions m) → Chosen m r p →
      All (Fits (vars m r)) (chosen m r (get_or (decisions m) (length p - 1) (order 0 0)) (get_or p (length p - 1) (pos 0)))
  last_fits p some few c = λ k d l.
      let n = length p - 1 in
      let q = take n p in
      let v = get_or p n (pos 0) in
      let ds = chosen m r (get_or (decisions m) n (order 0 0)) v in
      let count : length q ≡ n = length-take-le n p (omega arith) in
      let whole : p ≡ q ++ v ∷ [] = sym (take_all (length p) p (omega arith)) ∙ ap (λ i. take i p) (let e : length p ≡ n + 1 = omega (arith, some) in e) ∙ take_more p n (pos 0) (omega (arith, some)) in
      let push = choices_push m r (decisions m) q v (order 0 0) (omega (arith, count, some, few)) in
      let split : in_force m r p ≡ in_force m r q ++ ds =
      ap (in_force m r) whole ∙ ap (λ z. base m r ++ z) push ∙ sym (append_assoc (base m r) (chosen_all m r (decisions m) q) (chosen m r (get_or (decisions m) (length q) (order 0 0)) v))
      ∙ ap (λ i. in_force m r q ++ chosen m r (get_or (decisions m) i (order 0 0)) v) count in
      let at : get_or (in_force m r p) (length (in_force m r q) + k) d ≡ get_or ds k d = ap (λ z. get_or z (length (in_force m r q) + k) d) split ∙ get_or-append-add (in_force m r q) ds k d in
      subst (Fits (vars m r)) at (all_fit p few c (length (in_force m r q) + k) d (omega (arith, l, ap length split, length-append (in_force m r q) ds)))
