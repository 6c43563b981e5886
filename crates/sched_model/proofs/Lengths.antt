-- The constraints in force are few
use Rattle.std.proofs.Common.{◌≡◌, ℕ, zero, suc, ◌+◌, ◌-◌, ◌*◌, ◌<◌, ◌≤◌, Bool, true, false, cond, ◌&&◌, List, [], ◌∷◌, ◌++◌, length, refl, ◌∙◌, ap, arith, ℤ, pos, negsuc, ◌-ℤ◌, length-append}
use Rattle.std.specs.List.{flat_map, sum_by}
use Rattle.std.proofs.Math.Nat.{mul-le-mul_right}
use Rattle.std.proofs.lemmas.List.Sums.{sum_by-append}
use Rattle.tick_num.specs.Differences.{diff}
use Rattle.sched_model.specs.Numbers.{below}
use Rattle.sched_model.specs.PlainMode.{PlainMode, task_at, message_at, copy_count, most_rounds}
use Rattle.sched_model.specs.TaskGraph.{first, last, reaches}
use Rattle.sched_model.specs.ConstraintProblem.{task_var, opens_var, closes_var, base, next_round, turn, of_task, of_producer, of_consumer, of_message, of_chain, of_first, Decision, serve, order, serves, share, ordered, orders, decisions, chosen, chosen_all, in_force}
use Rattle.sched_model.specs.ProblemLimits.{IsSmall, ProblemFits}
use Rattle.sched_model.specs.ValidMode.{IsValid}
use Rattle.sched_model.specs.ModeLimits.{IsLimited}
use Rattle.std.proofs.lemmas.List.Elements.{All-from_recursion}
use Rattle.sched_model.proofs.Lists.{flat_below-suc}
use Rattle.sched_model.proofs.Places.{length-serves}
use Rattle.sched_model.proofs.Variables.{in_range}
use Rattle.sched_model.proofs.Bounds.{all_small}

-- each part has at most c items
flat_most : {X : Type 0} (f : ℕ → List X) (c n : ℕ) → ((i : ℕ) → i < n → length (f i) ≤ c) → length (flat_map f (below n)) ≤ n * c
flat_most f c zero h = omega arith
flat_most f c (suc n) h =
    let e = ap length (flat_below-suc f n) ∙ length-append (flat_map f (below n)) (f n) in
    omega (arith, e, h n (omega arith), flat_most f c n (λ i l. h i (omega (arith, l))))

-- each part has two items
flat_two : {X : Type 0} (f : ℕ → List X) → ((x : ℕ) → length (f x) ≡ 2) → (xs : List ℕ) → length (flat_map f xs) ≡ 2 * length xs
flat_two f h [] = refl
flat_two f h (x ∷ xs) = omega (arith, length-append (f x) (flat_map f xs), h x, flat_two f h xs)

cond_most : {X : Type 0} (b : Bool) (xs : List X) → length (cond b xs []) ≤ length xs
cond_most true xs = omega arith
cond_most false xs = omega arith

serves_total : (m : PlainMode) (n : ℕ) → length (flat_map (serves m) (below n)) ≡ sum_by (λ i. copy_count m (message_at m i)) (below n)
serves_total m zero = refl
serves_total m (suc n) =
    let a = sum_by-append (λ i. copy_count m (message_at m i)) (below n) (n ∷ []) in
    let b = ap length (flat_below-suc (serves m) n) ∙ length-append (flat_map (serves m) (below n)) (serves m n) in
    omega (arith, a, b, length-serves m n, serves_total m n)

chosen_two : (m : PlainMode) (r : ℕ) (d : Decision) (v : ℤ) → length (chosen m r d v) ≡ 2
chosen_two m r (serve i k) v = refl
chosen_two m r (order a b) v = refl

chosen_most : (m : PlainMode) (r : ℕ) (ds : List Decision) (p : List ℤ) → length (chosen_all m r ds p) ≤ 2 * length ds
chosen_most m r [] p = omega arith
chosen_most m r (d ∷ ds) [] = omega arith
chosen_most m r (d ∷ ds) (v ∷ p) = omega (arith, length-append (chosen m r d v) (chosen_all m r ds p), chosen_two m r d v, chosen_most m r ds p)

module _ (m : PlainMode) (r : ℕ) (lim : IsLimited m) (some : 1 ≤ r) (most : r ≤ most_rounds m) where
  decisions_most : length (decisions m) ≤ 512 + length m.tasks * (length m.tasks * 1)
  unfolding decisions
  decisions_most =
      let cs = flat_map (serves m) (below (length m.messages)) in
      let ds = flat_map (orders m) (below (length m.tasks)) in
      let a = serves_total m (length m.messages) in
      let b = flat_most (orders m) (length m.tasks * 1) (length m.tasks) (λ x l. flat_most (ordered m x) 1 (length m.tasks) (λ y k. cond_most (share m x y) (order x y ∷ []))) in
      omega (arith, length-append cs ds, a, b, lim.instances)

  base_most : length (base m r) ≤ (r - 1) * 2 + (2 + (length m.tasks * 2 + (length m.messages * 41 + length m.tasks * (length m.tasks * 1))))
  unfolding base
  base_most =
      let n = length m.tasks in
      let l1 = flat_map (next_round m) (below (r - 1)) in
      let l3 = flat_map (of_task m r) (below n) in
      let l4 = flat_map (of_message m r) (below (length m.messages)) in
      let l5 = flat_map (of_first m r) (below n) in
      let e1 = flat_most (next_round m) 2 (r - 1) (λ j l. omega arith) in
      let e3 = flat_most (of_task m r) 2 n (λ a l. let c = cond_most (first m a) (diff (task_var r a) 0 (pos (task_at m a).period -ℤ pos 1) ∷ []) in omega (arith, c)) in
      let e4 = flat_most (of_message m r) 41 (length m.messages) (λ i l.
      let f = flat_two (of_producer m r i) (λ x. refl) (message_at m i).from in
      let g = flat_two (of_consumer m r i) (λ x. refl) (message_at m i).to in
      let ends = lim.ends i l in
      omega (arith, length-append (flat_map (of_producer m r i) (message_at m i).from) (diff (opens_var m r i) (closes_var m r i) (negsuc 0) ∷ flat_map (of_consumer m r i) (message_at m i).to), f, g, ends)) in
      let e5 = flat_most (of_first m r) (n * 1) n (λ f l.
      let c = flat_most (of_chain m r f) 1 n (λ t k. cond_most (last m t && reaches m f t) (diff (task_var r t) (task_var r f) (pos (task_at m f).deadline -ℤ pos (task_at m t).wcet) ∷ [])) in
      let d = cond_most (first m f) (flat_map (of_chain m r f) (below n)) in
      omega (arith, c, d)) in
      omega (arith, length-append l1 (turn m r ++ (l3 ++ (l4 ++ l5))), length-append (turn m r) (l3 ++ (l4 ++ l5)), length-append l3 (l4 ++ l5), length-append l4 l5, e1, e3, e4, e5)

  rounds_most : r ≤ 256
  rounds_most = omega (arith, most, lim.rounds)

  -- 128 tasks have at most 16,384 pairs
  pairs_most : length m.tasks * (length m.tasks * 1) ≤ 16384
  pairs_most =
      let n = length m.tasks in
      let a : n * (n * 1) ≤ 128 * (n * 1) = mul-le-mul_right (n * 1) lim.tasks in
      omega (arith, a, lim.tasks)

  in_force_most : (p : List ℤ) → length (in_force m r p) ≤ 65536
  in_force_most p = omega (arith, length-append (base m r) (chosen_all m r (decisions m) p), base_most, chosen_most m r (decisions m) p, decisions_most, pairs_most, rounds_most, lim.tasks, lim.messages)

pub problem_fits : (m : PlainMode) (r : ℕ) → IsValid m → IsLimited m → 1 ≤ r → r ≤ most_rounds m → ProblemFits m r
problem_fits m r ok lim some most = record {
  variables = omega (arith, rounds_most m r lim some most, lim.tasks, lim.messages);
  in_range = in_range m r ok some;
  small = λ p fits ch. All-from_recursion IsSmall _ (all_small m r ok lim some p fits ch);
  few = in_force_most m r lim some most;
}
