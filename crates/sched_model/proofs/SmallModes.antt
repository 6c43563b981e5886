-- The small modes
use Rattle.std.proofs.Common.{◌≡◌, ℕ, zero, suc, ◌-◌, ◌*◌, ◌/◌, ◌%◌, ◌<◌, ◌≤◌, Bool, true, List, [], ◌∷◌, length, map, take, refl, sym, ◌∙◌, subst, arith, ltb, inl, inr, ℤ, pos, ◌+ℤ◌, ◌-ℤ◌, ◌≤ℤ◌, ◌<ℤ◌, get_or, All, Contains, lit<, lit≤}
use Rattle.std.specs.List.{AllByRecursion, list_all}
use Rattle.std.proofs.lemmas.Int.{ints}
use Rattle.std.proofs.lemmas.Bool.{and_parts, ltb-true}
use Rattle.std.proofs.lemmas.Nat.{mod_below}
use Rattle.std.proofs.lemmas.List.Elements.{All-from_recursion}
use lib.Signed.{le_z}
use borrow.Author.Differences.{le-true, at_most_in}
use Rattle.tick_num.specs.declared.differences.Diff.{Diff}
use Rattle.tick_num.specs.Differences.{Meets, MeetsAll, sum_ℤ, IsCycle, named, NegativeCycle}
use Rattle.tick_num.proofs.Cycles.{cycles_exclude}
use Rattle.sched_model.specs.declared.schedule.Schedule.{Schedule}
use Rattle.sched_model.specs.Numbers.{has}
use Rattle.sched_model.specs.PlainMode.{hyper, task_at, message_at}
use Rattle.sched_model.specs.TaskGraph.{IsEdge}
use Rattle.sched_model.specs.Rounds.{round_start, Carries, InWindow}
use Rattle.sched_model.specs.RightSchedule.{AllServed, IsSchedule}
use Rattle.sched_model.specs.ConstraintProblem.{base, decisions, alternatives, in_force, load}
use Rattle.sched_model.specs.OpenPrefix.{FullOpen}
use Rattle.sched_model.specs.SearchCost.{LeadsAt}
use Rattle.sched_model.specs.RefutationTree.{IsTree, IsStored, node_of}
use Rattle.sched_model.specs.ValidMode.{IsValid, Joins}
use Rattle.sched_model.specs.Examples.{loop_of, loop, loop_plan, double, double_plan, DoubleExample, loop_nodes, loop_refs, LoopExample, HalfExample, SharedExample, blink, BlinkExample}
use Rattle.sched_model.proofs.Lists.{all_below}
use Rattle.sched_model.proofs.Graph.{edge_message}
use Rattle.sched_model.proofs.Forward.{schedule_from}

-- ---- solutions and cycles by computation
abbrev meets_test : (ℕ → ℤ) → Diff → Bool
meets_test v d = le_z (v d.x -ℤ v d.y) d.c

tested : (v : ℕ → ℤ) (ds : List Diff) → list_all (meets_test v) ds ≡ true → AllByRecursion (Meets v) ds
tested v [] e = tt
tested v (d ∷ ds) e = let w = and_parts (meets_test v d) (list_all (meets_test v) ds) e in (at_most_in _ _ (le-true (v d.x -ℤ v d.y) d.c w.0), tested v ds w.1)

solves : (v : ℕ → ℤ) (ds : List Diff) → list_all (meets_test v) ds ≡ true → MeetsAll v ds
solves v ds e = All-from_recursion (Meets v) ds (tested v ds e)

small : (n : ℕ) (xs : List ℕ) → list_all (λ i. ltb i n) xs ≡ true → AllByRecursion (λ i. i < n) xs
small n [] e = tt
small n (x ∷ xs) e = let w = and_parts (ltb x n) (list_all (λ i. ltb i n) xs) e in (ltb-true x n w.0, small n xs w.1)

cycle_of : (ds : List Diff) (refs : List ℕ) → list_all (λ i. ltb i (length ds)) refs ≡ true → IsCycle (named ds refs) → sum_ℤ (map (λ d. d.c) (named ds refs)) <ℤ pos 0 → NegativeCycle ds refs
cycle_of ds refs e c n = record { within = All-from_recursion (λ i. i < length ds) refs (small (length ds) refs e); closed = c; negative = n }

-- ---- the loop
loop_values : ℕ → ℤ
loop_values x = get_or (pos 0 ∷ pos 23 ∷ pos 21 ∷ pos 43 ∷ pos 120 ∷ pos 23 ∷ pos 43 ∷ pos 48 ∷ pos 120 ∷ []) x (pos 0)

loop_solved : MeetsAll loop_values (in_force loop 2 (pos 2 ∷ pos 3 ∷ []))
unfolding base decisions hyper loop_values
loop_solved = solves loop_values (in_force loop 2 (pos 2 ∷ pos 3 ∷ [])) refl

row_one : IsTree loop 1 (map (node_of loop_refs) loop_nodes)
unfolding base decisions hyper
row_one =
    let F = in_force loop 1 in (
      _,
      (cycle_of (F (pos 1 ∷ [])) (17 ∷ 2 ∷ 6 ∷ []) refl (refl, (refl, refl)) (record { lt = tt }), refl),
      (
        _,
        (
          _,
          (cycle_of (F (pos 2 ∷ pos 1 ∷ [])) (19 ∷ 4 ∷ 11 ∷ []) refl (refl, (refl, refl)) (record { lt = tt }), refl),
          (
            _,
            (cycle_of (F (pos 2 ∷ pos 2 ∷ [])) (19 ∷ 18 ∷ 9 ∷ 11 ∷ []) refl (refl, (refl, (refl, refl))) (record { lt = tt }), refl),
            (_, (cycle_of (F (pos 2 ∷ pos 3 ∷ [])) (20 ∷ 14 ∷ 16 ∷ 3 ∷ []) refl (refl, (refl, (refl, refl))) (record { lt = tt }), refl), refl),
          ),
        ),
        (_, (cycle_of (F (pos 3 ∷ [])) (18 ∷ 7 ∷ 3 ∷ []) refl (refl, (refl, refl)) (record { lt = tt }), refl), refl),
      ),
    )

loop_stored : All (IsStored loop_refs) loop_nodes
loop_stored = All-from_recursion (IsStored loop_refs) loop_nodes (tt, (lit≤ tt, (tt, (lit≤ tt, (lit≤ tt, (lit≤ tt, (lit≤ tt, tt)))))))

-- a list of one item contains that one
one_of : (x a : ℕ) → Contains (x ∷ []) a → x ≡ a
one_of x a (zero, l, e) = e
one_of x a (suc k, l, e) = absurd (omega (arith, l))

loop_edges : (n a b : ℕ) → IsEdge (loop_of n) a b → Joins (loop_of n) (λ x. x) a b
loop_edges n a b e = let w = edge_message (loop_of n) a b e in at w.0 w.1 w.2 w.3
  where
    step : (x : ℕ) → x < 2 → Joins (loop_of n) (λ y. y) x (suc x)
    step = all_below (λ x. Joins (loop_of n) (λ y. y) x (suc x)) 2 (joins 0 (lit< tt) (lit< tt) refl refl, (joins 1 (lit< tt) (lit< tt) refl refl, tt))
      where
        joins : (x : ℕ) → x < 3 → suc x < 3 → (task_at (loop_of n) x).period ≡ (task_at (loop_of n) (suc x)).period → (task_at (loop_of n) x).deadline ≡ (task_at (loop_of n) (suc x)).deadline → Joins (loop_of n) (λ y. y) x (suc x)
        joins x l k p d = record { from = l; to = k; period = p; deadline = d; later = omega arith }

    moved : (x : ℕ) → x < 2 → x ≡ a → suc x ≡ b → Joins (loop_of n) (λ y. y) a b
    moved x l p q = subst (λ y. Joins (loop_of n) (λ z. z) y b) p (subst (λ y. Joins (loop_of n) (λ z. z) x y) q (step x l))

    at : (i : ℕ) → i < 2 → Contains (message_at (loop_of n) i).from a → Contains (message_at (loop_of n) i).to b → Joins (loop_of n) (λ y. y) a b
    at zero l p q = moved 0 (lit< tt) (one_of 0 a p) (one_of 1 b q)
    at (suc zero) l p q = moved 1 (lit< tt) (one_of 1 a p) (one_of 2 b q)
    at (suc (suc i)) l p q = absurd (omega (arith, l))

loop_valid : (n : ℕ) → 1 ≤ n → IsValid (loop_of n)
unfolding hyper
loop_valid n some = record {
  round = lit≤ tt;
  periods = λ p c. let e = one_of 100 p c in omega (arith, e);
  hyper_limit = lit≤ tt;
  task_period = all_below (λ a. Contains (loop_of n).periods (task_at (loop_of n) a).period) 3 (here, (here, (here, tt)));
  wcet = all_below (λ a. (1 ≤ (task_at (loop_of n) a).wcet) × ((task_at (loop_of n) a).wcet ≤ (task_at (loop_of n) a).period)) 3 ((lit≤ tt, lit≤ tt), ((lit≤ tt, lit≤ tt), ((lit≤ tt, lit≤ tt), tt)));
  deadline = all_below (λ a. (task_at (loop_of n) a).deadline ≤ 100) 3 (lit≤ tt, (lit≤ tt, (lit≤ tt, tt)));
  copies = all_below (λ i. 1 ≤ (message_at (loop_of n) i).copies) 2 (some, (lit≤ tt, tt));
  message_period = all_below (λ i. Contains (loop_of n).periods (message_at (loop_of n) i).period) 2 (here, (here, tt));
  numbers = λ i j l k e. sym (number i l) ∙ e ∙ number j k;
  producer = all_below (λ i. (a : ℕ) × Contains (message_at (loop_of n) i).from a) 2 ((0, (0, lit< tt, refl)), ((1, (0, lit< tt, refl)), tt));
  consumer = all_below (λ i. (b : ℕ) × Contains (message_at (loop_of n) i).to b) 2 ((1, (0, lit< tt, refl)), ((2, (0, lit< tt, refl)), tt));
  consumer_app = λ i b l. all_below (λ i. Contains (message_at (loop_of n) i).to b → ((task_at (loop_of n) b).period ≡ (message_at (loop_of n) i).period) × ((task_at (loop_of n) b).deadline ≡ (message_at (loop_of n) i).deadline)) 2 (
    λ c. subst (λ x. ((task_at (loop_of n) x).period ≡ (message_at (loop_of n) 0).period) × ((task_at (loop_of n) x).deadline ≡ (message_at (loop_of n) 0).deadline)) (one_of 1 b c) (refl, refl),
    (λ c. subst (λ x. ((task_at (loop_of n) x).period ≡ (message_at (loop_of n) 1).period) × ((task_at (loop_of n) x).deadline ≡ (message_at (loop_of n) 1).deadline)) (one_of 2 b c) (refl, refl), tt),
  ) i l;
  rank = λ a. a;
  ranks = λ a l. l;
  edges = loop_edges n;
}
  where
    here : Contains (loop_of n).periods 100
    here = (0, lit< tt, refl)

    number : (i : ℕ) → i < 2 → (message_at (loop_of n) i).number ≡ i
    number = all_below (λ i. (message_at (loop_of n) i).number ≡ i) 2 (refl, (refl, tt))

loop_full : FullOpen loop 2 (pos 2 ∷ pos 3 ∷ [])
unfolding decisions hyper
loop_full = record {
  full = refl;
  chosen = all_below (λ k. Contains (alternatives loop 2 (take k (pos 2 ∷ pos 3 ∷ []))) (get_or (pos 2 ∷ pos 3 ∷ []) k (pos 0))) 2 ((1, lit< tt, refl), ((2, lit< tt, refl), tt));
  is_open = record {
    slots = lit≤ tt;
    loads = all_below (λ j. load loop 2 j (pos 2 ∷ pos 3 ∷ []) ≤ 2) 2 (lit≤ tt, (lit≤ tt, tt));
    values = (loop_values, loop_solved);
  };
}

loop_right : IsSchedule loop 2 (loop_plan (pos 23))
unfolding hyper decisions loop_values
loop_right = schedule_from loop 2 (pos 2 ∷ pos 3 ∷ []) loop_values (loop_valid 1 (lit≤ tt)) (lit≤ tt) loop_full loop_solved refl

-- the second round starts before the window opens, and ends after it closes a hyperperiod later
loop_early : AllServed loop (loop_plan (pos 22)) → ⊥
unfolding hyper
loop_early all = at ((g - 1) % 2) ((g - 1) / 2) (mod_below (g - 1) 2 (lit< tt)) w.1 w.2
  where
    g : ℕ
    g = (all.windows 0 0 (lit< tt)).row 0

    w : (1 ≤ g) × Carries loop (loop_plan (pos 22)) 0 g × InWindow loop (loop_plan (pos 22)) 0 0 g
    w = (all.windows 0 0 (lit< tt)).each 0 (lit< tt)

    s : Schedule
    s = loop_plan (pos 22)

    at : (j n : ℕ) → j < 2 → has (get_or (loop_plan (pos 22)).tables j []) 0 ≡ true → (pos 23 ≤ℤ (round_start (loop_plan (pos 22)) j +ℤ pos (n * 100))) × ((round_start (loop_plan (pos 22)) j +ℤ pos (n * 100) +ℤ pos 20) ≤ℤ pos 43) → ⊥
    at zero n l c v = absurd cc
    at (suc zero) n l c v = omega (arith, ints, v)
    at (suc (suc j)) n l c v = absurd (omega (arith, l))

pub loop_example : LoopExample
unfolding base decisions hyper
loop_example = record {
  plain = refl;
  valid = loop_valid 1 (lit≤ tt);
  hyperperiod = refl;
  one_round = (refl, refl);
  decided = refl;
  first_choice = refl;
  second_choice = refl;
  constraints = refl;
  two_rounds = (refl, refl, refl);
  refuted = record { stored = loop_stored; tree = row_one };
  right = loop_right;
  early = loop_early;
}

-- ---- with two copies
double_values : ℕ → ℤ
double_values x = get_or (pos 0 ∷ pos 23 ∷ pos 43 ∷ pos 21 ∷ pos 63 ∷ pos 120 ∷ pos 23 ∷ pos 63 ∷ pos 68 ∷ pos 120 ∷ []) x (pos 0)

abbrev double_list : List ℤ
double_list = pos 2 ∷ pos 3 ∷ pos 4 ∷ []

double_solved : MeetsAll double_values (in_force double 3 double_list)
unfolding base decisions hyper double_values
double_solved = solves double_values (in_force double 3 double_list) refl

double_full : FullOpen double 3 double_list
unfolding decisions hyper
double_full = record {
  full = refl;
  chosen = all_below (λ k. Contains (alternatives double 3 (take k double_list)) (get_or double_list k (pos 0))) 3 ((1, lit< tt, refl), ((0, lit< tt, refl), ((3, lit< tt, refl), tt)));
  is_open = record {
    slots = lit≤ tt;
    loads = all_below (λ j. load double 3 j double_list ≤ 2) 3 (lit≤ tt, (lit≤ tt, (lit≤ tt, tt)));
    values = (double_values, double_solved);
  };
}

pub double_example : DoubleExample
unfolding decisions hyper double_values
double_example = record {
  needed = refl;
  decided = refl;
  second_copy = refl;
  one_window = refl;
  right = schedule_from double 3 double_list double_values (loop_valid 2 (lit≤ tt)) (lit≤ tt) double_full double_solved refl;
}

-- ---- the others
pub half_example : HalfExample
unfolding decisions hyper
half_example = record { twice = refl; first_choice = refl; second_choice = refl }

pub shared_example : SharedExample
unfolding decisions hyper
shared_example = record { hyperperiod = refl; places = refl; constraints = (refl, refl); none = refl }

blink_values : ℕ → ℤ
blink_values x = get_or (pos 0 ∷ pos 20 ∷ pos 60 ∷ pos 0 ∷ []) x (pos 0)

closed_one : LeadsAt blink 1 → ⊥
unfolding base decisions hyper
closed_one o = cycles_exclude (in_force blink 1 []) (1 ∷ []) (cycle_of (in_force blink 1 []) (1 ∷ []) refl refl (record { lt = tt })) o.values.0 o.values.1

closed_two : LeadsAt blink 2 → ⊥
unfolding base decisions hyper
closed_two o = cycles_exclude (in_force blink 2 []) (1 ∷ 3 ∷ []) (cycle_of (in_force blink 2 []) (1 ∷ 3 ∷ []) refl (refl, refl) (record { lt = tt })) o.values.0 o.values.1

open_three : LeadsAt blink 3
unfolding base decisions hyper blink_values
open_three = record {
  slots = lit≤ tt;
  loads = all_below (λ j. load blink 3 j [] ≤ 2) 3 (lit≤ tt, (lit≤ tt, (lit≤ tt, tt)));
  values = (blink_values, solves blink_values (in_force blink 3 []) refl);
}

pub blink_example : BlinkExample
unfolding decisions hyper
blink_example = (1, refl, inr (closed_one, (2, (1, refl, inr (closed_two, (1, (1, refl, inl (open_three, refl)), refl))), refl)))
