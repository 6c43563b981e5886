-- The schedule that a plan prints: the least values under the first full open list
use Rattle.std.specs.Prelude.{◌≡◌, ℕ, ◌-◌, ◌%◌, ◌⊎◌, Bool, nat_eq, List, [], ◌∷◌, length, map, filter, ℤ, ◌<ℤ◌}
use Rattle.std.specs.List.{list_any}
use Rattle.tick_num.specs.Differences.{LeastValues}
use Rattle.sched_model.specs.declared.schedule.Schedule.{Schedule}
use Rattle.sched_model.specs.Numbers.{below}
use Rattle.sched_model.specs.PlainMode.{PlainMode, message_at, copy_count}
use Rattle.sched_model.specs.ConstraintProblem.{choice, task_var, opens_var, closes_var, in_force}
use Rattle.sched_model.specs.OpenPrefix.{FullOpen}

-- p comes before q in lexicographic order, where both have one length
abbrev pub Before : List ℤ → List ℤ → Type 0
Before [] q = ⊥
Before (x ∷ p) [] = ⊥
Before (x ∷ p) (y ∷ q) = (x <ℤ y) ⊎ (x ≡ y) × Before p q

-- a full open list before which there is none
pub record FirstList (m : PlainMode) (r : ℕ) (p : List ℤ) : Type 0 where
  pub here : FullOpen m r p
  pub none_before : (q : List ℤ) → FullOpen m r q → Before q p → ⊥

-- some choice for message i names the round at place j
abbrev pub names : PlainMode → ℕ → List ℤ → ℕ → ℕ → Bool
names m r p j i = list_any (λ x. nat_eq ((choice m p i x - 1) % r) j) (below (copy_count m (message_at m i)))

-- the numbers of the messages with such a choice, in file order
abbrev pub table_of : PlainMode → ℕ → List ℤ → ℕ → List ℕ
table_of m r p j = map (λ i. (message_at m i).number) (filter (names m r p j) (below (length m.messages)))

-- the schedule of a full list of choices and values of the variables
abbrev pub schedule_of : PlainMode → ℕ → List ℤ → (ℕ → ℤ) → Schedule
schedule_of m r p v = record {
  starts = map v (below r);
  tasks = map (λ a. v (task_var r a)) (below (length m.tasks));
  messages = map (λ i. (v (opens_var m r i), v (closes_var m r i))) (below (length m.messages));
  tables = map (table_of m r p) (below r);
}

-- the schedule that is printed for r rounds
pub record Printed (m : PlainMode) (r : ℕ) (s : Schedule) : Type 0 where
  pub list : List ℤ
  pub values : ℕ → ℤ
  pub first : FirstList m r list
  pub least : LeastValues (in_force m r list) values
  pub made : s ≡ schedule_of m r list values
