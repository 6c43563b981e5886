-- Decisions in code and in the constraint problem
use Rattle.std.specs.Prelude.{ℕ, ◌-◌, ◌%◌, ◌<◌, ◌≤◌, List, Bool, false, nat_eq, Contains, ℤ, pos, ◌≤ℤ◌}
use Rattle.round_service.specs.Serving.{most_choice}
use Rattle.sched_model.specs.PlainMode.{PlainMode, task_at}
use Rattle.constraint_set.specs.Numbers.{numbers_at}
use Rattle.sched_model.specs.Numbers.{natural}
use Rattle.constraint_set.specs.declared.decisions.Choice.{Choice}
use Rattle.constraint_set.specs.declared.decisions.Choice.TheVariants.{Serve, Order}
use Rattle.sched_model.specs.ConstraintProblem.{Decision, serve, order, places, load_of}

-- the decision of the constraint problem
abbrev pub decision_of : Choice → Decision
decision_of (Serve i k) = serve i k
decision_of (Order a b) = order a b

-- whether a choice v for the decision names the round at place j
abbrev pub names_round : ℕ → ℕ → Decision → ℤ → Bool
names_round r j (serve i k) v = nat_eq ((natural v - 1) % r) j
names_round r j (order a b) v = false

-- each of the first n rounds is named at most so often as it has slots
abbrev pub AllRoom : ℕ → ℕ → ℕ → List Decision → List ℤ → Type 0
AllRoom slots r n ds p = (q : ℕ) → q < n → load_of r q ds p ≤ slots

-- round j, from 1, is the first that is named more often
abbrev pub FirstOver : ℕ → ℕ → List Decision → List ℤ → ℕ → Type 0
FirstOver slots r ds p j = (1 ≤ j) × (j ≤ r) × AllRoom slots r (j - 1) ds p × (slots < load_of r (j - 1) ds p)

-- v may be chosen for the decision: a round instance that an instance of the message can have, or a place of the two tasks
abbrev pub MayChoose : PlainMode → ℕ → Decision → ℤ → Type 0
MayChoose m r (serve i k) v = (pos 1 ≤ℤ v) × (v ≤ℤ pos (most_choice (numbers_at m r i)))
MayChoose m r (order a b) v = Contains (places (task_at m a) (task_at m b)) v
