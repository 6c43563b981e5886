-- The runs of one task between those of another
use Rattle.std.specs.Prelude.{◌≡◌, ℕ, ◌≤◌, List, [], ◌∷◌, ℤ, pos, ◌+ℤ◌, ◌-ℤ◌, ◌*ℤ◌, neg_ℤ}
use Rattle.tick_num.specs.declared.differences.Diff.{Diff}
use Rattle.tick_num.specs.Differences.{diff}
use Rattle.sched_model.specs.Numbers.{gcd}
use Rattle.sched_model.specs.PlainMode.{PlainMode, PlainTask, task_at}
use Rattle.sched_model.specs.ConstraintProblem.{alternatives_of, chosen, order, places, task_var}
use Rattle.node_use.specs.declared.places.TaskTimes.{TaskTimes}

-- the task of these durations, whatever its number, application and node
abbrev pub plain : TaskTimes → PlainTask
plain t = record { number = 0; app = 0; node = 0; wcet = t.wcet; period = t.period; deadline = t.deadline }

-- its durations are within the limits
pub record IsTimed (t : TaskTimes) : Type 0 where
  pub wcet : 1 ≤ t.wcet
  pub within : t.wcet ≤ t.period
  pub period : t.period ≤ 1000000000
  pub deadline : t.deadline ≤ 1000000000000

-- the two constraints that the runs of t, whose first one's start is variable y, stand at place z between those of s, whose start is x
abbrev pub between : ℕ → ℕ → PlainTask → PlainTask → ℤ → List Diff
between x y s t z =
    let d = pos (gcd s.period t.period) in
    diff x y (neg_ℤ (z *ℤ d +ℤ pos s.wcet)) ∷ diff y x ((z +ℤ pos 1) *ℤ d -ℤ pos t.wcet) ∷ []

-- the durations are those of the task
pub record Shows (t : TaskTimes) (p : PlainTask) : Type 0 where
  pub period : t.period ≡ p.period
  pub deadline : t.deadline ≡ p.deadline
  pub wcet : t.wcet ≡ p.wcet

-- the alternatives and the constraints are those of the constraint problem, where the durations are those of the mode's tasks
abbrev pub PairsAreDecisions : Type 0
PairsAreDecisions = (m : PlainMode) (r a b : ℕ) (s t : TaskTimes) → Shows s (task_at m a) → Shows t (task_at m b) →
    ((p : List ℤ) → places (plain s) (plain t) ≡ alternatives_of m r (order a b) p)
    × ((z : ℤ) → between (task_var r a) (task_var r b) (plain s) (plain t) z ≡ chosen m r (order a b) z)
