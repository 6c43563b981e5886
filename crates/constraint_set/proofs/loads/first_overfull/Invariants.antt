use Rattle.std.proofs.Common.{ℕ, ◌<◌, ◌≤◌}
use Rattle.sched_model.specs.ConstraintProblem.{load_of}
use Rattle.constraint_set.proofs.loads.first_overfull.Given as goal

abbrev pub invariant-loop-round : goal.invariant-loop-round
invariant-loop-round l = (q : ℕ) → q < l.round → load_of l.rounds q l.decisions l.prefix ≤ l.slots
