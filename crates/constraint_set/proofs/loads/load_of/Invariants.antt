use Rattle.std.proofs.Common.{◌≡◌, ◌+◌, ◌≤◌, drop}
use Rattle.sched_model.specs.ConstraintProblem.{load_of}
use Rattle.constraint_set.proofs.loads.load_of.Given as goal

abbrev pub invariant-loop-place : goal.invariant-loop-place
invariant-loop-place l = record {
  few : l.total ≤ l.place;
  rest : l.total + load_of l.rounds l.round (drop l.place l.decisions) (drop l.place l.prefix) ≡ load_of l.rounds l.round l.decisions l.prefix;
}
