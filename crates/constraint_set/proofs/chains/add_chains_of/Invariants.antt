use Rattle.std.proofs.Common.{◌≡◌, ◌++◌}
use Rattle.std.specs.List.{flat_map}
use Rattle.sched_model.specs.Numbers.{below}
use Rattle.sched_model.specs.ConstraintProblem.{of_chain}
use Rattle.constraint_set.proofs.chains.add_chains_of.Given as goal

abbrev pub invariant-loop-end : goal.invariant-loop-end
invariant-loop-end l = l.chains.items ≡ l.initial.chains.items ++ flat_map (of_chain l.frame 0 l.start) (below l.end)
