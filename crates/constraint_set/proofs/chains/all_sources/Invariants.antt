use Rattle.std.proofs.Common.{◌≡◌, map}
use Rattle.sched_model.specs.Numbers.{below}
use Rattle.sched_model.specs.Links.{sources_of}
use Rattle.constraint_set.proofs.chains.all_sources.Given as goal

abbrev pub invariant-loop-target : goal.invariant-loop-target
invariant-loop-target l = l.all.items ≡ map (sources_of l.frame) (below l.target)
