use Rattle.std.proofs.Common.{◌≡◌, ◌++◌}
use Rattle.std.specs.List.{flat_map}
use Rattle.sched_model.specs.Numbers.{below}
use Rattle.node_use.specs.Pairs.{pair_at}
use Rattle.node_use.proofs.sharing.push_pairs.Given as goal

abbrev pub invariant-loop-b : goal.invariant-loop-b
invariant-loop-b l = l.pairs.items ≡ l.initial.pairs.items ++ flat_map (pair_at l.rows l.a) (below l.b)
