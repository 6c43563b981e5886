use Rattle.std.proofs.Common.{◌≡◌}
use Rattle.std.specs.List.{flat_map}
use Rattle.sched_model.specs.Numbers.{below}
use Rattle.node_use.specs.Pairs.{pairs_with}
use Rattle.node_use.proofs.sharing.pairs_among.Given as goal

abbrev pub invariant-loop-a : goal.invariant-loop-a
invariant-loop-a l = l.pairs.items ≡ flat_map (pairs_with l.rows) (below l.a)
