use Rattle.std.proofs.Common.{◌≡◌, ◌++◌, map, take}
use Rattle.constraint_set.specs.Posed.{behind}
use Rattle.constraint_set.proofs.base.add_chains.Given as goal

abbrev pub invariant-loop-chain : goal.invariant-loop-chain
invariant-loop-chain l = l.list.items ≡ l.initial.list.items ++ map (behind l.rounds) (take l.chain-index l.chains)
