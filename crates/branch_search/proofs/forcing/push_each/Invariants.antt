use Rattle.std.proofs.Common.{take}
use Rattle.branch_search.proofs.Forces.{PushedSome}
use Rattle.branch_search.proofs.forcing.push_each.Given as goal

abbrev pub invariant-loop-d : goal.invariant-loop-d
invariant-loop-d l = PushedSome (take l.d-index l.added) l.initial.store l.store
