use Rattle.std.proofs.Common.{◌-◌, length}
use Rattle.branch_search.proofs.Forces.{PoppedTo}
use Rattle.branch_search.proofs.forcing.pop_to.Given as goal

abbrev pub invariant-loop-store : goal.invariant-loop-store
invariant-loop-store l = PoppedTo l.len l.initial.store l.store

abbrev pub decreases-loop-store : goal.decreases-loop-store
decreases-loop-store l = length l.store.list - l.len
