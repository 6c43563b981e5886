use Rattle.std.proofs.Common.{◌≤◌, take}
use Rattle.world_core.specs.Due.{NoRound}
use Rattle.world_core.proofs.due.next_round.Given as goal

abbrev pub invariant-loop-start : goal.invariant-loop-start
invariant-loop-start l = record {
  from : l.tick ≤ l.next;
  most : l.next ≤ l.most;
  quiet : NoRound (take l.start-index l.starts) l.tick l.next;
}
