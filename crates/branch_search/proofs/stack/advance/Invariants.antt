use Rattle.std.proofs.Common.{length}
use Rattle.branch_search.proofs.Popping.{Popped}
use Rattle.branch_search.proofs.stack.advance.Given as goal

abbrev pub invariant-loop-chosen : goal.invariant-loop-chosen
invariant-loop-chosen l = Popped l.initial.chosen.items l.initial.greatest.items l.chosen.items l.greatest.items

abbrev pub decreases-loop-chosen : goal.decreases-loop-chosen
decreases-loop-chosen l = length l.chosen.items
