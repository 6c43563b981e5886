use Rattle.std.proofs.Common.{length}
use Rattle.cert_checker.proofs.Lookups.{Numbered}
use Rattle.cert_checker.proofs.entries.numbers_of.Given as goal

abbrev pub invariant-loop-name : goal.invariant-loop-name
invariant-loop-name l = Numbered l.set l.mode l.names l.left l.numbers.items

abbrev pub decreases-loop-name : goal.decreases-loop-name
decreases-loop-name l = length l.left
