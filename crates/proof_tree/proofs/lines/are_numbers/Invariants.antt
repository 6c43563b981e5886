use Rattle.std.proofs.Common.{◌≡◌, length}
use Rattle.std.specs.List.{list_all}
use Rattle.proof_tree.specs.Grammar.{is_number}
use Rattle.proof_tree.proofs.lines.are_numbers.Given as goal

abbrev pub invariant-loop-number : goal.invariant-loop-number
invariant-loop-number l = list_all is_number l.left ≡ list_all is_number l.parts

abbrev pub decreases-loop-number : goal.decreases-loop-number
decreases-loop-number l = length l.left
