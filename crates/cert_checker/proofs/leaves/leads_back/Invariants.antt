use Rattle.std.proofs.Common.{◌≡◌, ◌≤◌, length, map}
use Rattle.proof_tree.specs.Grammar.{value}
use Rattle.cert_checker.specs.Following.{goes_round}
use Rattle.cert_checker.proofs.Cycles.{Bounded}
use Rattle.cert_checker.proofs.leaves.leads_back.Given as goal

abbrev pub invariant-loop-word : goal.invariant-loop-word
invariant-loop-word l = record {
  goes : goes_round l.list l.first.x l.at l.sum (map value l.left) ≡ goes_round l.list l.first.x l.first.y l.first.c (map value l.refs);
  few : length l.left ≤ 4096;
  bounds : Bounded (length l.left) l.sum;
}

abbrev pub decreases-loop-word : goal.decreases-loop-word
decreases-loop-word l = length l.left
