use Rattle.std.proofs.Common.{◌≡◌, ℕ, length}
use Rattle.proof_tree.specs.Reading.{Place}
use Rattle.cert_checker.specs.TreeStack.{IsWalk, walk_beside}
use Rattle.cert_checker.proofs.walk.Walk.advance.Given as goal

abbrev pub invariant-loop-self : goal.invariant-loop-self
invariant-loop-self l = record {
  kept : IsWalk l.self;
  problem : l.self.problem ≡ l.initial.self.problem;
  goes : (o : ℕ) (at : Place) → walk_beside o l.self at ≡ walk_beside o l.initial.self at;
}

abbrev pub decreases-loop-self : goal.decreases-loop-self
decreases-loop-self l = length l.self.prefix.items
