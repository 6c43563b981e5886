use Rattle.std.proofs.Common.{◌≡◌, drop, nat_le, unsigned_abs}
use Rattle.app_graph.specs.declared.faults.GraphFault.TheVariants.{DeadlineLong}
use Rattle.app_graph.specs.Rules.{each, unless}
use Rattle.app_graph.proofs.size_rules.check_deadlines.Given as goal

abbrev pub invariant-loop-app : goal.invariant-loop-app
invariant-loop-app l =
    each (λ a. unless (nat_le (unsigned_abs a.deadline) l.hyper) (DeadlineLong a.name)) (drop l.app-index l.app-items)
    ≡ each (λ a. unless (nat_le (unsigned_abs a.deadline) l.hyper) (DeadlineLong a.name)) l.app-items
