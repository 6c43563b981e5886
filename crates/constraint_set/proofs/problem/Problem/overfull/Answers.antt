use Rattle.std.proofs.Common.{List, subst}
use Rattle.std.specs.Prelude.{IfNone, IfSome}
use Rattle.sched_model.specs.ConstraintProblem.{Decision, decisions}
use Rattle.constraint_set.specs.Posed.{Posed}
use Rattle.constraint_set.specs.Decided.{AllRoom, FirstOver}
use Rattle.constraint_set.proofs.problem.Problem.overfull.Goals as goal

pub returns-clause-none : goal.returns-clause-none
returns-clause-none c =
    subst (λ (p : Posed). IfNone c.first_overfull.result (AllRoom p.mode.slots p.rounds p.rounds (decisions p.mode) c.args.prefix.now)) c.self.view_is
    (subst (λ s. IfNone c.first_overfull.result (AllRoom s c.self.inside.rounds c.self.inside.rounds (decisions c.self.inside.frame) c.args.prefix.now)) c.slots.ensures.slots
    (subst (λ (ds : List Decision). IfNone c.first_overfull.result (AllRoom c.slots.result c.self.inside.rounds c.self.inside.rounds ds c.args.prefix.now)) c.self.invariant.all c.first_overfull.ensures.none))

pub returns-clause-some : goal.returns-clause-some
returns-clause-some c =
    subst (λ (p : Posed). IfSome c.first_overfull.result (FirstOver p.mode.slots p.rounds (decisions p.mode) c.args.prefix.now)) c.self.view_is
    (subst (λ s. IfSome c.first_overfull.result (FirstOver s c.self.inside.rounds (decisions c.self.inside.frame) c.args.prefix.now)) c.slots.ensures.slots
    (subst (λ (ds : List Decision). IfSome c.first_overfull.result (FirstOver c.slots.result c.self.inside.rounds ds c.args.prefix.now)) c.self.invariant.all c.first_overfull.ensures.some))
