use Rattle.std.proofs.Common.{sym, subst}
use Rattle.sched_model.specs.OpenPrefix.{Chosen}
use Rattle.constraint_set.specs.Posed.{Posed}
use Rattle.constraint_set.proofs.problem.Problem.diffs_of_last.Goals as goal

pub diffs_at-requires-clause-chosen : goal.diffs_at-requires-clause-chosen
diffs_at-requires-clause-chosen c = subst (λ (p : Posed). Chosen p.mode p.rounds c.args.prefix.now) (sym c.self.view_is) c.requires.chosen
