use Rattle.std.proofs.Common.{sym, subst}
use Rattle.std.proofs.lemmas.Result.{IfOk-weaker}
use Rattle.sched_model.specs.TestModes.{IsShared}
use Rattle.sched_model.proofs.TestLaws.{short_kept}
use Rattle.sched_model.proofs.verdict_tests.short_tasks.Goals as goal

pub returns : goal.returns
returns c = IfOk-weaker c.shared_set.result _ _ (λ set h. subst IsShared (sym h) short_kept) c.shared_set.ensures
