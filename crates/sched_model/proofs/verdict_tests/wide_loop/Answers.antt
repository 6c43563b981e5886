use Rattle.std.proofs.Common.{sym, subst}
use Rattle.std.proofs.lemmas.Result.{IfOk-weaker}
use Rattle.sched_model.specs.TestModes.{IsLoop}
use Rattle.sched_model.proofs.TestLaws.{wide_kept}
use Rattle.sched_model.proofs.verdict_tests.wide_loop.Goals as goal

pub returns : goal.returns
returns c = IfOk-weaker c.loop_set.result _ _ (λ set h. subst IsLoop (sym h) wide_kept) c.loop_set.ensures
