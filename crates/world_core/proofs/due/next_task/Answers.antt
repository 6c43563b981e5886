use Rattle.std.proofs.Common.{◌≤◌, List, arith, subst}
use Rattle.std.proofs.lemmas.List.{take_all}
use Rattle.world_core.specs.declared.due.DueTask.{DueTask}
use Rattle.world_core.specs.Due.{NoTask}
use Rattle.world_core.proofs.DueLemmas.{no_task_more}
use Rattle.world_core.proofs.due.next_task.Goals as goal

pub loop-task-preserved : goal.loop-task-preserved
loop-task-preserved c =
    let least : c.min-next.result ≤ c.loop-task.next = omega (arith, c.min-next.ensures) in
    let sooner : c.min-next.result ≤ c.next_of.result = omega (arith, c.min-next.ensures) in
    record {
      from = omega (arith, c.min-next.ensures, c.loop-task.invariant.from, c.next_of.ensures.from);
      most = omega (arith, least, c.loop-task.invariant.most);
      quiet = no_task_more c.args.tasks.now c.loop-task.task-index c.args.tick c.loop-task.next c.min-next.result _ c.loop-task-test.true least c.loop-task.invariant.quiet
          (λ u l b. c.next_of.ensures.ends u l (omega (arith, b, sooner))) (λ u l b. c.next_of.ensures.starts u l (omega (arith, b, sooner)));
    }

pub returns-clause-quiet : goal.returns-clause-quiet
returns-clause-quiet c =
    subst (λ (ts : List DueTask). NoTask ts c.args.tick c.loop-task.next) (take_all c.loop-task.task-index c.args.tasks.now (omega (arith, c.loop-task-test.false))) c.loop-task.invariant.quiet
