use Rattle.std.proofs.Common.{◌+◌, ◌∙◌, suc, length, ap, arith}
use Rattle.app_graph.proofs.Levels.{round_first, round_more, round_last}
use Rattle.app_graph.proofs.cycle_rule.has_cycle.Goals as goal

pub loop-task-init : goal.loop-task-init
loop-task-init c = round_first c.args.app.now c.as_slice.result.now c.back-marked.result c.requires (c.as_slice.ensures.value ∙ c.in_ok-links.ensures) c.back-marked.ensures

pub loop-task-preserved : goal.loop-task-preserved
loop-task-preserved c =
    round_more c.args.app.now c.as_slice-in-loop-task.result.now (suc c.loop-task._task-index) (suc (c.loop-task._task-index + 1)) c.loop-task.marked c.back-marked-in-loop-task.result (omega arith)
    (c.as_slice-in-loop-task.ensures.value ∙ c.in_ok-links.ensures) c.loop-task.invariant c.back-marked-in-loop-task.ensures

pub returns : goal.returns
returns c = round_last c.args.app.now c.loop-task._task-index c.loop-task.marked
    (omega (arith, ap length c.as_slice-task-items.ensures))
    c.loop-task.invariant
