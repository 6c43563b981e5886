use Rattle.std.proofs.Common.{◌≡◌, suc}
use Rattle.app_graph.specs.Masks.{mask_of}
use Rattle.app_graph.proofs.Levels.{begins}
use Rattle.app_graph.proofs.cycle_rule.has_cycle.Given as goal

abbrev pub invariant-loop-task : goal.invariant-loop-task
invariant-loop-task l = l.marked ≡ mask_of (begins l.app (suc l._task-index)) l.app.tasks
