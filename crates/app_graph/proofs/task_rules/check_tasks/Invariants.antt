use Rattle.std.proofs.Common.{◌≡◌, ◌++◌, take, drop}
use Rattle.std.specs.List.{flat_map}
use Rattle.app_graph.specs.Rules.{each_after}
use Rattle.app_graph.specs.ValueRules.{task_values}
use Rattle.app_graph.proofs.task_rules.check_tasks.Given as goal

abbrev pub invariant-loop-i : goal.invariant-loop-i
invariant-loop-i l =
    each_after (task_values l.set l.app) (flat_map (λ a. a.tasks) l.earlier ++ take l.i l.tasks) (drop l.i l.tasks)
    ≡ each_after (task_values l.set l.app) (flat_map (λ a. a.tasks) l.earlier) l.tasks
