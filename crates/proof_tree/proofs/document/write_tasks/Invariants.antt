use Rattle.std.proofs.Common.{◌≡◌, ◌++◌, length, take, map}
use Rattle.std.specs.List.{flat_map, zip}
use Rattle.proof_tree.specs.Items.{line_of}
use Rattle.proof_tree.specs.Names.{tasks_in}
use Rattle.proof_tree.specs.PlanText.{task_item}
use Rattle.proof_tree.proofs.document.write_tasks.Given as goal

abbrev pub invariant-loop-task : goal.invariant-loop-task
invariant-loop-task l = l.out ≡ l.initial.out ++ flat_map line_of (map task_item (take (length l.yielded) (zip (tasks_in l.apps) l.offsets)))
