-- Laws of plans
use Rattle.std.specs.Prelude.{◌+◌, Option, List, length}
use Rattle.sched_model.specs.declared.schedule.Schedule.{Schedule}
use Rattle.sched_model.specs.PlainMode.{PlainMode}
use Rattle.sched_model.specs.ValidMode.{IsValid}
use Rattle.proof_tree.specs.declared.tree.Tree.{Tree}
use Rattle.proof_tree.specs.OwnDocument.{OwnTreesFrom, OwnAnswer}
use Rattle.planner.specs.Plans.{IsBest}

-- own trees for all fewer rounds, and the printed schedule or none: the schedule is right and has the fewest rounds; where there is none, no number of rounds has one
abbrev pub PlansAreBest : Type 0
PlansAreBest = (m : PlainMode) → IsValid m → (trees : List Tree) (answer : Option Schedule) → OwnTreesFrom m 1 trees → OwnAnswer m (length trees + 1) answer → IsBest m (length trees + 1) answer
