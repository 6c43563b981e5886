-- What is planned for a mode
use Rattle.std.specs.Prelude.{ℕ, ◌+◌, ◌<◌, ◌≤◌, Option, Some, None, List, length}
use Rattle.sched_model.specs.declared.schedule.Schedule.{Schedule}
use Rattle.sched_model.specs.PlainMode.{PlainMode}
use Rattle.sched_model.specs.RightSchedule.{IsSchedule, Fewest, NoSchedule}
use Rattle.sched_model.specs.SearchCost.{Visited, LeadsAt, Cost, SpentAt}
use Rattle.sched_model.specs.PrintedSchedule.{Printed}
use Rattle.sched_model.specs.RefutationTree.{OwnTree}
use Rattle.proof_tree.specs.declared.tree.Tree.{Tree}
use Rattle.proof_tree.specs.OwnDocument.{OwnTreesFrom, OwnAnswer}
use Rattle.planner.specs.declared.rounds.Tried.{Tried}
use Rattle.planner.specs.declared.rounds.Tried.TheVariants as tries
use Rattle.planner.specs.declared.plan.Planned.{Planned}
use Rattle.planner.specs.declared.plan.Planned.TheVariants as plans

-- what r rounds have: the printed schedule, an own tree, or more visited prefixes than the budget
abbrev pub IsTried : PlainMode → ℕ → ℕ → Tried → Type 0
IsTried m r budget (tries.Made s visited) = Printed m r s × LeadsAt m r × Visited m r visited × (visited ≤ budget)
IsTried m r budget (tries.Refuted tree visited) = OwnTree m r tree.nodes tree.refs × (¬ (LeadsAt m r)) × Visited m r visited × (visited ≤ budget)
IsTried m r budget tries.Spent = (v : ℕ) × Visited m r v × (budget < v)

-- the schedule of r rounds is right, and no schedule has fewer; or no number of rounds has a schedule
abbrev pub IsBest : PlainMode → ℕ → Option Schedule → Type 0
IsBest m r (Some s) = IsSchedule m r s × Fewest m r
IsBest m r None = NoSchedule m

-- own trees for all fewer rounds, and the printed schedule of the next number of rounds, or none: it is the best, at a cost within the budget
abbrev pub IsMade : PlainMode → ℕ → List Tree → Option Schedule → ℕ → Type 0
IsMade m budget trees answer cost = OwnTreesFrom m 1 trees × OwnAnswer m (length trees + 1) answer × IsBest m (length trees + 1) answer × Cost m cost × (cost ≤ budget)

-- what is planned: such a part, or the number of rounds at which the budget is spent
abbrev pub IsPlanned : PlainMode → ℕ → Planned → Type 0
IsPlanned m budget (plans.Made part cost) = IsMade m budget part.refuted part.schedule cost
IsPlanned m budget (plans.Spent rounds) = SpentAt m budget rounds
