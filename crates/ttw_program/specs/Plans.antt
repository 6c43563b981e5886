-- What a plan says of a set within a budget
use Rattle.std.specs.Prelude.{◌≡◌, ℕ, ◌+◌, ◌<◌, ◌≤◌, List, length, take, sum, is_some, if◌then◌else◌}
use Rattle.std.specs.List.{list_all, AllByRecursion, AllZip}
use Rattle.app_graph.specs.declared.mode_set.ModeSet.{ModeSet}
use Rattle.app_graph.specs.declared.mode_set.Mode.{Mode}
use Rattle.sched_model.specs.PlainMode.{plain_mode, plain_at}
use Rattle.sched_model.specs.SearchCost.{Cost, SpentAt}
use Rattle.proof_tree.specs.declared.tree.ModePart.{ModePart}
use Rattle.proof_tree.specs.OwnDocument.{OwnPart}
use Rattle.planner.specs.Plans.{IsBest}
use Rattle.ttw_program.specs.declared.planning.Plans.{Plans}
use Rattle.ttw_program.specs.declared.planning.Plans.TheVariants.{Made, Spent}
use Rattle.file_answers.specs.declared.status.Status.{Status}
use Rattle.file_answers.specs.declared.status.Status.TheVariants.{Done, NoSchedule}

-- the search of the mode visits no more prefixes than the budget
abbrev pub IsWithin : ModeSet → ℕ → Mode → Type 0
IsWithin set budget mode = (c : ℕ) × Cost (plain_mode set mode) c × (c ≤ budget)

-- the mode's own part, within the budget: its schedule has the fewest rounds, and it has none only where no number of rounds has one
pub record PlansMode (set : ModeSet) (budget : ℕ) (mode : Mode) (part : ModePart) : Type 0 where
  pub own : OwnPart set mode part
  pub best : IsBest (plain_mode set mode) (length part.refuted + 1) part.schedule
  pub within : IsWithin set budget mode

-- a part for each mode
abbrev pub PlansAll : ModeSet → ℕ → List ModePart → Type 0
PlansAll set budget parts = AllZip (PlansMode set budget) set.modes parts

-- the mode of this number is the first whose search visits more prefixes than the budget, and r is the number of rounds at which it does
pub record SpendsFirst (set : ModeSet) (budget i r : ℕ) : Type 0 where
  pub mode : i < length set.modes
  pub spent : SpentAt (plain_at set i) budget r
  pub before : AllByRecursion (IsWithin set budget) (take i set.modes)

-- the status of a plan: has each mode a schedule?
abbrev pub plan_status : List ModePart → Status
plan_status parts = if list_all (λ part. is_some part.schedule) parts then Done else NoSchedule

-- the searches of these modes visit so many prefixes: the sum of their costs
abbrev pub VisitsIn : ModeSet → List Mode → ℕ → Type 0
VisitsIn set modes visited = (costs : List ℕ) × AllZip (λ mode cost. Cost (plain_mode set mode) cost) modes costs × (visited ≡ sum costs)

-- those of all modes do
abbrev pub VisitsAll : ModeSet → ℕ → Type 0
VisitsAll set visited = VisitsIn set set.modes visited

-- what is planned: a part for each mode and how many prefixes were visited, or the first mode whose search exceeds the budget
abbrev pub IsPlans : ModeSet → ℕ → Plans → Type 0
IsPlans set budget (Made parts visited) = PlansAll set budget parts.items × VisitsAll set visited
IsPlans set budget (Spent mode rounds) = SpendsFirst set budget mode rounds
