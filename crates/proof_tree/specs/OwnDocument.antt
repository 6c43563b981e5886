-- The documents that the search writes.
use Rattle.std.specs.Prelude.{◌≡◌, ℕ, suc, ◌+◌, ⊤, List, [], ◌∷◌, length, Option, Some, None}
use Rattle.std.specs.List.{AllZip}
use Rattle.app_graph.specs.declared.mode_set.ModeSet.{ModeSet}
use Rattle.app_graph.specs.declared.mode_set.Mode.{Mode}
use Rattle.sched_model.specs.declared.schedule.Schedule.{Schedule}
use Rattle.sched_model.specs.PlainMode.{PlainMode, most_rounds, plain_mode}
use Rattle.sched_model.specs.SearchCost.{LeadsAt}
use Rattle.sched_model.specs.PrintedSchedule.{Printed}
use Rattle.sched_model.specs.RefutationTree.{OwnTree}
use Rattle.proof_tree.specs.declared.tree.Tree.{Tree}
use Rattle.proof_tree.specs.declared.tree.ModePart.{ModePart}
use Rattle.proof_tree.specs.PlanText.{plan_text}
use Rattle.proof_tree.specs.Accepting.{Accepts}

-- own trees for r rounds, r + 1 rounds and so on, for which the search finds no full open list
abbrev pub OwnTreesFrom : PlainMode → ℕ → List Tree → Type 0
OwnTreesFrom m r [] = ⊤
OwnTreesFrom m r (tree ∷ trees) = OwnTree m r tree.nodes tree.refs × (¬ (LeadsAt m r)) × OwnTreesFrom m (suc r) trees

-- r is the first number of rounds that leads, and the schedule is the printed one; or no number leads
abbrev pub OwnAnswer : PlainMode → ℕ → Option Schedule → Type 0
OwnAnswer m r None = r ≡ most_rounds m + 1
OwnAnswer m r (Some s) = LeadsAt m r × Printed m r s

-- an own part of a mode
pub record OwnPart (set : ModeSet) (mode : Mode) (part : ModePart) : Type 0 where
  pub trees : OwnTreesFrom (plain_mode set mode) 1 part.refuted
  pub answer : OwnAnswer (plain_mode set mode) (length part.refuted + 1) part.schedule

-- the document of own parts, which is accepted
pub record OwnDoc (set : ModeSet) (bytes : List ℕ) : Type 0 where
  pub parts : List ModePart
  pub own : AllZip (OwnPart set) set.modes parts
  pub text : bytes ≡ plan_text set parts
  pub plans : List (Option Schedule)
  pub accepted : Accepts set bytes plans
