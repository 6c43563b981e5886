-- Which status and which text are due
use Rattle.std.specs.Prelude.{◌≡◌, ◌⊎◌, ℕ, List}
use Rattle.ttw_io.specs.Outside.{Told, OfFile}
use Rattle.task_body.specs.Body.{BodySeen}
use Rattle.app_graph.specs.declared.mode_set.ModeSet.{ModeSet}
use Rattle.sched_model.specs.PlainMode.{mode_at}
use Rattle.proof_tree.specs.declared.tree.ModePart.{ModePart}
use Rattle.proof_tree.specs.PlanText.{plan_text}
use Rattle.proof_tree.specs.OwnDocument.{OwnDoc}
use Rattle.file_answers.specs.Due.{OfSet}
use Rattle.file_answers.specs.declared.status.Status.{Status}
use Rattle.file_answers.specs.declared.status.Status.TheVariants.{Usage, Budget}
use Rattle.ttw_program.specs.FaultLines.{usage_line, budget_line}
use Rattle.ttw_program.specs.Plans.{PlansAll, SpendsFirst, plan_status}
use Rattle.ttw_program.specs.Checks.{CheckDue}
use Rattle.ttw_program.specs.Tables.{TablesDue}
use Rattle.ttw_program.specs.Guards.{GuardDue}
use Rattle.ttw_program.specs.Replays.{ReplayDue}
use Rattle.ttw_program.specs.Drills.{DrillDue}
use Rattle.ttw_program.specs.Commands.{Command, plan, check, tables, replay, drill, guard, none, command}

-- the document of the search with a part for each mode, or the line of the first mode whose search exceeds the budget
abbrev pub PlanDue : ℕ → ModeSet → Status → List ℕ → Type 0
PlanDue budget set status text =
    ((parts : List ModePart) × PlansAll set budget parts × (status ≡ plan_status parts) × (text ≡ plan_text set parts) × OwnDoc set text)
    ⊎ ((i : ℕ) × (r : ℕ) × SpendsFirst set budget i r × (status ≡ Budget) × (text ≡ budget_line (mode_at set i).name r))

abbrev pub IsUsage : Status → List ℕ → Type 0
IsUsage status text = (status ≡ Usage) × (text ≡ usage_line)

-- what is due of a command, where this is told of files and these bodies are handed in
abbrev pub OfCommand : Command → (List ℕ → Told) → List BodySeen → Status → List ℕ → Type 0
OfCommand (plan file budget) told bodies = OfFile (told file) (OfSet (PlanDue budget))
OfCommand (check file other) told bodies = OfFile (told file) (OfSet (λ set. OfFile (told other) (CheckDue set)))
OfCommand (tables file other node) told bodies = OfFile (told file) (OfSet (TablesDue (told other) node))
OfCommand (replay file other script) told bodies = OfFile (told file) (OfSet (ReplayDue (told other) (told script) bodies))
OfCommand (drill seed) told bodies = DrillDue seed bodies
OfCommand (guard file ppm) told bodies = OfFile (told file) (OfSet (GuardDue ppm))
OfCommand none told bodies = IsUsage

-- what is due of the words
abbrev pub Due : List (List ℕ) → (List ℕ → Told) → List BodySeen → Status → List ℕ → Type 0
Due words told bodies = OfCommand (command words) told bodies
