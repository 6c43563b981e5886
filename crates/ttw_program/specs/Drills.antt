-- What `drill` says of a seed: the generated set is planned, and the drill's script is replayed with its schedules
use Rattle.std.specs.Prelude.{◌≡◌, ◌⊎◌, ℕ, List, length, map, sum_by, unsigned_abs}
use Rattle.app_graph.specs.declared.mode_set.ModeSet.{ModeSet}
use Rattle.sched_model.specs.PlainMode.{mode_at}
use Rattle.sched_model.specs.declared.schedule.Schedule.{Schedule}
use Rattle.proof_tree.specs.declared.tree.ModePart.{ModePart}
use Rattle.task_body.specs.Body.{BodySeen}
use Rattle.runtime_model.specs.Outcomes.{PlainEvent}
use Rattle.world_core.specs.StandsFor.{system_with}
use Rattle.replayer.specs.Counting.{counts_of}
use Rattle.replayer.specs.Replaying.{SpelledBy}
use Rattle.replayer.specs.Trace.{all_happened}
use Rattle.replayer.specs.declared.counts.Counts.{Counts}
use Rattle.drill.specs.Generated.{drill_set}
use Rattle.drill.specs.Script.{drill_script}
use Rattle.drill.specs.SummaryLine.{summary_line}
use Rattle.drill.specs.declared.summary.Summary.{Summary}
use Rattle.ttw_program.specs.Bodies.{OfBodies}
use Rattle.ttw_program.specs.FaultLines.{budget_line}
use Rattle.file_answers.specs.PlanFiles.{OfSchedules}
use Rattle.ttw_program.specs.Plans.{PlansAll, SpendsFirst, VisitsAll}
use Rattle.file_answers.specs.declared.status.Status.{Status}
use Rattle.file_answers.specs.declared.status.Status.TheVariants.{Done, Budget}

-- the most prefixes that the search of a mode may visit
abbrev pub drill_budget : ℕ
drill_budget = 100000

-- the sum of the modes' rounds
abbrev pub all_rounds : List Schedule → ℕ
all_rounds schedules = sum_by (λ s. length s.starts) schedules

-- the sum of the tasks' offsets, none of which is negative
abbrev pub all_offsets : List Schedule → ℕ
all_offsets schedules = sum_by (λ s. sum_by unsigned_abs s.tasks) schedules

-- what a drill comes to: the generated set's sizes, the numbers of its plan, and the counts of its run
abbrev pub summary_of : ℕ → List Schedule → ℕ → Counts → Summary
summary_of seed schedules visited counts = record {
  seed = seed;
  modes = 8;
  tasks = 512;
  messages = 256;
  rounds = all_rounds schedules;
  visited = visited;
  offsets = all_offsets schedules;
  sent = counts.sent;
  started = counts.started;
  values = counts.values;
}

-- the counts of the events that the drill's script spells with these schedules and bodies
abbrev pub CountsRun : ModeSet → List Schedule → List BodySeen → Counts → Type 0
CountsRun set schedules bodies counts =
    (es : List PlainEvent) × SpelledBy set schedules bodies drill_script es × (counts ≡ counts_of (all_happened (system_with set schedules bodies) es))

-- the line that sums up the drill with these schedules and bodies
abbrev pub IsDrilled : ℕ → ModeSet → List BodySeen → List Schedule → Status → List ℕ → Type 0
IsDrilled seed set bodies schedules status text =
    (visited : ℕ) × (counts : Counts) × VisitsAll set visited × CountsRun set schedules bodies counts × (status ≡ Done)
    × (text ≡ summary_line (summary_of seed schedules visited counts))

-- a part for each mode within the budget, and what is due of their schedules; or the line of the first mode whose search
-- exceeds the budget
abbrev pub OfParts : ModeSet → (List Schedule → Status → List ℕ → Type 0) → Status → List ℕ → Type 0
OfParts set Due status text =
    ((parts : List ModePart) × PlansAll set drill_budget parts × OfSchedules set Due (map (λ part. part.schedule) parts) status text)
    ⊎ ((i : ℕ) × (r : ℕ) × SpendsFirst set drill_budget i r × (status ≡ Budget) × (text ≡ budget_line (mode_at set i).name r))

-- what is due of the generated set of the seed, where the caller hands in these bodies
abbrev pub DrillDue : ℕ → List BodySeen → Status → List ℕ → Type 0
DrillDue seed bodies = let set = drill_set seed in OfBodies set bodies (OfParts set (IsDrilled seed set bodies))
