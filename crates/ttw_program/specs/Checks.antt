-- What `check` says of a plan document
use Rattle.std.specs.Prelude.{◌≡◌, ℕ, codes, List, [], ◌∷◌, ◌++◌, length, Option, Some, None}
use Rattle.std.specs.List.{flat_map, zip}
use Rattle.ttw_text.specs.Numbers.{spelled}
use Rattle.app_graph.specs.declared.mode_set.ModeSet.{ModeSet}
use Rattle.app_graph.specs.declared.mode_set.Mode.{Mode}
use Rattle.sched_model.specs.declared.schedule.Schedule.{Schedule}
use Rattle.file_answers.specs.PlanFiles.{OfPlan}
use Rattle.file_answers.specs.declared.status.Status.{Status}
use Rattle.file_answers.specs.declared.status.Status.TheVariants.{Done}

-- the number of rounds of a schedule, or that there is none
abbrev pub rounds_said : Option Schedule → List ℕ
rounds_said None = codes " none"
rounds_said (Some s) = codes " rounds " ++ spelled (length s.starts)

-- a mode and its schedule
abbrev pub mode_line : Mode × Option Schedule → List ℕ
mode_line p = codes "mode " ++ (p.0.name ++ (rounds_said p.1 ++ 10 ∷ []))

-- an accepted plan
abbrev pub accepted_text : ModeSet → List (Option Schedule) → List ℕ
accepted_text set plans = codes "accepted\n" ++ flat_map mode_line (zip set.modes plans)

-- what is said of the schedules of an accepted plan
abbrev pub IsVerdict : ModeSet → List (Option Schedule) → Status → List ℕ → Type 0
IsVerdict set plans status text = (status ≡ Done) × (text ≡ accepted_text set plans)

-- the verdict on the bytes of a plan
abbrev pub CheckDue : ModeSet → List ℕ → Status → List ℕ → Type 0
CheckDue set = OfPlan set (IsVerdict set)
