-- What a plan document says, as the program keeps it, and what is due of it
use Rattle.std.specs.Prelude.{◌≡◌, ◌⊎◌, ℕ, codes, List, [], ◌∷◌, ◌++◌, length, map, Option, Some, None}
use Rattle.std.specs.List.{AllZip}
use Rattle.ttw_io.specs.Outside.{Told, untold, missing, file}
use Rattle.ttw_text.specs.Numbers.{spelled}
use Rattle.app_graph.specs.declared.mode_set.ModeSet.{ModeSet}
use Rattle.sched_model.specs.PlainMode.{mode_at}
use Rattle.sched_model.specs.declared.schedule.Schedule.{Schedule}
use Rattle.proof_tree.specs.Accepting.{doc_modes, Accepts}
use Rattle.proof_tree.specs.Fewest.{IsBest}
use Rattle.proof_tree.specs.Reading.{Refusal, Grammar, Names, Clause, BadLeaf, Extra, MissingCount, Unfinished}
use Rattle.proof_tree.specs.Refusing.{Refuses}
use Rattle.file_answers.specs.declared.plan_files.PlanFile.{PlanFile}
use Rattle.file_answers.specs.declared.plan_files.PlanFile.TheVariants.{Accepted, Refused}
use Rattle.file_answers.specs.declared.plan_files.Schedules.{Schedules}
use Rattle.file_answers.specs.declared.plan_files.Schedules.TheVariants.{All, Without}
use Rattle.file_answers.specs.declared.status.Status.{Status}
use Rattle.file_answers.specs.declared.status.Status.TheVariants.{Plan}

-- ---- refused documents

-- what is said of a refused plan
abbrev pub refusal_said : ModeSet → Option Refusal → List ℕ
refusal_said set None = []
refusal_said set (Some (Grammar line)) = codes "grammar line " ++ spelled line
refusal_said set (Some (Names line)) = codes "names line " ++ spelled line
refusal_said set (Some (Clause mode clause)) = codes "schedule " ++ ((mode_at set mode).name ++ (codes " S" ++ spelled clause))
refusal_said set (Some (BadLeaf line)) = codes "bad leaf line " ++ spelled line
refusal_said set (Some (Extra line)) = codes "extra line " ++ spelled line
refusal_said set (Some (MissingCount mode rounds)) = codes "missing " ++ ((mode_at set mode).name ++ (codes " " ++ spelled rounds))
refusal_said set (Some (Unfinished mode)) = codes "unfinished " ++ (mode_at set mode).name

-- a refused plan
abbrev pub refusal_line : ModeSet → Option Refusal → List ℕ
refusal_line set refusal = codes "plan: " ++ (refusal_said set refusal ++ 10 ∷ [])

-- the answer to a document that is refused, with the refusal of its first refused line
abbrev pub IsRefused : ModeSet → List ℕ → Status → List ℕ → Type 0
IsRefused set bytes status text = (refusal : Refusal) × Refuses set bytes refusal × (status ≡ Plan) × (text ≡ refusal_line set (Some refusal))

-- ---- accepted documents

-- a document is accepted with these schedules: each has the fewest rounds, and a mode has none only where no number of rounds has one
abbrev pub IsAccepted : ModeSet → List ℕ → List (Option Schedule) → Type 0
IsAccepted set bytes plans = Accepts set bytes plans × AllZip IsBest (doc_modes set) plans

-- its refusal is due, or what is due of its schedules
abbrev pub OfPlan : ModeSet → (List (Option Schedule) → Status → List ℕ → Type 0) → List ℕ → Status → List ℕ → Type 0
OfPlan set Due bytes status text = IsRefused set bytes status text ⊎ ((plans : List (Option Schedule)) × IsAccepted set bytes plans × Due plans status text)

-- what the program keeps of a document
abbrev pub PlanSaid : ModeSet → List ℕ → PlanFile → Type 0
PlanSaid set bytes (Accepted accepted) = IsAccepted set bytes accepted.modes
PlanSaid set bytes (Refused answer) = IsRefused set bytes answer.status answer.text

-- the same of the bytes of a file, or of some bytes where nothing is told of it
abbrev pub PlanSaidOf : ModeSet → Told → PlanFile → Type 0
PlanSaidOf set untold said = (bytes : List ℕ) × PlanSaid set bytes said
PlanSaidOf set missing said = ⊥
PlanSaidOf set (file bytes) said = PlanSaid set bytes said

-- ---- a schedule for every mode

-- the first mode without a schedule
abbrev pub none_line : List ℕ → List ℕ
none_line name = codes "plan: none " ++ (name ++ 10 ∷ [])

-- so many modes have a schedule, and the next one has none
abbrev pub LacksFirst : List (Option Schedule) → ℕ → Type 0
LacksFirst plans n = (earlier : List Schedule) × (later : List (Option Schedule)) × (plans ≡ map Some earlier ++ None ∷ later) × (length earlier ≡ n)

-- the line of the first mode without a schedule is due, or what is due of the schedules of all modes
abbrev pub OfSchedules : ModeSet → (List Schedule → Status → List ℕ → Type 0) → List (Option Schedule) → Status → List ℕ → Type 0
OfSchedules set Due plans status text =
    ((mode : ℕ) × LacksFirst plans mode × (status ≡ Plan) × (text ≡ none_line (mode_at set mode).name))
    ⊎ ((schedules : List Schedule) × (plans ≡ map Some schedules) × Due schedules status text)

-- what the program keeps of them
abbrev pub HasSchedules : List (Option Schedule) → Schedules → Type 0
HasSchedules plans (All schedules) = plans ≡ map Some schedules.items
HasSchedules plans (Without mode) = LacksFirst plans mode
