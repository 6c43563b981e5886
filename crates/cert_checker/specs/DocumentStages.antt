-- What is still to be read of a document, and what a line leads to
use Rattle.std.specs.Prelude.{◌≡◌, ℕ, ◌+◌, ◌<◌, ◌≤◌, ◌==◌, ⊤, List, [], ◌∷◌, ◌++◌, length, drop, Option, Some, None, Ok, Err, if◌then◌else◌, IfSome}
use Rattle.std.specs.List.{enumerate_from}
use Rattle.app_graph.specs.declared.mode_set.ModeSet.{ModeSet}
use Rattle.sched_model.specs.FirstBroken.{BreaksFirst}
use Rattle.sched_model.specs.declared.schedule.Schedule.{Schedule}
use Rattle.proof_tree.specs.Accepting.{DocMode, doc_modes, IsRight}
use Rattle.proof_tree.specs.Reading.{Grammar, Place, Reading, fixed, is_head, with_mode, read_modes, close, behind_head}
use Rattle.proof_tree.specs.Refusing.{RefusedFrom}
use Rattle.cert_checker.specs.declared.refused.Refused.{Refused}
use Rattle.cert_checker.specs.declared.refused.Refused.TheVariants as refused
use Rattle.cert_checker.specs.declared.stages.Stage.{Stage}
use Rattle.cert_checker.specs.declared.stages.Stage.TheVariants.{Head, Mode, Within, Nothing}
use Rattle.cert_checker.specs.DraftReading.{doc_at}
use Rattle.cert_checker.specs.ModeReading.{IsInside, inside_due}
use Rattle.cert_checker.specs.Refusals.{said}

-- the modes from number k on, and the end
abbrev pub modes_due : List DocMode → ℕ → Place → Reading
modes_due modes k at = record { plans = (read_modes (drop k (enumerate_from 0 modes)) at).plans; ended = close (read_modes (drop k (enumerate_from 0 modes)) at).ended }

-- what is left of a document of which k modes are done
abbrev pub stage_due : ModeSet → ℕ → Stage → Place → Reading
stage_due set k Head at = behind_head (fixed is_head at) (doc_modes set)
stage_due set k Mode at = modes_due (doc_modes set) k at
stage_due set k (Within inside) at = with_mode (inside_due k (doc_at set k) inside at) (modes_due (doc_modes set) (k + 1))
stage_due set k Nothing at = record { plans = []; ended = if length at.rest == 0 then Ok at else Err (Grammar at.line) }

-- what a document gives, of which these plans were read
abbrev pub document_due : ModeSet → List (Option Schedule) → Stage → Place → Reading
document_due set plans stage at = record { plans = plans ++ (stage_due set (length plans) stage at).plans; ended = (stage_due set (length plans) stage at).ended }

-- the schedules that were read are right, each for its mode
abbrev pub FrontRight : List DocMode → List (Option Schedule) → Type 0
FrontRight modes [] = ⊤
FrontRight [] (plan ∷ plans) = ⊥
FrontRight (d ∷ modes) (plan ∷ plans) = IsRight d plan × FrontRight modes plans

-- what is known at a stage
abbrev pub IsStage : ModeSet → List (Option Schedule) → Stage → Type 0
IsStage set plans Head = plans ≡ []
IsStage set plans Mode = length plans ≤ length set.modes
IsStage set plans (Within inside) = (length plans < length set.modes) × IsInside (doc_at set (length plans)) inside
IsStage set plans Nothing = length plans ≡ length set.modes

-- what was read is refused so, where a refusal is said
abbrev pub Refutes : ModeSet → Refused → Reading → Type 0
Refutes set e read = IfSome (said e) (λ f. RefusedFrom 0 (doc_modes set) read.plans read.ended f)

-- the refusal says which clause the plan of mode o breaks first
abbrev pub BreaksSo : ℕ → DocMode → Option Schedule → Refused → Type 0
BreaksSo o d None e = ⊥
BreaksSo o d (Some s) e = (clause : ℕ) × BreaksFirst d.mode s clause × (e ≡ refused.Schedule o clause)

-- reading stops here so, where a refusal is said
abbrev pub Halts : Refused → Reading → Type 0
Halts e read = IfSome (said e) (λ f. read ≡ record { plans = []; ended = Err f })
