-- Which plan documents are refused, and with what.
use Rattle.std.specs.Prelude.{◌≡◌, ℕ, ◌+◌, ◌⊎◌, List, [], ◌∷◌, length, Option, Some, None, Result, Err}
use Rattle.app_graph.specs.declared.mode_set.ModeSet.{ModeSet}
use Rattle.sched_model.specs.RightSchedule.{IsSchedule}
use Rattle.sched_model.specs.FirstBroken.{BreaksFirst}
use Rattle.sched_model.specs.declared.schedule.Schedule.{Schedule}
use Rattle.proof_tree.specs.Accepting.{DocMode, doc_modes, items_of}
use Rattle.proof_tree.specs.Reading.{Refusal, Clause, Place, read_document}

-- the first refused line: the schedules read before it, from mode number o on, are right; or one of them is not,
-- and its last line is the first that is refused
abbrev pub RefusedFrom : ℕ → List DocMode → List (Option Schedule) → Result Place Refusal → Refusal → Type 0
RefusedFrom o modes [] ended refusal = ended ≡ Err refusal
RefusedFrom o [] (plan ∷ plans) ended refusal = ended ≡ Err refusal
RefusedFrom o (d ∷ modes) (None ∷ plans) ended refusal = RefusedFrom (o + 1) modes plans ended refusal
RefusedFrom o (d ∷ modes) (Some s ∷ plans) ended refusal =
    IsSchedule d.mode (length s.starts) s × RefusedFrom (o + 1) modes plans ended refusal
    ⊎ ((clause : ℕ) × BreaksFirst d.mode s clause × (refusal ≡ Clause o clause))

-- the document of these modes is refused with this refusal
abbrev pub RefusedFor : List DocMode → List ℕ → Refusal → Type 0
RefusedFor modes bytes refusal = let r = read_document modes (items_of bytes) in RefusedFrom 0 modes r.plans r.ended refusal

-- the document is refused with this refusal
abbrev pub Refuses : ModeSet → List ℕ → Refusal → Type 0
Refuses set bytes refusal = RefusedFor (doc_modes set) bytes refusal
