-- What `replay` writes: the trace of the events that a script spells
use Rattle.std.specs.Prelude.{◌≡◌, ℕ, List}
use Rattle.ttw_io.specs.Outside.{Told, OfFile}
use Rattle.app_graph.specs.declared.mode_set.ModeSet.{ModeSet}
use Rattle.app_graph.specs.Validation.{KeepsRules}
use Rattle.sched_model.specs.declared.schedule.Schedule.{Schedule}
use Rattle.task_body.specs.Body.{BodySeen}
use Rattle.replay_script.specs.declared.line.Line.{Line}
use Rattle.replay_script.specs.Fitting.{FitsScript}
use Rattle.runtime_model.specs.Outcomes.{PlainEvent}
use Rattle.world_core.specs.StandsFor.{system_with}
use Rattle.replayer.specs.Replaying.{IsNew, SpelledBy}
use Rattle.replayer.specs.Trace.{trace}
use Rattle.ttw_program.specs.declared.replaying.Replay.{Replay}
use Rattle.ttw_program.specs.declared.replaying.Reply.{Reply}
use Rattle.ttw_program.specs.declared.replaying.Reply.TheVariants.{Text, Trace}
use Rattle.file_answers.specs.declared.status.Status.{Status}
use Rattle.file_answers.specs.declared.status.Status.TheVariants.{Done}
use Rattle.ttw_program.specs.Bodies.{OfBodies}
use Rattle.file_answers.specs.PlanFiles.{OfPlan, OfSchedules}
use Rattle.ttw_program.specs.ScriptFiles.{OfScript}

-- the trace of the events that these lines spell, with these schedules and with the bodies as they are at the call
abbrev pub IsTrace : ModeSet → List Schedule → List BodySeen → List Line → Status → List ℕ → Type 0
IsTrace set schedules bodies script status text =
    (es : List PlainEvent) × SpelledBy set schedules bodies script es × (status ≡ Done) × (text ≡ trace set (system_with set schedules bodies) es)

-- of the schedules of all modes, with the script of which this is told
abbrev pub TraceDue : ModeSet → List BodySeen → Told → List Schedule → Status → List ℕ → Type 0
TraceDue set bodies script schedules = OfFile script (OfScript set (IsTrace set schedules bodies))

-- of a set, with the bodies, the plan and the script
abbrev pub ReplayDue : Told → Told → List BodySeen → ModeSet → Status → List ℕ → Type 0
ReplayDue plan script bodies set = OfBodies set bodies (OfFile plan (OfPlan set (OfSchedules set (TraceDue set bodies script))))

-- a replay from a new world, whose trace is due
pub record IsReplay (bodies : List BodySeen) (Due : Status → List ℕ → Type 0) (replay : Replay) : Type 0 where
  pub rules : KeepsRules replay.set
  pub fits : FitsScript replay.set replay.script
  pub schedules : List Schedule
  pub new : IsNew replay.set schedules replay.world bodies
  pub due : (status : Status) (text : List ℕ) → IsTrace replay.set schedules bodies replay.script status text → Due status text

-- a text that is due, or a replay whose trace is
abbrev pub IsReply : List BodySeen → (Status → List ℕ → Type 0) → Reply → Type 0
IsReply bodies Due (Text answer) = Due answer.status answer.text
IsReply bodies Due (Trace replay) = IsReplay bodies Due replay
