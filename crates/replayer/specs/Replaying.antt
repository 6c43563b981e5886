-- What a replay of a script does
use Rattle.std.specs.Prelude.{◌≡◌, ℕ, List, [], map, Option}
use Rattle.std.specs.Io.KnownBytes.{append_known}
use Rattle.ttw_io.specs.Outside.{AddsFront}
use Rattle.app_graph.specs.declared.mode_set.ModeSet.{ModeSet}
use Rattle.sched_model.specs.declared.schedule.Schedule.{Schedule}
use Rattle.task_body.specs.Body.{BodySeen}
use Rattle.replay_script.specs.declared.line.Line.{Line}
use Rattle.runtime_model.specs.Outcomes.{PlainEvent}
use Rattle.runtime_model.specs.Plans.{AreSchedules}
use Rattle.runtime_model.specs.Script.{Spells}
use Rattle.world_core.specs.StandsFor.{StandsFor, HaveBodies, system_with}
use Rattle.world_core.specs.Worlds.{WorldSeen}
use Rattle.replayer.specs.Scripts.{plain_line}
use Rattle.replayer.specs.Trace.{all_happened, trace}
use Rattle.replayer.specs.Counting.{counts_of}
use Rattle.replayer.specs.declared.counts.Counts.{Counts}

-- the world is new: it stands for no events, with right schedules and with these bodies as they are
pub record IsNew (set : ModeSet) (schedules : List Schedule) (world : WorldSeen) (bodies : List BodySeen) : Type 0 where
  pub right : AreSchedules set schedules
  pub have : HaveBodies set bodies
  pub stands : StandsFor set schedules bodies world bodies []

-- it is so for some schedules
abbrev pub IsNewWorld : ModeSet → WorldSeen → List BodySeen → Type 0
IsNewWorld set world bodies = (schedules : List Schedule) × IsNew set schedules world bodies

-- the events that the lines spell with these schedules and bodies
abbrev pub SpelledBy : ModeSet → List Schedule → List BodySeen → List Line → List PlainEvent → Type 0
SpelledBy set schedules bodies lines es = Spells (system_with set schedules bodies) (map plain_line lines) es

-- so it is for every schedules with which the world was new, and for the events that the lines then spell
abbrev pub OfReplay : ModeSet → List Line → WorldSeen → List BodySeen → (List Schedule → List PlainEvent → Type 0) → Type 0
OfReplay set lines world bodies P = (schedules : List Schedule) (es : List PlainEvent) → IsNew set schedules world bodies → SpelledBy set schedules bodies lines es → P schedules es

-- the whole trace was added, these are its counts, and the world and the bodies stand for the events
pub record IsReplayed (set : ModeSet) (bodies : List BodySeen) (old new : Option (List ℕ)) (counts : Counts) (world : WorldSeen) (now : List BodySeen) (schedules : List Schedule) (es : List PlainEvent) : Type 0 where
  pub text : new ≡ append_known old (trace set (system_with set schedules bodies) es)
  pub counted : counts ≡ counts_of (all_happened (system_with set schedules bodies) es)
  pub stands : StandsFor set schedules bodies world now es

-- a prefix of the trace was added
abbrev pub IsCut : ModeSet → List BodySeen → Option (List ℕ) → Option (List ℕ) → List Schedule → List PlainEvent → Type 0
IsCut set bodies old new schedules es = AddsFront old new (trace set (system_with set schedules bodies) es)

-- nothing was done: the sink, the world and the bodies are as they were
pub record IsUntouched (old new : Option (List ℕ)) (was world : WorldSeen) (made bodies : List BodySeen) : Type 0 where
  pub text : new ≡ old
  pub world_kept : world ≡ was
  pub bodies_kept : bodies ≡ made
