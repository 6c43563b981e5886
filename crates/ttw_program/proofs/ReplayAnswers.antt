-- The replies to a script, a plan and a mode file, from what was read of them
use Rattle.std.proofs.Common.{◌≡◌, ℕ, List, [], length, Some, sym, ◌∙◌, ap, subst, arith, inl, inr}
use Rattle.std.specs.Prelude.{Result, Ok, Err, IfOk}
use Rattle.std.proofs.lemmas.List.{length-take}
use Rattle.ttw_io.specs.Outside.{Told, untold, missing, file, IsWhole, IsLonger, OfFile}
use Rattle.app_graph.specs.declared.mode_set.ModeSet.{ModeSet}
use Rattle.app_graph.specs.Validation.{KeepsRules}
use Rattle.sched_model.specs.declared.schedule.Schedule.{Schedule}
use Rattle.task_body.specs.Body.{BodySeen}
use Rattle.replay_script.specs.declared.line.Line.{Line}
use Rattle.replay_script.specs.Fitting.{FitsScript}
use Rattle.replay_script.specs.Script.{first_fault}
use Rattle.replay_script.proofs.CutTexts.{cut_same}
use Rattle.replay_script.proofs.LongTexts.{faultless_is_short}
use Rattle.runtime_model.specs.Plans.{AreSchedules}
use Rattle.world_core.specs.StandsFor.{HaveBodies, StandsFor}
use Rattle.world_core.specs.Worlds.{WorldSeen}
use Rattle.file_answers.specs.declared.answers.Answer.{Answer}
use Rattle.file_answers.specs.declared.answers.End.{End}
use Rattle.ttw_program.specs.declared.replaying.Reply.{Reply}
use Rattle.ttw_program.specs.declared.replaying.Reply.TheVariants.{Text, Trace}
use Rattle.ttw_program.specs.declared.script_files.ScriptFile.{ScriptFile}
use Rattle.ttw_program.specs.declared.script_files.ScriptFile.TheVariants.{Lines, Refused}
use Rattle.file_answers.specs.declared.status.Status.{Status}
use Rattle.ttw_program.specs.Replays.{IsReplay, IsReply, IsTrace, TraceDue}
use Rattle.ttw_program.specs.ScriptFiles.{OfScript, ScriptSaid, ScriptSaidOf}

-- ---- what is read of a script

-- what the bytes say is what the file that has them says
pub whole_script : (told : Told) (set : ModeSet) (bytes : List ℕ) (said : ScriptFile) → IsWhole told bytes → ScriptSaid set bytes said → ScriptSaidOf set told said
whole_script untold set bytes said w s = (bytes, s)
whole_script missing set bytes said w s = absurd w
whole_script (file all) set bytes said w s = subst (λ (b : List ℕ). ScriptSaid set b said) (sym w) s

-- a longer file has the fault of the bytes that are read of it, and these have one
pub long_script : (told : Told) (set : ModeSet) (bytes : List ℕ) (said : ScriptFile) → IsLonger told 1048576 bytes → ScriptSaid set bytes said → ScriptSaidOf set told said
long_script untold set bytes said l s = (bytes, s)
long_script missing set bytes said l s = absurd l
long_script (file all) set bytes (Lines script) l s =
    absurd (omega (arith, faultless_is_short set bytes s.1, ap length l.1, length-take 1048577 all, l.0))
long_script (file all) set bytes (Refused answer) l (fault, is, es, et) =
    (fault, sym (cut_same set all 1048577 (omega arith)) ∙ subst (λ (b : List ℕ). first_fault set b ≡ Some fault) l.1 is, es, et)

-- its refusal
pub of_faulty : (told : Told) (set : ModeSet) (D : List Line → Status → List ℕ → Type 0) (answer : Answer) → ScriptSaidOf set told (Refused answer) → OfFile told (OfScript set D) answer.status answer.text
of_faulty untold set D answer (bytes, says) = (bytes, inl says)
of_faulty missing set D answer says = absurd says
of_faulty (file bytes) set D answer says = inl says

-- what is due of its lines
of_lines : (told : Told) (set : ModeSet) (D : List Line → Status → List ℕ → Type 0) (script : List Line) (s : Status) (t : List ℕ) → ScriptSaidOf set told (Lines script) → D script s t → OfFile told (OfScript set D) s t
of_lines untold set D script s t (bytes, says) d = (bytes, inr (says.1, subst (λ (ls : List Line). D ls s t) says.2 d))
of_lines missing set D script s t says d = absurd says
of_lines (file bytes) set D script s t says d = inr (says.1, subst (λ (ls : List Line). D ls s t) says.2 d)

lines_fit : (told : Told) (set : ModeSet) (script : List Line) → ScriptSaidOf set told (Lines script) → FitsScript set script
lines_fit untold set script (bytes, says) = says.0
lines_fit missing set script says = absurd says
lines_fit (file bytes) set script says = says.0

-- ---- replies

-- a new world and the lines of the script: their trace is due
pub trace_reply : (told : Told) (set : ModeSet) (schedules : List Schedule) (bodies : List BodySeen) (world : WorldSeen) (script : List Line) →
    KeepsRules set → AreSchedules set schedules → HaveBodies set bodies → StandsFor set schedules bodies world bodies [] → ScriptSaidOf set told (Lines script) →
    IsReplay bodies (TraceDue set bodies told schedules) (record { set = set; world = world; script = script })
trace_reply told set schedules bodies world script rules right have stands says = record {
  rules = rules;
  fits = lines_fit told set script says;
  schedules = schedules;
  new = record { right = right; have = have; stands = stands };
  due = λ s t d. of_lines told set (IsTrace set schedules bodies) script s t says d;
}

-- what follows from what is due is due
reply_more : (bodies : List BodySeen) (D E : Status → List ℕ → Type 0) → ((s : Status) (t : List ℕ) → D s t → E s t) → (r : Reply) → IsReply bodies D r → IsReply bodies E r
reply_more bodies D E k (Text a) d = k a.status a.text d
reply_more bodies D E k (Trace r) d = record { rules = d.rules; fits = d.fits; schedules = d.schedules; new = d.new; due = λ s t i. k s t (d.due s t i) }

pub result_more : (bodies : List BodySeen) (D E : Status → List ℕ → Type 0) → ((s : Status) (t : List ℕ) → D s t → E s t) → (r : Result Reply End) → IfOk r (IsReply bodies D) → IfOk r (IsReply bodies E)
result_more bodies D E k (Ok r) d = reply_more bodies D E k r d
result_more bodies D E k (Err e) d = tt
