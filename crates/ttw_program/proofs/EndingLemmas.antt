-- How a run ends, from what writing its text ended with
use Rattle.std.proofs.Common.{◌≡◌, ◌≤◌, ℕ, List, Option, Some, None, refl, sym, ◌∙◌, ap, map, subst, inl, inr, Bool, true, false}
use Rattle.std.specs.Prelude.{if◌then◌else◌, position}
use Rattle.std.specs.Str.{bytes_eq}
use Rattle.std.specs.Io.KnownBytes.{append_known}
use Rattle.ttw_io.specs.Outside.{Told, OfFile, one_more}
use Rattle.file_answers.specs.declared.status.Status.{Status}
use Rattle.file_answers.specs.declared.status.Status.TheVariants.{Done, NoSchedule, Usage, ModeFile, Script, Budget}
use Rattle.file_answers.specs.Endings.{Counts, FlushedOnce, Ends, FinishesOrNot, IsFlushed, SinkCounts}
use Rattle.ttw_program.specs.Commands.{Command, plan, check, tables, replay, drill, guard, none}
use Rattle.ttw_program.specs.Plans.{plan_status}
use Rattle.file_answers.specs.PlanFiles.{OfPlan, OfSchedules}
use Rattle.ttw_program.specs.Checks.{CheckDue, IsVerdict}
use Rattle.ttw_program.specs.Tables.{ImageDue, IsImage, OfNode, TablesDue}
use Rattle.ttw_program.specs.Guards.{GuardDue}
use Rattle.ttw_program.specs.Bodies.{OfBodies}
use Rattle.ttw_program.specs.Drills.{DrillDue, IsDrilled, OfParts}
use Rattle.drill.specs.Generated.{drill_set}
use Rattle.ttw_program.specs.ScriptFiles.{OfScript}
use Rattle.ttw_program.specs.Replays.{IsReplay, IsTrace, ReplayDue, TraceDue}
use Rattle.ttw_program.specs.declared.replaying.Replay.{Replay}
use Rattle.ttw_program.specs.Due.{OfCommand, PlanDue}
use Rattle.file_answers.specs.Due.{OfSet}
use Rattle.file_answers.proofs.EndingLemmas.{IsAnswered, answered, done, no_schedule, usage, mode_file, script, budget, refused_plan, of_set, of_file, of_plan, of_schedules, ends_answer}
use Rattle.app_graph.specs.declared.mode_set.ModeSet.{ModeSet}
use Rattle.sched_model.specs.declared.schedule.Schedule.{Schedule}
use Rattle.task_body.specs.Body.{BodySeen}
use Rattle.replay_script.specs.declared.line.Line.{Line}
use Rattle.world_core.specs.StandsFor.{system_with}
use Rattle.replayer.specs.Replaying.{OfReplay}
use Rattle.replayer.specs.Trace.{trace}
use Rattle.replayer.proofs.EventSteps.{later_rose}
use Rattle.replayer.proofs.WholeScripts.{spelled_by}

of_test : (b : Bool) → IsAnswered (if b then Done else NoSchedule)
of_test true = done
of_test false = no_schedule

plan_answered : (most : ℕ) (set : ModeSet) (s : Status) (t : List ℕ) → PlanDue most set s t → IsAnswered s
plan_answered most set s t (inl (parts, all, es, et, own)) = answered s (plan_status parts) es (of_test _)
plan_answered most set s t (inr (i, r, spent, es, et)) = answered s Budget es budget

image_answered : (set : ModeSet) (v : ℕ) (bytes : List ℕ) (s : Status) (t : List ℕ) → ImageDue set v bytes s t → IsAnswered s
image_answered set v = of_plan set (OfSchedules set (IsImage set v)) (of_schedules set (IsImage set v) (λ schedules s t d. answered s Done d.0 done))

tables_answered : (told : Told) (name : List ℕ) (set : ModeSet) (node : Option ℕ) (s : Status) (t : List ℕ) → OfNode (λ v. OfFile told (ImageDue set v)) name node s t → IsAnswered s
tables_answered told name set None s t d = answered s ModeFile d.0 mode_file
tables_answered told name set (Some v) s t d = of_file (ImageDue set v) (image_answered set v) told s t d

of_bodies : (set : ModeSet) (bodies : List BodySeen) (D : Status → List ℕ → Type 0) → ((s : Status) (t : List ℕ) → D s t → IsAnswered s) → (s : Status) (t : List ℕ) → OfBodies set bodies D s t → IsAnswered s
of_bodies set bodies D k s t (inl (task, lacks, es, et)) = answered s ModeFile es mode_file
of_bodies set bodies D k s t (inr (have, d)) = k s t d

of_script : (set : ModeSet) (D : List Line → Status → List ℕ → Type 0) → ((lines : List Line) (s : Status) (t : List ℕ) → D lines s t → IsAnswered s) → (bytes : List ℕ) (s : Status) (t : List ℕ) → OfScript set D bytes s t → IsAnswered s
of_script set D k bytes s t (inl (fault, is, es, et)) = answered s Script es script
of_script set D k bytes s t (inr (right, d)) = k _ s t d

of_parts : (set : ModeSet) (D : List Schedule → Status → List ℕ → Type 0) → ((schedules : List Schedule) (s : Status) (t : List ℕ) → D schedules s t → IsAnswered s) → (s : Status) (t : List ℕ) → OfParts set D s t → IsAnswered s
of_parts set D k s t (inl (parts, all, d)) = of_schedules set D k (map (λ part. part.schedule) parts) s t d
of_parts set D k s t (inr (i, r, spends, es, et)) = answered s Budget es budget

replay_answered : (other told : Told) (bodies : List BodySeen) (set : ModeSet) (s : Status) (t : List ℕ) → ReplayDue other told bodies set s t → IsAnswered s
replay_answered other told bodies set =
    let of_trace : (schedules : List Schedule) (s : Status) (t : List ℕ) → TraceDue set bodies told schedules s t → IsAnswered s
    = λ schedules. of_file (OfScript set (IsTrace set schedules bodies)) (of_script set (IsTrace set schedules bodies) (λ lines s t d. answered s Done d.2 done)) told in
    let Plans = OfSchedules set (TraceDue set bodies told) in
    of_bodies set bodies (OfFile other (OfPlan set Plans)) (of_file (OfPlan set Plans) (of_plan set Plans (of_schedules set (TraceDue set bodies told) of_trace)) other)

drill_answered : (seed : ℕ) (bodies : List BodySeen) (s : Status) (t : List ℕ) → DrillDue seed bodies s t → IsAnswered s
drill_answered seed bodies =
    let set = drill_set seed in
    let Due = IsDrilled seed set bodies in
    of_bodies set bodies (OfParts set Due) (of_parts set Due (λ schedules s t d. answered s Done d.4 done))

-- what is due of a command has the status of an answer
pub due_answered : (command : Command) (told : List ℕ → Told) (bodies : List BodySeen) (s : Status) (t : List ℕ) → OfCommand command told bodies s t → IsAnswered s
due_answered (plan name most) told bodies s t d = of_file (OfSet (PlanDue most)) (of_set (PlanDue most) (plan_answered most)) (told name) s t d
due_answered (check name other) told bodies s t d =
    of_file (OfSet (λ set. OfFile (told other) (CheckDue set))) (of_set (λ set. OfFile (told other) (CheckDue set)) (λ set x y e. of_file (CheckDue set) (of_plan set (IsVerdict set) (λ plans x y d. answered x Done d.0 done)) (told other) x y e)) (told name) s t d
due_answered (tables name other node) told bodies s t d =
    of_file (OfSet (TablesDue (told other) node)) (of_set (TablesDue (told other) node) (λ set x y e. tables_answered (told other) node set (position (bytes_eq node) set.nodes) x y e)) (told name) s t d
due_answered (replay name other text) told bodies s t d =
    of_file (OfSet (ReplayDue (told other) (told text) bodies)) (of_set (ReplayDue (told other) (told text) bodies) (replay_answered (told other) (told text) bodies)) (told name) s t d
due_answered (drill seed) told bodies s t d = drill_answered seed bodies s t d
due_answered (guard name ppm) told bodies s t d = of_file (OfSet (GuardDue ppm)) (of_set (GuardDue ppm) (λ set x y e. answered x Done e.2 done)) (told name) s t d
due_answered none told bodies s t d = answered s Usage d.0 usage

-- a trace that is due was written, or a prefix of it, or nothing
pub ends_trace : (Due : Status → List ℕ → Type 0) (counts : Counts) (old new : Option (List ℕ)) (result : Status) (bodies : List BodySeen) (r : Replay) → IsReplay bodies Due r →
    OfReplay r.set r.script r.world bodies (λ schedules es. FinishesOrNot Done (trace r.set (system_with r.set schedules bodies) es) counts.sink old new result) → Ends Due counts old new result
ends_trace Due counts old new result bodies r due finishes =
    let spelled = spelled_by r.set bodies r.script due.rules due.fits r.world due.schedules due.new in
    let text = trace r.set (system_with r.set due.schedules bodies) spelled.0 in
    let is : Due Done text = due.due Done text (spelled.0, spelled.1, refl, refl) in
    of_ending is (finishes due.schedules spelled.0 due.new spelled.1)
  where
    of_ending : {text : List ℕ} → Due Done text → FinishesOrNot Done text counts.sink old new result → Ends Due counts old new result
    of_ending {text} d (inl f) = ends_answer Due counts old new Done result text done d f
    of_ending {text} d (inr (er, kept, en)) = subst (Ends Due counts old new) (sym er) (kept, inl en)

-- a trace was written, and then there was a flush
pub trace_flushed : (due result : Status) (text : List ℕ) (sink : SinkCounts) (old mid new : Option (List ℕ)) (mid_faults mid_flushes : ℕ) → mid ≡ append_known old text → sink.faults_before ≤ mid_faults → mid_flushes ≡ sink.flushes_before →
    IsFlushed due mid_faults sink.faults_now result → sink.flushes_now ≡ one_more mid_flushes → sink.unflushed ≡ false → new ≡ mid → FinishesOrNot due text sink old new result
trace_flushed due result text sink old mid new mid_faults mid_flushes whole rises same ends once last kept =
    let flushed : FlushedOnce sink = record { once = once ∙ ap one_more same; last = last } in
    elim ends [
      | inl is ↦ inl (inl (is, flushed, kept ∙ whole))
      | inr w ↦ inl (inr (w.0, later_rose sink.faults_before mid_faults sink.faults_now rises w.1, inr (flushed, kept ∙ whole)))
    ]
