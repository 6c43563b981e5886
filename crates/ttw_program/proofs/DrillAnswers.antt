-- The drill: the parts of a plan as schedules, the bounds of sums, the events of the script, and what is due
use Rattle.std.proofs.Common.{◌≡◌, ℕ, suc, ◌^◌, ◌<◌, ◌≤◌, List, [], ◌∷◌, ◌++◌, length, get_or, map, Option, Some, None, sym, ◌∙◌, ap, subst, arith, inl, inr, ℤ, pos, negsuc}
use Rattle.std.specs.Prelude.{IfOk, Result, Ok, Err, unsigned_abs, sum_by}
use Rattle.std.specs.List.{AllZip}
use Rattle.std.proofs.lemmas.Int.{ints}
use Rattle.std.proofs.lemmas.List.Elements.{All-from_get_or}
use Rattle.std.proofs.lemmas.List.Sums.{sum_by-le}
use Rattle.app_graph.specs.declared.mode_set.Mode.{Mode}
use Rattle.app_graph.specs.declared.mode_set.ModeSet.{ModeSet}
use Rattle.app_graph.specs.Validation.{KeepsRules}
use Rattle.sched_model.specs.PlainMode.{plain_at, mode_at}
use Rattle.sched_model.specs.RightSchedule.{IsSchedule}
use Rattle.sched_model.specs.TimeLimits.{IsTime}
use Rattle.sched_model.specs.declared.schedule.Schedule.{Schedule}
use Rattle.sched_model.proofs.KeptSets.{mode_at_valid}
use Rattle.sched_model.proofs.LimitedModes.{mode_at_limited}
use Rattle.sched_model.proofs.TaskNumbers.{few_modes}
use Rattle.sched_model.proofs.Times.{times}
use Rattle.proof_tree.specs.Accepting.{DocMode, IsRight, doc_mode}
use Rattle.proof_tree.specs.declared.tree.ModePart.{ModePart}
use Rattle.planner.specs.Plans.{IsBest}
use Rattle.task_body.specs.Body.{BodySeen}
use Rattle.replay_script.specs.Fitting.{FitsLine, FitsScript}
use Rattle.replay_script.specs.declared.line.Line.{Line}
use Rattle.replay_script.specs.declared.line.Line.TheVariants as says
use Rattle.runtime_model.specs.Plans.{AreSchedules, no_schedule}
use Rattle.runtime_model.proofs.RightSets.{kept_sets_have_right_plans, plan_count, rounds_few}
use Rattle.world_core.specs.StandsFor.{HaveBodies, system_with}
use Rattle.world_core.specs.TaskBodies.{missing}
use Rattle.world_core.specs.Worlds.{WorldSeen}
use Rattle.replayer.specs.Replaying.{IsNew, IsReplayed, OfReplay, SpelledBy}
use Rattle.replayer.specs.Scripts.{AsksFit, ScriptsSpellOnce, plain_line}
use Rattle.replayer.specs.declared.counts.Counts.{Counts}
use Rattle.drill.specs.Generated.{drill_set}
use Rattle.drill.specs.Script.{drill_script}
use Rattle.drill.specs.SummaryLine.{summary_line}
use Rattle.drill.specs.declared.summary.Summary.{Summary}
use Rattle.ttw_program.specs.Bodies.{body_name, no_body_line}
use Rattle.ttw_program.specs.Drills.{CountsRun, DrillDue, IsDrilled, OfParts, all_offsets, all_rounds, drill_budget, summary_of}
use Rattle.ttw_program.specs.FaultLines.{budget_line}
use Rattle.file_answers.specs.PlanFiles.{OfSchedules}
use Rattle.ttw_program.specs.Plans.{PlansMode, SpendsFirst}
use Rattle.file_answers.specs.declared.answers.Answer.{Answer}
use Rattle.file_answers.specs.declared.status.Status.{Status}
use Rattle.file_answers.specs.declared.status.Status.TheVariants.{Budget, ModeFile}

-- ---- the parts as schedules

best_right : (d : DocMode) (r : ℕ) (plan : Option Schedule) → IsBest d.mode r plan → IsRight d plan
best_right d r None h = tt
best_right d r (Some s) h = subst (λ n. IsSchedule d.mode n s) (sym h.0.shape.starts) h.0

-- the schedule of each part is right
pub parts_right : (set : ModeSet) (budget : ℕ) (modes : List Mode) (parts : List ModePart) → AllZip (PlansMode set budget) modes parts
    → AllZip IsRight (map (doc_mode set) modes) (map (λ part. part.schedule) parts)
parts_right set budget [] [] h = tt
parts_right set budget [] (part ∷ parts) h = absurd h
parts_right set budget (mode ∷ modes) [] h = absurd h
parts_right set budget (mode ∷ modes) (part ∷ parts) h = (best_right (doc_mode set mode) _ part.schedule h.0.best, parts_right set budget modes parts h.1)

-- ---- sums

abs_most : (z : ℤ) → IsTime z → unsigned_abs z ≤ 2000000000000
abs_most (pos n) h = omega (arith, ints, h.1)
abs_most (negsuc n) h = absurd (omega (arith, ints, h.0))

module _ (set : ModeSet) (schedules : List Schedule) (keeps : KeepsRules set) (are : AreSchedules set schedules) where
  -- all rounds can be counted
  pub rounds_count : all_rounds schedules < 2 ^ 64
  rounds_count =
      let each = sum_by-le (λ (s : Schedule). length s.starts) 256 schedules (All-from_get_or (λ (s : Schedule). length s.starts ≤ 256) schedules no_schedule (λ i l.
      rounds_few set i keeps (omega (arith, l, are.one_each)) (get_or schedules i no_schedule) (are.right i (omega (arith, l, are.one_each))))) in
      omega (arith, each, few_modes set keeps, are.one_each)

  mode_offsets : (i : ℕ) → i < length set.modes → sum_by unsigned_abs (get_or schedules i no_schedule).tasks ≤ 256000000000000
  mode_offsets i l =
      let s = get_or schedules i no_schedule in
      let is = are.right i l in
      let each = sum_by-le unsigned_abs 2000000000000 s.tasks (λ j d h. abs_most (get_or s.tasks j d) ((times (plain_at set i) (length s.starts) s (mode_at_valid set keeps i l) is).tasks j d h)) in
      omega (arith, each, is.shape.tasks, (mode_at_limited set keeps i l).tasks)

  -- all offsets can be summed
  pub offsets_sum : all_offsets schedules < 2 ^ 64
  offsets_sum =
      let each = sum_by-le (λ (s : Schedule). sum_by unsigned_abs s.tasks) 256000000000000 schedules (All-from_get_or (λ (s : Schedule). sum_by unsigned_abs s.tasks ≤ 256000000000000) schedules no_schedule (λ i l.
      mode_offsets i (omega (arith, l, are.one_each)))) in
      omega (arith, each, few_modes set keeps, are.one_each)

-- what a drill comes to, with these sums
abbrev pub summary_with : ℕ → ℕ → ℕ → ℕ → Counts → Summary
summary_with seed visited rounds offsets counts = record {
  seed = seed;
  modes = 8;
  tasks = 512;
  messages = 256;
  rounds = rounds;
  visited = visited;
  offsets = offsets;
  sent = counts.sent;
  started = counts.started;
  values = counts.values;
}

-- its line is the drill's
pub summary_text : (seed visited r o : ℕ) (schedules : List Schedule) (counts : Counts) (start text : List ℕ) → r ≡ all_rounds schedules → o ≡ all_offsets schedules → start ≡ []
    → text ≡ start ++ summary_line (summary_with seed visited r o counts) → text ≡ summary_line (summary_of seed schedules visited counts)
summary_text seed visited r o schedules counts start text er eo none add =
    add ∙ ap (λ (t : List ℕ). t ++ summary_line (summary_with seed visited r o counts)) none
    ∙ ap (λ (n : ℕ). summary_line (summary_with seed visited n o counts)) er
    ∙ ap (λ (n : ℕ). summary_line (summary_with seed visited (all_rounds schedules) n counts)) eo

-- ---- the events of the script

module _ (set : ModeSet) (schedules : List Schedule) (bodies : List BodySeen) (keeps : KeepsRules set) (are : AreSchedules set schedules) where
  pub asks_fit : (ls : List Line) → ((k : ℕ) → k < length ls → FitsLine set (get_or ls k (says.Go 0))) → AsksFit (system_with set schedules bodies) (map plain_line ls)
  asks_fit [] fits = tt
  asks_fit (says.Go n ∷ ls) fits = asks_fit ls (λ k l. fits (suc k) (omega (arith, l)))
  asks_fit (says.UntilBeacon ∷ ls) fits = asks_fit ls (λ k l. fits (suc k) (omega (arith, l)))
  asks_fit (says.Lose nodes ∷ ls) fits = asks_fit ls (λ k l. fits (suc k) (omega (arith, l)))
  asks_fit (says.Request mode ∷ ls) fits =
      (subst (λ n. mode < n) (sym (plan_count set schedules)) (fits 0 (omega arith)), asks_fit ls (λ k l. fits (suc k) (omega (arith, l))))
  asks_fit (says.Restart node ∷ ls) fits = asks_fit ls (λ k l. fits (suc k) (omega (arith, l)))

  -- a replay of the whole script counts the events that it spells
  pub counts_run : ScriptsSpellOnce → (lines : List Line) (world now : WorldSeen) (left : List BodySeen) (old new : Option (List ℕ)) (counts : Counts) → lines ≡ drill_script → FitsScript set lines
      → IsNew set schedules world bodies → OfReplay set lines world bodies (IsReplayed set bodies old new counts now left) → CountsRun set schedules bodies counts
  counts_run law lines world now left old new counts same fit is whole =
      let y = system_with set schedules bodies in
      let s = law y ((kept_sets_have_right_plans set schedules keeps are).system y.answers) (map plain_line lines) (asks_fit lines (λ k l. fit.lines k (says.Go 0) l)) in
      (s.0, subst (λ (ls : List Line). SpelledBy set schedules bodies ls s.0) same s.1, (whole schedules s.0 is s.1).counted)

-- ---- what is due

-- the line of the first mode whose search exceeds the budget
pub spent_due : {E : Type 0} (set : ModeSet) (D : List Schedule → Status → List ℕ → Type 0) (i r : ℕ) (answer : Result Answer E) → SpendsFirst set drill_budget i r
    → IfOk answer (λ a. a.status ≡ Budget) → IfOk answer (λ a. a.text ≡ budget_line (mode_at set i).name r) → IfOk answer (λ a. OfParts set D a.status a.text)
spent_due set D i r (Ok a) first es et = inr (i, r, first, es, et)
spent_due set D i r (Err e) first es et = tt

-- what is due of the schedules of the parts
pub parts_due : {E : Type 0} (set : ModeSet) (D : List Schedule → Status → List ℕ → Type 0) (parts : List ModePart) (plans : List (Option Schedule)) (answer : Result Answer E) → AllZip (PlansMode set drill_budget) set.modes parts
    → plans ≡ map (λ part. part.schedule) parts → IfOk answer (λ a. OfSchedules set D plans a.status a.text) → IfOk answer (λ a. OfParts set D a.status a.text)
parts_due set D parts plans (Ok a) all same due = inl (parts, all, subst (λ (ps : List (Option Schedule)). OfSchedules set D ps a.status a.text) same due)
parts_due set D parts plans (Err e) all same due = tt

-- the line of the first task whose body is missing
pub no_body_due : {E : Type 0} (seed : ℕ) (set : ModeSet) (bodies : List BodySeen) (task : ℕ) (answer : Result Answer E) → set ≡ drill_set seed → missing bodies set ≡ Some task
    → IfOk answer (λ a. a.status ≡ ModeFile) → IfOk answer (λ a. a.text ≡ no_body_line (body_name set task)) → IfOk answer (λ a. DrillDue seed bodies a.status a.text)
no_body_due seed set bodies task (Ok a) same first es et =
    inl (task, subst (λ (s : ModeSet). missing bodies s ≡ Some task) same first, es, subst (λ (s : ModeSet). a.text ≡ no_body_line (body_name s task)) same et)
no_body_due seed set bodies task (Err e) same first es et = tt

-- what is due of the generated set
pub set_due : {E : Type 0} (seed : ℕ) (set : ModeSet) (bodies : List BodySeen) (answer : Result Answer E) → set ≡ drill_set seed → HaveBodies set bodies
    → IfOk answer (λ a. OfParts set (IsDrilled seed set bodies) a.status a.text) → IfOk answer (λ a. DrillDue seed bodies a.status a.text)
set_due seed set bodies (Ok a) same have due =
    inr (subst (λ (s : ModeSet). HaveBodies s bodies) same have, subst (λ (s : ModeSet). OfParts s (IsDrilled seed s bodies) a.status a.text) same due)
set_due seed set bodies (Err e) same have due = tt
