-- Why one answer is due
use Rattle.std.proofs.Common.{◌≡◌, ℕ, suc, List, [], ◌∷◌, ◌++◌, length, map, Option, Some, None, refl, sym, ◌∙◌, ap, subst, inl, inr, position}
use Rattle.std.specs.Str.{bytes_eq}
use Rattle.std.specs.List.{AllZip}
use Rattle.std.proofs.lemmas.Option.{same_Some}
use Rattle.ttw_io.specs.Outside.{Told, untold, missing, file, OfFile}
use Rattle.app_graph.specs.declared.mode_set.ModeSet.{ModeSet}
use Rattle.app_graph.specs.Validation.{KeepsRules}
use Rattle.mode_file.proofs.OneReading.{one_reading}
use Rattle.sched_model.specs.PlainMode.{mode_at}
use Rattle.sched_model.specs.declared.schedule.Schedule.{Schedule}
use Rattle.proof_tree.specs.Accepting.{IsRight, doc_modes}
use Rattle.proof_tree.specs.Reading.{Refusal}
use Rattle.proof_tree.specs.Refusing.{Refuses}
use Rattle.proof_tree.proofs.DocumentAnswers.{one_answers}
use Rattle.task_body.specs.Body.{BodySeen}
use Rattle.replay_script.specs.declared.line.Line.{Line}
use Rattle.replay_script.specs.declared.line.Line.TheVariants as says
use Rattle.replay_script.specs.Fitting.{FitsScript}
use Rattle.replay_script.proofs.LongTexts.{faultless_fits}
use Rattle.runtime_model.specs.Plans.{AreSchedules}
use Rattle.runtime_model.proofs.RightSets.{kept_sets_have_right_plans}
use Rattle.world_core.specs.StandsFor.{system_with}
use Rattle.world_core.proofs.FirstMissing.{missing_none}
use Rattle.replayer.specs.Scripts.{plain_line}
use Rattle.replayer.specs.Trace.{trace}
use Rattle.replayer.proofs.Spelling.{scripts_spell_once}
use Rattle.ttw_program.specs.Bodies.{OfBodies, body_name, no_body_line}
use Rattle.ttw_program.specs.Checks.{CheckDue, IsVerdict}
use Rattle.ttw_program.specs.Commands.{Command, plan, check, tables, replay, drill, guard, none, command}
use Rattle.ttw_program.specs.Due.{OfCommand}
use Rattle.file_answers.specs.Due.{OfSet}
use Rattle.file_answers.specs.FaultLines.{file_fault_line}
use Rattle.ttw_program.specs.OneAnswer.{AllTold, OneAnswer, OneDue, ReadsPlan}
use Rattle.file_answers.specs.PlanFiles.{IsRefused, OfPlan, OfSchedules, none_line, refusal_line}
use Rattle.ttw_program.specs.Replays.{IsTrace, ReplayDue, TraceDue}
use Rattle.ttw_program.specs.ScriptFiles.{OfScript, script_line}
use Rattle.ttw_program.specs.Tables.{ImageDue, IsImage, OfNode, TablesDue}
use Rattle.file_answers.specs.declared.status.Status.{Status}
use Rattle.ttw_program.proofs.DrillAnswers.{asks_fit}
use Rattle.ttw_program.proofs.HeadlineLemmas.{accepted_once, reads_keep, taken}
use Rattle.ttw_program.proofs.TableAnswers.{schedules_right}

-- both are this status with this text
same : (a : Status) (b : List ℕ) (s r : Status) (t u : List ℕ) → s ≡ a → t ≡ b → r ≡ a → u ≡ b → (s ≡ r) × (t ≡ u)
same a b s r t u es et er eu = (es ∙ sym er, et ∙ sym eu)

-- both are this status, with the texts of one thing
of_one : {X : Type 0} (f : X → List ℕ) (a : Status) (x y : X) (s r : Status) (t u : List ℕ) → x ≡ y → s ≡ a → t ≡ f x → r ≡ a → u ≡ f y → (s ≡ r) × (t ≡ u)
of_one f a x y s r t u e es et er eu = (es ∙ sym er, et ∙ ap f e ∙ sym eu)

-- ---- files and sets

file_one : (D : List ℕ → Status → List ℕ → Type 0) → ((bytes : List ℕ) → OneDue (D bytes)) → (told : Told) → (told ≡ untold → ⊥) → OneDue (OfFile told D)
file_one D one untold n s r t u a b = absurd (n refl)
file_one D one missing n s r t u a b = absurd a
file_one D one (file bytes) n s r t u a b = one bytes s r t u a b

set_one : (D : ModeSet → Status → List ℕ → Type 0) → ((set : ModeSet) → KeepsRules set → OneDue (D set)) → (bytes : List ℕ) → OneDue (OfSet D bytes)
set_one D one bytes s r t u (inl (f, broken, es, et)) (inl (g, other, er, eu)) = of_one file_fault_line _ f g s r t u ((one_reading bytes).one_fault f g broken other) es et er eu
set_one D one bytes s r t u (inl (f, broken, es, et)) (inr (set, reads, d)) = absurd ((one_reading bytes).not_both set f reads broken)
set_one D one bytes s r t u (inr (set, reads, d)) (inl (f, broken, er, eu)) = absurd ((one_reading bytes).not_both set f reads broken)
set_one D one bytes s r t u (inr (set, reads, d)) (inr (other, says, e)) =
    one set (reads_keep bytes set reads) s r t u d (subst (λ (m : ModeSet). D m r u) ((one_reading bytes).one_set other set says reads) e)

-- ---- documents

refused_once : (set : ModeSet) (bytes : List ℕ) (f g : Refusal) → KeepsRules set → Refuses set bytes f → Refuses set bytes g → f ≡ g
refused_once set bytes f g keeps a b = elim (one_answers set bytes keeps) [
  | inl x ↦ absurd (x.1 f a)
  | inr x ↦ x.0.2 f a ∙ sym (x.0.2 g b)
]

refusal_one : (set : ModeSet) (bytes : List ℕ) → KeepsRules set → OneDue (IsRefused set bytes)
refusal_one set bytes keeps s r t u (f, a, es, et) (g, b, er, eu) =
    of_one (λ x. refusal_line set (Some x)) _ f g s r t u (refused_once set bytes f g keeps a b) es et er eu

plan_one : (set : ModeSet) (D : List (Option Schedule) → Status → List ℕ → Type 0) → KeepsRules set → ((plans : List (Option Schedule)) → AllZip IsRight (doc_modes set) plans → OneDue (D plans)) → (bytes : List ℕ)
    → OneDue (OfPlan set D bytes)
plan_one set D keeps one bytes s r t u (inl a) (inl b) = refusal_one set bytes keeps s r t u a b
plan_one set D keeps one bytes s r t u (inl a) (inr (plans, ok, d)) = absurd (taken set bytes plans keeps ok.0 s t a)
plan_one set D keeps one bytes s r t u (inr (plans, ok, d)) (inl b) = absurd (taken set bytes plans keeps ok.0 r u b)
plan_one set D keeps one bytes s r t u (inr (plans, ok, d)) (inr (others, good, e)) =
    one plans ok.0.right s r t u d (subst (λ (p : List (Option Schedule)). D p r u) (accepted_once set bytes others plans keeps good.0 ok.0) e)

-- ---- schedules

abbrev next : List (Option Schedule) → Option (Option Schedule)
next [] = None
next (p ∷ ps) = Some p

abbrev rest : List (Option Schedule) → List (Option Schedule)
rest [] = []
rest (p ∷ ps) = ps

-- where one list has a gap, another has it at the same place
gap_once : (a b : List Schedule) (x y : List (Option Schedule)) → map Some a ++ None ∷ x ≡ map Some b ++ None ∷ y → length a ≡ length b
gap_once [] [] x y e = refl
gap_once [] (s ∷ b) x y e = absurd (let n : None ≡ Some s = same_Some None (Some s) (ap next e) in cc)
gap_once (s ∷ a) [] x y e = absurd (let n : Some s ≡ None = same_Some (Some s) None (ap next e) in cc)
gap_once (s ∷ a) (r ∷ b) x y e = ap suc (gap_once a b x y (ap rest e))

no_gap : (a b : List Schedule) (x : List (Option Schedule)) → map Some a ++ None ∷ x ≡ map Some b → ⊥
no_gap [] [] x e = let n : Some None ≡ None = ap next e in cc
no_gap [] (s ∷ b) x e = let n : None ≡ Some s = same_Some None (Some s) (ap next e) in cc
no_gap (s ∷ a) [] x e = let n : Some (Some s) ≡ None = ap next e in cc
no_gap (s ∷ a) (r ∷ b) x e = no_gap a b x (ap rest e)

all_once : (a b : List Schedule) → map Some a ≡ map Some b → a ≡ b
all_once [] [] e = refl
all_once [] (s ∷ b) e = absurd (let n : None ≡ Some (Some s) = ap next e in cc)
all_once (s ∷ a) [] e = absurd (let n : Some (Some s) ≡ None = ap next e in cc)
all_once (s ∷ a) (r ∷ b) e =
    ap (λ (x : Schedule). x ∷ a) (same_Some s r (same_Some (Some s) (Some r) (ap next e))) ∙ ap (λ (xs : List Schedule). r ∷ xs) (all_once a b (ap rest e))

schedules_one : (set : ModeSet) (D : List Schedule → Status → List ℕ → Type 0) → KeepsRules set → ((schedules : List Schedule) → AreSchedules set schedules → OneDue (D schedules)) →
    (plans : List (Option Schedule)) → AllZip IsRight (doc_modes set) plans → OneDue (OfSchedules set D plans)
schedules_one set D keeps one plans right s r t u (inl (n, (a, x, is, count), es, et)) (inl (m, (b, y, are, number), er, eu)) =
    of_one (λ (i : ℕ). none_line (mode_at set i).name) _ n m s r t u (sym count ∙ gap_once a b x y (sym is ∙ are) ∙ number) es et er eu
schedules_one set D keeps one plans right s r t u (inl (n, (a, x, is, count), es, et)) (inr (all, are, e)) = absurd (no_gap a all x (sym is ∙ are))
schedules_one set D keeps one plans right s r t u (inr (all, are, d)) (inl (n, (a, x, is, count), er, eu)) = absurd (no_gap a all x (sym is ∙ are))
schedules_one set D keeps one plans right s r t u (inr (all, is, d)) (inr (others, are, e)) =
    one all (schedules_right set plans all right is) s r t u d (subst (λ (xs : List Schedule). D xs r u) (all_once others all (sym are ∙ is)) e)

-- ---- bodies and scripts

bodies_one : (set : ModeSet) (bodies : List BodySeen) (D : Status → List ℕ → Type 0) → OneDue D → OneDue (OfBodies set bodies D)
bodies_one set bodies D one s r t u (inl (a, is, es, et)) (inl (b, are, er, eu)) =
    of_one (λ (task : ℕ). no_body_line (body_name set task)) _ a b s r t u (same_Some a b (sym is ∙ are)) es et er eu
bodies_one set bodies D one s r t u (inl (a, is, es, et)) (inr (have, e)) = absurd (let n : None ≡ Some a = sym ((missing_none bodies set).1 have) ∙ is in cc)
bodies_one set bodies D one s r t u (inr (have, d)) (inl (a, is, er, eu)) = absurd (let n : None ≡ Some a = sym ((missing_none bodies set).1 have) ∙ is in cc)
bodies_one set bodies D one s r t u (inr (have, d)) (inr (has, e)) = one s r t u d e

trace_one : (set : ModeSet) (schedules : List Schedule) (bodies : List BodySeen) (script : List Line) → KeepsRules set → AreSchedules set schedules → FitsScript set script → OneDue (IsTrace set schedules bodies script)
trace_one set schedules bodies script keeps right fit s r t u (es, spells, ed, et) (fs, spelled, fd, ft) =
    let y = system_with set schedules bodies in
    let once = scripts_spell_once y ((kept_sets_have_right_plans set schedules keeps right).system y.answers) (map plain_line script) (asks_fit set schedules bodies keeps right script (λ k l. fit.lines k (says.Go 0) l)) in
    of_one (trace set y) _ es fs s r t u (once.2 es spells ∙ sym (once.2 fs spelled)) ed et fd ft

script_one : (set : ModeSet) (schedules : List Schedule) (bodies : List BodySeen) → KeepsRules set → AreSchedules set schedules → (bytes : List ℕ) → OneDue (OfScript set (IsTrace set schedules bodies) bytes)
script_one set schedules bodies keeps right bytes s r t u (inl (f, is, es, et)) (inl (g, are, er, eu)) = of_one script_line _ f g s r t u (same_Some f g (sym is ∙ are)) es et er eu
script_one set schedules bodies keeps right bytes s r t u (inl (f, is, es, et)) (inr (ok, e)) = absurd (let n : None ≡ Some f = sym ok ∙ is in cc)
script_one set schedules bodies keeps right bytes s r t u (inr (ok, d)) (inl (f, is, er, eu)) = absurd (let n : None ≡ Some f = sym ok ∙ is in cc)
script_one set schedules bodies keeps right bytes s r t u (inr (ok, d)) (inr (good, e)) = trace_one set schedules bodies _ keeps right (faultless_fits set bytes ok) s r t u d e

-- ---- commands

node_one : (set : ModeSet) (told : Told) (name : List ℕ) → (told ≡ untold → ⊥) → KeepsRules set → (node : Option ℕ) → OneDue (OfNode (λ v. OfFile told (ImageDue set v)) name node)
node_one set told name n keeps None s r t u (es, et) (er, eu) = same _ _ s r t u es et er eu
node_one set told name n keeps (Some v) s r t u d e =
    file_one (ImageDue set v)
    (plan_one set (OfSchedules set (IsImage set v)) keeps (schedules_one set (IsImage set v) keeps (λ schedules right x y p q a b. same _ _ x y p q a.0 a.1 b.0 b.1))) told n s r t u d e

of_command : (c : Command) (told : List ℕ → Told) (bodies : List BodySeen) → AllTold told → ReadsPlan c → OneDue (OfCommand c told bodies)
of_command (plan name budget) told bodies all reads s r t u d e = absurd reads
of_command (check name other) told bodies all reads s r t u d e =
    file_one (OfSet (λ set. OfFile (told other) (CheckDue set)))
    (set_one (λ set. OfFile (told other) (CheckDue set)) (λ set keeps.
    file_one (CheckDue set) (plan_one set (IsVerdict set) keeps (λ plans right x y p q a b. same _ _ x y p q a.0 a.1 b.0 b.1)) (told other) (all other)))
    (told name) (all name) s r t u d e
of_command (tables name other node) told bodies all reads s r t u d e =
    file_one (OfSet (TablesDue (told other) node)) (set_one (TablesDue (told other) node) (λ set keeps. node_one set (told other) node (all other) keeps (position (bytes_eq node) set.nodes))) (told name) (all name) s r t u d e
of_command (replay name other script) told bodies all reads s r t u d e =
    file_one (OfSet (ReplayDue (told other) (told script) bodies))
    (set_one (ReplayDue (told other) (told script) bodies) (λ set keeps.
    bodies_one set bodies (OfFile (told other) (OfPlan set (OfSchedules set (TraceDue set bodies (told script)))))
    (file_one (OfPlan set (OfSchedules set (TraceDue set bodies (told script))))
    (plan_one set (OfSchedules set (TraceDue set bodies (told script))) keeps
    (schedules_one set (TraceDue set bodies (told script)) keeps (λ schedules right.
    file_one (OfScript set (IsTrace set schedules bodies)) (script_one set schedules bodies keeps right) (told script) (all script))))
    (told other) (all other))))
    (told name) (all name) s r t u d e
of_command (drill seed) told bodies all reads s r t u d e = absurd reads
of_command (guard name ppm) told bodies all reads s r t u d e = absurd reads
of_command none told bodies all reads s r t u d e = same _ _ s r t u d.0 d.1 e.0 e.1

pub one_answer : OneAnswer
one_answer words told bodies all reads = of_command (command words) told bodies all reads
