-- What is due of a plan, from what was read of it
use Rattle.std.proofs.Common.{◌≡◌, ℕ, ◌+◌, List, [], ◌∷◌, ◌++◌, length, map, refl, sym, ◌∙◌, ap, subst, arith, inl, inr, append_assoc, append-nil}
use Rattle.std.specs.Prelude.{◌≢◌, Result, Ok, Err, IfOk, IfSome, Option, Some, None}
use Rattle.std.specs.List.{AllZip}
use Rattle.std.proofs.lemmas.List.{map-append}
use Rattle.ttw_io.specs.Outside.{Told, untold, missing, file, OfFile}
use Rattle.app_graph.specs.declared.mode_set.ModeSet.{ModeSet}
use Rattle.sched_model.specs.declared.schedule.Schedule.{Schedule}
use Rattle.proof_tree.specs.Accepting.{Accepts, IsRight, doc_modes}
use Rattle.proof_tree.specs.Fewest.{IsBest}
use Rattle.proof_tree.specs.Reading.{Refusal}
use Rattle.proof_tree.specs.Refusing.{Refuses}
use Rattle.cert_checker.specs.declared.checking.Accepted.{Accepted as IsPlans}
use Rattle.cert_checker.specs.declared.refused.Refused.{Refused as Refusing}
use Rattle.cert_checker.specs.declared.refused.Refused.TheVariants as refusing
use Rattle.cert_checker.specs.FileChecking.{OfBytes}
use Rattle.cert_checker.specs.Refusals.{said}
use Rattle.file_answers.specs.declared.answers.Answer.{Answer}
use Rattle.file_answers.specs.declared.answers.End.{End}
use Rattle.file_answers.specs.declared.mode_files.ModeFile.TheVariants.{Set}
use Rattle.file_answers.specs.declared.status.Status.{Status}
use Rattle.file_answers.specs.declared.status.Status.TheVariants.{Plan}
use Rattle.file_answers.specs.PlanFiles.{LacksFirst, OfPlan, PlanSaid, PlanSaidOf, refusal_line}
use Rattle.file_answers.specs.declared.plan_files.PlanFile.{PlanFile}
use Rattle.file_answers.specs.declared.plan_files.PlanFile.TheVariants.{Accepted, Refused}
use Rattle.file_answers.specs.ModeFiles.{SaysOf}
use Rattle.file_answers.specs.Due.{OfSet}
use Rattle.file_answers.proofs.ModeFileLemmas.{of_said}

-- one text after another
pub two_texts : (out once twice words name same : List ℕ) → once ≡ out ++ words → twice ≡ once ++ name → name ≡ same → twice ≡ out ++ (words ++ same)
two_texts out once twice words name same e1 e2 e = e2 ∙ ap (λ (t : List ℕ). t ++ name) e1 ∙ append_assoc out words name ∙ ap (λ (t : List ℕ). out ++ (words ++ t)) e

-- only want of memory says no refusal
only_memory : (e : Refusing) → said e ≡ None → e ≡ refusing.Memory
only_memory (refusing.Grammar line) is = cc
only_memory (refusing.Names line) is = cc
only_memory (refusing.Schedule mode clause) is = cc
only_memory (refusing.BadLeaf line) is = cc
only_memory (refusing.Extra line) is = cc
only_memory (refusing.MissingCount mode rounds) is = cc
only_memory (refusing.Unfinished mode) is = cc
only_memory refusing.Memory is = refl

-- what is said of the bytes that the file has, or may have
of_bytes : (told : Told) (set : ModeSet) (said : PlanFile) → OfBytes told (λ bytes. PlanSaid set bytes said) → PlanSaidOf set told said
of_bytes untold set said (bytes, w, d) = (bytes, d)
of_bytes missing set said (bytes, w, d) = absurd w
of_bytes (file all) set said (bytes, w, d) = subst (λ (b : List ℕ). PlanSaid set b said) (sym w) d

-- an accepted plan
pub accepted_plan : (told : Told) (set : ModeSet) (accepted : IsPlans) → OfBytes told (λ bytes. Accepts set bytes accepted.modes) → AllZip IsBest (doc_modes set) accepted.modes → PlanSaidOf set told (Accepted accepted)
accepted_plan told set accepted (bytes, w, a) best = of_bytes told set (Accepted accepted) (bytes, w, (a, best))

-- a refusal that is said is one
pub refused_plan : (told : Told) (set : ModeSet) (e : Refusing) (answer : Answer) → e ≢ refusing.Memory → IfSome (said e) (λ f. OfBytes told (λ bytes. Refuses set bytes f)) → answer.status ≡ Plan → answer.text ≡ refusal_line set (said e) → PlanSaidOf set told (Refused answer)
refused_plan told set e answer other refuses es et = by_said (said e) refl refuses et
  where
    by_said : (o : Option Refusal) → said e ≡ o → IfSome o (λ f. OfBytes told (λ bytes. Refuses set bytes f)) → answer.text ≡ refusal_line set o → PlanSaidOf set told (Refused answer)
    by_said None is refuses et = absurd (other (only_memory e is))
    by_said (Some f) is (bytes, w, r) et = of_bytes told set (Refused answer) (bytes, w, (f, r, es, et))

-- what is due of the schedules of the plan of a file
pub of_accepted : (told : Told) (set : ModeSet) (D : List (Option Schedule) → Status → List ℕ → Type 0) (accepted : IsPlans) (s : Status) (t : List ℕ) → PlanSaidOf set told (Accepted accepted) → D accepted.modes s t → OfFile told (OfPlan set D) s t
of_accepted untold set D accepted s t (bytes, says) d = (bytes, inr (accepted.modes, says, d))
of_accepted missing set D accepted s t says d = absurd says
of_accepted (file bytes) set D accepted s t says d = inr (accepted.modes, says, d)

-- the answer that refuses it
pub of_refused_plan : (told : Told) (set : ModeSet) (D : List (Option Schedule) → Status → List ℕ → Type 0) (answer : Answer) → PlanSaidOf set told (Refused answer) → OfFile told (OfPlan set D) answer.status answer.text
of_refused_plan untold set D answer (bytes, says) = (bytes, inl says)
of_refused_plan missing set D answer says = absurd says
of_refused_plan (file bytes) set D answer says = inl says

-- the schedules of an accepted plan are right
pub accepted_right : (told : Told) (set : ModeSet) (accepted : IsPlans) → PlanSaidOf set told (Accepted accepted) → AllZip IsRight (doc_modes set) accepted.modes
accepted_right untold set accepted (bytes, says) = says.0.right
accepted_right missing set accepted says = absurd says
accepted_right (file bytes) set accepted says = says.0.right

-- what is due of the set that a file says, where the answer is one
pub answer_said : (told : Told) (set : ModeSet) (D : ModeSet → Status → List ℕ → Type 0) (answer : Result Answer End) → SaysOf told (Set set) → IfOk answer (λ a. D set a.status a.text) → IfOk answer (λ a. OfFile told (OfSet D) a.status a.text)
answer_said told set D (Ok a) says d = of_said told set D a.status a.text says d
answer_said told set D (Err e) says d = tt

-- ---- a schedule for every mode

-- one schedule more
pub next_schedule : (plans rest left : List (Option Schedule)) (old new : List Schedule) (s : Schedule) → map Some old ++ left ≡ plans → left ≡ Some s ∷ rest → new ≡ old ++ s ∷ [] → map Some new ++ rest ≡ plans
next_schedule plans rest left old new s whole first add =
    ap (λ (xs : List Schedule). map Some xs ++ rest) add
    ∙ ap (λ (ys : List (Option Schedule)). ys ++ rest) (map-append Some old (s ∷ []))
    ∙ append_assoc (map Some old) (Some s ∷ []) rest
    ∙ ap (λ (ys : List (Option Schedule)). map Some old ++ ys) (sym first)
    ∙ whole

-- a mode without one
pub lacks_one : (plans rest left : List (Option Schedule)) (old : List Schedule) (n : ℕ) → map Some old ++ left ≡ plans → left ≡ None ∷ rest → length old ≡ n → LacksFirst plans n
lacks_one plans rest left old n whole first count = (old, rest, sym whole ∙ ap (λ (ys : List (Option Schedule)). map Some old ++ ys) first, count)

-- all of them
pub all_schedules : (plans left : List (Option Schedule)) (old : List Schedule) → map Some old ++ left ≡ plans → length left ≡ 0 → plans ≡ map Some old
all_schedules plans [] old whole none = sym whole ∙ append-nil (map Some old)
all_schedules plans (p ∷ left) old whole none = absurd (omega (arith, none))
