-- How a run ends, from what writing its text ended with
use Rattle.std.proofs.Common.{◌≡◌, ℕ, List, Option, refl, sym, subst, inl, inr}
use Rattle.std.specs.Io.KnownBytes.{append_known}
use Rattle.ttw_io.specs.Outside.{Rose, Told, untold, missing, file, OfFile}
use Rattle.file_answers.specs.declared.status.Status.{Status}
use Rattle.file_answers.specs.declared.status.Status.TheVariants.{Done, NoSchedule, Usage, ModeFile, Plan, Script, Budget, ReadFault}
use Rattle.file_answers.specs.FaultLines.{read_fault_line}
use Rattle.file_answers.specs.Endings.{Counts, FlushedOnce, Ends, Finishes}
use Rattle.file_answers.specs.PlanFiles.{OfPlan, OfSchedules}
use Rattle.file_answers.specs.Due.{OfSet}
use Rattle.app_graph.specs.declared.mode_set.ModeSet.{ModeSet}
use Rattle.sched_model.specs.declared.schedule.Schedule.{Schedule}

-- a status that an answer has
pub data IsAnswered : Status → Type 0 where
  done : IsAnswered Done
  no_schedule : IsAnswered NoSchedule
  usage : IsAnswered Usage
  mode_file : IsAnswered ModeFile
  refused_plan : IsAnswered Plan
  script : IsAnswered Script
  budget : IsAnswered Budget

pub answered : (a b : Status) → a ≡ b → IsAnswered b → IsAnswered a
answered a b e k = subst IsAnswered (sym e) k

pub of_set : (D : ModeSet → Status → List ℕ → Type 0) → ((set : ModeSet) (s : Status) (t : List ℕ) → D set s t → IsAnswered s) → (bytes : List ℕ) (s : Status) (t : List ℕ) → OfSet D bytes s t → IsAnswered s
of_set D k bytes s t (inl (fault, broken, es, et)) = answered s ModeFile es mode_file
of_set D k bytes s t (inr (set, reads, d)) = k set s t d

pub of_file : (D : List ℕ → Status → List ℕ → Type 0) → ((bytes : List ℕ) (s : Status) (t : List ℕ) → D bytes s t → IsAnswered s) → (told : Told) (s : Status) (t : List ℕ) → OfFile told D s t → IsAnswered s
of_file D k untold s t (bytes, d) = k bytes s t d
of_file D k missing s t d = absurd d
of_file D k (file bytes) s t d = k bytes s t d

pub of_plan : (set : ModeSet) (D : List (Option Schedule) → Status → List ℕ → Type 0) → ((plans : List (Option Schedule)) (s : Status) (t : List ℕ) → D plans s t → IsAnswered s) → (bytes : List ℕ) (s : Status) (t : List ℕ) → OfPlan set D bytes s t → IsAnswered s
of_plan set D k bytes s t (inl (refusal, refuses, es, et)) = answered s Plan es refused_plan
of_plan set D k bytes s t (inr (plans, accepted, d)) = k plans s t d

pub of_schedules : (set : ModeSet) (D : List Schedule → Status → List ℕ → Type 0) → ((schedules : List Schedule) (s : Status) (t : List ℕ) → D schedules s t → IsAnswered s) → (plans : List (Option Schedule)) (s : Status) (t : List ℕ) → OfSchedules set D plans s t → IsAnswered s
of_schedules set D k plans s t (inl (mode, lacks, es, et)) = answered s Plan es refused_plan
of_schedules set D k plans s t (inr (schedules, is, d)) = k schedules s t d

adds : (Due : Status → List ℕ → Type 0) (counts : Counts) (old new : Option (List ℕ)) (s : Status) (t : List ℕ) → IsAnswered s → Due s t → FlushedOnce counts.sink → new ≡ append_known old t → Ends Due counts old new s
adds Due counts old new s t done d f e = (f, (t, d, e))
adds Due counts old new s t no_schedule d f e = (f, (t, d, e))
adds Due counts old new s t usage d f e = (f, (t, d, e))
adds Due counts old new s t mode_file d f e = (f, (t, d, e))
adds Due counts old new s t refused_plan d f e = (f, (t, d, e))
adds Due counts old new s t script d f e = (f, (t, d, e))
adds Due counts old new s t budget d f e = (f, (t, d, e))

-- an answer that is due was written, or a prefix of it
pub ends_answer : (Due : Status → List ℕ → Type 0) (counts : Counts) (old new : Option (List ℕ)) (s result : Status) (t : List ℕ) → IsAnswered s → Due s t →
    Finishes s t counts.sink old new result → Ends Due counts old new result
ends_answer Due counts old new s result t k d (inl (er, f, en)) = subst (Ends Due counts old new) (sym er) (adds Due counts old new s t k d f en)
ends_answer Due counts old new s result t k d (inr (er, rose, inl (kept, front))) = subst (Ends Due counts old new) (sym er) (rose, inl (kept, inr (s, t, inl d, front)))
ends_answer Due counts old new s result t k d (inr (er, rose, inr (f, en))) = subst (Ends Due counts old new) (sym er) (rose, inr (f, (s, (t, inl d, en))))

-- the line of a read fault was written, or a prefix of it
pub ends_read : (Due : Status → List ℕ → Type 0) (counts : Counts) (old new : Option (List ℕ)) (result : Status) → Rose counts.reads_before counts.reads_now →
    Finishes ReadFault read_fault_line counts.sink old new result → Ends Due counts old new result
ends_read Due counts old new result rose (inl (er, f, en)) = subst (Ends Due counts old new) (sym er) (f, (read_fault_line, (rose, refl, refl), en))
ends_read Due counts old new result rose (inr (er, wrote, inl (kept, front))) = subst (Ends Due counts old new) (sym er) (wrote, inl (kept, inr (ReadFault, read_fault_line, inr (rose, refl, refl), front)))
ends_read Due counts old new result rose (inr (er, wrote, inr (f, en))) = subst (Ends Due counts old new) (sym er) (wrote, inr (f, (ReadFault, (read_fault_line, inr (rose, refl, refl), en))))
