-- What is due of the words, and the plans of an accepted document.
use Rattle.std.proofs.Common.{◌≡◌, ℕ, List, [], ◌∷◌, length, arith}
use Rattle.std.proofs.lemmas.List.{length-map}
use Rattle.std.proofs.lemmas.Slice.Zip.{AllZip-long}
use Rattle.ttw_io.specs.Outside.{Told, OfFile}
use Rattle.app_graph.specs.declared.mode_set.ModeSet.{ModeSet}
use Rattle.proof_tree.specs.Accepting.{IsRight, doc_mode, doc_modes}
use Rattle.cert_checker.specs.declared.checking.Accepted.{Accepted as IsPlans}
use Rattle.file_answers.specs.Due.{OfSet}
use Rattle.file_answers.specs.PlanFiles.{PlanSaidOf}
use Rattle.file_answers.specs.declared.plan_files.PlanFile.TheVariants.{Accepted}
use Rattle.file_answers.specs.declared.status.Status.{Status}
use Rattle.file_answers.specs.declared.status.Status.TheVariants.{Done, Usage}
use Rattle.file_answers.proofs.EndingLemmas.{IsAnswered, answered, done, usage, of_file, of_plan, of_set}
use Rattle.file_answers.proofs.PlanFileLemmas.{accepted_right}
use Rattle.plan_picture.specs.Due.{Due, IsPicture, PictureDue}

-- an accepted document has a schedule, or none, for each mode
pub one_each : (told : Told) (set : ModeSet) (accepted : IsPlans) → PlanSaidOf set told (Accepted accepted) → length accepted.modes ≡ length set.modes
one_each told set accepted says =
    omega (arith, AllZip-long IsRight (doc_modes set) accepted.modes (accepted_right told set accepted says), length-map set.modes (doc_mode set))

plan_answered : (set : ModeSet) (told : Told) (s : Status) (t : List ℕ) → OfFile told (PictureDue set) s t → IsAnswered s
plan_answered set = of_file (PictureDue set) (of_plan set (IsPicture set) (λ plans s t d. answered s Done d.0 done))

-- what is due has the status of an answer
pub due_answered : (words : List (List ℕ)) (told : List ℕ → Told) (s : Status) (t : List ℕ) → Due words told s t → IsAnswered s
due_answered [] told s t d = answered s Usage d.0 usage
due_answered (file ∷ []) told s t d = answered s Usage d.0 usage
due_answered (file ∷ plan ∷ []) told s t d =
    of_file (OfSet (λ set. OfFile (told plan) (PictureDue set))) (of_set (λ set. OfFile (told plan) (PictureDue set)) (λ set. plan_answered set (told plan))) (told file) s t d
due_answered (file ∷ plan ∷ more ∷ words) told s t d = answered s Usage d.0 usage
