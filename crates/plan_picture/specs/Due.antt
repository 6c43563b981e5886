-- Which status and which text are due
use Rattle.std.specs.Prelude.{◌≡◌, ℕ, codes, List, [], ◌∷◌, Option}
use Rattle.ttw_io.specs.Outside.{Told, OfFile}
use Rattle.app_graph.specs.declared.mode_set.ModeSet.{ModeSet}
use Rattle.sched_model.specs.declared.schedule.Schedule.{Schedule}
use Rattle.file_answers.specs.Due.{OfSet}
use Rattle.file_answers.specs.PlanFiles.{OfPlan}
use Rattle.file_answers.specs.declared.status.Status.{Status}
use Rattle.file_answers.specs.declared.status.Status.TheVariants.{Done, Usage}
use Rattle.plan_picture.specs.Picture.{picture_text}

-- the line of words that are not two names of files
abbrev pub usage_line : List ℕ
usage_line = codes "usage: ttw-picture FILE PLAN\n"

abbrev pub IsUsage : Status → List ℕ → Type 0
IsUsage status text = (status ≡ Usage) × (text ≡ usage_line)

-- the picture of an accepted plan
abbrev pub IsPicture : ModeSet → List (Option Schedule) → Status → List ℕ → Type 0
IsPicture set plans status text = (status ≡ Done) × (text ≡ picture_text set plans)

-- what is due of the bytes of a plan
abbrev pub PictureDue : ModeSet → List ℕ → Status → List ℕ → Type 0
PictureDue set = OfPlan set (IsPicture set)

-- what is due of the words, where this is told of files
abbrev pub Due : List (List ℕ) → (List ℕ → Told) → Status → List ℕ → Type 0
Due (file ∷ plan ∷ []) told = OfFile (told file) (OfSet (λ set. OfFile (told plan) (PictureDue set)))
Due _ told = IsUsage
