-- Where the files are told, one answer is due of the words
use Rattle.std.specs.Prelude.{◌≡◌, ℕ, List}
use Rattle.ttw_io.specs.Outside.{Told, untold}
use Rattle.task_body.specs.Body.{BodySeen}
use Rattle.ttw_program.specs.Commands.{Command, plan, check, tables, replay, drill, guard, none, command}
use Rattle.ttw_program.specs.Due.{Due}
use Rattle.file_answers.specs.declared.status.Status.{Status}

-- two statuses and texts that are due are the same
abbrev pub OneDue : (Status → List ℕ → Type 0) → Type 0
OneDue Due = (s r : Status) (t u : List ℕ) → Due s t → Due r u → (s ≡ r) × (t ≡ u)

-- of each file it is told what it has, or that it is missing
abbrev pub AllTold : (List ℕ → Told) → Type 0
AllTold told = (name : List ℕ) → told name ≡ untold → ⊥

-- the commands that read a plan, and words that are no command
abbrev pub ReadsPlan : Command → Type 0
ReadsPlan (plan file budget) = ⊥
ReadsPlan (check file other) = Unit {0}
ReadsPlan (tables file other node) = Unit {0}
ReadsPlan (replay file other script) = Unit {0}
ReadsPlan (drill seed) = ⊥
ReadsPlan (guard file ppm) = ⊥
ReadsPlan none = Unit {0}

-- one answer is due of them: the verdict, the image, the trace, or the line of the first cause of refusal
abbrev pub OneAnswer : Type 0
OneAnswer = (words : List (List ℕ)) (told : List ℕ → Told) (bodies : List BodySeen) → AllTold told → ReadsPlan (command words) → OneDue (Due words told bodies)
