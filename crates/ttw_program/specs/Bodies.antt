-- What is due where a command fires the bodies that the caller hands in
use Rattle.std.specs.Prelude.{◌≡◌, ◌⊎◌, ℕ, codes, List, [], ◌∷◌, ◌++◌, Some, slice_index_or}
use Rattle.app_graph.specs.declared.mode_set.ModeSet.{ModeSet}
use Rattle.task_body.specs.Body.{BodySeen}
use Rattle.world_core.specs.StandsFor.{HaveBodies, body_names}
use Rattle.world_core.specs.TaskBodies.{missing}
use Rattle.file_answers.specs.declared.status.Status.{Status}
use Rattle.file_answers.specs.declared.status.Status.TheVariants.{ModeFile}

-- the name of the body of the task of this number over the file
abbrev pub body_name : ModeSet → ℕ → List ℕ
body_name set task = slice_index_or (body_names set) task []

-- a body that is missing
abbrev pub no_body_line : List ℕ → List ℕ
no_body_line name = codes "modes: no body " ++ (name ++ 10 ∷ [])

-- the line of the first task whose body is missing is due, or what is due where every task has one
abbrev pub OfBodies : ModeSet → List BodySeen → (Status → List ℕ → Type 0) → Status → List ℕ → Type 0
OfBodies set bodies Due status text =
    ((task : ℕ) × (missing bodies set ≡ Some task) × (status ≡ ModeFile) × (text ≡ no_body_line (body_name set task)))
    ⊎ (HaveBodies set bodies × Due status text)
