-- Which status and which text are due of a mode file
use Rattle.std.specs.Prelude.{◌≡◌, ◌⊎◌, ℕ, List}
use Rattle.app_graph.specs.declared.mode_set.ModeSet.{ModeSet}
use Rattle.mode_file.specs.declared.faults.FileFault.{FileFault}
use Rattle.mode_file.specs.Reading.{Reads, Broken}
use Rattle.file_answers.specs.declared.status.Status.{Status}
use Rattle.file_answers.specs.declared.status.Status.TheVariants.{ModeFile}
use Rattle.file_answers.specs.FaultLines.{file_fault_line}

-- what a command makes due of the bytes of a mode file: a refusal, or what it makes due of the set that they say
abbrev pub OfSet : (ModeSet → Status → List ℕ → Type 0) → List ℕ → Status → List ℕ → Type 0
OfSet Due bytes status text =
    ((fault : FileFault) × Broken bytes fault × (status ≡ ModeFile) × (text ≡ file_fault_line fault))
    ⊎ ((set : ModeSet) × Reads bytes set × Due set status text)
