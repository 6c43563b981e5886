-- What a mode file says, as the program keeps it
use Rattle.std.specs.Prelude.{◌≡◌, ℕ, List}
use Rattle.ttw_io.specs.Outside.{Told, untold, missing, file}
use Rattle.app_graph.specs.Validation.{KeepsRules}
use Rattle.mode_file.specs.declared.faults.FileFault.{FileFault}
use Rattle.mode_file.specs.Reading.{Reads, Broken}
use Rattle.file_answers.specs.declared.mode_files.ModeFile.{ModeFile}
use Rattle.file_answers.specs.declared.mode_files.ModeFile.TheVariants.{Set, Refused}
use Rattle.file_answers.specs.declared.status.Status.TheVariants as status
use Rattle.file_answers.specs.FaultLines.{file_fault_line}

-- a mode set that keeps the rules, or the answer that refuses the bytes of a mode file
abbrev pub Said : List ℕ → ModeFile → Type 0
Said bytes (Set set) = KeepsRules set × Reads bytes set
Said bytes (Refused answer) = (fault : FileFault) × Broken bytes fault × (answer.status ≡ status.ModeFile) × (answer.text ≡ file_fault_line fault)

-- the same of the bytes of a file, or of some bytes where nothing is told of it
abbrev pub SaysOf : Told → ModeFile → Type 0
SaysOf untold said = (bytes : List ℕ) × Said bytes said
SaysOf missing said = ⊥
SaysOf (file bytes) said = Said bytes said
