-- The lines that tell why a command is refused
use Rattle.std.specs.Prelude.{◌≡◌, ℕ, codes, List, [], ◌∷◌, ◌++◌}
use Rattle.file_answers.specs.declared.status.Status.{Status}
use Rattle.file_answers.specs.declared.status.Status.TheVariants.{ModeFile}
use Rattle.app_graph.specs.Words.{word}
use Rattle.mode_file.specs.declared.faults.FileFault.{FileFault}
use Rattle.mode_file.specs.declared.faults.FileFault.TheVariants.{TooLong, NotToml, Missing, WrongKind, UnknownKey, OutOfRange, Repeated, Unknown, TwoSenders, Cycle, DeadlineLong, TooMany, Memory}

-- a file that was not read
abbrev pub read_fault_line : List ℕ
read_fault_line = codes "read fault\n"

-- what is said of a refused mode file
abbrev pub said : FileFault → List ℕ
said TooLong = codes "too long"
said NotToml = codes "not TOML"
said (Missing key) = codes "missing " ++ word key
said (WrongKind key) = codes "wrong kind " ++ word key
said (UnknownKey text) = codes "unknown key " ++ text
said (OutOfRange key) = codes "out of range " ++ word key
said (Repeated name) = codes "repeated " ++ name
said (Unknown name) = codes "unknown " ++ name
said (TwoSenders name) = codes "two senders " ++ name
said (Cycle name) = codes "cycle " ++ name
said (DeadlineLong name) = codes "deadline " ++ name
said (TooMany key) = codes "too many " ++ word key
said Memory = []

-- a refused mode file
abbrev pub file_fault_line : FileFault → List ℕ
file_fault_line fault = codes "modes: " ++ said fault ++ 10 ∷ []

-- a mode file is refused with its fault, which is not want of memory
abbrev pub Refuses : FileFault → Status → List ℕ → Type 0
Refuses fault status text = (fault ≡ Memory → ⊥) × (status ≡ ModeFile) × (text ≡ file_fault_line fault)
