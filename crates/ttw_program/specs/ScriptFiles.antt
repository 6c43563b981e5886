-- What a script says, as the program keeps it, and what is due of it
use Rattle.std.specs.Prelude.{◌≡◌, ◌⊎◌, ℕ, codes, List, [], ◌∷◌, ◌++◌, Some, None}
use Rattle.ttw_io.specs.Outside.{Told, untold, missing, file}
use Rattle.ttw_text.specs.Lines.{lines}
use Rattle.ttw_text.specs.Numbers.{spelled}
use Rattle.app_graph.specs.declared.mode_set.ModeSet.{ModeSet}
use Rattle.replay_script.specs.declared.fault.ScriptFault.{ScriptFault}
use Rattle.replay_script.specs.declared.fault.ScriptFault.TheVariants.{BadLine, Unknown, HostNamed, TooMany, Memory}
use Rattle.replay_script.specs.declared.line.Line.{Line}
use Rattle.replay_script.specs.Fitting.{FitsScript}
use Rattle.replay_script.specs.Script.{first_fault, given_by}
use Rattle.ttw_program.specs.declared.script_files.ScriptFile.{ScriptFile}
use Rattle.ttw_program.specs.declared.script_files.ScriptFile.TheVariants.{Lines, Refused}
use Rattle.file_answers.specs.declared.status.Status.{Status}
use Rattle.file_answers.specs.declared.status.Status.TheVariants.{Script}

-- what is said of a refused script
abbrev pub fault_said : ScriptFault → List ℕ
fault_said (BadLine number) = codes "bad line " ++ spelled number
fault_said (Unknown number) = codes "unknown line " ++ spelled number
fault_said (HostNamed number) = codes "host line " ++ spelled number
fault_said (TooMany number) = codes "too many line " ++ spelled number
fault_said Memory = []

-- a refused script
abbrev pub script_line : ScriptFault → List ℕ
script_line fault = codes "script: " ++ (fault_said fault ++ 10 ∷ [])

-- the answer to a script with a faulty line: the fault of the first one
abbrev pub IsFaulty : ModeSet → List ℕ → Status → List ℕ → Type 0
IsFaulty set bytes status text = (fault : ScriptFault) × (first_fault set bytes ≡ Some fault) × (status ≡ Script) × (text ≡ script_line fault)

-- its refusal is due, or what is due of the lines that it gives
abbrev pub OfScript : ModeSet → (List Line → Status → List ℕ → Type 0) → List ℕ → Status → List ℕ → Type 0
OfScript set Due bytes status text = IsFaulty set bytes status text ⊎ ((first_fault set bytes ≡ None) × Due (given_by set (lines bytes)) status text)

-- what the program keeps of a script
abbrev pub ScriptSaid : ModeSet → List ℕ → ScriptFile → Type 0
ScriptSaid set bytes (Lines script) = FitsScript set script × (first_fault set bytes ≡ None) × (script ≡ given_by set (lines bytes))
ScriptSaid set bytes (Refused answer) = IsFaulty set bytes answer.status answer.text

-- the same of the bytes of a file, or of some bytes where nothing is told of it
abbrev pub ScriptSaidOf : ModeSet → Told → ScriptFile → Type 0
ScriptSaidOf set untold said = (bytes : List ℕ) × ScriptSaid set bytes said
ScriptSaidOf set missing said = ⊥
ScriptSaidOf set (file bytes) said = ScriptSaid set bytes said

-- a fault that is not want of memory is told in the answer
abbrev pub TellsFault : ScriptFault → Status → List ℕ → Type 0
TellsFault fault status text = (fault ≡ Memory → ⊥) × (status ≡ Script) × (text ≡ script_line fault)
