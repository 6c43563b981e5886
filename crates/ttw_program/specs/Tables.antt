-- What `tables` writes: the image of a node's part of the plans
use Rattle.std.specs.Prelude.{◌≡◌, ℕ, zero, suc, ◌+◌, ◌/◌, List, [], ◌∷◌, ◌++◌, length, take, drop, position, Option, Some, None}
use Rattle.std.specs.Str.{bytes_eq}
use Rattle.hex.specs.Hex.{encode_lower}
use Rattle.ttw_io.specs.Outside.{Told, OfFile}
use Rattle.app_graph.specs.declared.mode_set.ModeSet.{ModeSet}
use Rattle.sched_model.specs.declared.schedule.Schedule.{Schedule}
use Rattle.mode_file.specs.declared.faults.FileFault.TheVariants.{Unknown}
use Rattle.runtime_model.specs.NodeTables.{part_of}
use Rattle.runtime_model.specs.Plans.{plans_of}
use Rattle.node_tables.specs.Image.{image_of}
use Rattle.node_tables.specs.Parts.{typed_table}
use Rattle.file_answers.specs.FaultLines.{file_fault_line}
use Rattle.file_answers.specs.PlanFiles.{OfPlan, OfSchedules}
use Rattle.file_answers.specs.declared.status.Status.{Status}
use Rattle.file_answers.specs.declared.status.Status.TheVariants.{Done, ModeFile}

-- some bytes in hexadecimal, as a line
abbrev pub hex_line : List ℕ → List ℕ
hex_line bytes = encode_lower bytes ++ 10 ∷ []

-- bytes in n lines, of 32 bytes each; the last one has what is left
abbrev pub hex_lines : ℕ → List ℕ → List ℕ
hex_lines zero bytes = []
hex_lines (suc n) bytes = hex_line (take 32 bytes) ++ hex_lines n (drop 32 bytes)

-- bytes in as many lines as they need
abbrev pub hex_text : List ℕ → List ℕ
hex_text bytes = hex_lines ((length bytes + 31) / 32) bytes

-- the image of the part of node v in these schedules
abbrev pub IsImage : ModeSet → ℕ → List Schedule → Status → List ℕ → Type 0
IsImage set v schedules status text = (status ≡ Done) × (text ≡ hex_text (image_of (typed_table (part_of (plans_of set schedules) v))))

-- of the bytes of a plan, for node v
abbrev pub ImageDue : ModeSet → ℕ → List ℕ → Status → List ℕ → Type 0
ImageDue set v = OfPlan set (OfSchedules set (IsImage set v))

-- of a name of no node, or of the node at a place
abbrev pub OfNode : (ℕ → Status → List ℕ → Type 0) → List ℕ → Option ℕ → Status → List ℕ → Type 0
OfNode Due name None status text = (status ≡ ModeFile) × (text ≡ file_fault_line (Unknown name))
OfNode Due name (Some v) status text = Due v status text

-- of the plan of which this is told, for the node of this name
abbrev pub TablesDue : Told → List ℕ → ModeSet → Status → List ℕ → Type 0
TablesDue told name set = OfNode (λ v. OfFile told (ImageDue set v)) name (position (bytes_eq name) set.nodes)
