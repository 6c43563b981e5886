-- The image of a node's table, version 2, and the older version 1, which does not say which copy a slot carries.
use Rattle.std.specs.Prelude.{◌≡◌, ℕ, pos, negsuc, List, [], ◌∷◌, ◌++◌, length}
use Rattle.std.specs.List.{flat_map}
use Rattle.node_tables.specs.declared.tables.NodeTable.{NodeTable}
use Rattle.node_tables.specs.declared.tables.ModeTable.{ModeTable}
use Rattle.node_tables.specs.declared.tables.OwnTask.{OwnTask}
use Rattle.node_tables.specs.declared.tables.OwnMessage.{OwnMessage}
use Rattle.node_tables.specs.declared.tables.OwnRound.{OwnRound}
use Rattle.node_tables.specs.declared.tables.OwnSlot.{OwnSlot}
use Rattle.node_tables.specs.declared.version.Version.{Version}
use Rattle.node_tables.specs.declared.version.Version.TheVariants.{First, Second}
use Rattle.node_tables.specs.Fields.{Field, Byte, Short, Long, Known, bytes, AreInRange}

-- the number of a version
abbrev pub number_of : Version → ℕ
number_of First = 1
number_of Second = 2

-- which copy a slot carries: in version 1 it is the first
abbrev pub copy_field : Version → ℕ → Field
copy_field First copy = Known 1 copy
copy_field Second copy = Byte 1 4 copy

-- the slot of an own message
abbrev pub slot_fields : Version → OwnSlot → List Field
slot_fields version s =
    Byte 1 32 s.slot
    ∷ Short 0 511 s.message
    ∷ Long (negsuc 999999999999) (pos 1000000000000) s.release
    ∷ copy_field version s.copy
    ∷ []

-- a round, with the number of its own slots before them
abbrev pub round_fields : Version → OwnRound → List Field
round_fields version r =
    Long (pos 0) (pos 1000000000000) r.start
    ∷ Byte 0 32 (length r.slots)
    ∷ flat_map (slot_fields version) r.slots

-- the number of a task
abbrev pub task_field : ℕ → List Field
task_field n = Short 0 1023 n ∷ []

-- an own message, with the numbers of its producers and consumers before them
abbrev pub message_fields : OwnMessage → List Field
message_fields m =
    Short 0 511 m.number
    ∷ Byte 1 3 m.role
    ∷ Byte 1 4 (length m.producers)
    ∷ (flat_map task_field m.producers
    ++ Byte 0 16 (length m.consumers)
    ∷ flat_map task_field m.consumers)

-- an own task: its wcet is at most its period
abbrev pub task_fields : OwnTask → List Field
task_fields t =
    Short 0 1023 t.number
    ∷ Long (pos 1) (pos 1000000000) t.period
    ∷ Long (pos 0) (pos 2000000000000) t.offset
    ∷ Long (pos 1) t.period t.wcet
    ∷ []

-- a mode, with the numbers of its rounds, tasks and messages before them
abbrev pub mode_fields : Version → ModeTable → List Field
mode_fields version m =
    Long (pos 1) (pos 1000000000000) m.hyper
    ∷ Short 1 2048 m.first_round
    ∷ Short 1 256 (length m.rounds)
    ∷ Short 0 128 (length m.tasks)
    ∷ (flat_map task_fields m.tasks
    ++ Short 0 64 (length m.messages)
    ∷ (flat_map message_fields m.messages
    ++ flat_map (round_fields version) m.rounds))

-- a table, behind the version of its image
abbrev pub table_fields : Version → NodeTable → List Field
table_fields version t =
    Byte (number_of version) (number_of version) (number_of version)
    ∷ Byte 0 63 t.node
    ∷ Byte 1 8 (length t.modes)
    ∷ flat_map (mode_fields version) t.modes

-- the bytes of the fields
abbrev pub image_of : NodeTable → List ℕ
image_of t = bytes (table_fields Second t)

-- every field and every count of the table is in its range
abbrev pub IsInRange : NodeTable → Type 0
IsInRange t = AreInRange (table_fields Second t)

-- the bytes are the fields of the table in this version, each in its range
pub record ImageIn (version : Version) (t : NodeTable) (image : List ℕ) : Type 0 where
  pub ranges : AreInRange (table_fields version t)
  pub fields : image ≡ bytes (table_fields version t)

-- the bytes are the image of the table
abbrev pub Image : NodeTable → List ℕ → Type 0
Image t image = ImageIn Second t image

-- they are its image in version 1: so each of its slots carries a first copy
abbrev pub OldImage : NodeTable → List ℕ → Type 0
OldImage t image = ImageIn First t image
