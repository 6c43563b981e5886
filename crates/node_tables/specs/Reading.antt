-- An image read field by field: the first fault in the order of its bytes decides.
use Rattle.std.specs.Prelude.{ℕ, zero, suc, ◌+◌, ◌==◌, ◌&&◌, Bool, nat_lt, nat_le, int_le, ℤ, pos, negsuc, List, [], ◌∷◌, length, take, drop, slice_index, Result, Ok, Err, if◌then◌else◌}
use Rattle.std.specs.Int.{w16, w64, from_be_bytes, cast_signed}
use Rattle.node_tables.specs.declared.tables.NodeTable.{NodeTable}
use Rattle.node_tables.specs.declared.tables.ModeTable.{ModeTable}
use Rattle.node_tables.specs.declared.tables.OwnTask.{OwnTask}
use Rattle.node_tables.specs.declared.tables.OwnMessage.{OwnMessage}
use Rattle.node_tables.specs.declared.tables.OwnRound.{OwnRound}
use Rattle.node_tables.specs.declared.tables.OwnSlot.{OwnSlot}
use Rattle.node_tables.specs.declared.fault.ImageFault.{ImageFault}
use Rattle.node_tables.specs.declared.fault.ImageFault.TheVariants.{Short, Range, Trailing}
use Rattle.node_tables.specs.declared.version.Version.{Version}
use Rattle.node_tables.specs.declared.version.Version.TheVariants.{First, Second}
use Rattle.node_tables.specs.Left.{Left}

-- what a reader gives, and what it leaves
abbrev pub Reads : Type 0 → Type 0
Reads X = Left → Result (X × Left) ImageFault

-- a field of so many bytes, whose value passes the test
abbrev pub field : {X : Type 0} → ℕ → (List ℕ → X) → (X → Bool) → Reads X
field size value fits s =
    if nat_lt (length s.bytes) size then Err Short
    else (if fits (value (take size s.bytes)) then Ok (value (take size s.bytes), record { at = s.at + size; bytes = drop size s.bytes }) else Err (Range s.at))

-- a number of one byte in a range
abbrev pub byte : ℕ → ℕ → Reads ℕ
byte low high = field 1 (λ bytes. slice_index bytes 0) (λ n. nat_le low n && nat_le n high)

-- a number of two bytes in a range, the high byte first
abbrev pub short : ℕ → ℕ → Reads ℕ
short low high = field 2 (from_be_bytes w16) (λ n. nat_le low n && nat_le n high)

-- a signed number of eight bytes in a range, the highest byte first
abbrev pub long : ℤ → ℤ → Reads ℤ
long low high = field 8 (λ bytes. cast_signed w64 (from_be_bytes w64 bytes)) (λ z. int_le low z && int_le z high)

-- nothing is read
abbrev pub give : {X : Type 0} → X → Reads X
give x s = Ok (x, s)

-- what comes next, unless there was a fault
abbrev pub go_on : {X Y : Type 0} → Result (X × Left) ImageFault → (X → Reads Y) → Result (Y × Left) ImageFault
go_on (Ok g) next = next g.0 g.1
go_on (Err e) next = Err e

-- one reader after another
abbrev pub after : {X Y : Type 0} → Reads X → (X → Reads Y) → Reads Y
after first next s = go_on (first s) next

-- so many items
abbrev pub counted : {X : Type 0} → ℕ → Reads X → Reads (List X)
counted zero item = give []
counted (suc n) item = after item (λ x. after (counted n item) (λ xs. give (x ∷ xs)))

-- which copy a slot carries: in version 1 it is the first
abbrev pub copy : Version → Reads ℕ
copy First = give 1
copy Second = byte 1 4

-- the slot of an own message
abbrev pub slot : Version → Reads OwnSlot
slot version =
    after (byte 1 32) (λ number.
    after (short 0 511) (λ message.
    after (long (negsuc 999999999999) (pos 1000000000000)) (λ release.
    after (copy version) (λ copy.
    give (record { slot = number; message = message; release = release; copy = copy })))))

-- a round, with the number of its own slots before them
abbrev pub round : Version → Reads OwnRound
round version =
    after (long (pos 0) (pos 1000000000000)) (λ start.
    after (byte 0 32) (λ count.
    after (counted count (slot version)) (λ slots.
    give (record { start = start; slots = slots }))))

-- the number of a task
abbrev pub task_number : Reads ℕ
task_number = short 0 1023

-- an own message, with the numbers of its producers and consumers before them
abbrev pub message : Reads OwnMessage
message =
    after (short 0 511) (λ number.
    after (byte 1 3) (λ role.
    after (byte 1 4) (λ count.
    after (counted count task_number) (λ producers.
    after (byte 0 16) (λ others.
    after (counted others task_number) (λ consumers.
    give (record { number = number; role = role; producers = producers; consumers = consumers })))))))

-- an own task: its wcet is at most its period
abbrev pub task : Reads OwnTask
task =
    after task_number (λ number.
    after (long (pos 1) (pos 1000000000)) (λ period.
    after (long (pos 0) (pos 2000000000000)) (λ offset.
    after (long (pos 1) period) (λ wcet.
    give (record { number = number; period = period; offset = offset; wcet = wcet })))))

-- a mode, with the numbers of its rounds, tasks and messages before them
abbrev pub mode : Version → Reads ModeTable
mode version =
    after (long (pos 1) (pos 1000000000000)) (λ hyper.
    after (short 1 2048) (λ first_round.
    after (short 1 256) (λ count.
    after (short 0 128) (λ tasks_count.
    after (counted tasks_count task) (λ tasks.
    after (short 0 64) (λ messages_count.
    after (counted messages_count message) (λ messages.
    after (counted count (round version)) (λ rounds.
    give (record { hyper = hyper; first_round = first_round; tasks = tasks; messages = messages; rounds = rounds })))))))))

-- the version with this number
abbrev pub version_of : ℕ → Version
version_of n = if n == 1 then First else Second

-- the version of an image
abbrev pub version : Reads Version
version = after (byte 1 2) (λ n. give (version_of n))

-- a table behind the version
abbrev pub table_in : Version → Reads NodeTable
table_in version =
    after (byte 0 63) (λ node.
    after (byte 1 8) (λ count.
    after (counted count (mode version)) (λ modes.
    give (record { node = node; modes = modes }))))

-- the version, and a table by it
abbrev pub table : Reads NodeTable
table = after version table_in

-- nothing may follow the last field
abbrev pub whole : Result (NodeTable × Left) ImageFault → Result NodeTable ImageFault
whole (Ok g) = if length g.1.bytes == 0 then Ok g.0 else Err Trailing
whole (Err e) = Err e

-- the table of an image, or its first fault
abbrev pub read : List ℕ → Result NodeTable ImageFault
read bytes = whole (table (record { at = 0; bytes = bytes }))
