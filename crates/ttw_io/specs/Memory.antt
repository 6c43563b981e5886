-- What files and sinks in memory are.
use Rattle.std.specs.Prelude.{ℕ, Bool, ◌-◌, List, [], ◌∷◌, length, map, min, if◌then◌else◌, String, Vec, string_bytes}
use Rattle.std.specs.Str.{bytes_eq}
use Rattle.std.specs.declared.alloc.Global.{Global}
use Rattle.ttw_io.specs.Outside.{Told, file}

-- names and bytes as lists
abbrev pub named : List (String Global × Vec ℕ Global) → List (List ℕ × List ℕ)
named files = map (λ f. (string_bytes f.0, (f.1).items)) files

-- the first file of a name, or else what is told where there is none
abbrev pub look_up : Told → List (List ℕ × List ℕ) → List ℕ → Told
look_up none [] name = none
look_up none (f ∷ fs) name = if bytes_eq f.0 name then file f.1 else look_up none fs name

-- names and bytes, the numbers of the calls that fail, how many calls were made, and how many faults were counted
pub record FilesInMemory : Type 0 where
  pub files : List (List ℕ × List ℕ)
  pub fail : List ℕ
  pub made : ℕ
  pub faults : ℕ

-- the bytes held, how many there is room for, how many a call takes, the counts of calls as for files, how often it was
-- flushed, and whether it was written to after the last flush
pub record SinkInMemory : Type 0 where
  pub bytes : List ℕ
  pub room : ℕ
  pub piece : ℕ
  pub fail : List ℕ
  pub made : ℕ
  pub faults : ℕ
  pub flushes : ℕ
  pub unflushed : Bool

-- how many bytes a sink has room for beside those that it holds
abbrev pub room_left : SinkInMemory → ℕ
room_left sink = sink.room - length sink.bytes

-- how many of so many bytes a sink takes in one call
abbrev pub taken : SinkInMemory → ℕ → ℕ
taken sink n = min (min n sink.piece) (room_left sink)
