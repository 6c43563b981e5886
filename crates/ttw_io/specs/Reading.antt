-- How the reading of a whole file ends.
use Rattle.std.specs.Prelude.{ℕ, ⊤, Result, Ok, Err, Vec}
use Rattle.std.specs.declared.alloc.Global.{Global}
use Rattle.ttw_io.specs.declared.reading.ReadEnd.{ReadEnd}
use Rattle.ttw_io.specs.declared.reading.ReadEnd.TheVariants.{Failed, Long, Memory}
use Rattle.ttw_io.specs.Outside.{Told, Rose, IsWhole, IsLonger}

-- what each answer says of the file, the limit, and the count of faults before and now
abbrev pub EndsReading : Told → ℕ → ℕ → ℕ → Result (Vec ℕ Global) ReadEnd → Type 0
EndsReading told most before now (Ok v) = IsWhole told v.items
EndsReading told most before now (Err Failed) = Rose before now
EndsReading told most before now (Err (Long v)) = IsLonger told most v.items
EndsReading told most before now (Err Memory) = ⊤
