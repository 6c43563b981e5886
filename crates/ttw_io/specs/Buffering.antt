-- What a buffer before a sink holds back, and what it hands on.
use Rattle.std.specs.Prelude.{◌≡◌, ℕ, ◌+◌, ◌≤◌, List, [], ◌++◌, length, nat_le, Option, Result, OnOk, OnErr, if◌then◌else◌}
use Rattle.std.specs.Io.KnownBytes.{append_known}
use Rattle.ttw_io.specs.Outside.{AddsFront, Rose}

-- the bytes that are held back, and how many there is room for
pub record HeldBack : Type 0 where
  pub bytes : List ℕ
  pub room : ℕ

-- of all these bytes the first were added to the bytes held, and the rest is still held back
abbrev pub Passes : (old new : Option (List ℕ)) → (all rest : List ℕ) → Type 0
Passes old new all rest = (front : List ℕ) × (all ≡ front ++ rest) × (new ≡ append_known old front)

-- the text passed behind what was held back; where there was room for both, both are held back, so that nothing was added
pub record Puts (old new : Option (List ℕ)) (before after : HeldBack) (text : List ℕ) : Type 0 where
  pub passed : Passes old new (before.bytes ++ text) after.bytes
  pub held : length before.bytes + length text ≤ before.room → after.bytes ≡ before.bytes ++ text

-- the text was put, or after a failure a prefix of what was held back and of the text was added; the room stays
pub record HasPut {A E : Type 0} (result : Result A E) (old new : Option (List ℕ)) (before after : HeldBack) (text : List ℕ) : Type 0 where
  pub ok : OnOk result (Puts old new before after text)
  pub err : OnErr result (AddsFront old new (before.bytes ++ text))
  pub room : after.room ≡ before.room

-- the call failed only where the count of faults rose, which never falls, and flushed nothing
pub record OnlyWrites {A E : Type 0} (result : Result A E) (faults now flushes flushed : ℕ) : Type 0 where
  pub failed : OnErr result (Rose faults now)
  pub counted : faults ≤ now
  pub same_flushes : flushed ≡ flushes

-- ---- a single text

-- what is written as a text is put: nothing where it fits beside what is held back; else what is held back, and a text that is longer than the room
abbrev pub written : HeldBack → List ℕ → List ℕ
written b text =
    if nat_le (length b.bytes + length text) b.room then []
    else (if nat_le (length text) b.room then b.bytes else b.bytes ++ text)

-- what is held back then
abbrev pub left : HeldBack → List ℕ → List ℕ
left b text =
    if nat_le (length b.bytes + length text) b.room then b.bytes ++ text
    else (if nat_le (length text) b.room then text else [])

-- exactly that was written, and after a failure a prefix of it
pub record WritesAtNeed {A E : Type 0} (result : Result A E) (old new : Option (List ℕ)) (before after : HeldBack) (text : List ℕ) : Type 0 where
  pub added : OnOk result (new ≡ append_known old (written before text))
  pub kept : OnOk result (after.bytes ≡ left before text)
  pub front : OnErr result (AddsFront old new (written before text))
