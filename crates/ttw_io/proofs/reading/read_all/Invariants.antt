use Rattle.std.proofs.Common.{◌≡◌, ℕ, ◌≤◌, ◌+◌, ◌-◌, List, length}
use Rattle.ttw_io.specs.Outside.{Told}
use Rattle.ttw_io.proofs.ReadingLemmas.{Begins}
use Rattle.ttw_io.proofs.reading.read_all.Given as goal

-- the bytes so far are the file's first, at most one more than the limit
pub record Reading (old new : List ℕ → Told) (name : List ℕ) (before now most : ℕ) (bytes : List ℕ) : Type 0 where
  pub room : length bytes ≤ most + 1
  pub front : Begins (old name) bytes
  pub kept : new ≡ old
  pub counted : before ≤ now

abbrev pub invariant-loop-piece : goal.invariant-loop-piece
invariant-loop-piece g l = Reading (g.F.Files.contents l.initial.files) (g.F.Files.contents l.files) l.name (g.F.Files.faults l.initial.files) (g.F.Files.faults l.files) l.most l.bytes.items

abbrev pub decreases-loop-piece : goal.decreases-loop-piece
decreases-loop-piece g l = l.most + 1 - length l.bytes.items
