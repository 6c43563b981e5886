use Rattle.std.proofs.Common.{◌≡◌, drop}
use Rattle.ttw_io.specs.Outside.{Told}
use Rattle.ttw_io.specs.Memory.{look_up, named}
use Rattle.ttw_io.proofs.memory.find.Given as goal

-- the files that were passed do not have the name
abbrev pub invariant-loop-f : goal.invariant-loop-f
invariant-loop-f l = (none : Told) → look_up none (named (drop l.f-index l.files)) l.name ≡ look_up none (named l.files) l.name
