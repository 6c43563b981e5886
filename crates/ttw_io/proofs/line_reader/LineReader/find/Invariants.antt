use Rattle.std.proofs.Common.{◌≡◌, ◌≤◌}
use Rattle.ttw_io.specs.LineReading.{ReadsOn, left_to_read}
use Rattle.ttw_io.proofs.line_reader.LineReader.find.Given as goal

abbrev pub invariant-loop-self : goal.invariant-loop-self
invariant-loop-self g l = record {
  on : ReadsOn (g.F.Files.contents l.initial.files l.name) l.initial.self l.self;
  kept : g.F.Files.contents l.files ≡ g.F.Files.contents l.initial.files;
  counted : g.F.Files.faults l.initial.files ≤ g.F.Files.faults l.files;
}

abbrev pub decreases-loop-self : goal.decreases-loop-self
decreases-loop-self g l = left_to_read l.self
