use Rattle.std.proofs.Common.{◌≡◌, ◌≤◌, ◌-◌}
use Rattle.std.specs.Prelude.{None}
use Rattle.ttw_io.specs.LineReading.{IsOf}
use Rattle.proof_tree.specs.Accepting.{limit, longest}
use Rattle.cert_checker.specs.Machine.{IsReady}
use Rattle.cert_checker.proofs.FileLines.{Follows}
use Rattle.cert_checker.proofs.files.check_from.Given as goal

abbrev pub invariant-loop-checker : goal.invariant-loop-checker
invariant-loop-checker g l = record {
  ready : IsReady l.set l.checker;
  of_file : IsOf (g.F.Files.contents l.initial.files l.name) l.reader;
  place : l.reader.handed ≡ l.checker.place;
  most : l.reader.most ≡ longest;
  refusal : l.reader.refusal ≡ None;
  goes : Follows (g.F.Files.contents l.initial.files l.name) l.set l.checker l.reader;
  kept : g.F.Files.contents l.files ≡ g.F.Files.contents l.initial.files;
  counted : g.F.Files.faults l.initial.files ≤ g.F.Files.faults l.files;
}

abbrev pub decreases-loop-checker : goal.decreases-loop-checker
decreases-loop-checker g l = limit - l.checker.place
