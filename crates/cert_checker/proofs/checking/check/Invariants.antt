use Rattle.std.proofs.Common.{◌≡◌, ◌-◌, ◌≤◌, length, drop}
use Rattle.ttw_text.specs.Lines.{lines}
use Rattle.proof_tree.specs.Accepting.{doc_modes, items_of}
use Rattle.proof_tree.specs.Reading.{read_document}
use Rattle.cert_checker.specs.Machine.{IsReady, leads}
use Rattle.cert_checker.proofs.checking.check.Given as goal

abbrev pub invariant-loop-bytes : goal.invariant-loop-bytes
invariant-loop-bytes l = record {
  within : l.from ≤ length l.text;
  ready : IsReady l.set l.checker;
  goes : read_document (doc_modes l.set) (items_of l.text) ≡ leads l.set l.checker (lines (drop l.from l.text));
}

abbrev pub decreases-loop-bytes : goal.decreases-loop-bytes
decreases-loop-bytes l = length l.text - l.from
