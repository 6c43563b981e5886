use Rattle.std.proofs.Common.{◌≡◌, ◌≤◌, ap, ◌∙◌, rules}
use Rattle.sched_model.specs.PlainMode.{most_rounds, plain_at}
use Rattle.proof_tree.specs.Items.{Item, Refute}
use Rattle.proof_tree.specs.PlanLines.{meaning}
use Rattle.cert_checker.specs.DraftReading.{doc_at}
use Rattle.cert_checker.specs.ModeReading.{count_due}
use Rattle.cert_checker.specs.TreeStack.{line_at}
use Rattle.cert_checker.proofs.Modes.{refute_begins, refute_missing}
use Rattle.cert_checker.proofs.counts.take_count.Goals as goal

pub returns-then-number-rounds-2-clause-err : goal.returns-then-number-rounds-2-clause-err
returns-then-number-rounds-2-clause-err c =
    let d = doc_at c.args.set.now c.args.mode in
    let is : meaning c.args.item.now ≡ Refute c.in-Refute.number = ap meaning c.in-Refute.is in
    λ rest. ap (λ (i : Item). count_due c.args.mode d c.args.rounds (line_at c.args.line i rest)) is
    ∙ refute_missing c.args.mode d c.args.line c.args.rounds c.in-Refute.number rest c.if-number-rounds-2.true

pub returns-in_ok-walk-in-Refute-clause-ok : goal.returns-in_ok-walk-in-Refute-clause-ok
returns-in_ok-walk-in-Refute-clause-ok c =
    let d = doc_at c.args.set.now c.args.mode in
    let is : meaning c.args.item.now ≡ Refute c.in-Refute.number = ap meaning c.in-Refute.is in
    let most : c.args.rounds ≤ most_rounds (plain_at c.args.set.now c.args.mode) = search rules in
    let w = c.in_ok-walk-in-Refute in (
      w.ensures.inside,
      λ rest. ap (λ (i : Item). count_due c.args.mode d c.args.rounds (line_at c.args.line i rest)) is
          ∙ refute_begins c.args.mode d c.args.line c.args.rounds c.in-Refute.number w.walk rest c.if-number-rounds-2.false most w.ensures.due w.ensures.rounds,
    )
