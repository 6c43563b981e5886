use Rattle.sched_model.specs.PlainMode.{plain_at}
use Rattle.sched_model.specs.RightSchedule.{MessageFits}
use Rattle.sched_model.proofs.KeptSets.{mode_at_valid}
use Rattle.sched_model.proofs.Passing.{fails_so}
use Rattle.sched_model.proofs.ClauseTests.{senders_of, window_whole}
use Rattle.sched_model.proofs.message_clause.window_fits.Goals as goal

pub returns-then-not-senders_fit : goal.returns-then-not-senders_fit
returns-then-not-senders_fit c =
    let m = plain_at c.args.set.now c.args.mode in
    let ok = mode_at_valid c.args.set.now c.requires.case.rules c.args.mode c.requires.case.known in
    fails_so (MessageFits m c.args.s.now c.args.window.message) (λ f.
    let t = c.senders_fit.ensures.1 (senders_of m c.args.s.now ok c.args.window.message c.requires.window.within f) in
    let no = c.if-not-senders_fit.true in
    absurd (cc))

pub returns : goal.returns
returns c =
    let m = plain_at c.args.set.now c.args.mode in
    let ok = mode_at_valid c.args.set.now c.requires.case.rules c.args.mode c.requires.case.known in
    window_whole m c.args.s.now ok c.args.window.message c.requires.window.within c.args.window.opens c.args.window.closes c.takers_fit.result
    c.requires.window.opens c.requires.window.closes c.if-window.false (c.senders_fit.ensures.0 c.if-not-senders_fit.false) c.takers_fit.ensures
