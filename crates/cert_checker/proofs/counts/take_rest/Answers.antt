use Rattle.std.proofs.Common.{rules, IsTrue, ◌∙◌}
use Rattle.cert_checker.specs.DraftReading.{doc_at}
use Rattle.cert_checker.specs.TreeStack.{behind_line}
use Rattle.cert_checker.proofs.Drafts.{whole_follows}
use Rattle.cert_checker.proofs.Modes.{follows_from}
use Rattle.cert_checker.proofs.counts.take_rest.Goals as goal

pub returns-then-is_whole-clause-ok : goal.returns-then-is_whole-clause-ok
returns-then-is_whole-clause-ok c =
    let d = doc_at c.args.set.now c.args.mode in
    let hand = c.in_ok-take.ensures.kept in
    let yes : IsTrue c.is_whole.result = search rules in
    let f = c.finish.ensures in
    let whole = whole_follows c.args.mode c.args.line d c.take.new.self c.finish.result hand (c.is_whole.ensures.yes yes d hand) f.starts f.tasks f.messages f.tables in
    (whole.0, λ rest. c.in_ok-take.ensures.goes rest ∙ whole.1 rest)
