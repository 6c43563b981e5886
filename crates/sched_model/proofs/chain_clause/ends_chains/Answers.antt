use Rattle.std.proofs.Common.{sym, ◌∙◌}
use Rattle.sched_model.specs.PlainMode.{plain_at}
use Rattle.sched_model.specs.Judged.{ChainsTo}
use Rattle.sched_model.specs.TaskGraph.{last}
use Rattle.sched_model.proofs.Passing.{under, not_under}
use Rattle.sched_model.proofs.chain_clause.ends_chains.Goals as goal

pub returns-then-not-is_last : goal.returns-then-not-is_last
returns-then-not-is_last c =
    let m = plain_at c.args.set.now c.args.mode in
    not_under (last m c.args.end) (ChainsTo m c.args.s.now c.args.end)
    (sym (c.is_last.ensures m c.requires.graph) ∙ c.if-not-is_last.true)

pub returns : goal.returns
returns c =
    let m = plain_at c.args.set.now c.args.mode in
    under c.chains_to.result (last m c.args.end) (ChainsTo m c.args.s.now c.args.end)
    (sym (c.is_last.ensures m c.requires.graph) ∙ c.if-not-is_last.false) c.chains_to.ensures
