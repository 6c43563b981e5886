use Rattle.std.proofs.Common.{◌+◌, ◌∙◌, sym}
use Rattle.sched_model.specs.PlainMode.{plain_at, message_at}
use Rattle.sched_model.proofs.ServedCounts.{counts_are}
use Rattle.sched_model.proofs.table_clauses.some_served.Goals as goal

pub returns : goal.returns
returns c =
    let m = plain_at c.args.set.now c.args.mode in
    let s = c.args.s.now in
    let w = c.args.window in
    let copies = (message_at m w.message).copies in (
      λ e k l. (counts_are m s w.message (c.args.base + k) copies).1 (sym (c.counts_of-counts.ensures k l) ∙ c.are_all.ensures.0 e k l ∙ c.requires.window.copies),
      λ all. c.are_all.ensures.1 (λ k l. c.counts_of-counts.ensures k l ∙ (counts_are m s w.message (c.args.base + k) copies).0 (all k l) ∙ sym c.requires.window.copies),
    )
