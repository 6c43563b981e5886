use Rattle.std.proofs.Common.{sym, ◌∙◌, refl}
use Rattle.std.proofs.lemmas.Bool.{both_ways}
use Rattle.sched_model.specs.PlainMode.{plain_at}
use Rattle.sched_model.specs.TaskGraph.{first, reaches}
use Rattle.sched_model.proofs.ClauseTests.{chain_last}
use Rattle.sched_model.proofs.chain_clause.chain_fits.Goals as goal

pub returns-then-not-has : goal.returns-then-not-has
returns-then-not-has c =
    let m = plain_at c.args.set.now c.args.mode in
    let h = c.has.ensures.source m c.args.end c.requires.few c.requires.start c.requires.sources in
    (λ e a r. absurd (both_ways (reaches m c.args.start c.args.end) (sym h ∙ c.if-not-has.true) r), λ f. refl)

pub returns-then-not-is_first : goal.returns-then-not-is_first
returns-then-not-is_first c =
    let m = plain_at c.args.set.now c.args.mode in
    let f = sym (c.is_first.ensures m c.requires.graph) ∙ c.if-not-is_first.true in
    (λ e a r. absurd (both_ways (first m c.args.start) f a), λ f. refl)

pub returns : goal.returns
returns c =
    let m = plain_at c.args.set.now c.args.mode in
    let h = c.has.ensures.source m c.args.end c.requires.few c.requires.start c.requires.sources in
    let f = sym (c.is_first.ensures m c.requires.graph) ∙ c.if-not-is_first.false in
    let t = chain_last m c.args.s.now c.args.start c.args.end c.task_start.result c.task_at.result.wcet c.task_start-2.result c.task_at-2.result.deadline
    c.task_start.ensures.value c.task_at.ensures.wcet c.task_start-2.ensures.value c.task_at-2.ensures.deadline in
    (λ e a r. t.0 e, λ g. t.1 (g f (sym h ∙ c.if-not-has.false)))
