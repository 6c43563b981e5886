use Rattle.std.proofs.Common.{◌<◌, length, pos, sym, ◌∙◌, arith}
use Rattle.sched_model.specs.PlainMode.{plain_at}
use Rattle.sched_model.proofs.ClauseTests.{no_first, first_task}
use Rattle.sched_model.proofs.task_clause.offset_fits.Goals as goal

pub returns-then-not-is_first : goal.returns-then-not-is_first
returns-then-not-is_first c =
    let m = plain_at c.args.set.now c.args.mode in
    let l : c.args.place < length c.args.s.now.tasks = omega (arith, c.requires.place, c.requires.case.shape.tasks) in
    no_first m c.args.s.now c.args.place (c.requires.case.times.tasks c.args.place (pos 0) l).0
    (sym (c.is_first.ensures m c.requires.graph) ∙ c.if-not-is_first.true)

pub returns : goal.returns
returns c =
    let m = plain_at c.args.set.now c.args.mode in
    let l : c.args.place < length c.args.s.now.tasks = omega (arith, c.requires.place, c.requires.case.shape.tasks) in
    first_task m c.args.s.now c.args.place c.task_start.result c.task_at.result.period (c.requires.case.times.tasks c.args.place (pos 0) l).0
    (sym (c.is_first.ensures m c.requires.graph) ∙ c.if-not-is_first.false)
    c.task_start.ensures.value c.task_at.ensures.period
