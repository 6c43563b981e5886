use Rattle.std.proofs.Common.{sym, ◌∙◌}
use Rattle.sched_model.specs.PlainMode.{plain_at, task_at}
use Rattle.sched_model.specs.Rounds.{task_start}
use Rattle.sched_model.proofs.Gaps.{same_runs}
use Rattle.sched_model.proofs.node_clause.pair_fits.Goals as goal

pub returns : goal.returns
returns c =
    let m = plain_at c.args.set.now c.args.mode in
    let s = c.args.s.now in
    let x = c.task_at-earlier.ensures in
    let y = c.requires.later in
    let t = same_runs c.are_apart.result c.task_at-earlier.result.period c.task_at-earlier.result.wcet c.args.later.period c.args.later.wcet
    (task_at m c.args.first).period (task_at m c.args.first).wcet (task_at m c.args.second).period (task_at m c.args.second).wcet _ _ (task_start s c.args.first) (task_start s c.args.second)
    x.period x.wcet c.task_start.ensures.value y.period y.wcet c.task_start-2.ensures.value c.are_apart.ensures in
    (λ e same. t.0 e, λ f. t.1 (f (sym x.node ∙ c.if-earlier-later.false ∙ y.node)))
