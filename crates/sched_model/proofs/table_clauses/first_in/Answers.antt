use Rattle.sched_model.specs.PlainMode.{plain_at}
use Rattle.sched_model.proofs.Visits.{first_start_is}
use Rattle.sched_model.proofs.table_clauses.first_in.Goals as goal

pub returns-clause-value : goal.returns-clause-value
returns-clause-value c =
    first_start_is (plain_at c.args.set.now c.args.mode) c.args.s.now c.args.window.message c.args.place c.round_start.result c.args.window.opens c.args.ticks
    c.round_start.ensures.value c.requires.window.opens c.requires.ticks c.requires.limits.0 c.first_start.result c.first_start.ensures.value
