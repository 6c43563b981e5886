use Rattle.std.proofs.Common.{[]}
use Rattle.sched_model.specs.PlainMode.{plain_at}
use Rattle.sched_model.specs.RightSchedule.{TableFits}
use Rattle.sched_model.proofs.Passing.{all_by_place}
use Rattle.sched_model.proofs.table_clauses.served_once.Goals as goal

pub returns : goal.returns
returns c =
    let m = plain_at c.args.set.now c.args.mode in
    let s = c.args.s.now in (
      λ e. record {
        tables = all_by_place (TableFits m) s.tables [] (c.tables_fit.ensures.0 c.if-not-tables_fit.false);
        windows = λ i k l h. c.messages_served.ensures.0 e i l k h;
      },
      λ o. c.messages_served.ensures.1 (λ i l k h. o.windows i k l h),
    )
