use Rattle.std.proofs.lemmas.List.{map_push}
use Rattle.std.proofs.lemmas.Result.{err_from_is_err_and}
use Rattle.toml.specs.Data.{as_table}
use Rattle.toml.specs.View.{table_view}
use Rattle.mode_file.proofs.Arrays.{found_next, found_none, found_around}
use Rattle.mode_file.proofs.FirstOf.{Breaks-along, each_more, each_broken}
use Rattle.mode_file.proofs.tables.from_tables.Goals as goal
use Rattle.mode_file.proofs.tables.from_tables.Goals.{in-Some+in_ok-from_table+in_ok-push, in_default}

pub returns-in_err-from_table : goal.returns-in_err-from_table
returns-in_err-from_table g c =
    let p = err_from_is_err_and c.from_residual.result c.from_residual.ensures.1 in
    let around = found_around as_table c.args.values.now c.loop-value.value-index c.value-item.result (table_view c.in-Some.table.now) c.loop-value-test.true c.value-item.is c.in-Some.ensures in
    rw (p.1, p.2) (Breaks-along _ (g.T.FromTable.rules (table_view c.in-Some.table.now)) _ (λ broken. rw around (each_broken g.T.FromTable.rules _ _ _ _ c.loop-value.invariant.kept broken)) c.in_err-from_table.ensures)

pub loop-value-preserved : goal.loop-value-preserved
loop-value-preserved g c =
    elim c.match-as_table.branch [
      | in-Some+in_ok-from_table+in_ok-push w ↦
          let next = found_next as_table c.args.values.now c.loop-value.value-index c.value-item.result (table_view w.in-Some.table.now) c.loop-value-test.true c.value-item.is w.in-Some.ensures in
          record {
            kept = rw next (each_more g.T.FromTable.rules _ _ c.loop-value.invariant.kept w.in_ok-from_table.ensures.0);
            said = rw (next, map_push) (cc (w.in_ok-push.ensures.items, w.in_ok-from_table.ensures.1));
          }
      | in_default w ↦
          let same = found_none as_table c.args.values.now c.loop-value.value-index c.value-item.result c.loop-value-test.true c.value-item.is w.in_default.ensures in
          record { kept = rw same c.loop-value.invariant.kept; said = cc }
    ]
