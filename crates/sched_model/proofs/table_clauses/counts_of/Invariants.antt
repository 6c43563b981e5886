use Rattle.std.proofs.Common.{◌≡◌, length}
use Rattle.sched_model.specs.PlainMode.{plain_at}
use Rattle.sched_model.specs.ServedCounts.{Counts}
use Rattle.sched_model.proofs.table_clauses.counts_of.Given as goal

abbrev pub invariant-loop-place : goal.invariant-loop-place
invariant-loop-place l = record {
  long : length l.counts ≡ 128;
  are : Counts (plain_at l.set l.mode) l.s l.window.message l.base l.count l.place l.counts;
}
