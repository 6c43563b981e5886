use Rattle.std.proofs.Common.{◌≡◌, ◌+◌, length, drop}
use Rattle.sched_model.specs.Rows.{tasks_in, place_in}
use Rattle.sched_model.proofs.rows.place_of.Given as goal

abbrev pub invariant-loop-app : goal.invariant-loop-app
invariant-loop-app l = record {
  count : l.before + length (tasks_in (drop l.app-index l.apps)) ≡ length (tasks_in l.apps);
  same : l.before + place_in (tasks_in (drop l.app-index l.apps)) l.number ≡ place_in (tasks_in l.apps) l.number;
}
