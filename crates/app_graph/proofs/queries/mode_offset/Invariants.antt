use Rattle.std.proofs.Common.{◌≡◌, drop}
use Rattle.app_graph.specs.Queries.{offset_in_apps}
use Rattle.app_graph.proofs.queries.mode_offset.Given as goal

abbrev pub invariant-loop-app : goal.invariant-loop-app
invariant-loop-app l = offset_in_apps l.task (drop l.app-index l.app-items) ≡ offset_in_apps l.task l.app-items
