use Rattle.std.proofs.Common.{◌≡◌, drop}
use Rattle.app_graph.specs.Queries.{offset_in_modes}
use Rattle.app_graph.proofs.queries.set_offset.Given as goal

abbrev pub invariant-loop-mode : goal.invariant-loop-mode
invariant-loop-mode l = offset_in_modes l.task (drop l.mode-index l.mode-items) ≡ offset_in_modes l.task l.mode-items
