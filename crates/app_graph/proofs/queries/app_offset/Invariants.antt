use Rattle.std.proofs.Common.{◌≡◌, drop}
use Rattle.app_graph.specs.Queries.{offset_in_app}
use Rattle.app_graph.proofs.queries.app_offset.Given as goal

abbrev pub invariant-loop-candidate : goal.invariant-loop-candidate
invariant-loop-candidate l = offset_in_app l.task l.app (drop l.candidate-index l.candidate-items) ≡ offset_in_app l.task l.app l.candidate-items
