use Rattle.std.proofs.Common.{◌≡◌, ◌++◌}
use Rattle.std.specs.List.{flat_map}
use Rattle.sched_model.specs.Numbers.{below}
use Rattle.world_core.specs.Cycle.{round_in}
use Rattle.world_core.proofs.cycle.add_rounds.Given as goal

abbrev pub invariant-loop-round : goal.invariant-loop-round
invariant-loop-round l = l.entries.items ≡ l.initial.entries.items ++ flat_map (round_in l.tick l.schedule) (below l.round)
