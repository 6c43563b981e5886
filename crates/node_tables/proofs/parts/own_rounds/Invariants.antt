use Rattle.std.proofs.Common.{◌≡◌, map}
use Rattle.sched_model.specs.Numbers.{below}
use Rattle.node_tables.specs.OwnParts.{round_kept}
use Rattle.node_tables.proofs.parts.own_rounds.Given as goal

abbrev pub invariant-loop-place : goal.invariant-loop-place
invariant-loop-place l = l.rounds.items ≡ map (round_kept l.messages l.schedule l.hyper) (below l.place)
