use Rattle.std.proofs.Common.{◌≡◌, map, pos}
use Rattle.sched_model.specs.Numbers.{below}
use Rattle.sched_model.specs.PlainMode.{hyper, plain_at}
use Rattle.world_core.proofs.cycle.hypers.Given as goal

abbrev pub invariant-loop-mode : goal.invariant-loop-mode
invariant-loop-mode l = l.hypers.items ≡ map (λ i. pos (hyper (plain_at l.set i))) (below l.mode)
