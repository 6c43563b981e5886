use Rattle.std.proofs.Common.{ℕ, ◌<◌}
use Rattle.sched_model.specs.Numbered.{IsMessageOf}
use Rattle.sched_model.proofs.numbered.message_place.Given as goal

abbrev pub invariant-loop-place : goal.invariant-loop-place
invariant-loop-place l = (a : ℕ) → a < l.place → IsMessageOf l.set l.mode a l.number → ⊥
