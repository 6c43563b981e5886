use Rattle.std.proofs.Common.{ℕ, ◌<◌}
use Rattle.sched_model.specs.Numbered.{IsTaskOf}
use Rattle.sched_model.proofs.numbered.has_task.Given as goal

abbrev pub invariant-loop-place : goal.invariant-loop-place
invariant-loop-place l = (a : ℕ) → a < l.place → IsTaskOf l.set l.mode a l.number → ⊥
