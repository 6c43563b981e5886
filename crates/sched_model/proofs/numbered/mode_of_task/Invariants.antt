use Rattle.std.proofs.Common.{ℕ, ◌<◌}
use Rattle.sched_model.specs.Numbered.{IsTaskOf}
use Rattle.sched_model.proofs.numbered.mode_of_task.Given as goal

abbrev pub invariant-loop-mode : goal.invariant-loop-mode
invariant-loop-mode l = (i a : ℕ) → i < l.mode → IsTaskOf l.set i a l.number → ⊥
