use Rattle.std.proofs.Common.{◌≡◌, ℕ, ◌-◌, ◌^◌, ◌<◌}
use Rattle.app_graph.specs.Reaching.{after_mode, after_times}
use Rattle.app_graph.proofs.reaching.closed.Given as goal

abbrev pub invariant-loop-next : goal.invariant-loop-next
invariant-loop-next l = record {
  passes : (n : ℕ) × (l.marks ≡ after_times n l.first l.fn.marks l.mode);
  next : l.next ≡ after_mode l.first l.marks l.mode;
  fits : l.next < 2 ^ 128;
}

abbrev pub decreases-loop-next : goal.decreases-loop-next
decreases-loop-next l = 2 ^ 128 - l.marks
