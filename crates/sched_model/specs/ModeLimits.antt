-- How large a mode may be. Each mode of an accepted mode file is within these limits.
use Rattle.std.specs.Prelude.{ℕ, ◌<◌, ◌≤◌, length, Contains}
use Rattle.app_graph.specs.ValueRules.{most_copies}
use Rattle.sched_model.specs.PlainMode.{PlainMode, instances, most_rounds, message_at}

-- slots, times, and how many tasks, messages, copies and rounds there are
pub record IsLimited (m : PlainMode) : Type 0 where
  pub slots : (1 ≤ m.slots) × (m.slots ≤ 32)
  pub round : (1 ≤ m.round) × (m.round ≤ 1000000000)
  pub gap : (m.round ≤ m.gap) × (m.gap ≤ 1000000000)
  pub periods : (p : ℕ) → Contains m.periods p → (1 ≤ p) × (p ≤ 1000000000)
  pub tasks : length m.tasks ≤ 128
  pub messages : length m.messages ≤ 64
  pub ends : (i : ℕ) → i < length m.messages → (length (message_at m i).from ≤ 4) × (length (message_at m i).to ≤ 16)
  pub copies : (i : ℕ) → i < length m.messages → (message_at m i).copies ≤ most_copies
  pub rounds : most_rounds m ≤ 256
  pub instances : instances m ≤ 512
