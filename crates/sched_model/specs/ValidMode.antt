-- What the laws need of a mode. Each mode of an accepted mode file is valid.
use Rattle.std.specs.Prelude.{◌≡◌, ℕ, ◌<◌, ◌≤◌, length, Contains}
use Rattle.sched_model.specs.PlainMode.{PlainMode, hyper, task_at, message_at}
use Rattle.sched_model.specs.TaskGraph.{IsEdge}

-- an edge leads from a to b: both are tasks of the mode, of one period and deadline, and the rank rises
pub record Joins (m : PlainMode) (rank : ℕ → ℕ) (a b : ℕ) : Type 0 where
  pub from : a < length m.tasks
  pub to : b < length m.tasks
  pub period : (task_at m a).period ≡ (task_at m b).period
  pub deadline : (task_at m a).deadline ≡ (task_at m b).deadline
  pub later : rank a < rank b

-- periods, wcets and the round's length are positive and within the hyperperiod's limits, each message has a producer, a consumer, a copy and
-- a number of its own, and no task reaches itself: each edge leads up in the rank of the tasks
pub record IsValid (m : PlainMode) : Type 0 where
  pub round : 1 ≤ m.round
  pub periods : (p : ℕ) → Contains m.periods p → 1 ≤ p
  pub hyper_limit : hyper m ≤ 1000000000000
  pub task_period : (a : ℕ) → a < length m.tasks → Contains m.periods (task_at m a).period
  pub wcet : (a : ℕ) → a < length m.tasks → (1 ≤ (task_at m a).wcet) × ((task_at m a).wcet ≤ (task_at m a).period)
  pub deadline : (a : ℕ) → a < length m.tasks → (task_at m a).deadline ≤ hyper m
  pub copies : (i : ℕ) → i < length m.messages → 1 ≤ (message_at m i).copies
  pub message_period : (i : ℕ) → i < length m.messages → Contains m.periods (message_at m i).period
  pub numbers : (i j : ℕ) → i < length m.messages → j < length m.messages → (message_at m i).number ≡ (message_at m j).number → i ≡ j
  pub producer : (i : ℕ) → i < length m.messages → (a : ℕ) × Contains (message_at m i).from a
  pub consumer : (i : ℕ) → i < length m.messages → (b : ℕ) × Contains (message_at m i).to b
  pub consumer_app : (i b : ℕ) → i < length m.messages → Contains (message_at m i).to b → ((task_at m b).period ≡ (message_at m i).period) × ((task_at m b).deadline ≡ (message_at m i).deadline)
  pub rank : ℕ → ℕ
  pub ranks : (a : ℕ) → a < length m.tasks → rank a < length m.tasks
  pub edges : (a b : ℕ) → IsEdge m a b → Joins m rank a b
