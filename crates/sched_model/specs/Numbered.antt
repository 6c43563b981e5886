-- Tasks and messages by their numbers over the file
use Rattle.std.specs.Prelude.{◌≡◌, ℕ, ◌<◌, length}
use Rattle.app_graph.specs.declared.mode_set.ModeSet.{ModeSet}
use Rattle.sched_model.specs.PlainMode.{plain_at, task_at, message_at}

-- the task at place a of the mode of this number has the number
pub record IsTaskOf (set : ModeSet) (i a number : ℕ) : Type 0 where
  pub mode : i < length set.modes
  pub place : a < length (plain_at set i).tasks
  pub is : (task_at (plain_at set i) a).number ≡ number

-- the message at place a of the mode of this number has the number
pub record IsMessageOf (set : ModeSet) (i a number : ℕ) : Type 0 where
  pub mode : i < length set.modes
  pub place : a < length (plain_at set i).messages
  pub is : (message_at (plain_at set i) a).number ≡ number
