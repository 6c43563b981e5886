-- The numbers that a decision's alternatives and constraints depend on
use Rattle.std.specs.Prelude.{ℕ}
use Rattle.node_use.specs.declared.places.TaskTimes.{TaskTimes}
use Rattle.round_service.specs.declared.choices.MessageTimes.{MessageTimes}
use Rattle.sched_model.specs.PlainMode.{PlainMode, hyper, task_at, message_at}

-- those of the task at place a
abbrev pub times_at : PlainMode → ℕ → TaskTimes
times_at m a = record { period = (task_at m a).period; deadline = (task_at m a).deadline; wcet = (task_at m a).wcet }

-- those of message i, for r rounds
abbrev pub numbers_at : PlainMode → ℕ → ℕ → MessageTimes
numbers_at m r i = record { rounds = r; round = m.round; hyper = hyper m; period = (message_at m i).period; deadline = (message_at m i).deadline; copies = (message_at m i).copies }
