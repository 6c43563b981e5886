-- What a right plan says of the times of one task
use Rattle.std.specs.Prelude.{◌≡◌, ℕ, suc, ◌+◌, ◌*◌, ◌<◌, ◌≤◌, length}
use Rattle.sched_model.specs.PlainMode.{hyper, task_at}
use Rattle.runtime_model.specs.Plans.{Plan, offset}

-- its period divides the hyperperiod, and it ends within a period and its deadline
pub record TaskFits (nodes : ℕ) (p : Plan) (a : ℕ) : Type 0 where
  pub is_task : a < length p.mode.tasks
  pub on_node : (task_at p.mode a).node < nodes
  pub period : 1 ≤ (task_at p.mode a).period
  pub turns : ℕ
  pub whole : hyper p.mode ≡ turns * (task_at p.mode a).period
  pub wcet : 1 ≤ (task_at p.mode a).wcet
  pub short : (task_at p.mode a).wcet ≤ (task_at p.mode a).period
  pub late : suc (offset p a + (task_at p.mode a).wcet) ≤ (task_at p.mode a).period + (task_at p.mode a).deadline
  pub deadline : (task_at p.mode a).deadline ≤ hyper p.mode
