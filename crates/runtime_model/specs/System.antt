-- What runs: nodes, plans, and what the bodies of the tasks answer
use Rattle.std.specs.Prelude.{ℕ, List, [], length, slice_index_or, Option, ℤ}
use Rattle.app_graph.specs.declared.mode_set.ModeSet.{ModeSet}
use Rattle.sched_model.specs.declared.schedule.Schedule.{Schedule}
use Rattle.runtime_model.specs.Plans.{Plan, plans_of}
use Rattle.runtime_model.specs.Outcomes.{Step}

-- how many nodes there are, the node that is the host, the plan of each mode,
-- and what the body of the task of each number answers to inputs after these steps
pub record System : Type 0 where
  pub nodes : ℕ
  pub host : ℕ
  pub plans : List Plan
  pub answers : List Step → ℕ → List (Option ℤ) → ℤ

-- what stands for the plan of a mode past the last one
abbrev pub no_plan : Plan
no_plan = record { mode = record { slots = 0; round = 0; gap = 0; periods = []; tasks = []; messages = [] }; schedule = record { starts = []; tasks = []; messages = []; tables = [] } }

abbrev pub plan_at : System → ℕ → Plan
plan_at y mode = slice_index_or y.plans mode no_plan

-- the system of a set with these schedules, where the bodies answer this
abbrev pub system_of : ModeSet → List Schedule → (List Step → ℕ → List (Option ℤ) → ℤ) → System
system_of set schedules answers = record { nodes = length set.nodes; host = set.host; plans = plans_of set schedules; answers = answers }
