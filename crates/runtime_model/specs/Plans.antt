-- Modes with their schedules, and right plans
use Rattle.std.specs.Prelude.{◌≡◌, ℕ, zero, suc, ◌+◌, ◌<◌, ◌≤◌, cond, nat_eq, true, List, [], ◌∷◌, length, slice_index_or, map, All, Contains}
use Rattle.sched_model.specs.declared.schedule.Schedule.{Schedule}
use Rattle.app_graph.specs.declared.mode_set.ModeSet.{ModeSet}
use Rattle.sched_model.specs.Numbers.{below, has, natural}
use Rattle.sched_model.specs.PlainMode.{PlainMode, PlainMessage, most_rounds, task_at, message_at, plain_at}
use Rattle.sched_model.specs.Rounds.{task_start}
use Rattle.sched_model.specs.RightSchedule.{IsSchedule}
use Rattle.sched_model.specs.ValidMode.{IsValid}

-- a mode with its schedule
pub record Plan : Type 0 where
  pub mode : PlainMode
  pub schedule : Schedule

-- what stands for a schedule past the last one
abbrev pub no_schedule : Schedule
no_schedule = record { starts = []; tasks = []; messages = []; tables = [] }

-- the mode of this number with its schedule
abbrev pub plan_of : ModeSet → List Schedule → ℕ → Plan
plan_of set schedules i = record { mode = plain_at set i; schedule = slice_index_or schedules i no_schedule }

-- the modes of a set with their schedules
abbrev pub plans_of : ModeSet → List Schedule → List Plan
plans_of set schedules = map (plan_of set schedules) (below (length set.modes))

-- how many rounds each schedule has
abbrev pub round_counts : List Schedule → List ℕ
round_counts schedules = map (λ s. length s.starts) schedules

-- the numbers over the file of the first rounds of modes with so many rounds, where the first of them has the number n
abbrev pub first_rounds : ℕ → List ℕ → List ℕ
first_rounds n [] = []
first_rounds n (c ∷ cs) = n ∷ first_rounds (n + c) cs

-- the number of the first round of the mode at this place: rounds are numbered from 1 over all modes
abbrev pub first_round : List Plan → ℕ → ℕ
first_round [] mode = 1
first_round (p ∷ ps) zero = 1
first_round (p ∷ ps) (suc mode) = length p.schedule.starts + first_round ps mode

-- the offset of a task, in ticks
abbrev pub offset : Plan → ℕ → ℕ
offset p a = natural (task_start p.schedule a)

-- the node of a task
abbrev pub node_of : Plan → ℕ → ℕ
node_of p a = (task_at p.mode a).node

-- the place of the message with this number, where the list begins at place n
abbrev pub place_from : ℕ → List PlainMessage → ℕ → ℕ
place_from n [] number = n
place_from n (m ∷ ms) number = cond (nat_eq m.number number) n (place_from (suc n) ms number)

-- the node with the producers of message i
abbrev pub sender_of : Plan → ℕ → ℕ
sender_of p i = node_of p (slice_index_or (message_at p.mode i).from 0 0)

-- a valid mode of a set with so many nodes, with a right schedule. All producers of a message are on one node
pub record RightPlan (nodes : ℕ) (p : Plan) : Type 0 where
  pub valid : IsValid p.mode
  pub rounds : ℕ
  pub right : IsSchedule p.mode rounds p.schedule
  pub node : (a : ℕ) → a < length p.mode.tasks → (task_at p.mode a).node < nodes
  pub senders : (i a : ℕ) → i < length p.mode.messages → Contains (message_at p.mode i).from a → node_of p a ≡ sender_of p i

-- one schedule for each mode of the set, which is right for it
pub record AreSchedules (set : ModeSet) (schedules : List Schedule) : Type 0 where
  pub one_each : length schedules ≡ length set.modes
  pub right : (i : ℕ) → i < length set.modes → let s = slice_index_or schedules i no_schedule in IsSchedule (plain_at set i) (length s.starts) s

-- schedules that a host can serve: of one to eight modes, with at most 256 rounds each
pub record FewRounds (schedules : List Schedule) : Type 0 where
  pub some : 1 ≤ length schedules
  pub modes : length schedules ≤ 8
  pub rounds : All (λ count. count ≤ 256) (round_counts schedules)

-- a set within its limits, with one right schedule for each of its modes
pub record RightPlans (set : ModeSet) (schedules : List Schedule) : Type 0 where
  pub some : 1 ≤ length set.modes
  pub most : length set.modes ≤ 8
  pub rounds : (i : ℕ) → i < length set.modes → most_rounds (plain_at set i) ≤ 256
  pub one_each : length schedules ≡ length set.modes
  pub right : (i : ℕ) → i < length set.modes → RightPlan (length set.nodes) (plan_of set schedules i)

-- message i stands in the table of the round at place j
abbrev pub Carried : Plan → ℕ → ℕ → Type 0
Carried p j i = (j < length p.schedule.starts) × (i < length p.mode.messages) × (has (slice_index_or p.schedule.tables j []) (message_at p.mode i).number ≡ true)
