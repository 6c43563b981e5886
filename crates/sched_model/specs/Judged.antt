-- What `verify` is given, and its clauses one round, task or message at a time
use Rattle.std.specs.Prelude.{◌≡◌, ℕ, suc, ◌<◌, ◌≤◌, true, length, pos, ◌+ℤ◌, ◌≤ℤ◌, ◌<ℤ◌}
use Rattle.app_graph.specs.declared.mode_set.ModeSet.{ModeSet}
use Rattle.app_graph.specs.Validation.{KeepsRules}
use Rattle.sched_model.specs.declared.schedule.Schedule.{Schedule}
use Rattle.sched_model.specs.Numbers.{has}
use Rattle.sched_model.specs.PlainMode.{PlainMode, hyper, plain_at, task_at, message_at}
use Rattle.sched_model.specs.Rounds.{round_start, task_start, opens, closes}
use Rattle.sched_model.specs.RightSchedule.{HasShape, ChainFits, RunsApart}
use Rattle.sched_model.specs.TaskGraph.{first, reaches}
use Rattle.sched_model.specs.TimeLimits.{HasTimes}
use Rattle.sched_model.specs.Links.{link_of}
use Rattle.sched_model.specs.declared.message_clause.Window.{Window}

-- a schedule of the shape of a mode of an accepted file
pub record IsCase (set : ModeSet) (mode : ℕ) (s : Schedule) : Type 0 where
  pub rules : KeepsRules set
  pub known : mode < length set.modes
  pub shape : HasShape (plain_at set mode) (length s.starts) s
  pub times : HasTimes s

-- the round at place j ends before the next one starts, or with the hyperperiod
pub record RoundEnds (m : PlainMode) (s : Schedule) (j : ℕ) : Type 0 where
  pub next : suc j < length s.starts → (round_start s j +ℤ pos m.round) ≤ℤ round_start s (suc j)
  pub last : suc j ≡ length s.starts → (round_start s j +ℤ pos m.round) ≤ℤ pos (hyper m)

-- the round after the one at place j starts within the greatest gap
pub record GapHolds (m : PlainMode) (s : Schedule) (j : ℕ) : Type 0 where
  pub next : suc j < length s.starts → round_start s (suc j) ≤ℤ (round_start s j +ℤ pos m.gap)
  pub last : suc j ≡ length s.starts → pos (hyper m) ≤ℤ (round_start s j +ℤ pos m.gap)

-- the window of a message as the code has it: the place of the message, and its times
pub record ShowsWindow (m : PlainMode) (s : Schedule) (w : Window) : Type 0 where
  pub within : w.message < length m.messages
  pub number : w.number ≡ (message_at m w.message).number
  pub opens : pos w.opens ≡ opens s w.message
  pub closes : pos w.closes ≡ closes s w.message
  pub period : w.period ≡ (message_at m w.message).period
  pub copies : w.copies ≡ (message_at m w.message).copies
  pub link : w.link ≡ link_of (length m.tasks) (message_at m w.message)
  pub opens_most : w.opens ≤ 2000000000000
  pub closes_most : w.closes ≤ 2000000000000
  pub period_some : 1 ≤ w.period
  pub period_most : w.period ≤ 1000000000

-- where task a is a producer of message i, the window opens after its end and closes within a period of it
pub record SenderFits (m : PlainMode) (s : Schedule) (i a : ℕ) : Type 0 where
  pub sent : has (message_at m i).from a ≡ true → (task_start s a +ℤ pos (task_at m a).wcet) ≤ℤ opens s i
  pub kept : has (message_at m i).from a ≡ true → closes s i ≤ℤ (task_start s a +ℤ pos (task_at m a).wcet +ℤ pos (message_at m i).period)

-- where task b is a consumer of message i, it starts at the window's close or later, and within a period of its opening
pub record TakerFits (m : PlainMode) (s : Schedule) (i b : ℕ) : Type 0 where
  pub taken : has (message_at m i).to b ≡ true → closes s i ≤ℤ task_start s b
  pub next : has (message_at m i).to b ≡ true → task_start s b <ℤ (opens s i +ℤ pos (message_at m i).period)

-- each chain from a first task to last task l ends within the deadline
abbrev pub ChainsTo : PlainMode → Schedule → ℕ → Type 0
ChainsTo m s l = (f : ℕ) → f < length m.tasks → first m f ≡ true → reaches m f l ≡ true → ChainFits m s f l

-- tasks a and b never run at once, where they are on one node
abbrev pub NodeShared : PlainMode → Schedule → ℕ → ℕ → Type 0
NodeShared m s a b = (task_at m a).node ≡ (task_at m b).node → RunsApart m s a b
