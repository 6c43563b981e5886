-- Small modes, and what the definitions say of them
use Rattle.std.specs.Prelude.{◌≡◌, ℕ, codes, List, [], ◌∷◌, length, ℤ, pos, negsuc}
use Rattle.tick_num.specs.Differences.{diff}
use Rattle.app_graph.specs.declared.mode_set.ModeSet.{ModeSet}
use Rattle.sched_model.specs.declared.schedule.Schedule.{Schedule}
use Rattle.sched_model.specs.declared.trees.TreeNode.{TreeNode}
use Rattle.sched_model.specs.declared.trees.TreeNode.TheVariants.{Branch, Cycle}
use Rattle.sched_model.specs.Numbers.{span}
use Rattle.sched_model.specs.PlainMode.{PlainMode, PlainTask, PlainMessage, hyper, instances, plain_at}
use Rattle.sched_model.specs.RightSchedule.{AllServed, IsSchedule}
use Rattle.sched_model.specs.ConstraintProblem.{vars, base, decisions, alternatives, chosen, serve, order}
use Rattle.sched_model.specs.SearchCost.{Cost}
use Rattle.sched_model.specs.RefutationTree.{ValidTree}
use Rattle.sched_model.specs.ValidMode.{IsValid}

-- a task of application 0, whose deadline is its period
abbrev pub task : ℕ → ℕ → ℕ → ℕ → PlainTask
task number node wcet period = record { number = number; app = 0; node = node; wcet = wcet; period = period; deadline = period }

-- a message of so many copies from one task to one
abbrev pub copied : ℕ → ℕ → ℕ → ℕ → ℕ → PlainMessage
copied copies number period from to = record { number = number; period = period; deadline = period; copies = copies; from = from ∷ []; to = to ∷ [] }

-- of one copy
abbrev pub message : ℕ → ℕ → ℕ → ℕ → PlainMessage
message number period from to = copied 1 number period from to

-- a control loop over three nodes: sensing, control, acting; what is sensed is sent so many times
abbrev pub loop_of : ℕ → PlainMode
loop_of copies = record {
  slots = 2;
  round = 20;
  gap = 100;
  periods = 100 ∷ [];
  tasks = task 0 1 2 100 ∷ task 1 0 5 100 ∷ task 2 2 1 100 ∷ [];
  messages = copied copies 0 100 0 1 ∷ message 1 100 1 2 ∷ [];
}

-- once
abbrev pub loop : PlainMode
loop = loop_of 1

-- a mode file that says it
abbrev pub loop_set : ModeSet
loop_set = record {
  slots = 2;
  round = pos 20;
  gap = pos 100;
  host = 0;
  nodes = codes "n0" ∷ codes "n1" ∷ codes "n2" ∷ [];
  modes = record {
    name = codes "run";
    apps = record {
      name = codes "loop";
      period = pos 100;
      deadline = pos 100;
      tasks = record { name = codes "sense"; node = 1; wcet = pos 2; body = codes "tally"; number = 0 }
          ∷ record { name = codes "ctrl"; node = 0; wcet = pos 5; body = codes "tally"; number = 1 }
          ∷ record { name = codes "act"; node = 2; wcet = pos 1; body = codes "tally"; number = 2 } ∷ [];
      messages = record { name = codes "m1"; from = 0 ∷ []; to = 1 ∷ []; number = 0; copies = 1 } ∷ record { name = codes "m2"; from = 1 ∷ []; to = 2 ∷ []; number = 1; copies = 1 } ∷ [];
    } ∷ [];
  } ∷ [];
}

-- a schedule of two rounds, of which the second starts at this tick
abbrev pub loop_plan : ℤ → Schedule
loop_plan second = record {
  starts = pos 0 ∷ second ∷ [];
  tasks = pos 21 ∷ pos 43 ∷ pos 120 ∷ [];
  messages = (pos 23, pos 43) ∷ (pos 48, pos 120) ∷ [];
  tables = (1 ∷ []) ∷ (0 ∷ []) ∷ [];
}

-- a tree that refutes one round
abbrev pub loop_nodes : List TreeNode
loop_nodes = Branch ∷ Cycle 0 3 ∷ Branch ∷ Cycle 3 3 ∷ Cycle 6 4 ∷ Cycle 10 4 ∷ Cycle 14 3 ∷ []

-- the numbers of its cycles
abbrev pub loop_refs : List ℕ
loop_refs = 17 ∷ 2 ∷ 6 ∷ 19 ∷ 4 ∷ 11 ∷ 19 ∷ 18 ∷ 9 ∷ 11 ∷ 20 ∷ 14 ∷ 16 ∷ 3 ∷ 18 ∷ 7 ∷ 3 ∷ []

-- its problem for one and for two rounds, its schedule, and what is wrong with one that starts a tick earlier
pub record LoopExample : Type 0 where
  pub plain : plain_at loop_set 0 ≡ loop
  pub valid : IsValid loop
  pub hyperperiod : hyper loop ≡ 100
  pub one_round : (vars loop 1 ≡ 8) × (length (base loop 1) ≡ 17)
  pub decided : decisions loop ≡ serve 0 0 ∷ serve 1 0 ∷ []
  pub first_choice : alternatives loop 1 [] ≡ pos 1 ∷ pos 2 ∷ pos 3 ∷ []
  pub second_choice : alternatives loop 1 (pos 2 ∷ []) ≡ pos 1 ∷ pos 2 ∷ pos 3 ∷ []
  pub constraints : chosen loop 1 (serve 0 0) (pos 2) ≡ diff 4 0 (pos 100) ∷ diff 0 5 (negsuc 119) ∷ []
  pub two_rounds : (vars loop 2 ≡ 9) × (length (base loop 2) ≡ 19) × (alternatives loop 2 [] ≡ span (pos 1) (pos 6))
  pub refuted : ValidTree loop 1 loop_nodes loop_refs
  pub right : IsSchedule loop 2 (loop_plan (pos 23))
  pub early : AllServed loop (loop_plan (pos 22)) → ⊥

-- the loop whose first message has two copies
abbrev pub double : PlainMode
double = loop_of 2

-- a schedule of three rounds: the second and the third carry the first message in one window
abbrev pub double_plan : Schedule
double_plan = record {
  starts = pos 0 ∷ pos 23 ∷ pos 43 ∷ [];
  tasks = pos 21 ∷ pos 63 ∷ pos 120 ∷ [];
  messages = (pos 23, pos 63) ∷ (pos 68, pos 120) ∷ [];
  tables = (1 ∷ []) ∷ (0 ∷ []) ∷ (0 ∷ []) ∷ [];
}

-- its decisions, where the second copy can be, and that the schedule is right
pub record DoubleExample : Type 0 where
  pub needed : instances double ≡ 3
  pub decided : decisions double ≡ serve 0 0 ∷ serve 0 1 ∷ serve 1 0 ∷ []
  pub second_copy : alternatives double 3 (pos 2 ∷ []) ≡ pos 3 ∷ pos 4 ∷ []
  pub one_window : chosen double 3 (serve 0 1) (pos 3) ≡ diff 6 2 (pos 0) ∷ diff 2 7 (negsuc 19) ∷ []
  pub right : IsSchedule double 3 double_plan

-- a message of period and deadline 50 in a hyperperiod of 100
abbrev pub half : PlainMode
half = record {
  slots = 2;
  round = 10;
  gap = 100;
  periods = 50 ∷ 100 ∷ [];
  tasks = task 0 1 2 50 ∷ task 1 0 5 50 ∷ record { number = 2; app = 1; node = 2; wcet = 1; period = 100; deadline = 100 } ∷ [];
  messages = message 0 50 0 1 ∷ [];
}

-- the second instance follows the first, within the rounds of a hyperperiod
pub record HalfExample : Type 0 where
  pub twice : instances half ≡ 2
  pub first_choice : alternatives half 3 [] ≡ span (pos 1) (pos 6)
  pub second_choice : alternatives half 3 (pos 2 ∷ []) ≡ pos 3 ∷ pos 4 ∷ []

-- two tasks of one node, of periods 4 and 6, of which the second runs this long
abbrev pub shared : ℕ → PlainMode
shared wcet = record {
  slots = 1;
  round = 3;
  gap = 12;
  periods = 4 ∷ 6 ∷ [];
  tasks = task 0 0 1 4 ∷ record { number = 1; app = 1; node = 0; wcet = wcet; period = 6; deadline = 6 } ∷ [];
  messages = [];
}

-- the places of the second task between the runs of the first: with a wcet of 1 there are eight, with 2 there is none
pub record SharedExample : Type 0 where
  pub hyperperiod : hyper (shared 1) ≡ 12
  pub places : alternatives (shared 1) 1 [] ≡ span (negsuc 2) (pos 4)
  pub constraints : (vars (shared 1) 1 ≡ 3) × (chosen (shared 1) 1 (order 0 1) (negsuc 1) ≡ diff 1 2 (pos 3) ∷ diff 2 1 (negsuc 2) ∷ [])
  pub none : alternatives (shared 2) 1 [] ≡ []

-- one task, no message, and rounds at most 40 ticks apart
abbrev pub blink : PlainMode
blink = record { slots = 2; round = 10; gap = 40; periods = 100 ∷ []; tasks = task 0 1 3 100 ∷ []; messages = [] }

-- one round and two leave too great a gap, three do not: each is one prefix
abbrev pub BlinkExample : Type 0
BlinkExample = Cost blink 3
