-- The mode sets and schedules of the tests
use Rattle.std.specs.Prelude.{ℕ, codes, List, [], ◌∷◌, pos}
use Rattle.app_graph.specs.declared.mode_set.ModeSet.{ModeSet}
use Rattle.app_graph.specs.declared.mode_set.Mode.{Mode}
use Rattle.sched_model.specs.declared.schedule.Schedule.{Schedule}

-- the control loop, whose first message has so many copies
abbrev pub loop_with : ℕ → Mode
loop_with copies = record {
  name = codes "run";
  apps = record {
    name = codes "loop";
    period = pos 100;
    deadline = pos 100;
    tasks = record { name = codes "sense"; node = 1; wcet = pos 2; body = codes "tally"; number = 0 }
        ∷ record { name = codes "ctrl"; node = 0; wcet = pos 5; body = codes "tally"; number = 1 }
        ∷ record { name = codes "act"; node = 2; wcet = pos 1; body = codes "tally"; number = 2 } ∷ [];
    messages = record { name = codes "m1"; from = 0 ∷ []; to = 1 ∷ []; number = 0; copies = copies } ∷ record { name = codes "m2"; from = 1 ∷ []; to = 2 ∷ []; number = 1; copies = 1 } ∷ [];
  } ∷ [];
}

-- with one copy of it
abbrev pub loop_mode : Mode
loop_mode = loop_with 1

-- and with two
abbrev pub double_mode : Mode
double_mode = loop_with 2

-- a mode of one task
abbrev pub idle_mode : Mode
idle_mode = record {
  name = codes "idle";
  apps = record {
    name = codes "blink";
    period = pos 100;
    deadline = pos 100;
    tasks = record { name = codes "led"; node = 2; wcet = pos 1; body = codes "tally"; number = 3 } ∷ [];
    messages = [];
  } ∷ [];
}

-- three nodes with these modes
abbrev pub set_with : List Mode → ModeSet
set_with modes = record { slots = 2; round = pos 20; gap = pos 100; host = 0; nodes = codes "n0" ∷ codes "n1" ∷ codes "n2" ∷ []; modes = modes }

-- a right schedule of the loop
abbrev pub loop_schedule : Schedule
loop_schedule = record {
  starts = pos 0 ∷ pos 23 ∷ [];
  tasks = pos 21 ∷ pos 43 ∷ pos 120 ∷ [];
  messages = (pos 23, pos 43) ∷ (pos 48, pos 120) ∷ [];
  tables = (1 ∷ []) ∷ (0 ∷ []) ∷ [];
}

-- one with two copies
abbrev pub double_schedule : Schedule
double_schedule = record {
  starts = pos 0 ∷ pos 23 ∷ pos 43 ∷ [];
  tasks = pos 21 ∷ pos 63 ∷ pos 120 ∷ [];
  messages = (pos 23, pos 63) ∷ (pos 68, pos 120) ∷ [];
  tables = (1 ∷ []) ∷ (0 ∷ []) ∷ (0 ∷ []) ∷ [];
}

-- and one of the idle mode
abbrev pub idle_schedule : Schedule
idle_schedule = record { starts = pos 0 ∷ []; tasks = pos 0 ∷ []; messages = []; tables = [] ∷ [] }
