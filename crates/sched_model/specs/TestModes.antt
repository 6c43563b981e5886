-- The mode sets of the tests
use Rattle.std.specs.Prelude.{◌≡◌, ℕ, ◌<◌, All, codes, length, [], ◌∷◌, ℤ, pos}
use Rattle.app_graph.specs.declared.mode_set.ModeSet.{ModeSet}
use Rattle.app_graph.specs.Validation.{KeepsRules}
use Rattle.sched_model.specs.declared.schedule.Schedule.{Schedule}
use Rattle.sched_model.specs.TimeLimits.{HasTimes}

-- the control loop, with this greatest gap
abbrev pub loop_with : ℤ → ModeSet
loop_with gap = record {
  slots = 2;
  round = pos 20;
  gap = gap;
  host = 0;
  nodes = codes "n0" ∷ codes "n1" ∷ codes "n2" ∷ [];
  modes = record {
    name = codes "run";
    apps = record {
      name = codes "loop";
      period = pos 100;
      deadline = pos 100;
      tasks = record { name = codes "sense"; node = 1; wcet = pos 2; body = codes "tally"; number = 0 }
          ∷ record { name = codes "ctrl"; node = 0; wcet = pos 5; body = codes "tally"; number = 1 }
          ∷ record { name = codes "act"; node = 2; wcet = pos 1; body = codes "tally"; number = 2 } ∷ [];
      messages = record { name = codes "m1"; from = 0 ∷ []; to = 1 ∷ []; number = 0; copies = 1 } ∷ record { name = codes "m2"; from = 1 ∷ []; to = 2 ∷ []; number = 1; copies = 1 } ∷ [];
    } ∷ [];
  } ∷ [];
}

-- two tasks of one node, of periods 4 and 6, of which the second runs this long
abbrev pub shared_with : ℤ → ModeSet
shared_with wcet = record {
  slots = 1;
  round = pos 3;
  gap = pos 12;
  host = 0;
  nodes = codes "n0" ∷ [];
  modes = record {
    name = codes "run";
    apps = record {
      name = codes "a";
      period = pos 4;
      deadline = pos 4;
      tasks = record { name = codes "x"; node = 0; wcet = pos 1; body = codes "tally"; number = 0 } ∷ [];
      messages = [];
    } ∷ record {
      name = codes "b";
      period = pos 6;
      deadline = pos 6;
      tasks = record { name = codes "y"; node = 0; wcet = wcet; body = codes "tally"; number = 1 } ∷ [];
      messages = [];
    } ∷ [];
  } ∷ [];
}

-- the set is that of a control loop that keeps the rules
abbrev pub IsLoop : ModeSet → Type 0
IsLoop set = (gap : ℤ) × (set ≡ loop_with gap) × KeepsRules set

-- the set is that of two tasks of one node, and keeps the rules
abbrev pub IsShared : ModeSet → Type 0
IsShared set = (wcet : ℤ) × (set ≡ shared_with wcet) × KeepsRules set

-- a schedule of so many rounds, tasks and messages, within the limits, whose tables have numbers below 2
pub record Planned (rounds tasks messages : ℕ) (s : Schedule) : Type 0 where
  pub starts : length s.starts ≡ rounds
  pub tables : length s.tables ≡ rounds
  pub offsets : length s.tasks ≡ tasks
  pub windows : length s.messages ≡ messages
  pub times : HasTimes s
  pub numbers : All (λ table. All (λ n. n < 2) table) s.tables
