-- The generated mode set: as its file says it, and as it is numbered
use Rattle.std.specs.Prelude.{ℕ, ◌+◌, ◌*◌, ◌%◌, ℤ, pos, List, [], ◌∷◌, ◌++◌, map, codes}
use Rattle.std.specs.List.{range_with_len}
use Rattle.app_graph.specs.declared.raw.RawTask.{RawTask}
use Rattle.app_graph.specs.declared.raw.RawMessage.{RawMessage}
use Rattle.app_graph.specs.declared.raw.RawApp.{RawApp}
use Rattle.app_graph.specs.declared.raw.RawMode.{RawMode}
use Rattle.app_graph.specs.declared.raw.RawSet.{RawSet}
use Rattle.app_graph.specs.declared.mode_set.Task.{Task}
use Rattle.app_graph.specs.declared.mode_set.Message.{Message}
use Rattle.app_graph.specs.declared.mode_set.App.{App}
use Rattle.app_graph.specs.declared.mode_set.Mode.{Mode}
use Rattle.app_graph.specs.declared.mode_set.ModeSet.{ModeSet}
use Rattle.ttw_text.specs.Numbers.{spelled}

-- what f says of 0, 1, .., n - 1
unfoldable pub below : {X : Type 0} → ℕ → (ℕ → X) → List X
below n f = map f (range_with_len 0 n)

-- a letter and a number
abbrev pub lettered : List ℕ → ℕ → List ℕ
lettered letter n = letter ++ spelled n

-- the wcet of the task with the number n
abbrev pub wcet_of : ℕ → ℕ → ℤ
wcet_of seed n = pos (1 + (seed + n) % 9)

-- the number of the first task of application i of mode m
abbrev pub first_task : ℕ → ℕ → ℕ
first_task m i = 64 * m + 2 * i

-- ---- as the file says it

-- the task of application i with this letter, on this node, with the number n
abbrev pub raw_task : ℕ → List ℕ → ℕ → ℕ → ℕ → RawTask
raw_task seed letter i node n =
    record {
      name = lettered letter i;
      node = lettered (codes "n") node;
      wcet = wcet_of seed n;
      body = codes "tally";
    }

-- the message of application i, from its task si to its task ci
abbrev pub raw_message : ℕ → RawMessage
raw_message i = record {
  name = lettered (codes "x") i;
  from = lettered (codes "s") i ∷ [];
  to = lettered (codes "c") i ∷ [];
  copies = pos 1;
}

-- application i of mode m
abbrev pub raw_app : ℕ → ℕ → ℕ → RawApp
raw_app seed m i = record {
  name = lettered (codes "a") i;
  period = pos 1000;
  deadline = pos 1000;
  tasks =
      raw_task seed (codes "s") i (2 * i) (first_task m i)
      ∷ raw_task seed (codes "c") i (2 * i + 1) (first_task m i + 1) ∷ [];
  messages = raw_message i ∷ [];
}

-- mode m
unfoldable pub raw_mode : ℕ → ℕ → RawMode
raw_mode seed m = record { name = lettered (codes "m") m; apps = below 32 (raw_app seed m) }

-- the file
unfoldable pub drill_raw : ℕ → RawSet
drill_raw seed = record {
  slots = pos 4;
  round = pos 10;
  gap = pos 1000;
  host = lettered (codes "n") 0;
  nodes = below 64 (lettered (codes "n"));
  modes = below 8 (raw_mode seed);
}

-- ---- as it is numbered

-- the task of application i with this letter, on this node, with the number n
abbrev pub drill_task : ℕ → List ℕ → ℕ → ℕ → ℕ → Task
drill_task seed letter i node n =
    record {
      name = lettered letter i;
      node = node;
      wcet = wcet_of seed n;
      body = codes "tally";
      number = n;
    }

-- the message with the number n of application i, from the task with the number t to the next one
abbrev pub drill_message : ℕ → ℕ → ℕ → Message
drill_message i t n =
    record { name = lettered (codes "x") i; from = t ∷ []; to = (t + 1) ∷ []; number = n; copies = 1 }

-- application i of mode m
abbrev pub drill_app : ℕ → ℕ → ℕ → App
drill_app seed m i = record {
  name = lettered (codes "a") i;
  period = pos 1000;
  deadline = pos 1000;
  tasks =
      drill_task seed (codes "s") i (2 * i) (first_task m i)
      ∷ drill_task seed (codes "c") i (2 * i + 1) (first_task m i + 1) ∷ [];
  messages = drill_message i (first_task m i) (32 * m + i) ∷ [];
}

-- mode m
unfoldable pub drill_mode : ℕ → ℕ → Mode
drill_mode seed m = record { name = lettered (codes "m") m; apps = below 32 (drill_app seed m) }

-- the mode set
unfoldable pub drill_set : ℕ → ModeSet
drill_set seed = record {
  slots = 4;
  round = pos 10;
  gap = pos 1000;
  host = 0;
  nodes = below 64 (lettered (codes "n"));
  modes = below 8 (drill_mode seed);
}
