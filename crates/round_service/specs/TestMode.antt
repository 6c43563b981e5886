-- The mode set of a test
use Rattle.std.specs.Prelude.{codes, [], ◌∷◌, pos}
use Rattle.app_graph.specs.declared.mode_set.ModeSet.{ModeSet}

-- a message of period and deadline 50 in a hyperperiod of 100
abbrev pub half : ModeSet
half = record {
  slots = 2;
  round = pos 10;
  gap = pos 100;
  host = 0;
  nodes = codes "n0" ∷ codes "n1" ∷ [];
  modes = record {
    name = codes "run";
    apps = record {
      name = codes "fast";
      period = pos 50;
      deadline = pos 50;
      tasks = record { name = codes "sense"; node = 0; wcet = pos 2; body = codes "tally"; number = 0 } ∷ record { name = codes "act"; node = 1; wcet = pos 1; body = codes "tally"; number = 1 } ∷ [];
      messages = record { name = codes "m"; from = 0 ∷ []; to = 1 ∷ []; number = 0; copies = 1 } ∷ [];
    } ∷ record {
      name = codes "rare";
      period = pos 100;
      deadline = pos 100;
      tasks = record { name = codes "slow"; node = 0; wcet = pos 1; body = codes "tally"; number = 2 } ∷ [];
      messages = [];
    } ∷ [];
  } ∷ [];
}
