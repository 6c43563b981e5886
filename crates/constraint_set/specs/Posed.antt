-- The constraint problem of a mode and a number of rounds, and what a problem in code keeps beside it
use Rattle.std.specs.Prelude.{◌≡◌, ℕ, ◌+◌, ◌≤◌, Bool, List, length, map}
use Rattle.std.specs.List.{flat_map}
use Rattle.tick_num.specs.declared.differences.Diff.{Diff}
use Rattle.tick_num.specs.Differences.{diff}
use Rattle.sched_model.specs.Numbers.{below}
use Rattle.sched_model.specs.PlainMode.{PlainMode, hyper, instances, most_rounds}
use Rattle.sched_model.specs.ConstraintProblem.{Decision, base, decisions, of_first}
use Rattle.sched_model.specs.ModeLimits.{IsLimited}
use Rattle.sched_model.specs.TaskGraph.{first}
use Rattle.sched_model.specs.ValidMode.{IsValid}

-- a mode, and how many rounds a hyperperiod has
pub record Posed : Type 0 where
  pub mode : PlainMode
  pub rounds : ℕ

-- the constraints of the chains, in which tasks go by their places
abbrev pub chains_of : PlainMode → List Diff
chains_of m = flat_map (of_first m 0) (below (length m.tasks))

-- the same constraint behind the variables of r rounds
abbrev pub behind : ℕ → Diff → Diff
behind r d = diff (r + d.x) (r + d.y) d.c

-- the mode is one of an accepted file, and the hyperperiod, the message instances and the first tasks are those of the mode
pub record IsFramed (m : PlainMode) (h n : ℕ) (fs : List Bool) : Type 0 where
  pub valid : IsValid m
  pub limits : IsLimited m
  pub ticks : h ≡ hyper m
  pub count : n ≡ instances m
  pub firsts : fs ≡ map (first m) (below (length m.tasks))

-- there is room for the rounds, and the chains, the constraints that always hold and the decisions are those of the problem
pub record Ready (p : Posed) (cs ds : List Diff) (es : List Decision) : Type 0 where
  pub most : p.rounds ≤ most_rounds p.mode
  pub chains : cs ≡ chains_of p.mode
  pub list : ds ≡ base p.mode p.rounds
  pub all : es ≡ decisions p.mode
