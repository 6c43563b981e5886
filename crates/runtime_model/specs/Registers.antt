-- What a node keeps, read off its past. A full register has the number of its run or window beside the values
use Rattle.std.specs.Prelude.{ℕ, cond, nat_eq, ◌&&◌, List, map, Option, Some, None, ℤ}
use Rattle.sched_model.specs.Numbers.{has}
use Rattle.sched_model.specs.PlainMode.{message_at}
use Rattle.runtime_model.specs.Plans.{Plan, node_of}
use Rattle.runtime_model.specs.Outcomes.{Outcome, sent, started, finished, Step}
use Rattle.runtime_model.specs.LookingBack.{recall}
use Rattle.runtime_model.specs.Packets.{all_present}

-- the run and the value of an end of task a
abbrev pub last_end : ℕ → Outcome → Option (ℕ × ℤ)
last_end a (finished v b k x) = cond (nat_eq b a) (Some (k, x)) None
last_end a o = None

-- the out register of task a on its node: the last end since when the node is unbroken
abbrev pub out_register : Plan → ℕ → ℕ → List Step → Option (ℕ × ℤ)
out_register p stay a ds = recall (node_of p a) stay (last_end a) ds

abbrev pub value_of : Option (ℕ × ℤ) → Option ℤ
value_of None = None
value_of (Some z) = Some (z.1)

-- the values of the out registers of the producers of message i, where all are full
abbrev pub registers : Plan → ℕ → ℕ → List Step → Option (List ℤ)
registers p stay i ds = all_present (map (λ a. value_of (out_register p stay a ds)) (message_at p.mode i).from)

-- what an event does to the in register of task b for message i on node v: a packet fills it, a start of the task empties it
abbrev pub last_in : ℕ → ℕ → ℕ → Outcome → Option (Option (ℕ × List ℤ))
last_in v b i (sent w j l xs ts) = cond (nat_eq j i && has ts v) (Some (Some (l, xs))) None
last_in v b i (started w c k ins x) = cond (nat_eq c b) (Some None) None
last_in v b i o = None

abbrev pub flat : {X : Type 0} → Option (Option X) → Option X
flat None = None
flat (Some x) = x

-- the in register of task b for message i
abbrev pub in_register : Plan → ℕ → ℕ → ℕ → List Step → Option (ℕ × List ℤ)
in_register p stay b i ds = flat (recall (node_of p b) stay (last_in (node_of p b) b i) ds)

abbrev pub values_of : Option (ℕ × List ℤ) → Option (List ℤ)
values_of None = None
values_of (Some z) = Some (z.1)

-- a run in progress: its task, its number in the stay and what it will answer
pub record RunSeen : Type 0 where
  pub task : ℕ
  pub run : ℕ
  pub value : ℤ

-- what an event does to the run in progress of node v: a start begins one, and an end ends it
abbrev pub last_run : ℕ → Outcome → Option (Option RunSeen)
last_run v (started w a k ins x) = cond (nat_eq w v) (Some (Some (record { task = a; run = k; value = x }))) None
last_run v (finished w a k x) = cond (nat_eq w v) (Some None) None
last_run v o = None

-- the run in progress of node v
abbrev pub running : ℕ → ℕ → List Step → Option RunSeen
running v stay ds = flat (recall v stay (last_run v) ds)
