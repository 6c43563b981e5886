-- The graph of a mode as sets of tasks, one bit for each place
use Rattle.std.specs.Prelude.{ℕ, ◌*◌, ◌%◌, ◌^◌, Bool, not, List, length, map, if◌then◌else◌, nat_eq, fold, bit_and, bit_or}
use Rattle.app_graph.specs.Masks.{mask_of}
use Rattle.sched_model.specs.declared.links.Link.{Link}
use Rattle.sched_model.specs.declared.links.TaskSet.{TaskSet}
use Rattle.sched_model.specs.Numbers.{below, has}
use Rattle.sched_model.specs.PlainMode.{PlainMode, PlainMessage}
use Rattle.sched_model.specs.TaskGraph.{reaches}

-- the place is in the set
abbrev pub in_set : ℕ → ℕ → Bool
in_set set a = not (nat_eq (bit_and set (1 * 2 ^ a % 2 ^ 128)) 0)

-- the places below n that are listed
abbrev pub set_of : ℕ → List ℕ → ℕ
set_of n places = mask_of (has places) (below n)

-- the producers and the consumers of a message
abbrev pub link_of : ℕ → PlainMessage → Link
link_of n msg = record { from = set_of n msg.from; to = set_of n msg.to }

-- the number of tasks, and the link of each message
pub record TaskLinks : Type 0 where
  pub tasks : ℕ
  pub links : List Link

-- those of a mode
abbrev pub graph_of : PlainMode → TaskLinks
graph_of m = record { tasks = length m.tasks; links = map (link_of (length m.tasks)) m.messages }

-- the set with the producers of the messages that go to a task of the other set
abbrev pub back_from : List Link → ℕ → ℕ → ℕ
back_from links marked own = fold (λ next link. if nat_eq (bit_and link.to marked) 0 then next else bit_or next link.from) own links

-- the tasks that reach task b
abbrev pub sources_in : PlainMode → ℕ → ℕ
sources_in m b = mask_of (λ a. reaches m a b) (below (length m.tasks))

-- the same as a set
abbrev pub sources_of : PlainMode → ℕ → TaskSet
sources_of m b = record { bits = sources_in m b }
