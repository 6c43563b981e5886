-- The part of the plans that a node keeps: its tasks, the messages that it sends or takes, and the rounds with its slots
use Rattle.std.specs.Prelude.{ℕ, suc, ◌+◌, Bool, cond, ◌||◌, nat_eq, List, [], ◌∷◌, ◌++◌, length, map, filter, slice_index_or, ℤ}
use Rattle.sched_model.specs.Numbers.{below, natural}
use Rattle.sched_model.specs.PlainMode.{hyper, task_at, message_at}
use Rattle.sched_model.specs.Rounds.{round_start}
use Rattle.runtime_model.specs.Plans.{Plan, offset, node_of, place_from, sender_of}
use Rattle.runtime_model.specs.Placement.{release}
use Rattle.runtime_model.specs.Copies.{copy_at}
use Rattle.runtime_model.specs.Packets.{takes_on}

-- a task of the node
pub record PlainOwnTask : Type 0 where
  pub number : ℕ
  pub period : ℕ
  pub offset : ℕ
  pub wcet : ℕ

-- a message that the node sends (role 1), takes (2) or both (3), with the numbers of its producers and of its consumers on the node
pub record PlainOwnMessage : Type 0 where
  pub number : ℕ
  pub role : ℕ
  pub producers : List ℕ
  pub consumers : List ℕ

-- a slot of a round, from 1, with an own message, its release and which copy it carries
pub record PlainOwnSlot : Type 0 where
  pub slot : ℕ
  pub message : ℕ
  pub release : ℤ
  pub copy : ℕ

pub record PlainOwnRound : Type 0 where
  pub start : ℕ
  pub slots : List PlainOwnSlot

-- what a node keeps of one mode
pub record PlainModeTable : Type 0 where
  pub hyper : ℕ
  pub first_round : ℕ
  pub tasks : List PlainOwnTask
  pub messages : List PlainOwnMessage
  pub rounds : List PlainOwnRound

pub record PlainNodeTable : Type 0 where
  pub node : ℕ
  pub modes : List PlainModeTable

-- the tasks on node v, in file order
abbrev pub own_tasks : Plan → ℕ → List PlainOwnTask
own_tasks p v =
    map (λ a. record { number = (task_at p.mode a).number; period = (task_at p.mode a).period; offset = offset p a; wcet = (task_at p.mode a).wcet })
    (filter (λ a. nat_eq (node_of p a) v) (below (length p.mode.tasks)))

-- the numbers of the tasks at these places
abbrev pub numbers : Plan → List ℕ → List ℕ
numbers p tasks = map (λ a. (task_at p.mode a).number) tasks

-- node v sends message i, or a task on it consumes it
abbrev pub is_own : Plan → ℕ → ℕ → Bool
is_own p v i = nat_eq (sender_of p i) v || takes_on p i v

-- the own messages of node v, in file order
abbrev pub own_messages : Plan → ℕ → List PlainOwnMessage
own_messages p v =
    map (λ i. record {
      number = (message_at p.mode i).number;
      role = cond (nat_eq (sender_of p i) v) 1 0 + cond (takes_on p i v) 2 0;
      producers = numbers p (message_at p.mode i).from;
      consumers = numbers p (filter (λ b. nat_eq (node_of p b) v) (message_at p.mode i).to);
    })
    (filter (is_own p v) (below (length p.mode.messages)))

-- the own slots of the table of the round at place j, where the table begins at slot s
abbrev pub own_slots : Plan → ℕ → ℕ → ℕ → List ℕ → List PlainOwnSlot
own_slots p v j s [] = []
own_slots p v j s (number ∷ table) =
    let i = place_from 0 p.mode.messages number in
    cond (is_own p v i) (record { slot = s; message = number; release = release p j i; copy = copy_at p j i } ∷ []) [] ++ own_slots p v j (suc s) table

-- all rounds, each with its own slots
abbrev pub own_rounds : Plan → ℕ → List PlainOwnRound
own_rounds p v = map (λ j. record { start = natural (round_start p.schedule j); slots = own_slots p v j 1 (slice_index_or p.schedule.tables j []) }) (below (length p.schedule.starts))

-- the tables of modes whose first round has this number over the file
abbrev pub mode_tables : ℕ → ℕ → List Plan → List PlainModeTable
mode_tables v first [] = []
mode_tables v first (p ∷ ps) =
    record { hyper = hyper p.mode; first_round = first; tasks = own_tasks p v; messages = own_messages p v; rounds = own_rounds p v } ∷ mode_tables v (first + length p.schedule.starts) ps

-- the part of node v
abbrev pub part_of : List Plan → ℕ → PlainNodeTable
part_of plans v = record { node = v; modes = mode_tables v 1 plans }
