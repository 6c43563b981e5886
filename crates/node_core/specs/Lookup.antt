-- What a node looks up in its table
use Rattle.std.specs.Prelude.{ℕ, ◌+◌, Bool, ◌&&◌, ◌||◌, nat_eq, nat_le, nat_lt, List, [], length, slice_index_or, unwrap_or, Option, pos}
use Rattle.std.specs.List.{find, position}
use Rattle.node_tables.specs.declared.tables.NodeTable.{NodeTable}
use Rattle.node_tables.specs.declared.tables.ModeTable.{ModeTable}
use Rattle.node_tables.specs.declared.tables.OwnTask.{OwnTask}
use Rattle.node_tables.specs.declared.tables.OwnMessage.{OwnMessage}
use Rattle.node_tables.specs.declared.tables.OwnRound.{OwnRound}
use Rattle.node_tables.specs.declared.tables.OwnSlot.{OwnSlot}

-- what stands for a mode past the last one
abbrev pub no_mode : ModeTable
no_mode = record { hyper = pos 0; first_round = 0; tasks = []; messages = []; rounds = [] }

-- the mode at this place
abbrev pub mode_at : NodeTable → ℕ → ModeTable
mode_at t i = slice_index_or t.modes i no_mode

-- what stands for a round past the last one
abbrev pub no_round : OwnRound
no_round = record { start = pos 0; slots = [] }

-- the round of a mode at this place, from 0
abbrev pub round_at : ModeTable → ℕ → OwnRound
round_at m j = slice_index_or m.rounds j no_round

-- a mode has the round with this number over the file
abbrev pub has_round : ℕ → ModeTable → Bool
has_round number m = nat_le m.first_round number && nat_lt number (m.first_round + length m.rounds)

-- the place of the first mode that has the round with this number over the file; the number of modes where none has it
abbrev pub mode_of_round : NodeTable → ℕ → ℕ
mode_of_round t number = unwrap_or (position (has_round number) t.modes) (length t.modes)

-- the own slot of a round with this number, from 1
abbrev pub own_slot : OwnRound → ℕ → Option OwnSlot
own_slot r slot = find (λ s. nat_eq s.slot slot) r.slots

-- the own message with this number
abbrev pub own_message : List OwnMessage → ℕ → Option OwnMessage
own_message messages number = find (λ m. nat_eq m.number number) messages

-- the own task with this number
abbrev pub own_task : List OwnTask → ℕ → Option OwnTask
own_task tasks number = find (λ t. nat_eq t.number number) tasks

-- the place of a task among the consumers of a message on the node
abbrev pub consumer_place : ℕ → OwnMessage → Option ℕ
consumer_place task m = position (nat_eq task) m.consumers

-- the node sends the message: its role is 1, or 3 where it takes it too
abbrev pub sends : OwnMessage → Bool
sends m = nat_eq m.role 1 || nat_eq m.role 3

-- a task of the node consumes the message
abbrev pub is_taken : OwnMessage → Bool
is_taken m = nat_lt 0 (length m.consumers)
