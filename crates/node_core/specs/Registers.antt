-- What a node's registers hold, and what the calls do to them
use Rattle.std.specs.Prelude.{ℕ, Bool, List, [], length, map, fold, replicate, slice_index_or, slice_set, Option, Some, None, is_some, nat_eq, cond, ℤ}
use Rattle.std.specs.List.{flat_map, list_all}
use Rattle.sched_model.specs.Numbers.{below}
use Rattle.runtime_model.specs.Inputs.{given}
use Rattle.runtime_model.specs.Packets.{all_present}
use Rattle.node_tables.specs.declared.tables.OwnMessage.{OwnMessage}
use Rattle.node_core.specs.declared.registers.Run.{Run}
use Rattle.node_core.specs.Lookup.{consumer_place}

-- the in registers of a message, one for each of its consumers on the node, in the order of the table; past the last one they are empty.
-- A full one has the values of the packet
abbrev pub InRow : Type 0
InRow = List (Option (List ℤ))

-- the out register of each task, by its number; the in registers of each message, by its number; the run in progress with the value that its end will answer
pub record RegistersSeen : Type 0 where
  pub outs : List (Option ℤ)
  pub ins : List InRow
  pub run : Option Run

-- the out registers of all task numbers, empty
unfoldable pub no_outs : List (Option ℤ)
no_outs = replicate 1024 None

-- the in registers of all message numbers, empty
unfoldable pub no_ins : List InRow
no_ins = replicate 512 []

-- all registers are empty, and no run is in progress
abbrev pub no_registers : RegistersSeen
no_registers = record { outs = no_outs; ins = no_ins; run = None }

-- the out register of a task
abbrev pub out_of : RegistersSeen → ℕ → Option ℤ
out_of g task = slice_index_or g.outs task None

-- the in registers of a message
abbrev pub row_of : List InRow → ℕ → InRow
row_of ins message = slice_index_or ins message []

-- the values of the out registers of these tasks, where all are full
abbrev pub values_of : RegistersSeen → List ℕ → Option (List ℤ)
values_of g tasks = all_present (map (out_of g) tasks)

-- a packet of a message fills the in registers of all its consumers on the node
abbrev pub filled : OwnMessage → List ℤ → RegistersSeen → RegistersSeen
filled m values g = record g { ins = slice_set g.ins m.number (replicate (length m.consumers) (Some values)) }

-- the in register of the consumer of a message at a place
abbrev pub register_at : List InRow → OwnMessage → ℕ → Option (List ℤ)
register_at ins m c = slice_index_or (row_of ins m.number) c None

-- the in registers of all consumers of a message on the node are full
abbrev pub all_full : List InRow → OwnMessage → Bool
all_full ins m = list_all (λ c. is_some (register_at ins m c)) (below (length m.consumers))

-- the in register of a task for a message, where it consumes the message
abbrev pub register_in : List InRow → OwnMessage → Option ℕ → Option (List ℤ)
register_in ins m None = None
register_in ins m (Some c) = register_at ins m c

abbrev pub register_of : List InRow → ℕ → OwnMessage → Option (List ℤ)
register_of ins task m = register_in ins m (consumer_place task m)

-- the inputs from the register at a place: one per producer, absent where the register is empty
abbrev pub inputs_at : List InRow → OwnMessage → Option ℕ → List (Option ℤ)
inputs_at ins m None = []
inputs_at ins m (Some c) = given (length m.producers) (register_at ins m c)

-- the inputs of a task from a message
abbrev pub inputs_from : List InRow → ℕ → OwnMessage → List (Option ℤ)
inputs_from ins task m = inputs_at ins m (consumer_place task m)

-- the inputs of a task, by the messages that it consumes, in order of their numbers
abbrev pub inputs_of : List InRow → ℕ → List OwnMessage → List (Option ℤ)
inputs_of ins task messages = flat_map (inputs_from ins task) messages

-- the in registers without that of the consumer at a place
abbrev pub emptied_at : List InRow → OwnMessage → Option ℕ → List InRow
emptied_at ins m None = ins
emptied_at ins m (Some c) = slice_set ins m.number (slice_set (row_of ins m.number) c None)

-- the in registers without that of a task for a message
abbrev pub emptied_for : ℕ → List InRow → OwnMessage → List InRow
emptied_for task ins m = emptied_at ins m (consumer_place task m)

-- a start takes the in registers of its task, which empties them, and begins a run
abbrev pub begun : ℕ → ℤ → List OwnMessage → RegistersSeen → RegistersSeen
begun task value messages g = record { outs = g.outs; ins = fold (emptied_for task) g.ins messages; run = Some (record { task = task; value = value }) }

-- the value of the run in progress of a task
abbrev pub value_at_end : ℕ → Option Run → Option ℤ
value_at_end task None = None
value_at_end task (Some r) = cond (nat_eq r.task task) (Some r.value) None

-- an end puts the value of the task's run in its out register; where no run of the task is in progress nothing changes
abbrev pub ended_with : ℕ → Option ℤ → RegistersSeen → RegistersSeen
ended_with task None g = g
ended_with task (Some value) g = record { outs = slice_set g.outs task (Some value); ins = g.ins; run = None }
