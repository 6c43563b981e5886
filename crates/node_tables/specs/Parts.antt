-- A node's table is its part of the plans
use Rattle.std.specs.Prelude.{ℕ, map, unsigned_abs, pos}
use Rattle.sched_model.specs.Numbers.{natural}
use Rattle.sched_model.specs.PlainMode.{hyper}
use Rattle.runtime_model.specs.NodeTables.{PlainOwnTask, PlainOwnMessage, PlainOwnSlot, PlainOwnRound, PlainModeTable, PlainNodeTable, own_tasks, own_messages, own_rounds}
use Rattle.runtime_model.specs.Plans.{Plan}
use Rattle.node_tables.specs.declared.tables.NodeTable.{NodeTable}
use Rattle.node_tables.specs.declared.tables.ModeTable.{ModeTable}
use Rattle.node_tables.specs.declared.tables.OwnTask.{OwnTask}
use Rattle.node_tables.specs.declared.tables.OwnMessage.{OwnMessage}
use Rattle.node_tables.specs.declared.tables.OwnRound.{OwnRound}
use Rattle.node_tables.specs.declared.tables.OwnSlot.{OwnSlot}

-- ---- a table in plain numbers

abbrev pub plain_task : OwnTask → PlainOwnTask
plain_task t = record { number = t.number; period = unsigned_abs t.period; offset = natural t.offset; wcet = unsigned_abs t.wcet }

abbrev pub plain_message : OwnMessage → PlainOwnMessage
plain_message m = record { number = m.number; role = m.role; producers = m.producers; consumers = m.consumers }

abbrev pub plain_slot : OwnSlot → PlainOwnSlot
plain_slot s = record { slot = s.slot; message = s.message; release = s.release; copy = s.copy }

abbrev pub plain_round : OwnRound → PlainOwnRound
plain_round r = record { start = natural r.start; slots = map plain_slot r.slots }

abbrev pub plain_mode : ModeTable → PlainModeTable
plain_mode m = record { hyper = unsigned_abs m.hyper; first_round = m.first_round; tasks = map plain_task m.tasks; messages = map plain_message m.messages; rounds = map plain_round m.rounds }

-- the table in plain numbers. Of a table whose fields are in their ranges it says all
abbrev pub plain_table : NodeTable → PlainNodeTable
plain_table t = record { node = t.node; modes = map plain_mode t.modes }

-- ---- the table with these plain numbers

abbrev pub typed_task : PlainOwnTask → OwnTask
typed_task t = record { number = t.number; period = pos t.period; offset = pos t.offset; wcet = pos t.wcet }

abbrev pub typed_message : PlainOwnMessage → OwnMessage
typed_message m = record { number = m.number; role = m.role; producers = m.producers; consumers = m.consumers }

abbrev pub typed_slot : PlainOwnSlot → OwnSlot
typed_slot s = record { slot = s.slot; message = s.message; release = s.release; copy = s.copy }

abbrev pub typed_round : PlainOwnRound → OwnRound
typed_round r = record { start = pos r.start; slots = map typed_slot r.slots }

abbrev pub typed_mode : PlainModeTable → ModeTable
typed_mode m = record { hyper = pos m.hyper; first_round = m.first_round; tasks = map typed_task m.tasks; messages = map typed_message m.messages; rounds = map typed_round m.rounds }

-- the table with these numbers: there is one
abbrev pub typed_table : PlainNodeTable → NodeTable
typed_table t = record { node = t.node; modes = map typed_mode t.modes }

-- the part of node v of one plan, whose first round has this number over the file
abbrev pub part_in : ℕ → ℕ → Plan → PlainModeTable
part_in first v p = record { hyper = hyper p.mode; first_round = first; tasks = own_tasks p v; messages = own_messages p v; rounds = own_rounds p v }
