-- Worked rows: what nodes of a loop of three tasks do, computed from the rules.
-- `sense` on node 1 sends `m1` to `ctrl` on node 0, which sends `m2` to `act` on node 2. The tick is that of the hyperperiod, of 100 ticks
use Rattle.std.specs.Prelude.{◌≡◌, ℕ, true, false, [], ◌∷◌, Some, None, ℤ, pos, negsuc}
use Rattle.beacon_codec.specs.declared.packet.Beacon.{Beacon}
use Rattle.task_body.specs.Body.{first_numbers}
use Rattle.task_body.specs.Tally.{answer}
use Rattle.runtime_model.specs.NodeTables.{part_of}
use Rattle.runtime_model.specs.Plans.{plans_of}
use Rattle.node_tables.specs.declared.tables.NodeTable.{NodeTable}
use Rattle.node_tables.specs.declared.tables.ModeTable.{ModeTable}
use Rattle.node_tables.specs.declared.tables.OwnTask.{OwnTask}
use Rattle.node_tables.specs.declared.tables.OwnMessage.{OwnMessage}
use Rattle.node_tables.specs.Parts.{typed_table}
use Rattle.node_tables.specs.TestPlans.{loop_mode, loop_schedule, idle_schedule, set_with}
use Rattle.node_tables.specs.TestPlans as plans_of_tests
use Rattle.node_core.specs.declared.packet.Packet.{Packet}
use Rattle.node_core.specs.Registers.{RegistersSeen, begun, filled, no_registers, row_of}
use Rattle.node_core.specs.Running.{RunningNode}
use Rattle.node_core.specs.Rules.{announced, coasted, end_answer, ended, first_heard, heard, inputs_now, next_start, passed, received, registers_with, sent, start_answer, started, takes, takes_copy}

-- ---- the tables: rounds start at 0 and 23; `m2` has its slot in the first one, for a release one period before, and `m1` in the second one

abbrev pub sense_mode : ModeTable
sense_mode = record {
  hyper = pos 100;
  first_round = 1;
  tasks = record { number = 0; period = pos 100; offset = pos 21; wcet = pos 2 } ∷ [];
  messages = record { number = 0; role = 1; producers = 0 ∷ []; consumers = [] } ∷ [];
  rounds = record { start = pos 0; slots = [] } ∷ record { start = pos 23; slots = record { slot = 1; message = 0; release = pos 0; copy = 1 } ∷ [] } ∷ [];
}

abbrev pub control_mode : ModeTable
control_mode = record {
  hyper = pos 100;
  first_round = 1;
  tasks = record { number = 1; period = pos 100; offset = pos 43; wcet = pos 5 } ∷ [];
  messages = record { number = 0; role = 2; producers = 0 ∷ []; consumers = 1 ∷ [] } ∷ record { number = 1; role = 1; producers = 1 ∷ []; consumers = [] } ∷ [];
  rounds = record { start = pos 0; slots = record { slot = 1; message = 1; release = negsuc 99; copy = 1 } ∷ [] } ∷ record { start = pos 23; slots = record { slot = 1; message = 0; release = pos 0; copy = 1 } ∷ [] } ∷ [];
}

abbrev pub act_mode : ModeTable
act_mode = record {
  hyper = pos 100;
  first_round = 1;
  tasks = record { number = 2; period = pos 100; offset = pos 120; wcet = pos 1 } ∷ [];
  messages = record { number = 1; role = 2; producers = 1 ∷ []; consumers = 2 ∷ [] } ∷ [];
  rounds = record { start = pos 0; slots = record { slot = 1; message = 1; release = negsuc 99; copy = 1 } ∷ [] } ∷ record { start = pos 23; slots = [] } ∷ [];
}

-- a mode of one round, the third of the file, in which a node does nothing
abbrev pub idle_mode : ModeTable
idle_mode = record { hyper = pos 100; first_round = 3; tasks = []; messages = []; rounds = record { start = pos 0; slots = [] } ∷ [] }

abbrev pub sense_table : NodeTable
sense_table = record { node = 1; modes = sense_mode ∷ idle_mode ∷ [] }

abbrev pub control_table : NodeTable
control_table = record { node = 0; modes = control_mode ∷ idle_mode ∷ [] }

abbrev pub act_table : NodeTable
act_table = record { node = 2; modes = act_mode ∷ idle_mode ∷ [] }

-- both are what the nodes keep of right plans: of the loop, and of a mode of one round
abbrev pub TablesAreParts : Type 0
TablesAreParts =
    let plans = plans_of (set_with (loop_mode ∷ plans_of_tests.idle_mode ∷ [])) (loop_schedule ∷ idle_schedule ∷ []) in
    ((typed_table (part_of plans 1) ≡ sense_table) × (typed_table (part_of plans 0) ≡ control_table))

-- ---- the beacons

-- of an opening hyperperiod
abbrev pub opening_beacon : ℕ → Beacon
opening_beacon round = record { round = round; mode = 0; trigger = false; opening = true }

-- of a steady one
abbrev pub steady_beacon : ℕ → Beacon
steady_beacon round = record { round = round; mode = 0; trigger = false; opening = false }

-- of one that warns of a change to mode 1
abbrev pub warning_beacon : ℕ → Beacon
warning_beacon round = record { round = round; mode = 1; trigger = false; opening = false }

-- of one that drains towards mode 1
abbrev pub draining_beacon : ℕ → Beacon
draining_beacon round = record { round = round; mode = 1; trigger = true; opening = false }

-- ---- misses

-- a node that heard the second round's beacon, once the ticks to the next one have passed
abbrev pub before_miss : Beacon → RunningNode
before_miss b = passed (first_heard sense_table b) (pos 77)

-- one that heard no change has come to its next round, in the next hyperperiod, and coasts; its next beacon is that of the second round
abbrev pub Misses : Type 0
Misses =
    (((before_miss (steady_beacon 2)).tick ≡ pos 0)
    × (next_start (before_miss (steady_beacon 2)) ≡ pos 0)
    × (announced (before_miss (steady_beacon 2)) ≡ false)
    × (next_start (coasted (before_miss (steady_beacon 2))) ≡ pos 23)
    × (announced (before_miss (warning_beacon 2)) ≡ true))

-- a node after the first start of a task with the body tally
abbrev pub tally_started : RunningNode → ℕ → RunningNode
tally_started n task = started n task (answer first_numbers task (inputs_now n task))

-- ---- a lost beacon: node 1 misses the beacon of the second round

-- node 1 starts its task, which takes nothing, and its run ends before the second round
abbrev pub sense_started : RunningNode
sense_started = tally_started (passed (first_heard sense_table (opening_beacon 1)) (pos 21)) 0

abbrev pub sense_ended : RunningNode
sense_ended = ended (passed sense_started (pos 2)) 0

abbrev pub SenseRuns : Type 0
SenseRuns =
    ((start_answer (passed (first_heard sense_table (opening_beacon 1)) (pos 21)) 0 ≡ Some [])
    × (end_answer (passed sense_started (pos 2)) 0 ≡ Some (pos 1))
    × (next_start sense_ended ≡ pos 23)
    × (sent (heard sense_ended (opening_beacon 2)) 1 ≡ Some (record { message = 0; values = pos 1 ∷ [] })))

-- node 0, whose slot of the opening hyperperiod's first round is for an earlier release, so that it is not placed
abbrev pub control_second : RunningNode
control_second = heard (passed (first_heard control_table (opening_beacon 1)) (pos 23)) (opening_beacon 2)

-- it takes no packet, and its task finds the in register empty
abbrev pub control_ended : RunningNode
control_ended = ended (passed (tally_started (passed control_second (pos 20)) 1) (pos 5)) 1

-- the next hyperperiod does not open, and the slot is placed
abbrev pub control_third : RunningNode
control_third = heard (passed control_ended (pos 52)) (steady_beacon 1)

abbrev pub ControlSends : Type 0
ControlSends =
    ((sent (first_heard control_table (opening_beacon 1)) 1 ≡ None)
    × (start_answer (passed control_second (pos 20)) 1 ≡ Some (None ∷ []))
    × (end_answer (passed (tally_started (passed control_second (pos 20)) 1) (pos 5)) 1 ≡ Some (pos 1))
    × (sent control_third 1 ≡ Some (record { message = 1; values = pos 1 ∷ [] })))

-- with a packet in the second round it finds the value
abbrev pub TakesAPacket : Type 0
TakesAPacket =
    ((takes control_second 1 ≡ true)
    × (start_answer (passed (received control_second 1 (record { message = 0; values = pos 7 ∷ [] })) (pos 20)) 1 ≡ Some (Some (pos 7) ∷ [])))

-- node 2: its task's start in the opening hyperperiod is of a run that was released before, and is not placed
abbrev pub act_third : RunningNode
act_third = heard (passed (heard (passed (first_heard act_table (opening_beacon 1)) (pos 23)) (opening_beacon 2)) (pos 77)) (steady_beacon 1)

-- it takes the packet and starts its task with it
abbrev pub act_started : RunningNode
act_started = tally_started (passed (received act_third 1 (record { message = 1; values = pos 1 ∷ [] })) (pos 20)) 2

abbrev pub ActRuns : Type 0
ActRuns =
    ((start_answer (passed (first_heard act_table (opening_beacon 1)) (pos 20)) 2 ≡ None)
    × (takes act_third 1 ≡ true)
    × (start_answer (passed (received act_third 1 (record { message = 1; values = pos 1 ∷ [] })) (pos 20)) 2 ≡ Some (Some (pos 1) ∷ []))
    × (end_answer (passed act_started (pos 1)) 2 ≡ Some (pos 2)))

-- ---- what empties registers

-- the same node, whose out register is full: a beacon of the same mode keeps the registers, and one of another mode's round empties them
abbrev pub OtherModeEmpties : Type 0
OtherModeEmpties =
    (((heard control_ended (steady_beacon 1)).registers ≡ control_ended.registers)
    × ((heard control_ended (record { round = 3; mode = 1; trigger = false; opening = true })).registers ≡ no_registers)
    × ((heard control_ended (record { round = 3; mode = 1; trigger = false; opening = true })).mode ≡ 1))

-- the end of a hyperperiod that drains empties them, and that of another one doesn't
abbrev pub DrainEmpties : Type 0
DrainEmpties =
    (((passed control_ended (pos 52)).registers ≡ control_ended.registers)
    × ((passed (record control_ended { draining = true }) (pos 52)).registers ≡ no_registers)
    × ((passed (record control_ended { draining = true }) (pos 52)).draining ≡ false)
    × ((passed control_ended (pos 52)).opening ≡ false))

-- a draining hyperperiod places the slot of an earlier release, and no start of a run that is released in it
abbrev pub DrainPlaces : Type 0
DrainPlaces =
    ((sent (heard control_ended (draining_beacon 1)) 1 ≡ Some (record { message = 1; values = pos 1 ∷ [] }))
    × (start_answer (passed (heard (passed (heard control_ended (draining_beacon 1)) (pos 23)) (draining_beacon 2)) (pos 20)) 1 ≡ None))

-- ---- a message of four producers, in the last slot of a round

-- the producer with this number, which runs for one tick from this offset on
abbrev pub producer : ℕ → ℕ → OwnTask
producer number offset = record { number = number; period = pos 100; offset = pos offset; wcet = pos 1 }

abbrev pub four_table : NodeTable
four_table = record {
  node = 5;
  modes = record {
    hyper = pos 100;
    first_round = 1;
    tasks = producer 0 1 ∷ producer 1 3 ∷ producer 2 5 ∷ producer 1023 7 ∷ [];
    messages = record { number = 511; role = 1; producers = 1023 ∷ 2 ∷ 1 ∷ 0 ∷ []; consumers = [] } ∷ [];
    rounds = record { start = pos 0; slots = [] } ∷ record { start = pos 20; slots = record { slot = 32; message = 511; release = pos 0; copy = 1 } ∷ [] } ∷ [];
  } ∷ [];
}

-- one tick on, the task runs for one tick, and its body answers this value
abbrev pub ran : ℕ → ℤ → RunningNode → RunningNode
ran task value n = ended (passed (started (passed n (pos 1)) task value) (pos 1)) task

abbrev pub three_ran : RunningNode
three_ran = ran 2 (pos 30) (ran 1 (pos 20) (ran 0 (pos 10) (first_heard four_table (opening_beacon 1))))

-- with three of four values nothing is sent; with all four they stand in the order of the message's producers
abbrev pub FourProducers : Type 0
FourProducers =
    ((sent (heard (passed three_ran (pos 14)) (opening_beacon 2)) 32 ≡ None)
    × (sent (heard (passed (ran 1023 (pos 40) three_ran) (pos 12)) (opening_beacon 2)) 32 ≡ Some (record { message = 511; values = pos 40 ∷ pos 30 ∷ pos 20 ∷ pos 10 ∷ [] }))
    × (sent (heard (passed (ran 1023 (pos 40) three_ran) (pos 12)) (opening_beacon 2)) 31 ≡ None))

-- ---- two copies of `m1`, in the rounds at 23 and 43

-- the node of `ctrl`, which starts at 63
abbrev pub double_table : NodeTable
double_table = record {
  node = 0;
  modes = record {
    hyper = pos 100;
    first_round = 1;
    tasks = record { number = 1; period = pos 100; offset = pos 63; wcet = pos 5 } ∷ [];
    messages = record { number = 0; role = 2; producers = 0 ∷ []; consumers = 1 ∷ [] } ∷ record { number = 1; role = 1; producers = 1 ∷ []; consumers = [] } ∷ [];
    rounds = record { start = pos 0; slots = record { slot = 1; message = 1; release = negsuc 99; copy = 1 } ∷ [] }
        ∷ record { start = pos 23; slots = record { slot = 1; message = 0; release = pos 0; copy = 1 } ∷ [] }
        ∷ record { start = pos 43; slots = record { slot = 1; message = 0; release = pos 0; copy = 2 } ∷ [] } ∷ [];
  } ∷ [];
}

-- the packet of `m1` with this value
abbrev pub sample : ℤ → Packet
sample value = record { message = 0; values = value ∷ [] }

-- the node in the round of the first copy, after that copy, and in the round of the second copy
abbrev pub at_first_copy : RunningNode
at_first_copy = heard (passed (first_heard double_table (opening_beacon 1)) (pos 23)) (opening_beacon 2)

abbrev pub with_first_copy : RunningNode
with_first_copy = received at_first_copy 1 (sample (pos 7))

abbrev pub at_second_copy : RunningNode → RunningNode
at_second_copy n = heard (passed n (pos 20)) (opening_beacon 3)

-- a node that has the first copy passes over the second one, and one that has not takes it; a first copy is always taken
abbrev pub OneCopyIsTaken : Type 0
OneCopyIsTaken =
    ((takes at_first_copy 1 ≡ true)
    × (takes with_first_copy 1 ≡ true)
    × (takes (at_second_copy with_first_copy) 1 ≡ false)
    × ((received (at_second_copy with_first_copy) 1 (sample (pos 8))).registers ≡ with_first_copy.registers)
    × (takes (at_second_copy at_first_copy) 1 ≡ true)
    × (start_answer (passed (received (at_second_copy at_first_copy) 1 (sample (pos 8))) (pos 20)) 1 ≡ Some (Some (pos 8) ∷ [])))

-- a message for two tasks of the node
abbrev pub shared_message : OwnMessage
shared_message = record { number = 0; role = 2; producers = 0 ∷ []; consumers = 1 ∷ 4 ∷ [] }

-- its registers after a copy, and after a start of one of the tasks
abbrev pub both_full : RegistersSeen
both_full = filled shared_message (pos 7 ∷ []) no_registers

abbrev pub one_full : RegistersSeen
one_full = begun 4 (pos 1) (shared_message ∷ []) both_full

-- a later copy is passed over only where both are full; where it is taken it fills both
abbrev pub AllConsumersCount : Type 0
AllConsumersCount =
    ((takes_copy both_full 2 shared_message ≡ false)
    × (takes_copy one_full 2 shared_message ≡ true)
    × (row_of (registers_with 2 (Some shared_message) (sample (pos 8)) one_full).ins 0 ≡ Some (pos 8 ∷ []) ∷ Some (pos 8 ∷ []) ∷ []))
