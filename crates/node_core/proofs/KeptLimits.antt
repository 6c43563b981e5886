-- Each rule keeps what holds of every node
use Rattle.std.proofs.Common.{◌≡◌, ℕ, Bool, true, false, cond, nat_eq, List, Option, Some, None, ℤ, pos, ◌+ℤ◌, ◌-ℤ◌, ◌≤ℤ◌, ◌<ℤ◌, refl, sym, subst, arith}
use Rattle.std.specs.Prelude.{int_lt}
use Rattle.std.proofs.lemmas.Bool.{eqb-true}
use Rattle.std.proofs.lemmas.Int.{ints}
use Rattle.beacon_codec.specs.declared.packet.Beacon.{Beacon}
use Rattle.node_tables.specs.declared.tables.NodeTable.{NodeTable}
use Rattle.node_tables.specs.declared.tables.OwnMessage.{OwnMessage}
use Rattle.node_core.specs.declared.packet.Packet.{Packet}
use Rattle.node_core.specs.Lookup.{mode_at, mode_of_round, is_taken}
use Rattle.node_core.specs.Registers.{RegistersSeen, no_registers, filled, begun, ended_with}
use Rattle.node_core.specs.Running.{RunningNode, mode_of}
use Rattle.node_core.specs.Rules.{at_round, round_in, first_heard, heard, coasted, passed, turned, copy_of_slot, takes_copy, message_of_slot, registers_with, starts, end_answer}
use Rattle.node_core.specs.Conditions.{MayHear, MayMiss, MayPass, MayReceive}
use Rattle.node_core.specs.Fits.{TableFits, SpotFits, InsFit, HasRoom, NodeFits}
use Rattle.node_core.specs.Laws.{KeptByRules}
use Rattle.node_core.proofs.NodeLemmas.{spot_fits, round_in_mode, no_ins_fit, next_round_known, pass_bounds}
use Rattle.node_core.proofs.RegisterLemmas.{emptied_room, filled_room, begun_room, ended_room}
use Rattle.node_core.proofs.MessageLemmas.{received_fits}
use Rattle.node_core.proofs.InputLemmas.{taken_fit}

-- ---- beacons

at_round_fits : (t : NodeTable) (b : Beacon) (g : RegistersSeen) → TableFits t → MayHear t b → InsFit (mode_at t (mode_of_round t b.round)).messages g.ins → HasRoom g → NodeFits (at_round t b (mode_of_round t b.round) g)
at_round_fits t b g fits may ins room = record {
  table = fits;
  spot = spot_fits t fits (mode_of_round t b.round) (round_in t (mode_of_round t b.round) b) may.known (round_in_mode t b.round may.known).1;
  ins = ins;
  room = room;
}

first_fits : (t : NodeTable) (b : Beacon) → TableFits t → MayHear t b → NodeFits (first_heard t b)
first_fits t b fits may = at_round_fits t b no_registers fits may (no_ins_fit (mode_at t (mode_of_round t b.round)).messages) (emptied_room no_registers refl)

-- the registers that a beacon leaves
left_fit : (n : RunningNode) (mode : ℕ) (same : Bool) → nat_eq mode n.mode ≡ same → NodeFits n → InsFit (mode_at n.table mode).messages (cond same n.registers no_registers).ins
left_fit n mode true e fits = subst (λ (i : ℕ). InsFit (mode_at n.table i).messages n.registers.ins) (sym (eqb-true mode n.mode e)) fits.ins
left_fit n mode false e fits = no_ins_fit (mode_at n.table mode).messages

left_room : (same : Bool) (g : RegistersSeen) → HasRoom g → HasRoom (cond same g no_registers)
left_room true g room = room
left_room false g room = emptied_room no_registers refl

heard_fits : (n : RunningNode) (b : Beacon) → NodeFits n → MayHear n.table b → NodeFits (heard n b)
heard_fits n b fits may =
    let mode = mode_of_round n.table b.round in
    at_round_fits n.table b (cond (nat_eq mode n.mode) n.registers no_registers) fits.table may (left_fit n mode (nat_eq mode n.mode) refl fits) (left_room (nat_eq mode n.mode) n.registers fits.room)

coasted_fits : (n : RunningNode) → NodeFits n → MayMiss n → NodeFits (coasted n)
coasted_fits n fits may = record {
  table = fits.table;
  spot = record { mode_known = fits.spot.mode_known; round_known = next_round_known n fits; from_zero = fits.spot.from_zero; below = fits.spot.below };
  ins = fits.ins;
  room = fits.room;
}

-- ---- ticks

at_tick : (n : RunningNode) (tick : ℤ) → NodeFits n → pos 0 ≤ℤ tick → tick <ℤ (mode_of n).hyper → SpotFits n.table n.mode n.round tick
at_tick n tick fits low high = record { mode_known = fits.spot.mode_known; round_known = fits.spot.round_known; from_zero = low; below = high }

turned_ins : (b : Bool) (messages : List OwnMessage) (g : RegistersSeen) → InsFit messages g.ins → InsFit messages (cond b no_registers g).ins
turned_ins true messages g fits = no_ins_fit messages
turned_ins false messages g fits = fits

turned_room : (b : Bool) (g : RegistersSeen) → HasRoom g → HasRoom (cond b no_registers g)
turned_room true g room = emptied_room no_registers refl
turned_room false g room = room

turned_fits : (n : RunningNode) (tick : ℤ) → NodeFits n → pos 0 ≤ℤ tick → tick <ℤ (mode_of n).hyper → NodeFits (turned n tick)
turned_fits n tick fits low high = record {
  table = fits.table;
  spot = at_tick n tick fits low high;
  ins = turned_ins n.draining (mode_of n).messages n.registers fits.ins;
  room = turned_room n.draining n.registers fits.room;
}

within : (a b : ℤ) → int_lt a b ≡ true → a <ℤ b
within a b e = grind (arith, ints)

over : (a b : ℤ) → int_lt a b ≡ false → b ≤ℤ a
over a b e = grind (arith, ints)

moved : (n : RunningNode) (ticks : ℤ) (x : RunningNode) (test : Bool) → int_lt (n.tick +ℤ ticks) (mode_of n).hyper ≡ test → NodeFits n → MayPass n ticks → ((n.tick +ℤ ticks) <ℤ (mode_of n).hyper → NodeFits x) → NodeFits (cond test x (turned n ((n.tick +ℤ ticks) -ℤ (mode_of n).hyper)))
moved n ticks x true e fits may here = here (within (n.tick +ℤ ticks) (mode_of n).hyper e)
moved n ticks x false e fits may here =
    let b = pass_bounds n ticks (mode_of n).hyper fits may refl in
    let beyond = over (n.tick +ℤ ticks) (mode_of n).hyper e in
    turned_fits n ((n.tick +ℤ ticks) -ℤ (mode_of n).hyper) fits (omega (arith, ints, beyond)) (omega (arith, ints, b.sum_high))

passed_fits : (n : RunningNode) (ticks : ℤ) → NodeFits n → MayPass n ticks → NodeFits (passed n ticks)
passed_fits n ticks fits may = moved n ticks _ (int_lt (n.tick +ℤ ticks) (mode_of n).hyper) refl fits may (λ high. record {
  table = fits.table;
  spot = at_tick n (n.tick +ℤ ticks) fits (omega (arith, ints, fits.spot.from_zero, may.low)) high;
  ins = fits.ins;
  room = fits.room;
})

-- ---- packets and runs

with_registers : (n : RunningNode) (g : RegistersSeen) → NodeFits n → InsFit (mode_of n).messages g.ins → HasRoom g → NodeFits (record n { registers = g })
with_registers n g fits ins room = record { table = fits.table; spot = fits.spot; ins = ins; room = room }

pub taken_or_not : (n : RunningNode) (slot : ℕ) (packet : Packet) (m : OwnMessage) (taken : Bool) → NodeFits n → MayReceive n slot packet → message_of_slot n slot ≡ Some m → NodeFits (record n { registers = cond taken (filled m packet.values n.registers) n.registers })
taken_or_not n slot packet m true fits may e = with_registers n (filled m packet.values n.registers) fits (received_fits n slot packet m fits may e) (filled_room m packet.values n.registers fits.room)
taken_or_not n slot packet m false fits may e = fits

received_by : (n : RunningNode) (slot : ℕ) (packet : Packet) (o : Option OwnMessage) → message_of_slot n slot ≡ o → NodeFits n → MayReceive n slot packet → NodeFits (record n { registers = registers_with (copy_of_slot n slot) o packet n.registers })
received_by n slot packet None e fits may = fits
received_by n slot packet (Some m) e fits may = taken_or_not n slot packet m (takes_copy n.registers (copy_of_slot n slot) m) fits may e

started_or_not : (n : RunningNode) (task : ℕ) (value : ℤ) (performed : Bool) → NodeFits n → NodeFits (cond performed (record n { registers = begun task value (mode_of n).messages n.registers }) n)
started_or_not n task value true fits = with_registers n (begun task value (mode_of n).messages n.registers) fits (taken_fit (mode_of n).messages task n.registers.ins (mode_of n).messages fits.ins) (begun_room task value (mode_of n).messages n.registers fits.room)
started_or_not n task value false fits = fits

ended_ins : (messages : List OwnMessage) (task : ℕ) (o : Option ℤ) (g : RegistersSeen) → InsFit messages g.ins → InsFit messages (ended_with task o g).ins
ended_ins messages task None g fits = fits
ended_ins messages task (Some value) g fits = fits

pub kept_by_rules : KeptByRules
kept_by_rules = record {
  first = first_fits;
  hearing = heard_fits;
  coasting = coasted_fits;
  passing = passed_fits;
  receiving = λ n slot packet fits may. received_by n slot packet (message_of_slot n slot) refl fits may;
  starting = λ n task value fits may. started_or_not n task value (starts n task) fits;
  ending = λ n task fits. with_registers n (ended_with task (end_answer n task) n.registers) fits (ended_ins (mode_of n).messages task (end_answer n task) n.registers fits.ins) (ended_room task (end_answer n task) n.registers fits.room);
}
