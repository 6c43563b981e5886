-- Where a node stands
use Rattle.std.proofs.Common.{◌≡◌, ℕ, zero, suc, replicate, ◌+◌, ◌-◌, ◌<◌, ◌≤◌, Bool, true, false, cond, not, ◌&&◌, nat_eq, ap, nat_lt, nat_le, List, [], length, get_or, Option, Some, None, unwrap_or, ℤ, pos, ◌+ℤ◌, ◌-ℤ◌, ◌≤ℤ◌, ◌<ℤ◌, refl, sym, subst, arith}
use Rattle.std.specs.Prelude.{int_lt}
use Rattle.std.specs.List.{AllPairs, position}
use Rattle.std.specs.Ordering.{int_eq}
use Rattle.std.proofs.lemmas.Bool.Decides.{nat_tests}
use Rattle.std.proofs.lemmas.Int.{ints}
use Rattle.std.proofs.lemmas.List.Quantifiers.{position-Some}
use Rattle.beacon_codec.specs.declared.packet.Beacon.{Beacon}
use Rattle.node_tables.specs.declared.tables.NodeTable.{NodeTable}
use Rattle.node_tables.specs.declared.tables.ModeTable.{ModeTable}
use Rattle.node_tables.specs.declared.tables.OwnRound.{OwnRound}
use Rattle.node_tables.specs.declared.tables.OwnMessage.{OwnMessage}
use Rattle.node_core.specs.Lookup.{mode_at, no_mode, round_at, no_round, has_round, mode_of_round}
use Rattle.node_core.specs.Registers.{InRow, RegistersSeen, no_ins, no_registers, row_of}
use Rattle.node_core.specs.Running.{RunningNode, mode_of}
use Rattle.node_core.specs.Rules.{at_round, first_heard, heard, in_last_round, next_round, has_turned, next_start, passed, turned}
use Rattle.node_core.specs.Conditions.{MayPass}
use Rattle.node_core.specs.Fits.{IsBefore, IsTaskBefore, TableFits, ModeFits, StartFits, SpotFits, RowFits, InsFit, NodeFits}

-- a mode of a table within the limits is within them
pub mode_fits : (t : NodeTable) → TableFits t → (i : ℕ) → i < length t.modes → ModeFits (mode_at t i)
mode_fits t fits i l = fits.modes i no_mode l

-- so its tasks and messages ascend
pub messages_ascend : (t : NodeTable) → TableFits t → (i : ℕ) → i < length t.modes → (m : ModeTable) → m ≡ mode_at t i → AllPairs IsBefore m.messages
messages_ascend t fits i l m is = subst (λ (x : ModeTable). AllPairs IsBefore x.messages) (sym is) (mode_fits t fits i l).ascending

pub tasks_ascend : (t : NodeTable) → TableFits t → (i : ℕ) → i < length t.modes → (m : ModeTable) → m ≡ mode_at t i → AllPairs IsTaskBefore m.tasks
tasks_ascend t fits i l m is = subst (λ (x : ModeTable). AllPairs IsTaskBefore x.tasks) (sym is) (mode_fits t fits i l).tasks_ascending

-- so is the start of a round
pub start_fits : (m : ModeTable) → ModeFits m → (j : ℕ) → j < length m.rounds → StartFits m.hyper (round_at m j)
start_fits m fits j l = fits.starts j no_round l

-- a round stands at its start
pub spot_fits : (t : NodeTable) → TableFits t → (i j : ℕ) → i < length t.modes → j < length (mode_at t i).rounds → SpotFits t i j (round_at (mode_at t i) j).start
spot_fits t fits i j l k =
    let s = start_fits (mode_at t i) (mode_fits t fits i l) j k in
    record { mode_known = l; round_known = k; from_zero = s.low; below = s.high }

found_round : (modes : List ModeTable) (number : ℕ) (o : Option ℕ) → position (has_round number) modes ≡ o → unwrap_or o (length modes) < length modes → has_round number (get_or modes (unwrap_or o (length modes)) no_mode) ≡ true
found_round modes number None e l = absurd (omega (arith, l))
found_round modes number (Some i) e l = (position-Some (has_round number) modes i no_mode e).1

-- the mode of a round that is in the table has it
pub known_round : (t : NodeTable) (number : ℕ) → mode_of_round t number < length t.modes → has_round number (mode_at t (mode_of_round t number)) ≡ true
known_round t number l = found_round t.modes number (position (has_round number) t.modes) refl l

in_range : (first count number : ℕ) → (nat_le first number && nat_lt number (first + count)) ≡ true → (first ≤ number) × (number - first < count)
in_range first count number h = grind (arith, nat_tests)

-- such a round is not before the mode's first one, and among its rounds
pub round_in_mode : (t : NodeTable) (number : ℕ) → mode_of_round t number < length t.modes → ((mode_at t (mode_of_round t number)).first_round ≤ number) × (number - (mode_at t (mode_of_round t number)).first_round < length (mode_at t (mode_of_round t number)).rounds)
round_in_mode t number l = in_range (mode_at t (mode_of_round t number)).first_round (length (mode_at t (mode_of_round t number)).rounds) number (known_round t number l)

-- the spot of a round, as the code comes to it
pub round_at_place : (t : NodeTable) (number i : ℕ) (m : ModeTable) → i ≡ mode_of_round t number → m ≡ mode_at t i → mode_of_round t number < length t.modes → (m.first_round ≤ number) × (number - m.first_round < length m.rounds)
round_at_place t number i m e f l = rw (f, e) (round_in_mode t number l)

pub spot_at : (t : NodeTable) → TableFits t → (number i : ℕ) (m : ModeTable) (r : OwnRound) → i ≡ mode_of_round t number → m ≡ mode_at t i → r ≡ round_at m (number - m.first_round) → mode_of_round t number < length t.modes → SpotFits t i (number - m.first_round) r.start
spot_at t fits number i m r e f g l = rw (g, f, e) (spot_fits t fits (mode_of_round t number) (number - (mode_at t (mode_of_round t number)).first_round) l (round_in_mode t number l).1)

-- empty registers fit
empty_row : (n message : ℕ) → ◌≡◌ {A = InRow} (get_or (replicate n []) message []) []
empty_row zero message = refl
empty_row (suc n) zero = refl
empty_row (suc n) (suc message) = empty_row n message

no_row : (message : ℕ) → row_of no_ins message ≡ []
unfolding no_ins
no_row message = empty_row 512 message

pub no_ins_fit : (messages : List OwnMessage) → InsFit messages no_ins
no_ins_fit messages m found = subst (λ (row : InRow). RowFits (length m.producers) row) (sym (no_row m.number)) (λ k d l. absurd (omega (arith, l)))

pub emptied_fit : (messages : List OwnMessage) (g : RegistersSeen) → g ≡ no_registers → InsFit messages g.ins
emptied_fit messages g e = subst (λ (h : RegistersSeen). InsFit messages h.ins) (sym e) (no_ins_fit messages)

same_empty : (b : Bool) (g : RegistersSeen) → g ≡ no_registers → cond b g no_registers ≡ no_registers
same_empty true g e = e
same_empty false g e = refl

-- a node without registers is after a beacon as one that hears its first
pub heard_empty : (n : RunningNode) (b : Beacon) → n.registers ≡ no_registers → heard n b ≡ first_heard n.table b
heard_empty n b e = ap (λ (g : RegistersSeen). at_round n.table b (mode_of_round n.table b.round) g) (same_empty (nat_eq (mode_of_round n.table b.round) n.mode) n.registers e)

-- a node before it hears a beacon
pub first_spot_fits : (t : NodeTable) → TableFits t → SpotFits t 0 0 (pos 0)
first_spot_fits t fits =
    let some : 0 < length t.modes = omega (arith, fits.some) in
    let m = mode_fits t fits 0 some in
    record { mode_known = some; round_known = omega (arith, m.some_round); from_zero = omega (arith, ints); below = omega (arith, ints, m.some_tick) }

-- ---- ticks

next_known : (b : Bool) (round rounds : ℕ) → not (nat_lt (suc round) rounds) ≡ b → 1 ≤ rounds → cond b 0 (suc round) < rounds
next_known true round rounds e some = omega (arith, some)
next_known false round rounds e some = grind (arith, nat_tests)

-- the next round is one of the mode's
pub next_round_known : (n : RunningNode) → NodeFits n → next_round n < length (mode_of n).rounds
next_round_known n fits = next_known (in_last_round n) n.round (length (mode_of n).rounds) refl (mode_fits n.table fits.table n.mode fits.spot.mode_known).some_round

at_most : (b : Bool) (start hyper : ℤ) → pos 1 ≤ℤ hyper → start <ℤ hyper → (start +ℤ cond b hyper (pos 0)) <ℤ (hyper +ℤ hyper)
at_most true start hyper some l = omega (arith, ints, some, l)
at_most false start hyper some l = omega (arith, ints, some, l)

-- it starts before the end of the next hyperperiod
pub next_start_below : (n : RunningNode) → NodeFits n → next_start n <ℤ ((mode_of n).hyper +ℤ (mode_of n).hyper)
next_start_below n fits =
    let m = mode_fits n.table fits.table n.mode fits.spot.mode_known in
    at_most (in_last_round n && not (has_turned n)) (round_at (mode_of n) (next_round n)).start (mode_of n).hyper m.some_tick (start_fits (mode_of n) m (next_round n) (next_round_known n fits)).high

before : (a b : ℤ) → a <ℤ b → int_lt a b ≡ true
before a b l = grind (arith, ints)

not_before : (a b : ℤ) → b ≤ℤ a → int_lt a b ≡ false
not_before a b l = grind (arith, ints)

-- ticks within the hyperperiod
pub passed_within : (n : RunningNode) (ticks : ℤ) → (n.tick +ℤ ticks) <ℤ (mode_of n).hyper → record n { tick = n.tick +ℤ ticks; at_beacon = n.at_beacon && int_eq ticks (pos 0) } ≡ passed n ticks
passed_within n ticks l = rw (before (n.tick +ℤ ticks) (mode_of n).hyper l) refl

-- ticks to its end and beyond
pub passed_over : (n : RunningNode) (ticks : ℤ) → (mode_of n).hyper ≤ℤ (n.tick +ℤ ticks) → turned n ((n.tick +ℤ ticks) -ℤ (mode_of n).hyper) ≡ passed n ticks
passed_over n ticks l = rw (not_before (n.tick +ℤ ticks) (mode_of n).hyper l) refl

-- the same as the code comes to it
pub on_within : (n : RunningNode) (ticks tick : ℤ) (b : Bool) → tick ≡ n.tick +ℤ ticks → b ≡ (n.at_beacon && int_eq ticks (pos 0)) → tick <ℤ (mode_of n).hyper → record n { tick = tick; at_beacon = b } ≡ passed n ticks
on_within n ticks tick b e f l = rw (e, f) (passed_within n ticks (subst (λ (z : ℤ). z <ℤ (mode_of n).hyper) e l))

pub on_over : (n : RunningNode) (ticks tick : ℤ) → tick ≡ (n.tick +ℤ ticks) -ℤ (mode_of n).hyper → (mode_of n).hyper ≤ℤ (n.tick +ℤ ticks) → turned n tick ≡ passed n ticks
on_over n ticks tick e l = rw e (passed_over n ticks l)

-- what the code's numbers keep within
pub record PassBounds (tick ticks hyper : ℤ) : Type 0 where
  pub tick_low : pos 0 ≤ℤ tick
  pub tick_high : tick <ℤ hyper
  pub low : pos 0 ≤ℤ ticks
  pub sum_high : (tick +ℤ ticks) <ℤ (hyper +ℤ hyper)
  pub some : pos 1 ≤ℤ hyper
  pub most : hyper ≤ℤ pos 1000000000000

pub pass_bounds : (n : RunningNode) (ticks hyper : ℤ) → NodeFits n → MayPass n ticks → hyper ≡ (mode_of n).hyper → PassBounds n.tick ticks hyper
pass_bounds n ticks hyper fits may e =
    let m = mode_fits n.table fits.table n.mode fits.spot.mode_known in
    let next = next_start_below n fits in
    record {
      tick_low = fits.spot.from_zero;
      tick_high = omega (arith, ints, fits.spot.below, e);
      low = may.low;
      sum_high = omega (arith, ints, next, may.high, e);
      some = omega (arith, ints, m.some_tick, e);
      most = omega (arith, ints, m.most_ticks, e);
    }
