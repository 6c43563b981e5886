-- Every node stays within the limits of its table
use Rattle.std.proofs.Common.{◌≡◌, ℕ, ◌<◌, ◌≤◌, Bool, true, false, cond, length, refl, ap, subst, arith, ⊎_elim, ℤ}
use Rattle.std.specs.Prelude.{nat_eq, Some}
use Rattle.std.proofs.Math.ListN.{get_or-eq_default}
use Rattle.std.proofs.lemmas.Bool.{cases_lt}
use Rattle.std.proofs.lemmas.List.Elements.{recursion_from_All}
use Rattle.std.proofs.lemmas.Option.{same_Some}
use Rattle.sched_model.specs.PlainMode.{task_at}
use Rattle.beacon_codec.specs.declared.packet.Beacon.{Beacon}
use Rattle.runtime_model.specs.Plans.{Plan, RightPlan}
use Rattle.runtime_model.specs.System.{System}
use Rattle.node_tables.specs.declared.tables.NodeTable.{NodeTable}
use Rattle.node_tables.specs.declared.tables.ModeTable.{ModeTable}
use Rattle.node_tables.specs.declared.tables.OwnTask.{OwnTask}
use Rattle.node_core.specs.declared.packet.Packet.{Packet}
use Rattle.node_core.specs.declared.states.Missed.TheVariants.{Coasted, StoodDown}
use Rattle.node_core.specs.Fits.{TableFits, NodeFits, HasRoom}
use Rattle.node_core.specs.Lookup.{mode_at, no_mode}
use Rattle.node_core.specs.PartLookups.{PartLooksUp, kept_task}
use Rattle.node_core.specs.Rules.{announced, coasted}
use Rattle.node_core.specs.Running.{RunningNode}
use Rattle.node_core.proofs.KeptLimits.{kept_by_rules}
use Rattle.node_core.proofs.NodeLemmas.{mode_fits}
use Rattle.node_core.proofs.MessageLemmas.{found_is}
use Rattle.world_core.specs.declared.state.State.{State}
use Rattle.world_core.specs.declared.state.State.TheVariants.{Listens, Syncs, Coasts}
use Rattle.world_core.specs.NodeStates.{StateFits, MayHearNow, MayMissNow, MayPassNow, MayReceiveNow, MayStartNow, after_beacon, after_end, after_missed, after_packet, after_restart, after_start, after_ticks, running_of, state_left}
use Rattle.world_core.specs.Nodes.{MayHearOrMiss, heard_or_missed}
use Rattle.world_core.specs.Standing.{IsOn}

pub running_fits : (n : State) → StateFits n → (r : RunningNode) → running_of n ≡ Some r → NodeFits r
running_fits (Listens t) f r e = absurd (grind (arith, e))
running_fits (Syncs n) f r e = subst NodeFits (same_Some n r e) f
running_fits (Coasts n) f r e = subst NodeFits (same_Some n r e) f

pub has_room : (n : State) → StateFits n → (r : RunningNode) → running_of n ≡ Some r → HasRoom r.registers
has_room n f r e = (running_fits n f r e).room

-- ---- each call keeps it

pub heard_fits : (n : State) (b : Beacon) → StateFits n → MayHearNow n b → StateFits (after_beacon n b)
heard_fits (Listens t) b f may = kept_by_rules.first t b f may
heard_fits (Syncs n) b f may = kept_by_rules.hearing n b f may
heard_fits (Coasts n) b f may = kept_by_rules.hearing n b f may

pub missed_fits : (n : State) → StateFits n → MayMissNow n → StateFits (after_missed n)
missed_fits (Listens t) f may = f
missed_fits (Syncs n) f may = by_test (announced n)
  where
    by_test : (b : Bool) → StateFits (state_left (cond b (StoodDown n.table) (Coasted (coasted n))))
    by_test true = f.table
    by_test false = kept_by_rules.coasting n f may
missed_fits (Coasts n) f may = f.table

pub told_fits : (n : State) (hears : Bool) (b : Beacon) → StateFits n → MayHearOrMiss hears b n → StateFits (heard_or_missed hears b n)
told_fits n true b f may = heard_fits n b f (may.0 refl)
told_fits n false b f may = missed_fits n f (may.1 refl)

pub restart_fits : (n : State) → StateFits n → StateFits (after_restart n)
restart_fits (Listens t) f = f
restart_fits (Syncs n) f = f.table
restart_fits (Coasts n) f = f.table

pub ticks_fit : (n : State) (ticks : ℤ) → StateFits n → MayPassNow n ticks → StateFits (after_ticks n ticks)
ticks_fit (Listens t) ticks f may = f
ticks_fit (Syncs n) ticks f may = kept_by_rules.passing n ticks f may
ticks_fit (Coasts n) ticks f may = kept_by_rules.passing n ticks f may

pub packet_fits : (n : State) (number : ℕ) (x : Packet) → StateFits n → MayReceiveNow n number x → StateFits (after_packet n number x)
packet_fits (Listens t) number x f may = f
packet_fits (Syncs n) number x f may = kept_by_rules.receiving n number x f may
packet_fits (Coasts n) number x f may = f

pub start_fits : (n : State) (task : ℕ) (value : ℤ) → StateFits n → MayStartNow n task → StateFits (after_start n task value)
start_fits (Listens t) task value f may = f
start_fits (Syncs n) task value f may = kept_by_rules.starting n task value f may
start_fits (Coasts n) task value f may = kept_by_rules.starting n task value f may

pub end_fits : (n : State) (task : ℕ) → StateFits n → StateFits (after_end n task)
end_fits (Listens t) task f = f
end_fits (Syncs n) task f = kept_by_rules.ending n task f
end_fits (Coasts n) task f = kept_by_rules.ending n task f

-- ---- numbers of tasks

-- the number of a task on a node whose table is within the limits
pub number_small : (y : System) (v m a : ℕ) (p : Plan) (t : NodeTable) → RightPlan y.nodes p → PartLooksUp y.plans v m p t → TableFits t → IsOn p v a → (task_at p.mode a).number < 1024
number_small y v m a p t ok part fits on =
    let is = part.task a on.0 on.1 in
    let number = (task_at p.mode a).number in
    found_is (λ (x : OwnTask). nat_eq x.number number) (λ x. x.number < 1024) (mode_at t m).tasks (kept_task p a)
    (recursion_from_All (λ x. x.number < 1024) (mode_at t m).tasks (mode_fits t fits m known).tasks) is
  where
    known : m < length t.modes
    known = ⊎_elim (λ (h : m < length t.modes). h)
        (λ (past : length t.modes ≤ m).
        let none : mode_at t m ≡ no_mode = get_or-eq_default t.modes no_mode past in
        absurd (omega (arith, part.rounds, ap (λ (x : ModeTable). length x.rounds) none, ok.right.shape.some, ok.right.shape.starts)))
        (cases_lt m (length t.modes))
