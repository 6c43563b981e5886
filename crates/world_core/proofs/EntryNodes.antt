-- A node at the next entry, once the ticks up to it have passed
use Rattle.std.proofs.Common.{◌≡◌, ℕ, ◌+◌, List, false, pos}
use Rattle.std.specs.Prelude.{nat_eq, Some}
use Rattle.runtime_model.specs.Timeline.{drains}
use Rattle.runtime_model.specs.Outcomes.{Step}
use Rattle.runtime_model.specs.LookingBack.{synced, settled, coasts, last_heard, last_beacon}
use Rattle.runtime_model.specs.NodeKinds.{kind_by}
use Rattle.runtime_model.specs.NodeTables.{part_of}
use Rattle.runtime_model.specs.System.{System, plan_at}
use Rattle.runtime_model.specs.HostOfEvents.{beacon_place}
use Rattle.runtime_model.specs.History.{spot_next, entry_at, moment}
use Rattle.mode_change.specs.HostSeen.{plain_beacon}
use Rattle.node_tables.specs.Parts.{typed_table}
use Rattle.node_core.specs.Running.{RunningNode}
use Rattle.world_core.specs.declared.state.State.{State}
use Rattle.world_core.specs.NodeStates.{table_of, registers_of, running_of}
use Rattle.world_core.specs.Standing.{kind_of, KeepsRegisters}

-- Where a running node is at the next entry, with d the last beacon so far: it is in d's round and mode, at the tick of the entry.
-- In the hyperperiod of d it knows whether that opens and drains; once it has turned it is neither opening nor draining
pub record IsAtEntry (y : System) (ds : List Step) (d : Step) (n : RunningNode) : Type 0 where
  pub mode : n.mode ≡ d.spot.hyper.mode
  pub round : n.round ≡ beacon_place y d d.out
  pub tick : n.tick ≡ pos (entry_at y (spot_next y ds)).tick
  pub at_beacon : n.at_beacon ≡ nat_eq ((spot_next y ds).begin + (entry_at y (spot_next y ds)).tick) (moment y d)
  pub same : (spot_next y ds).begin ≡ d.spot.begin → (n.opening ≡ d.spot.hyper.opening) × (n.draining ≡ drains d.spot.hyper.phase)
  pub turned : ((spot_next y ds).begin ≡ d.spot.begin → ⊥) → (n.opening ≡ false) × (n.draining ≡ false)

-- the node at the next entry, before it is performed: its registers are those of the stay and the mode of that entry
pub record EntryNode (y : System) (v : ℕ) (ds : List Step) (n : State) : Type 0 where
  pub table : table_of n ≡ typed_table (part_of y.plans v)
  pub kind : kind_of n ≡ kind_by (synced v ds) (settled v ds) (coasts v ds)
  pub heard : (r : RunningNode) → running_of n ≡ Some r → last_heard v ds ≡ Some (plain_beacon r.heard)
  pub place : (r : RunningNode) → running_of n ≡ Some r → (d : Step) × (last_beacon ds ≡ Some d) × IsAtEntry y ds d r
  pub registers : let s = spot_next y ds in KeepsRegisters (plan_at y s.hyper.mode) v s.stay ds (registers_of n)
