-- An end, a slot and a start leave where a node is
use Rattle.std.proofs.Common.{◌≡◌, ℕ, suc, ◌+◌, ◌-◌, ◌<◌, ◌≤◌, Bool, true, false, cond, ◌||◌, List, [], ◌∷◌, length, get_or, refl, sym, ◌∙◌, ap, subst, arith, ⊎_elim, ℤ, pos}
use Rattle.std.specs.Prelude.{nat_eq, Some}
use Rattle.std.proofs.lemmas.Bool.{eq-eqb, eqb-true}
use Rattle.std.proofs.lemmas.List.Elements.{All-get_or}
use Rattle.sched_model.specs.Numbers.{has}
use Rattle.sched_model.specs.PlainMode.{message_at}
use Rattle.runtime_model.specs.Entries.{slot}
use Rattle.runtime_model.specs.Outcomes.{PlainEvent, advance, Spot, Step}
use Rattle.runtime_model.specs.Laws.{RequestsFit}
use Rattle.runtime_model.specs.LookingBack.{synced, settled, coasts, last_heard, last_beacon}
use Rattle.runtime_model.specs.NodeKinds.{in_sync, kind_by}
use Rattle.runtime_model.specs.NodeTables.{part_of}
use Rattle.runtime_model.specs.Script.{opens_round}
use Rattle.runtime_model.specs.System.{System, plan_at}
use Rattle.runtime_model.specs.History.{history, step_of, last_spot, spot_next, entry_at, moment, now_after}
use Rattle.mode_change.specs.HostSeen.{plain_beacon}
use Rattle.runtime_model.proofs.SlotBeacon.{slots_follow_beacons}
use Rattle.beacon_codec.specs.declared.packet.Beacon.{Beacon}
use Rattle.node_tables.specs.Parts.{typed_table}
use Rattle.node_tables.specs.PartLimits.{FewSlots}
use Rattle.node_core.specs.declared.packet.Packet.{Packet}
use Rattle.node_core.specs.Conditions.{MayUseSlot}
use Rattle.node_core.specs.Registers.{begun}
use Rattle.node_core.specs.Rules.{starts, started}
use Rattle.node_core.specs.Running.{RunningNode, mode_of}
use Rattle.world_core.specs.declared.state.State.{State}
use Rattle.world_core.specs.declared.state.State.TheVariants.{Listens, Syncs, Coasts}
use Rattle.world_core.specs.Cycle.{slot_of}
use Rattle.world_core.specs.NodeStates.{MayUseSlotNow, after_end, after_packet, after_start, registers_of, running_of, table_of}
use Rattle.world_core.specs.Standing.{KeepsRegisters, Knows, KnowsPlace, NodeStands, kind_of}
use Rattle.world_core.proofs.EntryNodes.{EntryNode, IsAtEntry}
use Rattle.world_core.proofs.Entering.{running_is, same_announced}
use Rattle.world_core.proofs.LastBeacons.{InIts, PastIts, past_apart, same_step, where_it_is}
use Rattle.world_core.proofs.QuietSteps.{Quiet, quiet_entry, quiet_heard, quiet_kind, quiet_last}
use Rattle.world_core.proofs.WorldRight.{RightWorld, all, is_mode}

-- ---- nodes that differ in their registers alone

pub record OnlyRegisters (old new : RunningNode) : Type 0 where
  pub table : new.table ≡ old.table
  pub heard : new.heard ≡ old.heard
  pub mode : new.mode ≡ old.mode
  pub round : new.round ≡ old.round
  pub tick : new.tick ≡ old.tick
  pub at_beacon : new.at_beacon ≡ old.at_beacon
  pub opening : new.opening ≡ old.opening
  pub draining : new.draining ≡ old.draining

pub only_itself : (n : RunningNode) → OnlyRegisters n n
only_itself n = record { table = refl; heard = refl; mode = refl; round = refl; tick = refl; at_beacon = refl; opening = refl; draining = refl }

abbrev pub SamePlace : State → State → Type 0
SamePlace (Listens t) (Listens u) = u ≡ t
SamePlace (Syncs n) (Syncs m) = OnlyRegisters n m
SamePlace (Coasts n) (Coasts m) = OnlyRegisters n m
SamePlace (Listens t) (Syncs m) = ⊥
SamePlace (Listens t) (Coasts m) = ⊥
SamePlace (Syncs n) (Listens u) = ⊥
SamePlace (Syncs n) (Coasts m) = ⊥
SamePlace (Coasts n) (Listens u) = ⊥
SamePlace (Coasts n) (Syncs m) = ⊥

pub same_itself : (n : State) → SamePlace n n
same_itself (Listens t) = refl
same_itself (Syncs n) = only_itself n
same_itself (Coasts n) = only_itself n

-- a node that one of these may have happened to
pub same_where : (b : Bool) (n m : State) → SamePlace n m → SamePlace n (cond b m n)
same_where true n m h = h
same_where false n m h = same_itself n

pub same_end : (n : State) (task : ℕ) → SamePlace n (after_end n task)
same_end (Listens t) task = refl
same_end (Syncs n) task = record { table = refl; heard = refl; mode = refl; round = refl; tick = refl; at_beacon = refl; opening = refl; draining = refl }
same_end (Coasts n) task = record { table = refl; heard = refl; mode = refl; round = refl; tick = refl; at_beacon = refl; opening = refl; draining = refl }

pub same_packet : (n : State) (number : ℕ) (packet : Packet) → SamePlace n (after_packet n number packet)
same_packet (Listens t) number packet = refl
same_packet (Syncs n) number packet = record { table = refl; heard = refl; mode = refl; round = refl; tick = refl; at_beacon = refl; opening = refl; draining = refl }
same_packet (Coasts n) number packet = only_itself n

only_started : (n : RunningNode) (task : ℕ) (value : ℤ) → OnlyRegisters n (started n task value)
only_started n task value = by_test (starts n task)
  where
    by_test : (b : Bool) → OnlyRegisters n (cond b (record n { registers = begun task value (mode_of n).messages n.registers }) n)
    by_test true = record { table = refl; heard = refl; mode = refl; round = refl; tick = refl; at_beacon = refl; opening = refl; draining = refl }
    by_test false = only_itself n

pub same_start : (n : State) (task : ℕ) (value : ℤ) → SamePlace n (after_start n task value)
same_start (Listens t) task value = refl
same_start (Syncs n) task value = only_started n task value
same_start (Coasts n) task value = only_started n task value

-- ---- what they leave

-- what a node stands for but its registers
pub record PlaceStands (y : System) (v : ℕ) (ds : List Step) (n : State) : Type 0 where
  pub table : table_of n ≡ typed_table (part_of y.plans v)
  pub kind : kind_of n ≡ kind_by (synced v ds) (settled v ds) (coasts v ds)
  pub knows : (r : RunningNode) → running_of n ≡ Some r → Knows y v ds r

pub with_registers : (y : System) (v : ℕ) (ds : List Step) (n : State) → PlaceStands y v ds n → KeepsRegisters (plan_at y (last_spot ds).hyper.mode) v (last_spot ds).stay ds (registers_of n) → NodeStands y v ds n
with_registers y v ds n p g = record { table = p.table; kind = p.kind; knows = p.knows; registers = g }

module _ (y : System) (w : RightWorld y) (v : ℕ) (es : List PlainEvent) (rf : RequestsFit y es) (lost : ℕ)
    (quiet : opens_round (entry_at y (spot_next y (history y es))).action ≡ false) where
  abbrev ds : List Step
  ds = history y es

  abbrev d' : Step
  d' = step_of y (advance lost) ds

  abbrev s : Spot
  s = spot_next y ds

  calm : Quiet v d'.out
  calm = quiet_entry y v lost ds quiet

  knows_on : (n m : RunningNode) → OnlyRegisters n m → last_heard v ds ≡ Some (plain_beacon n.heard) → (d : Step) → last_beacon ds ≡ Some d → IsAtEntry y ds d n → Knows y v (d' ∷ ds) m
  knows_on n m o heard d last at =
      let last' = quiet_last d' ds calm.no_beacon ∙ last in
      let e = entry_at y s in
      let tick_from : e.tick ≡ now_after y (d' ∷ ds) - s.begin = omega arith in
      let where_at = where_it_is y (all y w) (advance lost ∷ es) rf d last' in
      let place : KnowsPlace y (d' ∷ ds) d m = record {
        mode = o.mode ∙ at.mode;
        round = o.round ∙ at.round;
        at_beacon = o.at_beacon ∙ at.at_beacon;
        begun = λ b. ⊎_elim
            (λ (i : InIts (d' ∷ ds) d).
            let q = at.same i.begin in
            (o.tick ∙ at.tick ∙ ap pos tick_from, o.opening ∙ q.0 ∙ sym i.alike.opening, o.draining ∙ q.1 ∙ sym i.alike.drains))
            (λ (p : PastIts y (d' ∷ ds) d). absurd (let x : true ≡ false = sym b ∙ p.begun in cc))
            where_at;
        turned = λ b. ⊎_elim
            (λ (i : InIts (d' ∷ ds) d). absurd (let x : true ≡ false = sym i.begun ∙ b in cc))
            (λ (p : PastIts y (d' ∷ ds) d).
            let q = at.turned (past_apart y (d' ∷ ds) d p) in
            (o.tick ∙ at.tick ∙ ap pos (let z : e.tick ≡ 0 = omega (arith, p.now) in z), o.opening ∙ q.0, o.draining ∙ q.1))
            where_at;
      } in
      record { heard = quiet_heard v d' ds calm.no_beacon ∙ heard ∙ ap (λ (b : Beacon). Some (plain_beacon b)) (sym o.heard); place = (d, last', place) }

  pub kept_place : (n m : State) → EntryNode y v ds n → SamePlace n m → PlaceStands y v (d' ∷ ds) m
  kept_place (Listens t) (Listens u) at same =
      record { table = same ∙ at.table; kind = at.kind ∙ sym (quiet_kind v d' ds calm); knows = λ r e. absurd (grind (arith, e)) }
  kept_place (Syncs n) (Syncs m) at same =
      let p = at.place n refl in
      record {
        table = same.table ∙ at.table;
        kind = ap in_sync (same_announced m n same.heard same.mode) ∙ at.kind ∙ sym (quiet_kind v d' ds calm);
        knows = λ r e. subst (λ (z : RunningNode). Knows y v (d' ∷ ds) z) (running_is m r e) (knows_on n m same (at.heard n refl) p.0 p.1 p.2);
      }
  kept_place (Coasts n) (Coasts m) at same =
      let p = at.place n refl in
      record {
        table = same.table ∙ at.table;
        kind = at.kind ∙ sym (quiet_kind v d' ds calm);
        knows = λ r e. subst (λ (z : RunningNode). Knows y v (d' ∷ ds) z) (running_is m r e) (knows_on n m same (at.heard n refl) p.0 p.1 p.2);
      }
  kept_place (Listens t) (Syncs m) at same = absurd same
  kept_place (Listens t) (Coasts m) at same = absurd same
  kept_place (Syncs n) (Listens u) at same = absurd same
  kept_place (Syncs n) (Coasts m) at same = absurd same
  kept_place (Coasts n) (Listens u) at same = absurd same
  kept_place (Coasts n) (Syncs m) at same = absurd same

-- ---- slots

-- the slot of a message of the table is one of the table's
slot_inside : (from : ℕ) (table : List ℕ) (number : ℕ) → has table number ≡ true → (from ≤ slot_of from table number) × (slot_of from table number < from + length table)
slot_inside from [] number e = absurd cc
slot_inside from (n ∷ table) number e = by_test (nat_eq n number) refl (λ h. slot_inside (suc from) table number h)
  where
    later : (a b : ℕ) (x : Bool) → nat_eq a b ≡ false → (nat_eq b a || x) ≡ true → x ≡ true
    later a b x e h = by_back (nat_eq b a) refl h
      where
        by_back : (c : Bool) → nat_eq b a ≡ c → (c || x) ≡ true → x ≡ true
        by_back false q h = h
        by_back true q h = absurd (let z : true ≡ false = sym (eq-eqb a b (sym (eqb-true b a q))) ∙ e in cc)

    by_test : (b : Bool) → nat_eq n number ≡ b → (has table number ≡ true → (suc from ≤ slot_of (suc from) table number) × (slot_of (suc from) table number < suc from + length table)) →
        (from ≤ cond b from (slot_of (suc from) table number)) × (cond b from (slot_of (suc from) table number) < from + suc (length table))
    by_test true q rest = (omega arith, omega arith)
    by_test false q rest = let r = rest (later n number (has table number) q e) in (omega (arith, r.0), omega (arith, r.1))

module _ (y : System) (w : RightWorld y) (v : ℕ) (es : List PlainEvent) (rf : RequestsFit y es) (j i : ℕ)
    (act : (entry_at y (spot_next y (history y es))).action ≡ slot j i) where
  -- the number of the slot
  abbrev pub slot_now : ℕ
  slot_now = let p = plan_at y (spot_next y (history y es)).hyper.mode in slot_of 1 (get_or p.schedule.tables j []) (message_at p.mode i).number

  pub slot_number : (1 ≤ slot_now) × (slot_now ≤ 32)
  slot_number =
      let md = (spot_next y (history y es)).hyper.mode in
      let p = plan_at y md in
      let carried = (slots_follow_beacons y w.plans es j i rf act).0 in
      let few = w.few md (is_mode y md (all y w (advance 0 ∷ es) rf)) in
      let fits = All-get_or FewSlots p.schedule.tables j [] (omega (arith, carried.0, few.tables)) few.few in
      let r = slot_inside 1 (get_or p.schedule.tables j []) (message_at p.mode i).number carried.2 in
      (r.0, omega (arith, r.1, fits))

  may_use : (r : RunningNode) (d : Step) → last_beacon (history y es) ≡ Some d → IsAtEntry y (history y es) d r → MayUseSlot r slot_now
  may_use r d last at =
      let s = spot_next y (history y es) in
      let q = (slots_follow_beacons y w.plans es j i rf act).1 in
      let same = same_step q.0 d (sym q.1 ∙ last) in
      let here : s.begin + (entry_at y s).tick ≡ moment y d = sym q.7 ∙ ap (moment y) same in
      record { first = slot_number.0; last = slot_number.1; at_beacon = at.at_beacon ∙ eq-eqb (s.begin + (entry_at y s).tick) (moment y d) here }

  pub may_use_slot : (n : State) → EntryNode y v (history y es) n → MayUseSlotNow n slot_now
  may_use_slot (Listens t) at = tt
  may_use_slot (Syncs n) at = let p = at.place n refl in may_use n p.0 p.1 p.2
  may_use_slot (Coasts n) at = tt
