-- A node that hears a beacon, or misses it, stands for the steps with that beacon
use Rattle.std.proofs.Common.{◌≡◌, ℕ, ◌+◌, ◌-◌, ◌<◌, true, false, cond, not, List, ◌∷◌, refl, sym, ◌∙◌, ap, subst, arith, ⊎_elim, pos}
use Rattle.std.specs.Prelude.{nat_eq, Option, Some, None}
use Rattle.std.specs.List.{filter}
use Rattle.sched_model.specs.Numbers.{below}
use Rattle.std.proofs.lemmas.Bool.{cases_Bool, eq-eqb, eqb-false, cond-true, cond-false}
use Rattle.runtime_model.specs.Entries.{beacon}
use Rattle.runtime_model.specs.Outcomes.{PlainEvent, advance, PlainBeacon, Step, beaconed, hears}
use Rattle.runtime_model.specs.Laws.{RequestsFit}
use Rattle.runtime_model.specs.LookingBack.{synced, settled, coasts, runs, or_else, heard_by, last_heard, last_beacon}
use Rattle.runtime_model.specs.Packets.{reached}
use Rattle.runtime_model.specs.NodeKinds.{listening, in_sync, kind_by}
use Rattle.runtime_model.specs.Plans.{first_round}
use Rattle.runtime_model.specs.Registers.{last_end, last_in, last_run}
use Rattle.runtime_model.specs.System.{System, plan_at}
use Rattle.runtime_model.specs.History.{history, step_of, last_spot, spot_next, entry_at, moment, now_after, beacon_at}
use Rattle.runtime_model.proofs.Beacons.{start_is}
use Rattle.beacon_codec.specs.declared.packet.Beacon.{Beacon}
use Rattle.node_tables.specs.declared.tables.NodeTable.{NodeTable}
use Rattle.node_core.specs.Lookup.{mode_at, mode_of_round, round_at}
use Rattle.node_core.specs.Registers.{RegistersSeen, no_registers}
use Rattle.node_core.specs.Rules.{announced, at_round, round_in}
use Rattle.node_core.specs.Running.{RunningNode}
use Rattle.world_core.specs.declared.state.State.{State}
use Rattle.world_core.specs.declared.state.State.TheVariants.{Listens, Syncs, Coasts}
use Rattle.world_core.specs.Happened.{typed_beacon}
use Rattle.world_core.specs.NodeStates.{after_beacon}
use Rattle.world_core.specs.Standing.{KeepsRegisters, Knows, KnowsPlace, NodeStands}
use Rattle.world_core.proofs.BeaconEntries.{finds_now, hears_is, kind_heard, out_is, place_now, right_now, rings, round_now}
use Rattle.world_core.proofs.Entering.{running_is}
use Rattle.world_core.proofs.EntryNodes.{EntryNode, IsAtEntry}
use Rattle.world_core.proofs.LastBeacons.{InIts, PastIts, beacon_last, past_apart, same_step, stay_of_next, where_it_is}
use Rattle.world_core.proofs.NewStays.{empty_next, nothing_found, only_end, only_in, only_run}
use Rattle.world_core.proofs.QuietSteps.{none_stand, recall_on, registers_stand, runs_by_kind, stopped_registers}
use Rattle.world_core.proofs.Rounds.{own_table}
use Rattle.world_core.proofs.WorldRight.{RightWorld, all}

-- a Listening node stands for steps after which it does not run
pub listens_stand : (y : System) (v : ℕ) (ds : List Step) (t : NodeTable) → t ≡ own_table y v → listening ≡ kind_by (synced v ds) (settled v ds) (coasts v ds) → NodeStands y v ds (Listens t)
listens_stand y v ds t e k =
    record {
      table = e;
      kind = k;
      knows = λ r h. absurd (grind (arith, h));
      registers = stopped_registers (plan_at y (last_spot ds).hyper.mode) v (last_spot ds).stay ds (runs_by_kind v ds listening k);
    }

module _ (y : System) (w : RightWorld y) (v : ℕ) (inside : v < y.nodes) (es : List PlainEvent) (rf : RequestsFit y es) (lost j : ℕ)
    (act : (entry_at y (spot_next y (history y es))).action ≡ beacon j) where
  abbrev ds : List Step
  ds = history y es

  abbrev d' : Step
  d' = step_of y (advance lost) ds

  abbrev md : ℕ
  md = (spot_next y ds).hyper.mode

  abbrev b' : Beacon
  b' = typed_beacon (beacon_at y (spot_next y ds).hyper j)

  -- the beacon is the first or a later one of its hyperperiod, which has begun
  pub begun_now : (spot_next y ds).hyper.begun ≡ true
  begun_now =
      ⊎_elim
      (λ (i : InIts (d' ∷ ds) d'). i.begun)
      (λ (p : PastIts y (d' ∷ ds) d'). absurd (past_apart y (d' ∷ ds) d' p refl))
      (where_it_is y (all y w) (advance lost ∷ es) rf d' (beacon_last d' ds (rings y w v inside es rf lost j act)))

  -- the tick of the entry, from the start of the hyperperiod
  pub tick_from : (entry_at y (spot_next y ds)).tick ≡ now_after y (d' ∷ ds) - (spot_next y ds).begin
  tick_from = omega arith

  -- registers stand where the node runs on
  pub registers_on : (g : RegistersSeen) → runs v (d' ∷ ds) ≡ true → KeepsRegisters (plan_at y md) v (spot_next y ds).stay ds g → KeepsRegisters (plan_at y md) v (spot_next y ds).stay (d' ∷ ds) g
  registers_on g r keeps =
      let s = spot_next y ds in
      let out = out_is y w v inside es rf lost j act in
      registers_stand (plan_at y md) v s.stay ds (d' ∷ ds) g
      (λ a. recall_on v s.stay (last_end a) d' ds r refl (ap (last_end a) out))
      (λ b i. recall_on v s.stay (last_in v b i) d' ds r refl (ap (last_in v b i) out))
      (recall_on v s.stay (last_run v) d' ds r refl (ap (last_run v) out))
      keeps

  -- ---- heard

  abbrev hs : List ℕ
  hs = filter (reached lost y.host) (below y.nodes)

  heard_now : reached lost y.host v ≡ true → last_heard v (d' ∷ ds) ≡ Some (beacon_at y (spot_next y ds).hyper j)
  heard_now h =
      let b = beacon_at y (spot_next y ds).hyper j in
      let out = out_is y w v inside es rf lost j act in
      ap (λ (o : Option PlainBeacon). or_else o (last_heard v ds))
      (ap (heard_by v) out ∙ cond-true (hears v (beaconed b hs)) (Some b) None (sym (ap (hears v) out) ∙ hears_is y w v inside es rf lost j act ∙ h))

  pub missed_now : reached lost y.host v ≡ false → last_heard v (d' ∷ ds) ≡ last_heard v ds
  missed_now h =
      let b = beacon_at y (spot_next y ds).hyper j in
      let out = out_is y w v inside es rf lost j act in
      ap (λ (o : Option PlainBeacon). or_else o (last_heard v ds))
      (ap (heard_by v) out ∙ cond-false (hears v (beaconed b hs)) (Some b) None (sym (ap (hears v) out) ∙ hears_is y w v inside es rf lost j act ∙ h))

  pub last_now : last_beacon (d' ∷ ds) ≡ Some d'
  last_now = beacon_last d' ds (rings y w v inside es rf lost j act)

  -- the mode of the beacon's round, and its place in it, as a node finds them
  mode_found : (t : NodeTable) → t ≡ own_table y v → mode_of_round t b'.round ≡ md
  mode_found t e = ap (λ (z : NodeTable). mode_of_round z b'.round) e ∙ (finds_now y w v inside es rf lost j act).mode j (round_now y w v inside es rf lost j act).0

  round_found : (t : NodeTable) → t ≡ own_table y v → round_in t (mode_of_round t b'.round) b' ≡ j
  round_found t e =
      let number = first_round y.plans md + j in
      ap (λ (m : ℕ). number - (mode_at t m).first_round) (mode_found t e)
      ∙ ap (λ (z : NodeTable). number - (mode_at z md).first_round) e
      ∙ ap (λ (n : ℕ). number - n) (finds_now y w v inside es rf lost j act).first
      ∙ (let q : number - first_round y.plans md ≡ j = omega arith in q)

  start_found : (t : NodeTable) → t ≡ own_table y v → (round_at (mode_at t (mode_of_round t b'.round)) (round_in t (mode_of_round t b'.round) b')).start ≡ pos (now_after y (d' ∷ ds) - (spot_next y ds).begin)
  start_found t e =
      let n = round_now y w v inside es rf lost j act in
      ap (λ (k : ℕ). (round_at (mode_at t (mode_of_round t b'.round)) k).start) (round_found t e)
      ∙ ap (λ (m : ℕ). (round_at (mode_at t m) j).start) (mode_found t e)
      ∙ ap (λ (z : NodeTable). (round_at (mode_at z md) j).start) e
      ∙ (finds_now y w v inside es rf lost j act).start j n.0
      ∙ sym (start_is y md (right_now y w v inside es rf lost j act) j n.0)
      ∙ ap pos (n.1 ∙ tick_from)

  -- a node in sync that has heard it
  hearer_stands : (t : NodeTable) (g : RegistersSeen) → t ≡ own_table y v → reached lost y.host v ≡ true →
      (runs v (d' ∷ ds) ≡ true → KeepsRegisters (plan_at y md) v (spot_next y ds).stay (d' ∷ ds) g) → NodeStands y v (d' ∷ ds) (Syncs (at_round t b' (mode_of_round t b'.round) g))
  hearer_stands t g e h keeps =
      let s = spot_next y ds in
      let n : RunningNode = at_round t b' (mode_of_round t b'.round) g in
      let place : KnowsPlace y (d' ∷ ds) d' n = record {
        mode = mode_found t e;
        round = round_found t e ∙ sym (place_now y w v inside es rf lost j act);
        at_beacon = sym (eq-eqb (now_after y (d' ∷ ds)) (moment y d') refl);
        begun = λ q. (start_found t e, refl, refl);
        turned = λ q. absurd (let x : true ≡ false = sym begun_now ∙ q in cc);
      } in
      let knows : Knows y v (d' ∷ ds) n = record { heard = heard_now h; place = (d', last_now, place) } in
      let kind = ap (λ (m : ℕ). in_sync (not (nat_eq b'.mode m))) (mode_found t e) ∙ kind_heard y w v inside es rf lost j act h in
      record {
        table = e;
        kind = kind;
        knows = λ r q. subst (λ (z : RunningNode). Knows y v (d' ∷ ds) z) (running_is n r q) knows;
        registers = keeps (runs_by_kind v (d' ∷ ds) (in_sync (announced n)) kind);
      }

  -- the registers of a running node that hears it: a beacon of another mode is the first of a new stay
  registers_heard : (n : RunningNode) → n.table ≡ own_table y v → (d : Step) → last_beacon ds ≡ Some d → IsAtEntry y ds d n → KeepsRegisters (plan_at y md) v (spot_next y ds).stay ds n.registers →
      runs v (d' ∷ ds) ≡ true → KeepsRegisters (plan_at y md) v (spot_next y ds).stay (d' ∷ ds) (cond (nat_eq (mode_of_round n.table b'.round) n.mode) n.registers no_registers)
  registers_heard n e d last at keeps r =
      let s = spot_next y ds in
      let m = mode_of_round n.table b'.round in
      registers_on (cond (nat_eq m n.mode) n.registers no_registers) r
      (⊎_elim
      (λ (q : nat_eq m n.mode ≡ true). subst (KeepsRegisters (plan_at y md) v s.stay ds) (sym (cond-true (nat_eq m n.mode) n.registers no_registers q)) keeps)
      (λ (q : nat_eq m n.mode ≡ false).
      let other : (g : Step) → last_beacon ds ≡ Some g → g.spot.stay ≡ s.stay → ⊥ = λ g eg stay. ⊎_elim
      (λ (i : (g.spot.stay ≡ s.stay) × (g.spot.hyper.mode ≡ md)).
      let same = same_step d g (sym last ∙ eg) in
      eqb-false m n.mode q (mode_found n.table e ∙ sym i.1 ∙ sym (ap (λ (z : Step). z.spot.hyper.mode) same) ∙ sym at.mode))
      (λ (i : g.spot.stay < s.stay). omega (arith, i, stay))
      (stay_of_next y es g eg) in
      let empty = empty_next y w.plans es rf other v in
      subst (KeepsRegisters (plan_at y md) v s.stay ds) (sym (cond-false (nat_eq m n.mode) n.registers no_registers q))
      (none_stand (plan_at y md) v s.stay ds
      (λ a. nothing_found v s.stay (last_end a) ds (only_end a) empty)
      (λ b i. nothing_found v s.stay (last_in v b i) ds (only_in v b i) empty)
      (nothing_found v s.stay (last_run v) ds (only_run v) empty)))
      (cases_Bool (nat_eq m n.mode)))

  pub heard_stands : (n : State) → EntryNode y v ds n → reached lost y.host v ≡ true → NodeStands y v (d' ∷ ds) (after_beacon n b')
  heard_stands (Listens t) at h = hearer_stands t no_registers at.table h (λ r. registers_on no_registers r at.registers)
  heard_stands (Syncs n) at h =
      let p = at.place n refl in
      hearer_stands n.table (cond (nat_eq (mode_of_round n.table b'.round) n.mode) n.registers no_registers) at.table h (registers_heard n at.table p.0 p.1 p.2 at.registers)
  heard_stands (Coasts n) at h =
      let p = at.place n refl in
      hearer_stands n.table (cond (nat_eq (mode_of_round n.table b'.round) n.mode) n.registers no_registers) at.table h (registers_heard n at.table p.0 p.1 p.2 at.registers)
