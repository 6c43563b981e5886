-- A node that misses a beacon stands for the steps with that beacon; and so each node does, whether it hears it or not
use Rattle.std.proofs.Common.{◌≡◌, ℕ, ◌<◌, Bool, true, false, cond, List, ◌∷◌, refl, sym, ◌∙◌, ap, subst, arith, ⊎_elim, pos}
use Rattle.std.specs.Prelude.{Some}
use Rattle.std.proofs.lemmas.Bool.{cases_Bool, eq-eqb}
use Rattle.sched_model.proofs.Hyperperiods.{hyper_some}
use Rattle.runtime_model.specs.Timeline.{drains}
use Rattle.runtime_model.specs.Entries.{beacon}
use Rattle.runtime_model.specs.Outcomes.{PlainEvent, advance, Spot, Step}
use Rattle.runtime_model.specs.Laws.{RequestsFit}
use Rattle.runtime_model.specs.LookingBack.{synced, settled, coasts, last_beacon}
use Rattle.runtime_model.specs.Packets.{reached}
use Rattle.runtime_model.specs.NodeKinds.{NodeKind, listening, in_sync, coasting, missed, kind_by}
use Rattle.runtime_model.specs.System.{System, plan_at}
use Rattle.runtime_model.specs.History.{history, step_of, last_spot, spot_next, entry_at, moment, now_after, beacon_at}
use Rattle.runtime_model.proofs.Knowing.{next_is_plain, settled_steady}
use Rattle.runtime_model.proofs.NewStay.{settled_calm}
use Rattle.runtime_model.proofs.Passing.{passes}
use Rattle.runtime_model.proofs.Spots.{Same, Within, Opens, moves, stands}
use Rattle.node_core.specs.declared.states.Missed.TheVariants.{Coasted, StoodDown}
use Rattle.node_core.specs.Rules.{announced, coasted}
use Rattle.node_core.specs.Running.{RunningNode}
use Rattle.world_core.specs.declared.state.State.{State}
use Rattle.world_core.specs.declared.state.State.TheVariants.{Listens, Syncs, Coasts}
use Rattle.world_core.specs.Happened.{typed_beacon}
use Rattle.world_core.specs.NodeStates.{after_missed, state_left}
use Rattle.world_core.specs.Nodes.{heard_or_missed}
use Rattle.world_core.specs.Standing.{Knows, KnowsPlace, NodeStands}
use Rattle.world_core.proofs.BeaconEntries.{kind_missed, place_now}
use Rattle.world_core.proofs.Beaconed.{begun_now, heard_stands, last_now, listens_stand, missed_now, registers_on, tick_from}
use Rattle.world_core.proofs.Entering.{running_is}
use Rattle.world_core.proofs.EntryNodes.{EntryNode, IsAtEntry}
use Rattle.world_core.proofs.LastBeacons.{InIts, PastIts, past_apart, settled_at, where_it_is}
use Rattle.world_core.proofs.QuietSteps.{runs_by_kind}
use Rattle.world_core.proofs.Rounds.{next_round_is}
use Rattle.world_core.proofs.WorldRight.{RightWorld, all, is_mode}

-- a node in sync that knows of no change is settled
settled_by_kind : (heard calm missed_one a : Bool) → in_sync a ≡ kind_by heard calm missed_one → a ≡ false → calm ≡ true
settled_by_kind true true m a k e = refl
settled_by_kind true false m a k e = absurd (let q : false ≡ true = sym e ∙ ap flag k in cc)
  where
    flag : NodeKind → Bool
    flag listening = false
    flag coasting = false
    flag (in_sync a) = a
settled_by_kind false c true a k e = absurd (grind (arith, k))
settled_by_kind false c false a k e = absurd (grind (arith, k))

module _ (y : System) (w : RightWorld y) (v : ℕ) (inside : v < y.nodes) (es : List PlainEvent) (rf : RequestsFit y es) (lost j : ℕ)
    (act : (entry_at y (spot_next y (history y es))).action ≡ beacon j) where
  abbrev ds : List Step
  ds = history y es

  abbrev d' : Step
  d' = step_of y (advance lost) ds

  abbrev s : Spot
  s = spot_next y ds

  -- a settled node that comes to the beacon knows whether its hyperperiod opens and drains
  flags_known : (n : RunningNode) (d : Step) → last_beacon ds ≡ Some d → IsAtEntry y ds d n → settled v ds ≡ true → (n.opening ≡ s.hyper.opening) × (n.draining ≡ drains s.hyper.phase)
  flags_known n d last at calm =
      let l = last_spot ds in
      let still = settled_calm y v es calm in
      let k = settled_at y v es d calm last in
      let where_at = where_it_is y (all y w) es rf d last in
      ⊎_elim
      (λ (m : Same y ds s). ⊎_elim
      (λ (i : InIts ds d).
      let q = at.same (m.begin ∙ i.begin) in
      (q.0 ∙ sym i.alike.opening ∙ sym m.alike.opening, q.1 ∙ sym i.alike.drains ∙ sym m.alike.drains))
      (λ (p : PastIts y ds d).
      let apart = past_apart y ds d p in
      let q = at.turned (λ e. apart (sym m.begin ∙ e)) in
      (q.0 ∙ sym (m.alike.opening ∙ k.plain apart), q.1 ∙ sym still))
      where_at)
      (λ r. ⊎_elim
      (λ (m : Within y ds s).
      let long = hyper_some (plan_at y l.hyper.mode).mode in
      let q = at.turned (λ e. ⊎_elim (λ (i : InIts ds d). omega (arith, e, m.begin, i.begin, long)) (λ (p : PastIts y ds d). omega (arith, e, m.begin, p.begin, long)) where_at) in
      (q.0 ∙ sym m.opening, q.1 ∙ sym still))
      (λ (m : Opens y ds s). absurd (let q : true ≡ false = sym m.before ∙ ap drains (settled_steady y v es calm) in cc)) r)
      (moves y ds (stands y es))

  -- a node in sync that knows of no change coasts past it
  coaster_stands : (n : RunningNode) → EntryNode y v ds (Syncs n) → reached lost y.host v ≡ false → announced n ≡ false → NodeStands y v (d' ∷ ds) (Coasts (coasted n))
  coaster_stands n at h a =
      let g = at.place n refl in
      let d = g.0 in
      let last = g.1 in
      let here = g.2 in
      let calm = settled_by_kind (synced v ds) (settled v ds) (coasts v ds) (announced n) at.kind a in
      let q = passes y (all y w) es rf d last in
      let b = q.1 in
      let finds = w.finds v d.spot.hyper.mode (is_mode y d.spot.hyper.mode b.right) in
      let flags = flags_known n d last here calm in
      let kind : coasting ≡ kind_by (synced v (d' ∷ ds)) (settled v (d' ∷ ds)) (coasts v (d' ∷ ds)) =
      ap (λ z. missed (in_sync z)) (sym a) ∙ kind_missed y w v inside es rf lost j act (in_sync (announced n)) at.kind h in
      let place : KnowsPlace y (d' ∷ ds) d' (coasted n) = record {
        mode = here.mode ∙ sym (settled_at y v es d calm last).mode ∙ sym (next_is_plain y v es calm).1;
        round = next_round_is y v d.spot.hyper.mode q.0 n finds at.table here.mode (here.round ∙ b.place) ∙ sym (q.2.miss j act).0 ∙ sym (place_now y w v inside es rf lost j act);
        at_beacon = sym (eq-eqb (now_after y (d' ∷ ds)) (moment y d') refl);
        begun = λ z. (here.tick ∙ ap pos (tick_from y w v inside es rf lost j act), flags.0, flags.1);
        turned = λ z. absurd (let x : true ≡ false = sym (begun_now y w v inside es rf lost j act) ∙ z in cc);
      } in
      let knows : Knows y v (d' ∷ ds) (coasted n) = record { heard = missed_now y w v inside es rf lost j act h ∙ at.heard n refl; place = (d', last_now y w v inside es rf lost j act, place) } in
      record {
        table = at.table;
        kind = kind;
        knows = λ r e. subst (λ (z : RunningNode). Knows y v (d' ∷ ds) z) (running_is (coasted n) r e) knows;
        registers = registers_on y w v inside es rf lost j act n.registers (runs_by_kind v (d' ∷ ds) coasting kind) at.registers;
      }

  pub missed_stands : (n : State) → EntryNode y v ds n → reached lost y.host v ≡ false → NodeStands y v (d' ∷ ds) (after_missed n)
  missed_stands (Listens t) at h = listens_stand y v (d' ∷ ds) t at.table (kind_missed y w v inside es rf lost j act listening at.kind h)
  missed_stands (Coasts n) at h = listens_stand y v (d' ∷ ds) n.table at.table (kind_missed y w v inside es rf lost j act coasting at.kind h)
  missed_stands (Syncs n) at h =
      ⊎_elim
      (λ (a : announced n ≡ true).
      subst (λ (b : Bool). NodeStands y v (d' ∷ ds) (state_left (cond b (StoodDown n.table) (Coasted (coasted n))))) (sym a)
      (listens_stand y v (d' ∷ ds) n.table at.table (ap (λ z. missed (in_sync z)) (sym a) ∙ kind_missed y w v inside es rf lost j act (in_sync (announced n)) at.kind h)))
      (λ (a : announced n ≡ false).
      subst (λ (b : Bool). NodeStands y v (d' ∷ ds) (state_left (cond b (StoodDown n.table) (Coasted (coasted n))))) (sym a) (coaster_stands n at h a))
      (cases_Bool (announced n))

  -- a node that has come to the beacon stands for the steps with it, where it has heard it or missed it
  pub beacon_stands : (n : State) → EntryNode y v ds n → NodeStands y v (d' ∷ ds) (heard_or_missed (reached lost y.host v) (typed_beacon (beacon_at y s.hyper j)) n)
  beacon_stands n at =
      let b = typed_beacon (beacon_at y s.hyper j) in
      ⊎_elim
      (λ (h : reached lost y.host v ≡ true). subst (λ (z : Bool). NodeStands y v (d' ∷ ds) (heard_or_missed z b n)) (sym h) (heard_stands y w v inside es rf lost j act n at h))
      (λ (h : reached lost y.host v ≡ false). subst (λ (z : Bool). NodeStands y v (d' ∷ ds) (heard_or_missed z b n)) (sym h) (missed_stands n at h))
      (cases_Bool (reached lost y.host v))
