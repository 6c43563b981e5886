-- The next entry as a beacon: what is sent, who hears it, and that each node may hear or miss it
use Rattle.std.proofs.Common.{◌≡◌, ℕ, suc, ◌+◌, ◌-◌, ◌<◌, Bool, true, false, cond, not, ◌||◌, List, [], ◌∷◌, ◌++◌, length, refl, sym, ◌∙◌, ap, subst, arith, ⊎_elim, pos}
use Rattle.std.specs.Prelude.{nat_eq, Some}
use Rattle.std.specs.List.{filter}
use Rattle.std.proofs.lemmas.Bool.{cases_Bool, eqb-true, cond-true, cond-false}
use Rattle.std.proofs.lemmas.List.{length-map}
use Rattle.sched_model.specs.Numbers.{below, has}
use Rattle.sched_model.proofs.Graph.{contains_has}
use Rattle.runtime_model.specs.Timeline.{drains, named}
use Rattle.runtime_model.specs.Entries.{Action, beacon}
use Rattle.runtime_model.specs.Outcomes.{Outcome, beaconed, PlainEvent, advance, Step, is_beacon, hears, restarts, announces, names_other}
use Rattle.runtime_model.specs.Laws.{RequestsFit}
use Rattle.runtime_model.specs.LookingBack.{last_beacon, synced, settled, coasts}
use Rattle.runtime_model.specs.Packets.{reached}
use Rattle.runtime_model.specs.NodeKinds.{NodeKind, listening, in_sync, missed, kind_by}
use Rattle.runtime_model.specs.NodeTables.{mode_tables}
use Rattle.runtime_model.specs.Plans.{Plan, RightPlan, first_round}
use Rattle.runtime_model.specs.HostOfEvents.{beacon_place}
use Rattle.runtime_model.specs.System.{System, plan_at}
use Rattle.runtime_model.specs.History.{history, step_of, spot_next, entry_at, marks_next, marks_of, moment, beacon_at, performed}
use Rattle.runtime_model.proofs.Beacons.{index_now}
use Rattle.runtime_model.proofs.Cycles.{entry_right, RightAt}
use Rattle.runtime_model.proofs.Knowing.{names}
use Rattle.runtime_model.proofs.Lossless.{kept}
use Rattle.runtime_model.proofs.NextRound.{rounds_of, round_tick}
use Rattle.runtime_model.proofs.Passing.{passes, moment_next}
use Rattle.runtime_model.proofs.Spots.{stands}
use Rattle.node_tables.specs.declared.tables.NodeTable.{NodeTable}
use Rattle.node_tables.specs.Parts.{typed_mode}
use Rattle.node_core.specs.Conditions.{MayHear, MayMiss}
use Rattle.node_core.specs.Lookup.{mode_of_round}
use Rattle.node_core.specs.Running.{RunningNode}
use Rattle.world_core.specs.declared.state.State.{State}
use Rattle.world_core.specs.declared.state.State.TheVariants.{Listens, Syncs, Coasts}
use Rattle.world_core.specs.Happened.{typed_beacon}
use Rattle.world_core.specs.Nodes.{MayHearOrMiss}
use Rattle.world_core.proofs.EntryNodes.{EntryNode, IsAtEntry}
use Rattle.world_core.proofs.QuietSteps.{kind_next}
use Rattle.world_core.proofs.Rounds.{Finds, own_table, next_start_is}
use Rattle.world_core.proofs.WorldRight.{RightWorld, all, is_mode}

-- ---- who hears

only_kept : (t : ℕ → Bool) (xs : List ℕ) (v : ℕ) → has (filter t xs) v ≡ true → t v ≡ true
only_kept t [] v e = absurd cc
only_kept t (x ∷ xs) v e = by_tests (t x) refl (nat_eq v x) refl e (λ h. only_kept t xs v h)
  where
    by_tests : (b : Bool) → t x ≡ b → (q : Bool) → nat_eq v x ≡ q → has (cond b (x ∷ filter t xs) (filter t xs)) v ≡ true → (has (filter t xs) v ≡ true → t v ≡ true) → t v ≡ true
    by_tests false h q eq e rest = rest e
    by_tests true h true eq e rest = ap t (eqb-true v x eq) ∙ h
    by_tests true h false eq e rest = rest (sym (ap (λ (b : Bool). b || has (filter t xs) v) eq) ∙ e)

pub has_filter : (t : ℕ → Bool) (n v : ℕ) → v < n → has (filter t (below n)) v ≡ t v
has_filter t n v l =
    ⊎_elim
    (λ (h : t v ≡ true). contains_has (filter t (below n)) v (kept t n v l h) ∙ sym h)
    (λ (h : t v ≡ false). by_test (has (filter t (below n)) v) refl h ∙ sym h)
    (cases_Bool (t v))
  where
    by_test : (b : Bool) → has (filter t (below n)) v ≡ b → t v ≡ false → b ≡ false
    by_test false e n' = refl
    by_test true e n' = absurd (let q : true ≡ false = sym (only_kept t (below n) v e) ∙ n' in cc)

-- ---- the number of modes in a node's table
mode_count : (v first : ℕ) (ps : List Plan) → length (mode_tables v first ps) ≡ length ps
mode_count v first [] = refl
mode_count v first (p ∷ ps) = ap suc (mode_count v (first + length p.schedule.starts) ps)

pub own_modes : (y : System) (v : ℕ) → length (own_table y v).modes ≡ length y.plans
own_modes y v = length-map (mode_tables v 1 y.plans) typed_mode ∙ mode_count v 1 y.plans

-- ---- the step

module _ (y : System) (w : RightWorld y) (v : ℕ) (inside : v < y.nodes) (es : List PlainEvent) (rf : RequestsFit y es) (lost j : ℕ)
    (act : (entry_at y (spot_next y (history y es))).action ≡ beacon j) where
  abbrev ds : List Step
  ds = history y es

  abbrev d' : Step
  d' = step_of y (advance lost) ds

  abbrev md : ℕ
  md = (spot_next y ds).hyper.mode

  -- what is sent
  abbrev out : Outcome
  out = beaconed (beacon_at y (spot_next y ds).hyper j) (filter (reached lost y.host) (below y.nodes))

  pub out_is : d'.out ≡ out
  out_is = ap (λ (z : Action). performed y (plan_at y md) (spot_next y ds) lost ds (entry_at y (spot_next y ds)).tick z) act

  pub rings : is_beacon d'.out ≡ true
  rings = ap is_beacon out_is

  pub hears_is : hears v d'.out ≡ reached lost y.host v
  hears_is = ap (hears v) out_is ∙ has_filter (reached lost y.host) y.nodes v inside

  announces_is : announces d' ≡ not (nat_eq (named md (spot_next y ds).hyper.phase) md)
  announces_is = ap (names_other md) out_is

  pub right_now : RightPlan y.nodes (plan_at y md)
  right_now = all y w (advance lost ∷ es) rf

  pub finds_now : Finds y v md
  finds_now = w.finds v md (is_mode y md right_now)

  -- the round and its tick
  pub round_now : (j < rounds_of y md) × (round_tick y md j ≡ (entry_at y (spot_next y ds)).tick)
  round_now =
      let s = spot_next y ds in
      let e = entry_at y s in
      let at = (entry_right y.nodes (plan_at y md) s.index (index_now y (all y w) es rf lost)).1 in
      let r = subst (λ (z : Action). RightAt (plan_at y md) e.tick z) act at in
      (r.0, r.1)

  pub place_now : beacon_place y d' d'.out ≡ j
  place_now = ap (beacon_place y d') out_is ∙ (let e : first_round y.plans md + j - first_round y.plans md ≡ j = omega arith in e)

  -- ---- conditions
  pub may_hear : (t : NodeTable) → t ≡ own_table y v → MayHear t (typed_beacon (beacon_at y (spot_next y ds).hyper j))
  may_hear t e =
      let s = spot_next y ds in
      let number = first_round y.plans md + j in
      let round = ap (λ (z : NodeTable). mode_of_round z number) e ∙ finds_now.mode j round_now.0 in
      let count = ap (λ (z : NodeTable). length z.modes) e ∙ own_modes y v in
      record {
        known = omega (arith, round, count, is_mode y md right_now);
        trigger = λ h same. absurd (let q : true ≡ false = sym h ∙ ap drains (names (marks_next y ds ++ marks_of ds) (same ∙ round)) in cc);
        one_flag = λ h. absurd (let q : true ≡ false = sym h.0 ∙ (stands y (advance lost ∷ es)).opening h.1 in cc);
      }

  pub may_miss : (r : RunningNode) → r.table ≡ own_table y v → (d : Step) → last_beacon ds ≡ Some d → IsAtEntry y ds d r → MayMiss r
  may_miss r t d last at =
      let q = passes y (all y w) es rf d last in
      let e = entry_at y (spot_next y ds) in
      let b = q.1 in
      at.tick ∙ ap pos (q.2.miss j act).1
      ∙ sym (next_start_is y v d.spot.hyper.mode q.0 e.tick (nat_eq (moment_next y ds) (moment y d)) r b.right b.inside (w.finds v d.spot.hyper.mode (is_mode y d.spot.hyper.mode b.right)) t at.mode (at.round ∙ b.place) at.tick at.at_beacon)

  pub may_hear_or_miss : (n : State) → EntryNode y v ds n → MayHearOrMiss (reached lost y.host v) (typed_beacon (beacon_at y (spot_next y ds).hyper j)) n
  may_hear_or_miss (Listens t) at = ((λ h. may_hear t at.table), (λ h. tt))
  may_hear_or_miss (Syncs r) at = let p = at.place r refl in ((λ h. may_hear r.table at.table), (λ h. may_miss r at.table p.0 p.1 p.2))
  may_hear_or_miss (Coasts r) at = let p = at.place r refl in ((λ h. may_hear r.table at.table), (λ h. may_miss r at.table p.0 p.1 p.2))

  -- ---- the node's kind

  up : restarts v d'.out ≡ false
  up = ap (restarts v) out_is

  pub kind_heard : reached lost y.host v ≡ true → in_sync (not (nat_eq (named md (spot_next y ds).hyper.phase) md)) ≡ kind_by (synced v (d' ∷ ds)) (settled v (d' ∷ ds)) (coasts v (d' ∷ ds))
  kind_heard h =
      let k = kind_by (synced v ds) (settled v ds) (coasts v ds) in
      let inner = cond (hears v d'.out) (in_sync (announces d')) (missed k) in
      sym (kind_next v d' ds
      ∙ cond-false (restarts v d'.out) listening (cond (is_beacon d'.out) inner k) up
      ∙ cond-true (is_beacon d'.out) inner k rings
      ∙ cond-true (hears v d'.out) (in_sync (announces d')) (missed k) (hears_is ∙ h)
      ∙ ap in_sync announces_is)

  pub kind_missed : (k : NodeKind) → k ≡ kind_by (synced v ds) (settled v ds) (coasts v ds) → reached lost y.host v ≡ false → missed k ≡ kind_by (synced v (d' ∷ ds)) (settled v (d' ∷ ds)) (coasts v (d' ∷ ds))
  kind_missed k e h =
      let k' = kind_by (synced v ds) (settled v ds) (coasts v ds) in
      let inner = cond (hears v d'.out) (in_sync (announces d')) (missed k') in
      ap missed e
      ∙ sym (kind_next v d' ds
      ∙ cond-false (restarts v d'.out) listening (cond (is_beacon d'.out) inner k') up
      ∙ cond-true (is_beacon d'.out) inner k' rings
      ∙ cond-false (hears v d'.out) (in_sync (announces d')) (missed k') (hears_is ∙ h))
