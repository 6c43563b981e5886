-- A node that the world stands for comes to the next entry: its ticks may pass, and then it is at that entry
use Rattle.std.proofs.Common.{◌≡◌, ℕ, zero, suc, ◌+◌, ◌-◌, ◌<◌, ◌≤◌, Bool, true, false, cond, not, ◌&&◌, List, refl, sym, ◌∙◌, ap, subst, arith, ◌⊎◌, ⊎_elim, ℤ, pos, ◌+ℤ◌, ◌-ℤ◌}
use Rattle.std.specs.Prelude.{nat_eq, nat_lt, int_lt, Option, Some, unwrap_or}
use Rattle.std.specs.Ordering.{int_eq}
use Rattle.sched_model.proofs.Hyperperiods.{hyper_some}
use Rattle.std.proofs.lemmas.Bool.{cond-true, cond-false}
use Rattle.std.proofs.lemmas.Bool.Decides.{Decides-int_eq}
use Rattle.std.proofs.lemmas.Int.{ints}
use Rattle.runtime_model.specs.Timeline.{drains}
use Rattle.runtime_model.specs.Outcomes.{PlainEvent, Step}
use Rattle.runtime_model.specs.Laws.{RequestsFit}
use Rattle.runtime_model.specs.LookingBack.{last_heard, last_beacon}
use Rattle.runtime_model.specs.NodeKinds.{listening, in_sync}
use Rattle.runtime_model.specs.Registers.{last_end, last_in, last_run}
use Rattle.runtime_model.specs.System.{System, plan_at}
use Rattle.runtime_model.specs.History.{history, last_spot, spot_next, entry_at, now_after}
use Rattle.runtime_model.specs.HostOfEvents.{beacon_place}
use Rattle.mode_change.specs.HostSeen.{plain_beacon}
use Rattle.runtime_model.proofs.FirstTicks.{Stays, Turns, onward}
use Rattle.runtime_model.proofs.NewStay.{opens_empty}
use Rattle.runtime_model.proofs.NextRound.{BeaconStep, Still, Turning, Anew, last_stands, next_stands}
use Rattle.runtime_model.proofs.OutRegisters.{H}
use Rattle.runtime_model.proofs.Passing.{Passes, passes, here_begun, tick_now, ticks_next, moment_next, still_at_beacon}
use Rattle.runtime_model.proofs.Spots.{Same, Within, Opens, moves, stands}
use Rattle.beacon_codec.specs.declared.packet.Beacon.{Beacon}
use Rattle.node_core.specs.Conditions.{MayPass}
use Rattle.node_core.specs.Registers.{no_registers}
use Rattle.node_core.specs.Rules.{announced, passed, turned}
use Rattle.node_core.specs.Running.{RunningNode, mode_of}
use Rattle.world_core.specs.declared.state.State.{State}
use Rattle.world_core.specs.declared.state.State.TheVariants.{Listens, Syncs, Coasts}
use Rattle.world_core.specs.NodeStates.{MayPassNow, after_ticks}
use Rattle.world_core.specs.Standing.{KeepsRegisters, Knows, KnowsPlace, NodeStands}
use Rattle.world_core.proofs.EntryNodes.{EntryNode, IsAtEntry}
use Rattle.world_core.proofs.LastBeacons.{InIts, PastIts, past_apart, where_it_is}
use Rattle.world_core.proofs.QuietSteps.{none_stand, runs_by_kind, stopped_registers}
use Rattle.world_core.proofs.Rounds.{Finds, own_table, hyper_is, next_start_is}
use Rattle.world_core.proofs.WorldRight.{RightWorld, all, is_mode}

-- the ticks that pass before the next entry
abbrev pub ticks_to : System → List Step → ℤ
ticks_to y ds = pos ((spot_next y ds).begin + (entry_at y (spot_next y ds)).tick) -ℤ pos (now_after y ds)

-- where a running node is after the last event, with d the last beacon, of round j
pub record IsNow (y : System) (ds : List Step) (d : Step) (j : ℕ) (n : RunningNode) : Type 0 where
  pub mode : n.mode ≡ d.spot.hyper.mode
  pub round : n.round ≡ j
  pub tick : n.tick ≡ pos (tick_now y ds)
  pub at_beacon : n.at_beacon ≡ still_at_beacon y ds d
  pub same : InIts ds d → (n.opening ≡ d.spot.hyper.opening) × (n.draining ≡ drains d.spot.hyper.phase)
  pub turned : PastIts y ds d → (n.opening ≡ false) × (n.draining ≡ false)

is_now : (y : System) (ds : List Step) (d : Step) (j : ℕ) (n : RunningNode) → beacon_place y d d.out ≡ j → InIts ds d ⊎ PastIts y ds d → KnowsPlace y ds d n → IsNow y ds d j n
is_now y ds d j n place at k =
    record {
      mode = k.mode;
      round = k.round ∙ place;
      tick = ⊎_elim
          (λ (i : InIts ds d). (k.begun i.begun).0)
          (λ (p : PastIts y ds d). (k.turned p.begun).0 ∙ ap pos (let e : 0 ≡ tick_now y ds = omega (arith, p.now) in e))
          at;
      at_beacon = k.at_beacon;
      same = λ i. let b = k.begun i.begun in (b.1 ∙ i.alike.opening, b.2 ∙ i.alike.drains);
      turned = λ p. let t = k.turned p.begun in (t.1, t.2);
    }

-- a running node at the next entry
pub record RunsAtEntry (y : System) (v : ℕ) (ds : List Step) (d : Step) (old n : RunningNode) : Type 0 where
  pub table : n.table ≡ own_table y v
  pub heard : n.heard ≡ old.heard
  pub mode : n.mode ≡ old.mode
  pub place : IsAtEntry y ds d n
  pub registers : let s = spot_next y ds in KeepsRegisters (plan_at y s.hyper.mode) v s.stay ds n.registers

ticks_are : (now next : ℕ) → now ≤ next → pos next -ℤ pos now ≡ pos (next - now)
ticks_are now next l = omega (arith, ints, l)

less_is : (m n : ℕ) → m < n → nat_lt m n ≡ true
less_is m n l = grind (arith, l)

same_not_less : (m n : ℕ) → m ≡ n → nat_lt m n ≡ false
same_not_less m n e = grind (arith, e)

minus_itself : (m n : ℕ) → m ≡ n → pos m -ℤ pos n ≡ pos 0
minus_itself m n e = omega (arith, ints, e)

zero_test : (n : ℕ) → int_eq (pos n) (pos 0) ≡ nat_eq n 0
zero_test zero = refl
zero_test (suc n) = by_test (int_eq (pos (suc n)) (pos 0)) refl ∙ sym (let e : nat_eq (suc n) 0 ≡ false = grind arith in e)
  where
    by_test : (b : Bool) → int_eq (pos (suc n)) (pos 0) ≡ b → b ≡ false
    by_test false e = refl
    by_test true e = absurd (omega (arith, ints, (Decides-int_eq (pos (suc n)) (pos 0)).0 e))

module _ (y : System) (w : RightWorld y) (v : ℕ) (es : List PlainEvent) (rf : RequestsFit y es) (d : Step) (last : last_beacon (history y es) ≡ Some d)
    (j : ℕ) (beacon : BeaconStep y d j) (pass : Passes y (history y es) d j) (finds : Finds y v d.spot.hyper.mode) (n : RunningNode)
    (table : n.table ≡ own_table y v) (now : IsNow y (history y es) d j n) where
  abbrev ds : List Step
  ds = history y es

  ticks_step : ticks_to y ds ≡ pos (ticks_next y ds)
  ticks_step = ticks_are (now_after y ds) (moment_next y ds) pass.forward

  -- its tick after them
  tick_after : n.tick +ℤ ticks_to y ds ≡ pos (tick_now y ds + ticks_next y ds)
  tick_after = ap (λ (z : ℤ). z +ℤ ticks_to y ds) now.tick ∙ ap (λ (z : ℤ). pos (tick_now y ds) +ℤ z) ticks_step

  length_is : (mode_of n).hyper ≡ pos (H y d.spot.hyper.mode)
  length_is = hyper_is y v d.spot.hyper.mode n finds table now.mode

  in_hyper : int_lt (n.tick +ℤ ticks_to y ds) (mode_of n).hyper ≡ nat_lt (tick_now y ds + ticks_next y ds) (H y d.spot.hyper.mode)
  in_hyper = ap (λ (z : ℤ). int_lt z (mode_of n).hyper) tick_after ∙ ap (λ (z : ℤ). int_lt (pos (tick_now y ds + ticks_next y ds)) z) length_is

  pub may_pass : MayPass n (ticks_to y ds)
  may_pass =
      let start = next_start_is y v d.spot.hyper.mode j (tick_now y ds) (still_at_beacon y ds d) n beacon.right beacon.inside finds table now.mode now.round now.tick now.at_beacon in
      record {
        low = omega (arith, ints, ticks_step);
        high = omega (arith, ints, tick_after, start, pass.high);
      }

  entering_stays : Stays y ds → InIts ds d ⊎ PastIts y ds d → KeepsRegisters (plan_at y (last_spot ds).hyper.mode) v (last_spot ds).stay ds n.registers → RunsAtEntry y v ds d n (passed n (ticks_to y ds))
  entering_stays st at keeps =
      let t = ticks_to y ds in
      let s = spot_next y ds in
      let on : RunningNode = record n { tick = n.tick +ℤ t; at_beacon = n.at_beacon && int_eq t (pos 0) } in
      let p = pass.stays st in
      let m = st.same in
      let e : passed n t ≡ on = cond-true (int_lt (n.tick +ℤ t) (mode_of n).hyper) on (turned n ((n.tick +ℤ t) -ℤ (mode_of n).hyper)) (in_hyper ∙ less_is (tick_now y ds + ticks_next y ds) (H y d.spot.hyper.mode) p.0) in
      let place : IsAtEntry y ds d on = record {
        mode = now.mode;
        round = now.round ∙ sym beacon.place;
        tick = tick_after ∙ ap pos p.1;
        at_beacon = ap (λ (b : Bool). b && int_eq t (pos 0)) now.at_beacon ∙ ap (λ (z : ℤ). still_at_beacon y ds d && int_eq z (pos 0)) ticks_step
            ∙ ap (λ (b : Bool). still_at_beacon y ds d && b) (zero_test (ticks_next y ds)) ∙ pass.at_beacon st;
        same = λ b. ⊎_elim (λ (i : InIts ds d). now.same i) (λ (q : PastIts y ds d). absurd (past_apart y ds d q (sym m.begin ∙ b))) at;
        turned = λ b. ⊎_elim (λ (i : InIts ds d). absurd (b (m.begin ∙ i.begin))) (λ (q : PastIts y ds d). now.turned q) at;
      } in
      let registers = subst (λ (z : ℕ). KeepsRegisters (plan_at y s.hyper.mode) v z ds n.registers) (sym m.stay)
      (subst (λ (z : ℕ). KeepsRegisters (plan_at y z) v (last_spot ds).stay ds n.registers) (sym m.alike.mode) keeps) in
      subst (RunsAtEntry y v ds d n) (sym e) (record { table = table; heard = refl; mode = refl; place = place; registers = registers })

  entering_turns : Turns y ds → InIts ds d → KeepsRegisters (plan_at y (last_spot ds).hyper.mode) v (last_spot ds).stay ds n.registers → RunsAtEntry y v ds d n (passed n (ticks_to y ds))
  entering_turns tr i keeps =
      let t = ticks_to y ds in
      let l = last_spot ds in
      let s = spot_next y ds in
      let u = tick_now y ds + ticks_next y ds in
      let h = H y d.spot.hyper.mode in
      let z = (n.tick +ℤ t) -ℤ (mode_of n).hyper in
      let on : RunningNode = record n { tick = n.tick +ℤ t; at_beacon = n.at_beacon && int_eq t (pos 0) } in
      let p = pass.turns tr in
      let e : passed n t ≡ turned n z = cond-false (int_lt (n.tick +ℤ t) (mode_of n).hyper) on (turned n z) (in_hyper ∙ same_not_less u h p.0) in
      let zero_tick : z ≡ pos 0 = ap (λ (x : ℤ). x -ℤ (mode_of n).hyper) tick_after ∙ ap (λ (x : ℤ). pos u -ℤ x) length_is ∙ minus_itself u h p.0 in
      let past = pass.past_beacon tr in
      let long = hyper_some (plan_at y l.hyper.mode).mode in
      let place : IsAtEntry y ds d (turned n z) = record {
        mode = now.mode;
        round = now.round ∙ sym beacon.place;
        tick = zero_tick ∙ ap pos (sym p.1);
        at_beacon = sym past;
        same = λ b. absurd (omega (arith, b, tr.begin, i.begin, long));
        turned = λ b. (refl, refl);
      } in
      let drain = (now.same i).1 ∙ sym i.alike.drains in
      let kept : KeepsRegisters (plan_at y s.hyper.mode) v s.stay ds (cond n.draining no_registers n.registers) =
      ⊎_elim
      (λ (m : Same y ds s). absurd (omega (arith, m.inside, tr.over)))
      (λ r. ⊎_elim
      (λ (m : Within y ds s).
      subst (KeepsRegisters (plan_at y s.hyper.mode) v s.stay ds) (sym (cond-false n.draining no_registers n.registers (drain ∙ m.before)))
      (subst (λ (z : ℕ). KeepsRegisters (plan_at y s.hyper.mode) v z ds n.registers) (sym m.stay)
      (subst (λ (z : ℕ). KeepsRegisters (plan_at y z) v l.stay ds n.registers) (sym m.mode) keeps)))
      (λ (m : Opens y ds s).
      subst (KeepsRegisters (plan_at y s.hyper.mode) v s.stay ds) (sym (cond-true n.draining no_registers n.registers (drain ∙ m.before)))
      (none_stand (plan_at y s.hyper.mode) v s.stay ds (λ a. opens_empty y v (last_end a) ds m) (λ b i. opens_empty y v (last_in v b i) ds m) (opens_empty y v (last_run v) ds m)))
      r)
      (moves y ds (stands y es)) in
      subst (RunsAtEntry y v ds d n) (sym e) (record { table = table; heard = refl; mode = refl; place = place; registers = kept })

-- where the hyperperiod turns, the last event is in that of the last beacon
turning_in : (y : System) (w : RightWorld y) (es : List PlainEvent) (rf : RequestsFit y es) (d : Step) → last_beacon (history y es) ≡ Some d → Turns y (history y es) → InIts (history y es) d
turning_in y w es rf d last tr =
    let right = all y w in
    let ds = history y es in
    let g = last_stands y right es rf d last in
    ⊎_elim
    (λ (x : Still y ds d g.0). absurd (omega (arith, x.stays.same.inside, tr.over)))
    (λ r. ⊎_elim
    (λ (x : Turning y ds d g.0). ⊎_elim
    (λ (i : InIts ds d). i)
    (λ (p : PastIts y ds d). absurd (let q : true ≡ false = sym (here_begun y right es rf x.here.0) ∙ p.begun in cc))
    (where_it_is y right es rf d last))
    (λ (x : Anew y ds d g.0). absurd (omega (arith, x.stays.same.inside, tr.over))) r)
    (next_stands y right es rf d g.0 g.1 g.2)

entering_runs : (y : System) (w : RightWorld y) (v : ℕ) (es : List PlainEvent) (rf : RequestsFit y es) (n : RunningNode) → n.table ≡ own_table y v → Knows y v (history y es) n →
    KeepsRegisters (plan_at y (last_spot (history y es)).hyper.mode) v (last_spot (history y es)).stay (history y es) n.registers →
    MayPass n (ticks_to y (history y es)) × ((d : Step) × (last_beacon (history y es) ≡ Some d) × RunsAtEntry y v (history y es) d n (passed n (ticks_to y (history y es))))
entering_runs y w v es rf n table k keeps =
    let right = all y w in
    let ds = history y es in
    let d = k.place.0 in
    let last = k.place.1 in
    let q = passes y right es rf d last in
    let finds = w.finds v d.spot.hyper.mode (is_mode y d.spot.hyper.mode q.1.right) in
    let at = where_it_is y right es rf d last in
    let now = is_now y ds d q.0 n q.1.place at k.place.2 in (
      may_pass y w v es rf d last q.0 q.1 q.2 finds n table now,
      (
        d,
        last,
        ⊎_elim
            (λ (st : Stays y ds). entering_stays y w v es rf d last q.0 q.1 q.2 finds n table now st at keeps)
            (λ (tr : Turns y ds). entering_turns y w v es rf d last q.0 q.1 q.2 finds n table now tr (turning_in y w es rf d last tr) keeps)
            (onward y right es rf),
      ),
    )

pub same_announced : (a b : RunningNode) → a.heard ≡ b.heard → a.mode ≡ b.mode → announced a ≡ announced b
same_announced a b h m = ap (λ (z : Beacon). not (nat_eq z.mode a.mode)) h ∙ ap (λ (z : ℕ). not (nat_eq b.heard.mode z)) m

pub running_is : (a b : RunningNode) → Some a ≡ Some b → a ≡ b
running_is a b e = ap (λ (o : Option RunningNode). unwrap_or o b) e

-- A node that the world stands for may come to the next entry, and then it is at that entry
pub entering : (y : System) (w : RightWorld y) (v : ℕ) (es : List PlainEvent) (rf : RequestsFit y es) (n : State) → NodeStands y v (history y es) n →
    MayPassNow n (ticks_to y (history y es)) × EntryNode y v (history y es) (after_ticks n (ticks_to y (history y es)))
entering y w v es rf (Listens t) st =
    let ds = history y es in
    let s = spot_next y ds in (
      tt,
      record {
        table = st.table;
        kind = st.kind;
        heard = λ r e. absurd (grind (arith, e));
        place = λ r e. absurd (grind (arith, e));
        registers = stopped_registers (plan_at y s.hyper.mode) v s.stay ds (runs_by_kind v ds listening st.kind);
      },
    )
entering y w v es rf (Syncs n) st =
    let ds = history y es in
    let on = passed n (ticks_to y ds) in
    let q = entering_runs y w v es rf n st.table (st.knows n refl) st.registers in
    let x = q.1.2 in (
      q.0,
      record {
        table = x.table;
        kind = ap in_sync (same_announced on n x.heard x.mode) ∙ st.kind;
        heard = λ r e. subst (λ (z : RunningNode). last_heard v ds ≡ Some (plain_beacon z.heard)) (running_is on r e) ((st.knows n refl).heard ∙ ap (λ (b : Beacon). Some (plain_beacon b)) (sym x.heard));
        place = λ r e. subst (λ (z : RunningNode). (d : Step) × (last_beacon ds ≡ Some d) × IsAtEntry y ds d z) (running_is on r e) (q.1.0, q.1.1, x.place);
        registers = x.registers;
      },
    )
entering y w v es rf (Coasts n) st =
    let ds = history y es in
    let on = passed n (ticks_to y ds) in
    let q = entering_runs y w v es rf n st.table (st.knows n refl) st.registers in
    let x = q.1.2 in (
      q.0,
      record {
        table = x.table;
        kind = st.kind;
        heard = λ r e. subst (λ (z : RunningNode). last_heard v ds ≡ Some (plain_beacon z.heard)) (running_is on r e) ((st.knows n refl).heard ∙ ap (λ (b : Beacon). Some (plain_beacon b)) (sym x.heard));
        place = λ r e. subst (λ (z : RunningNode). (d : Step) × (last_beacon ds ≡ Some d) × IsAtEntry y ds d z) (running_is on r e) (q.1.0, q.1.1, x.place);
        registers = x.registers;
      },
    )
