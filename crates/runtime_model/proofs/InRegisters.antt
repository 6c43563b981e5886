-- At a start of run k an in register that is full has a packet of window k
use Rattle.std.proofs.Common.{◌≡◌, ℕ, zero, suc, ◌+◌, ◌*◌, ◌%◌, ◌<◌, ◌≤◌, Bool, true, false, cond, not, ◌&&◌, List, [], ◌∷◌, length, get_or, Contains, refl, sym, ◌∙◌, ap, subst, arith, ◌⊎◌, inl, inr, ⊎_elim, ℤ, pos, ◌+ℤ◌, ◌≤ℤ◌, ◌<ℤ◌}
use Rattle.std.specs.Prelude.{nat_eq, nat_lt, Option, Some, None}
use Rattle.std.proofs.lemmas.Int.{ints}
use Rattle.std.proofs.lemmas.Bool.{cases_lt, cond-true, eqb-true, eq-eqb, and_parts}
use Rattle.sched_model.specs.Numbers.{has, below}
use Rattle.sched_model.specs.PlainMode.{task_at, message_at}
use Rattle.sched_model.specs.Rounds.{round_start, opens, closes}
use Rattle.runtime_model.proofs.TaskTimes.{TaskFits}
use Rattle.runtime_model.specs.Entries.{Entry, Action, task_ends, beacon, slot, task_starts}
use Rattle.runtime_model.specs.History.{history, step_of, last_spot, spot_next, entries, entry_at, performed, start_or_not, finished_or_not, sent_or_not}
use Rattle.runtime_model.specs.Inputs.{inputs}
use Rattle.runtime_model.specs.Laws.{InputsHold}
use Rattle.runtime_model.specs.LookingBack.{recall, or_else, runs, synced}
use Rattle.runtime_model.specs.Outcomes.{PlainEvent, advance, request, restart, Spot, Step, Outcome, beaconed, sent, silent, started, off, finished, void, requested, restarted, is_beacon, restarts, begun_run, took}
use Rattle.runtime_model.specs.Packets.{packet, held, takes}
use Rattle.runtime_model.specs.Placement.{placed, own_slot, own_start, window_at, run_at, ends_run, ending_run_at}
use Rattle.runtime_model.specs.Plans.{Plan, offset, node_of, RightPlan, sender_of}
use Rattle.runtime_model.specs.Registers.{last_in, flat, values_of}
use Rattle.runtime_model.specs.System.{System, plan_at}
use Rattle.runtime_model.specs.Timeline.{drains}
use Rattle.sched_model.proofs.Graph.{message_edge}
use Rattle.runtime_model.proofs.Cycles.{none, entry_right, RightAt}
use Rattle.runtime_model.proofs.Spots.{moves, stands}
use Rattle.runtime_model.proofs.Registers.{cond_some, or_cases, recall_stay, still_runs}
use Rattle.runtime_model.proofs.Instances.{same_class, due_class, later_runs}
use Rattle.runtime_model.proofs.Slots.{none_step, some_step}
use Rattle.runtime_model.proofs.Once.{start_once}
use Rattle.runtime_model.proofs.Times.{natural_is, offset_is, task_fits, slot_window, round_from_zero, slot_carried}
use Rattle.runtime_model.proofs.OutRegisters.{in_cycle, Is, H, P, BeforeSpot, Before, Released, step_back, step_on, same_mode, released_back, time_order, time_before, turns_apart, index_fits, performed_is, start_place, is_placed, not_both, split_before, start_is_quiet, both_true, run_is}

pub calm : (b d : Bool) → (b ≡ true → d ≡ false) → d ≡ true → b ≡ false
calm true d f e = absurd (let q : true ≡ false = sym e ∙ f refl in cc)
calm false d f e = refl

-- ---- what fills a register
sent_is : (y : System) (p : Plan) (s : Spot) (lost : ℕ) (ds : List Step) (u : ℕ) (w : Action) (v b i l : ℕ) (xs : List ℤ) → last_in v b i (performed y p s lost ds u w) ≡ Some (Some (l, xs)) →
    (j : ℕ) × (w ≡ slot j i) × (placed s.hyper.opening s.hyper.phase (own_slot p j i) ≡ true) × (l ≡ window_at p s.turn j i)
sent_is y p s lost ds u (task_ends c) v b i l xs e = absurd (not_ended (cond (ends_run p s.turn u c) (recall (node_of p c) s.stay (begun_run c (ending_run_at p s.turn u c)) ds) None) e)
  where
    not_ended : (o : Option ℤ) → last_in v b i (finished_or_not (node_of p c) c (ending_run_at p s.turn u c) o) ≡ Some (Some (l, xs)) → ⊥
    not_ended None e = grind (arith, e)
    not_ended (Some x) e = grind (arith, e)
sent_is y p s lost ds u (beacon j) v b i l xs e = absurd (grind (arith, e))
sent_is y p s lost ds u (slot j m) v b i l xs e = by_packet (packet p s j m ds) refl e
  where
    by_packet : (o : Option (List ℤ)) → packet p s j m ds ≡ o → last_in v b i (sent_or_not p y.nodes s j m ds o lost) ≡ Some (Some (l, xs)) →
        (k : ℕ) × (slot j m ≡ slot k i) × (placed s.hyper.opening s.hyper.phase (own_slot p k i) ≡ true) × (l ≡ window_at p s.turn k i)
    by_packet None h e = absurd (grind (arith, e))
    by_packet (Some ys) h e =
        let t = Rattle.std.specs.List.filter (takes p s.stay lost (sender_of p m) m (window_at p s.turn j m) ds) (below y.nodes) in
        let c = cond_some {X = Option (ℕ × List ℤ)} (nat_eq m i && has t v) (Some (Some (window_at p s.turn j m, ys))) (Some (l, xs)) e in
        let same = eqb-true m i (and_parts (nat_eq m i) (has t v) c.0).0 in
        let g = cond_some (placed s.hyper.opening s.hyper.phase (own_slot p j m) && synced (sender_of p m) ds) (held p s.stay m (window_at p s.turn j m) ds) ys h in
        let q : (window_at p s.turn j m, ys) ≡ (l, xs) = grind (arith, c.1) in (
          j,
          ap (slot j) same,
          subst (λ z. placed s.hyper.opening s.hyper.phase (own_slot p j z) ≡ true) same (and_parts (placed s.hyper.opening s.hyper.phase (own_slot p j m)) (synced (sender_of p m) ds) g.0).0,
          sym (ap (λ (z : ℕ × List ℤ). z.0) q) ∙ ap (window_at p s.turn j) same,
        )
sent_is y p s lost ds u (task_starts c) v b i l xs e = absurd (not_started (placed s.hyper.opening s.hyper.phase (own_start p u c) && runs (node_of p c) ds) e)
  where
    not_started : (o : Bool) → last_in v b i (start_or_not y p s ds c u o) ≡ Some (Some (l, xs)) → ⊥
    not_started true e = by_test (nat_eq c b) e
      where
        by_test : (t : Bool) → cond {A = Option (Option (ℕ × List ℤ))} t (Some None) None ≡ Some (Some (l, xs)) → ⊥
        by_test true e = grind (arith, e)
        by_test false e = grind (arith, e)
    not_started false e = grind (arith, e)

emptied : (o : Option (Option (ℕ × List ℤ))) → o ≡ None → o ≡ Some None → ⊥
emptied None e f = grind (arith, f)
emptied (Some x) e f = grind (arith, e)

emptied_full : {X : Type 0} (o : Option (Option X)) {x : X} → o ≡ Some None → o ≡ Some (Some x) → ⊥
emptied_full o e f = let q = sym e ∙ f in grind (arith, q)

-- a packet that was taken fills the register, and what leaves the register takes none
pub took_in : (v b i k : ℕ) (xs : List ℤ) (o : Outcome) → took v i k o ≡ Some xs → last_in v b i o ≡ Some (Some (k, xs))
took_in v b i k xs (sent w j l ys ts) e =
    let c = cond_some (nat_eq j i && (nat_eq l k && has ts v)) (Some ys) xs e in
    let a = and_parts (nat_eq j i) (nat_eq l k && has ts v) c.0 in
    let a' = and_parts (nat_eq l k) (has ts v) a.1 in
    let q : ys ≡ xs = grind (arith, c.1) in
    cond-true {A = Option (Option (ℕ × List ℤ))} (nat_eq j i && has ts v) (Some (Some (l, ys))) None (both_true (nat_eq j i) (has ts v) a.0 a'.1)
    ∙ ap (λ (z : ℕ). Some (Some (z, ys))) (eqb-true l k a'.0) ∙ ap (λ (z : List ℤ). Some (Some (k, z))) q
took_in v b i k xs (beaconed q hs) e = absurd (grind (arith, e))
took_in v b i k xs (silent j) e = absurd (grind (arith, e))
took_in v b i k xs (started w c l ins z) e = absurd (grind (arith, e))
took_in v b i k xs (off w c) e = absurd (grind (arith, e))
took_in v b i k xs (finished w c l z) e = absurd (grind (arith, e))
took_in v b i k xs (void w c) e = absurd (grind (arith, e))
took_in v b i k xs (requested m) e = absurd (grind (arith, e))
took_in v b i k xs (restarted w) e = absurd (grind (arith, e))

pub in_took : (v b i k : ℕ) (xs : List ℤ) (o : Outcome) → last_in v b i o ≡ Some (Some (k, xs)) → took v i k o ≡ Some xs
in_took v b i k xs (sent w j l ys ts) e =
    let c = cond_some {X = Option (ℕ × List ℤ)} (nat_eq j i && has ts v) (Some (Some (l, ys))) (Some (k, xs)) e in
    let a = and_parts (nat_eq j i) (has ts v) c.0 in
    let q : (l, ys) ≡ (k, xs) = grind (arith, c.1) in
    cond-true (nat_eq j i && (nat_eq l k && has ts v)) (Some ys) None (both_true (nat_eq j i) (nat_eq l k && has ts v) a.0 (both_true (nat_eq l k) (has ts v) (eq-eqb l k (ap (λ (z : ℕ × List ℤ). z.0) q)) a.1))
    ∙ ap (λ (z : ℕ × List ℤ). Some z.1) q
in_took v b i k xs (beaconed q hs) e = absurd (grind (arith, e))
in_took v b i k xs (silent j) e = absurd (grind (arith, e))
in_took v b i k xs (started w c l ins z) e = absurd (not_full (nat_eq c b) e)
  where
    not_full : (t : Bool) → cond {A = Option (Option (ℕ × List ℤ))} t (Some None) None ≡ Some (Some (k, xs)) → ⊥
    not_full true e = grind (arith, e)
    not_full false e = grind (arith, e)
in_took v b i k xs (off w c) e = absurd (grind (arith, e))
in_took v b i k xs (finished w c l z) e = absurd (grind (arith, e))
in_took v b i k xs (void w c) e = absurd (grind (arith, e))
in_took v b i k xs (requested m) e = absurd (grind (arith, e))
in_took v b i k xs (restarted w) e = absurd (grind (arith, e))

pub none_took : (v b i k : ℕ) (o : Outcome) → last_in v b i o ≡ None → took v i k o ≡ None
none_took v b i k o e = by_case (took v i k o) refl
  where
    by_case : (t : Option (List ℤ)) → took v i k o ≡ t → t ≡ None
    by_case None h = refl
    by_case (Some xs) h = absurd (let q = sym e ∙ took_in v b i k xs o h in grind (arith, q))

-- what empties a register is a start of the task
start_is : (y : System) (p : Plan) (s : Spot) (lost : ℕ) (ds : List Step) (u : ℕ) (w : Action) (v b i : ℕ) → last_in v b i (performed y p s lost ds u w) ≡ Some None → w ≡ task_starts b
start_is y p s lost ds u (task_ends c) v b i e = absurd (not_ended (cond (ends_run p s.turn u c) (recall (node_of p c) s.stay (begun_run c (ending_run_at p s.turn u c)) ds) None) e)
  where
    not_ended : (o : Option ℤ) → last_in v b i (finished_or_not (node_of p c) c (ending_run_at p s.turn u c) o) ≡ Some None → ⊥
    not_ended None e = grind (arith, e)
    not_ended (Some x) e = grind (arith, e)
start_is y p s lost ds u (beacon j) v b i e = absurd (grind (arith, e))
start_is y p s lost ds u (slot j m) v b i e = absurd (not_sent (packet p s j m ds) e)
  where
    not_sent : (o : Option (List ℤ)) → last_in v b i (sent_or_not p y.nodes s j m ds o lost) ≡ Some None → ⊥
    not_sent None e = grind (arith, e)
    not_sent (Some ys) e = never_full (nat_eq m i && has (Rattle.std.specs.List.filter (takes p s.stay lost (sender_of p m) m (window_at p s.turn j m) ds) (below y.nodes)) v) (window_at p s.turn j m) ys e
      where
        never_full : (t : Bool) (k : ℕ) (ys : List ℤ) → cond {A = Option (Option (ℕ × List ℤ))} t (Some (Some (k, ys))) None ≡ Some None → ⊥
        never_full true k ys e = grind (arith, e)
        never_full false k ys e = grind (arith, e)
start_is y p s lost ds u (task_starts c) v b i e = ap task_starts (by_start (placed s.hyper.opening s.hyper.phase (own_start p u c) && runs (node_of p c) ds) e)
  where
    by_start : (o : Bool) → last_in v b i (start_or_not y p s ds c u o) ≡ Some None → c ≡ b
    by_start true e = eqb-true c b (cond_some {X = Option (ℕ × List ℤ)} (nat_eq c b) (Some None) None e).0
    by_start false e = absurd (grind (arith, e))

pub none_all : {X Y : Type 0} (f : Outcome → Option X) (g : Outcome → Option Y) (v st : ℕ) (ds : List Step) → ((o : Outcome) → f o ≡ None → g o ≡ None) → recall v st f ds ≡ None → recall v st g ds ≡ None
none_all f g v st [] h e = refl
none_all f g v st (d ∷ ds) h e = none_step (runs v (d ∷ ds) && nat_eq d.spot.stay st) (f d.out) (recall v st f ds) (g d.out) (recall v st g ds) (h d.out) (none_all f g v st ds h) e

pub some_all : {X Y : Type 0} (f : Outcome → Option X) (g : Outcome → Option Y) (x : X) (z : Y) (v st : ℕ) (ds : List Step) → ((o : Outcome) → f o ≡ None → g o ≡ None) → ((o : Outcome) → f o ≡ Some x → g o ≡ Some z) → recall v st f ds ≡ Some x → recall v st g ds ≡ Some z
some_all f g x z v st [] h k e = absurd (grind (arith, e))
some_all f g x z v st (d ∷ ds) h k e = some_step (runs v (d ∷ ds) && nat_eq d.spot.stay st) (f d.out) (recall v st f ds) (g d.out) (recall v st g ds) x z (k d.out) (h d.out) (some_all f g x z v st ds h k) e

-- ---- a past start of a later run
module _ (y : System) (md b i : ℕ) (ok : RightPlan y.nodes (plan_at y md)) (il : i < length (plan_at y md).mode.messages) (to : Contains (message_at (plan_at y md).mode i).to b) where
  pub consumer : b < length (plan_at y md).mode.tasks
  consumer =
      let a = ok.valid.producer i il in
      (ok.valid.edges a.0 b (message_edge (plan_at y md).mode i a.0 b il a.1 to)).to

  pub fit : TaskFits y.nodes (plan_at y md) b
  fit = task_fits y.nodes (plan_at y md) ok b consumer

  pub some : 1 ≤ length (entries y md)
  some = let w = start_place y md b fit 0 in omega (arith, w.3.0)

  -- the times of a slot that filled the register
  pub record Filled (n k : ℕ) (place : ℕ) : Type 0 where
    pub round : ℕ
    pub tick : ℕ
    pub is : Is y md place tick (slot round i)
    pub after : (opens (plan_at y md).schedule i +ℤ pos (k * P (plan_at y md) b)) ≤ℤ pos (n * H y md + tick)
    pub before : pos (n * H y md + tick) <ℤ (closes (plan_at y md).schedule i +ℤ pos (k * P (plan_at y md) b))

  filled : (es : List PlainEvent) (lost v l : ℕ) (xs : List ℤ) → (spot_next y (history y es)).hyper.mode ≡ md → last_in v b i (step_of y (advance lost) (history y es)).out ≡ Some (Some (l, xs)) →
      Filled (spot_next y (history y es)).turn l (spot_next y (history y es)).index
  filled es lost v l xs m e =
      let ds = history y es in
      let s = spot_next y ds in
      let p = plan_at y md in
      let mv = moves y ds (stands y es) in
      let now = stands y (advance lost ∷ es) in
      let fits = index_fits y md b fit some ds s mv m in
      let g = get_or (entries y md) s.index none in
      let e' = subst (λ (z : ℕ). last_in v b i (performed y (plan_at y z) s lost ds (get_or (entries y z) s.index none).tick (get_or (entries y z) s.index none).action) ≡ Some (Some (l, xs))) m e in
      let f = sent_is y p s lost ds g.tick g.action v b i l xs e' in
      let r = subst (λ (w : Action). RightAt p g.tick w) f.1 (entry_right y.nodes p s.index fits).1 in
      let c = slot_carried y.nodes p ok g.tick f.0 i r in
      let w = slot_window y.nodes p ok s.turn f.0 i s.hyper.opening s.hyper.phase c now.turn (calm s.hyper.opening (drains s.hyper.phase) now.opening) f.2 in
      let at = natural_is (round_start p.schedule f.0) (round_from_zero y.nodes p ok f.0 c.0) in
      let at' = ap (λ (z : ℕ). pos z) r.1 in
      let per = ap (λ z. l * z) (ok.valid.consumer_app i b il to).0 in
      let num = ap (λ z. z * (message_at p.mode i).period) f.3 in
      record {
        round = f.0;
        tick = g.tick;
        is = (fits, ap (λ (w : Action). record { tick = g.tick; action = w }) f.1);
        after = omega (arith, ints, w.after, at, at', per, num);
        before = omega (arith, ints, w.before, at, at', per, num, ok.valid.round);
      }

  -- a due start of the stay on a running node is performed
  start_performed : (es : List PlainEvent) (lost u k : ℕ) → (spot_next y (history y es)).hyper.mode ≡ md → Is y md (spot_next y (history y es)).index u (task_starts b) →
      (spot_next y (history y es)).turn * H y md + u ≡ offset (plan_at y md) b + k * P (plan_at y md) b → Released (plan_at y md) (spot_next y (history y es)) (k * P (plan_at y md) b) →
      runs (node_of (plan_at y md) b) (step_of y (advance lost) (history y es) ∷ history y es) ≡ true →
      (l : ℕ) × (ins : List (Option ℤ)) × (x : ℤ) × ((step_of y (advance lost) (history y es)).out ≡ started (node_of (plan_at y md) b) b l ins x)
  start_performed es lost u k m is t r run =
      let ds = history y es in
      let p = plan_at y md in
      let v = node_of p b in
      let d = step_of y (advance lost) ds in
      let s = spot_next y ds in
      let out = performed_is y md b fit some ds lost s.index u (task_starts b) m refl is in
      let ok' = placed s.hyper.opening s.hyper.phase (own_start p u b) in
      let quiet = start_is_quiet y p s ds b u v (ok' && runs v ds) in
      let running = sym (still_runs v d ds (ap (restarts v) out ∙ quiet.0) (ap is_beacon out ∙ quiet.1)) ∙ run in
      let may = both_true ok' (runs v ds) (is_placed y md b fit s u k (stands y (advance lost ∷ es)).turn t r) running in
      let number = (task_at p.mode b).number in
      let l = run_at p s.turn u b in
      let ins = inputs p s.stay b l ds in
      (l, ins, y.answers ds number ins, out ∙ ap (start_or_not y p s ds b u) may)

  -- after a packet of window l no start of run l is past while the register is full
  pub no_start_before : (es : List PlainEvent) (st n j u l : ℕ) (xs : List ℤ) → (last_spot (history y es)).hyper.mode ≡ md →
      recall (node_of (plan_at y md) b) st (last_in (node_of (plan_at y md) b) b i) (history y es) ≡ Some (Some (l, xs)) → Is y md j u (task_starts b) → n * H y md + u ≡ offset (plan_at y md) b + l * P (plan_at y md) b →
      Before (history y es) n j → Released (plan_at y md) (last_spot (history y es)) (l * P (plan_at y md) b) → ⊥
  no_start_before [] st n j u l xs m e is t before r = absurd (grind (arith, e))
  no_start_before (request q ∷ es) st n j u l xs m e is t before r =
      let ds = history y es in
      let v = node_of (plan_at y md) b in
      let d = step_of y (request q) ds in
      no_start_before es st n j u l xs m (cond_some (runs v (d ∷ ds) && nat_eq d.spot.stay st) (recall v st (last_in v b i) ds) (Some (l, xs)) e).1 is t before r
  no_start_before (restart q ∷ es) st n j u l xs m e is t before r =
      let ds = history y es in
      let v = node_of (plan_at y md) b in
      let d = step_of y (restart q) ds in
      no_start_before es st n j u l xs m (cond_some (runs v (d ∷ ds) && nat_eq d.spot.stay st) (recall v st (last_in v b i) ds) (Some (l, xs)) e).1 is t before r
  no_start_before (advance lost ∷ es) st n j u l xs m e is t before r =
      let ds = history y es in
      let p = plan_at y md in
      let v = node_of p b in
      let d = step_of y (advance lost) ds in
      let s = spot_next y ds in
      let mv = moves y ds (stands y es) in
      let c = cond_some (runs v (d ∷ ds) && nat_eq s.stay st) (or_else (last_in v b i d.out) (recall v st (last_in v b i) ds)) (Some (l, xs)) e in
      let both = and_parts (runs v (d ∷ ds)) (nat_eq s.stay st) c.0 in
      ⊎_elim
      (λ (hit : last_in v b i d.out ≡ Some (Some (l, xs))).
      let f = filled es lost v l xs m hit in
      let o = offset_is y.nodes p ok b consumer in
      let late : s.turn * H y md + f.tick < n * H y md + u = omega (arith, ints, f.before, (ok.right.s4 i il).taken b to, o, ap (λ (z : ℕ). pos z) t) in
      absurd (not_both n s.turn j s.index before (time_order y md s.turn s.index f.tick n j u (slot f.round i) (task_starts b) f.is is (omega (arith, late)))))
      (λ (miss : (last_in v b i d.out ≡ None) × (recall v st (last_in v b i) ds ≡ Some (Some (l, xs)))).
      let same = eqb-true s.stay st both.1 ∙ sym (recall_stay v st (last_in v b i) ds (Some (l, xs)) miss.1) in
      let mode_ds = same_mode y ds s mv same ∙ m in
      ⊎_elim
      (λ (at : (n ≡ s.turn) × (j ≡ s.index)).
      let w = start_performed es lost u l m (subst (λ z. Is y md z u (task_starts b)) at.1 is) (subst (λ z. z * H y md + u ≡ offset p b + l * P p b) at.0 t) r both.0 in
      let says = ap (last_in v b i) w.3 ∙ cond-true {A = Option (Option (ℕ × List ℤ))} (nat_eq b b) (Some None) None (eq-eqb b b refl) in
      absurd (emptied (last_in v b i d.out) miss.0 says))
      (λ (earlier : BeforeSpot s n j).
      no_start_before es st n j u l xs mode_ds miss.1 is t (step_back y ds s n j mv same (subst (λ (z : ℕ). j < length (entries y z)) (sym mode_ds) is.0) earlier) (released_back y p ds s (l * P p b) mv same r))
      (split_before n s.turn j s.index before))
      (or_cases (last_in v b i d.out) (recall v st (last_in v b i) ds) (Some (l, xs)) c.1)

  -- the packet that filled the register is past
  pub filled_was : (es : List PlainEvent) (st v l : ℕ) (xs : List ℤ) → (last_spot (history y es)).hyper.mode ≡ md → recall v st (last_in v b i) (history y es) ≡ Some (Some (l, xs)) →
      (n : ℕ) × (j : ℕ) × Filled n l j × Before (history y es) n j
  filled_was [] st v l xs m e = absurd (grind (arith, e))
  filled_was (request q ∷ es) st v l xs m e = let ds = history y es in let d = step_of y (request q) ds in
      filled_was es st v l xs m (cond_some (runs v (d ∷ ds) && nat_eq d.spot.stay st) (recall v st (last_in v b i) ds) (Some (l, xs)) e).1
  filled_was (restart q ∷ es) st v l xs m e = let ds = history y es in let d = step_of y (restart q) ds in
      filled_was es st v l xs m (cond_some (runs v (d ∷ ds) && nat_eq d.spot.stay st) (recall v st (last_in v b i) ds) (Some (l, xs)) e).1
  filled_was (advance lost ∷ es) st v l xs m e =
      let ds = history y es in
      let d = step_of y (advance lost) ds in
      let s = spot_next y ds in
      let mv = moves y ds (stands y es) in
      let c = cond_some (runs v (d ∷ ds) && nat_eq s.stay st) (or_else (last_in v b i d.out) (recall v st (last_in v b i) ds)) (Some (l, xs)) e in
      ⊎_elim
      (λ (hit : last_in v b i d.out ≡ Some (Some (l, xs))). (s.turn, s.index, filled es lost v l xs m hit, inr (refl, omega arith)))
      (λ (miss : (last_in v b i d.out ≡ None) × (recall v st (last_in v b i) ds ≡ Some (Some (l, xs)))).
      let same = eqb-true s.stay st (and_parts (runs v (d ∷ ds)) (nat_eq s.stay st) c.0).1 ∙ sym (recall_stay v st (last_in v b i) ds (Some (l, xs)) miss.1) in
      let w = filled_was es st v l xs (same_mode y ds s mv same ∙ m) miss.1 in
      (w.0, w.1, w.2, ⊎_elim (λ (q : w.0 < s.turn). inl q) (λ (q : (w.0 ≡ s.turn) × (w.1 < s.index)). inr (q.0, omega (arith, q.1))) (step_on y ds s w.0 w.1 mv same w.3)))
      (or_cases (last_in v b i d.out) (recall v st (last_in v b i) ds) (Some (l, xs)) c.1)

  -- at a start of run k a full register is of window k
  full_is_own : (es : List PlainEvent) (u k l : ℕ) (xs : List ℤ) → (spot_next y (history y es)).hyper.mode ≡ md → Is y md (spot_next y (history y es)).index u (task_starts b) →
      (spot_next y (history y es)).turn * H y md + u ≡ offset (plan_at y md) b + k * P (plan_at y md) b → Released (plan_at y md) (spot_next y (history y es)) (k * P (plan_at y md) b) →
      recall (node_of (plan_at y md) b) (spot_next y (history y es)).stay (last_in (node_of (plan_at y md) b) b i) (history y es) ≡ Some (Some (l, xs)) → l ≡ k
  full_is_own es u k l xs m is t r e =
      let ds = history y es in
      let p = plan_at y md in
      let v = node_of p b in
      let s = spot_next y ds in
      let mv = moves y ds (stands y es) in
      let same = sym (recall_stay v s.stay (last_in v b i) ds (Some (l, xs)) e) in
      let mode_ds = same_mode y ds s mv same ∙ m in
      ⊎_elim
      (λ (early : l < k).
      let w = start_place y md b fit l in
      let gap = turns_apart (P p b) l k early in
      let first = time_order y md w.0 w.1 w.2 s.turn s.index u (task_starts b) (task_starts b) w.3 is (omega (arith, w.4, t, gap, fit.period)) in
      absurd (no_start_before es s.stay w.0 w.1 w.2 l xs mode_ds e w.3 w.4 (step_back y ds s w.0 w.1 mv same (subst (λ (z : ℕ). w.1 < length (entries y z)) (sym mode_ds) w.3.0) first)
      (released_back y p ds s (l * P p b) mv same (λ d. omega (arith, r d, gap)))))
      (λ (late : k ≤ l).
      let f = filled_was es s.stay v l xs mode_ds e in
      let before = time_before y md f.0 f.1 f.2.tick s.turn s.index u (slot f.2.round i) (task_starts b) f.2.is is (step_on y ds s f.0 f.1 mv same f.3) in
      let o = offset_is y.nodes p ok b consumer in
      ⊎_elim
      (λ (more : k < l). absurd (omega (arith, ints, before, f.2.after, t, o, (ok.right.s4 i il).next b to, turns_apart (P p b) k l more, (ok.valid.consumer_app i b il to).0)))
      (λ (le : l ≤ k). omega (arith, late, le))
      (cases_lt k l))
      (cases_lt l k)

  -- a start at one time is at one place
  one_start : (n m j g t u : ℕ) → Is y md j t (task_starts b) → Is y md g u (task_starts b) → n * H y md + t ≡ m * H y md + u → (n < m) ⊎ (n ≡ m) × (j < g) → ⊥
  one_start n m j g t u is is' e l =
      ⊎_elim
      (λ (h : n < m). omega (arith, turns_apart (H y md) n m h, in_cycle y md j t (task_starts b) is, e))
      (λ (h : (n ≡ m) × (j < g)).
      let same : t ≡ u = omega (arith, e, ap (λ z. z * H y md) h.0) in
      omega (arith, h.1, start_once y.nodes (plan_at y md) u b j g is.0 is'.0 (is.1 ∙ ap (λ z. record { tick = z; action = task_starts b }) same) is'.1))
      l

  -- a packet that was taken is past
  pub took_was : (es : List PlainEvent) (st v k : ℕ) (xs : List ℤ) → (last_spot (history y es)).hyper.mode ≡ md → recall v st (took v i k) (history y es) ≡ Some xs →
      (n : ℕ) × (j : ℕ) × Filled n k j × Before (history y es) n j
  took_was [] st v k xs m e = absurd (grind (arith, e))
  took_was (request q ∷ es) st v k xs m e = let ds = history y es in let d = step_of y (request q) ds in
      took_was es st v k xs m (cond_some (runs v (d ∷ ds) && nat_eq d.spot.stay st) (recall v st (took v i k) ds) xs e).1
  took_was (restart q ∷ es) st v k xs m e = let ds = history y es in let d = step_of y (restart q) ds in
      took_was es st v k xs m (cond_some (runs v (d ∷ ds) && nat_eq d.spot.stay st) (recall v st (took v i k) ds) xs e).1
  took_was (advance lost ∷ es) st v k xs m e =
      let ds = history y es in
      let d = step_of y (advance lost) ds in
      let s = spot_next y ds in
      let mv = moves y ds (stands y es) in
      let c = cond_some (runs v (d ∷ ds) && nat_eq s.stay st) (or_else (took v i k d.out) (recall v st (took v i k) ds)) xs e in
      ⊎_elim
      (λ (hit : took v i k d.out ≡ Some xs). (s.turn, s.index, filled es lost v k xs m (took_in v b i k xs d.out hit), inr (refl, omega arith)))
      (λ (miss : (took v i k d.out ≡ None) × (recall v st (took v i k) ds ≡ Some xs)).
      let same = eqb-true s.stay st (and_parts (runs v (d ∷ ds)) (nat_eq s.stay st) c.0).1 ∙ sym (recall_stay v st (took v i k) ds xs miss.1) in
      let w = took_was es st v k xs (same_mode y ds s mv same ∙ m) miss.1 in
      (w.0, w.1, w.2, ⊎_elim (λ (q : w.0 < s.turn). inl q) (λ (q : (w.0 ≡ s.turn) × (w.1 < s.index)). inr (q.0, omega (arith, q.1))) (step_on y ds s w.0 w.1 mv same w.3)))
      (or_cases (took v i k d.out) (recall v st (took v i k) ds) xs c.1)

  -- two starts of the task are whole periods apart
  periods_apart : (n j u m g t : ℕ) → Is y md j u (task_starts b) → Is y md g t (task_starts b) → n * H y md + u < m * H y md + t → n * H y md + u + P (plan_at y md) b ≤ m * H y md + t
  periods_apart n j u m g t is is' l =
      let p = plan_at y md in
      let due = λ (z : ℕ) (w : ℕ) (q : Is y md z w (task_starts b)). eqb-true (offset p b % P p b) (w % P p b) ((subst (λ (x : Entry). RightAt p x.tick x.action) q.1 (entry_right y.nodes p z q.0).1).1) in
      let cls = sym (due_class (P p b) (H y md) fit.turns (offset p b) (task_at p.mode b).wcet (task_at p.mode b).deadline fit.period fit.whole fit.wcet fit.late fit.deadline n u (due j u is)) ∙ due_class (P p b) (H y md) fit.turns (offset p b) (task_at p.mode b).wcet (task_at p.mode b).deadline fit.period fit.whole fit.wcet fit.late fit.deadline m t (due g t is') in
      let w = same_class (P p b) (n * H y md + u) (m * H y md + t) fit.period (omega (arith, l)) cls in
      some_steps w.0 (P p b) (n * H y md + u) (m * H y md + t) l w.1
    where
      some_steps : (k p x z : ℕ) → x < z → z ≡ x + k * p → x + p ≤ z
      some_steps zero p x z l e = absurd (omega (arith, e, l))
      some_steps (suc k) p x z l e = omega (arith, e)

  -- where a start emptied the register last, nothing was taken in the window of a start to come
  pub none_since_start : (es : List PlainEvent) (st v k n g u : ℕ) (xs : List ℤ) → (last_spot (history y es)).hyper.mode ≡ md →
      recall v st (last_in v b i) (history y es) ≡ Some None → recall v st (took v i k) (history y es) ≡ Some xs →
      Is y md g u (task_starts b) → n * H y md + u ≡ offset (plan_at y md) b + k * P (plan_at y md) b → ((m j : ℕ) → Before (history y es) m j → (m < n) ⊎ (m ≡ n) × (j < g)) → ⊥
  none_since_start [] st v k n g u xs m e f is t bound = absurd (grind (arith, e))
  none_since_start (request q ∷ es) st v k n g u xs m e f is t bound = let ds = history y es in let d = step_of y (request q) ds in
      none_since_start es st v k n g u xs m (cond_some (runs v (d ∷ ds) && nat_eq d.spot.stay st) (recall v st (last_in v b i) ds) None e).1 (cond_some (runs v (d ∷ ds) && nat_eq d.spot.stay st) (recall v st (took v i k) ds) xs f).1 is t bound
  none_since_start (restart q ∷ es) st v k n g u xs m e f is t bound = let ds = history y es in let d = step_of y (restart q) ds in
      none_since_start es st v k n g u xs m (cond_some (runs v (d ∷ ds) && nat_eq d.spot.stay st) (recall v st (last_in v b i) ds) None e).1 (cond_some (runs v (d ∷ ds) && nat_eq d.spot.stay st) (recall v st (took v i k) ds) xs f).1 is t bound
  none_since_start (advance lost ∷ es) st v k n g u xs m e f is t bound =
      let ds = history y es in
      let p = plan_at y md in
      let d = step_of y (advance lost) ds in
      let s = spot_next y ds in
      let mv = moves y ds (stands y es) in
      let c = cond_some (runs v (d ∷ ds) && nat_eq s.stay st) (or_else (last_in v b i d.out) (recall v st (last_in v b i) ds)) None e in
      let c' = cond_some (runs v (d ∷ ds) && nat_eq s.stay st) (or_else (took v i k d.out) (recall v st (took v i k) ds)) xs f in
      ⊎_elim
      (λ (hit' : took v i k d.out ≡ Some xs).
      let full = took_in v b i k xs d.out hit' in
      ⊎_elim
      (λ (hit : last_in v b i d.out ≡ Some None). emptied_full (last_in v b i d.out) hit full)
      (λ (miss : (last_in v b i d.out ≡ None) × (recall v st (last_in v b i) ds ≡ Some None)). absurd (let q = sym miss.0 ∙ full in grind (arith, q)))
      (or_cases (last_in v b i d.out) (recall v st (last_in v b i) ds) None c.1))
      (λ (miss' : (took v i k d.out ≡ None) × (recall v st (took v i k) ds ≡ Some xs)).
      let same = eqb-true s.stay st (and_parts (runs v (d ∷ ds)) (nat_eq s.stay st) c.0).1 ∙ sym (recall_stay v st (took v i k) ds xs miss'.1) in
      let mode_ds = same_mode y ds s mv same ∙ m in
      ⊎_elim
      (λ (hit : last_in v b i d.out ≡ Some None).
      let fits = index_fits y md b fit some ds s mv m in
      let h = get_or (entries y md) s.index none in
      let e' = subst (λ (z : ℕ). last_in v b i (performed y (plan_at y z) s lost ds (get_or (entries y z) s.index none).tick (get_or (entries y z) s.index none).action) ≡ Some None) m hit in
      let here : Is y md s.index h.tick (task_starts b) = (fits, ap (λ (w : Action). record { tick = h.tick; action = w }) (start_is y p s lost ds h.tick h.action v b i e')) in
      let w = took_was es st v k xs mode_ds miss'.1 in
      let after = time_before y md w.0 w.1 w.2.tick s.turn s.index h.tick (slot w.2.round i) (task_starts b) w.2.is here (step_on y ds s w.0 w.1 mv same w.3) in
      let now = bound s.turn s.index (inr (refl, omega arith)) in
      let late = time_before y md s.turn s.index h.tick n g u (task_starts b) (task_starts b) here is now in
      let o = offset_is y.nodes p ok b consumer in
      ⊎_elim
      (λ (l : s.turn * H y md + h.tick < n * H y md + u).
      let gap = periods_apart s.turn s.index h.tick n g u here is l in
      absurd (omega (arith, ints, gap, after, w.2.after, t, o, (ok.right.s4 i il).next b to, (ok.valid.consumer_app i b il to).0)))
      (λ (l : n * H y md + u ≤ s.turn * H y md + h.tick). one_start s.turn n s.index g h.tick u here is (omega (arith, late, l)) now)
      (cases_lt (s.turn * H y md + h.tick) (n * H y md + u)))
      (λ (miss : (last_in v b i d.out ≡ None) × (recall v st (last_in v b i) ds ≡ Some None)).
      none_since_start es st v k n g u xs mode_ds miss.1 miss'.1 is t (λ a j before. bound a j (⊎_elim (λ (q : a < s.turn). inl q) (λ (q : (a ≡ s.turn) × (j < s.index)). inr (q.0, omega (arith, q.1))) (step_on y ds s a j mv same before))))
      (or_cases (last_in v b i d.out) (recall v st (last_in v b i) ds) None c.1))
      (or_cases (took v i k d.out) (recall v st (took v i k) ds) xs c'.1)

-- ---- the time of a placed start
own_late : (m n : ℕ) → not (nat_lt m n) ≡ true → n ≤ m
own_late m n e = grind (arith, e)

own_early : (m n : ℕ) → not (nat_lt m n) ≡ false → m < n
own_early m n e = grind (arith, e)

opening_own : (b o d : Bool) → b ≡ true → cond b o (cond d (not o) true) ≡ true → o ≡ true
opening_own true o d e h = h
opening_own false o d e h = absurd cc

drain_own : (b o d : Bool) → d ≡ true → b ≡ false → cond b o (cond d (not o) true) ≡ true → o ≡ false
drain_own false false true d b h = refl
drain_own false true true d b h = absurd cc
drain_own true o d x b h = absurd cc
drain_own false o false d b h = absurd cc

module _ (y : System) (md b : ℕ) (fit : TaskFits y.nodes (plan_at y md) b) where
  pub start_time : (s : Spot) (u : ℕ) → Is y md s.index u (task_starts b) → s.hyper.opening ≡ nat_eq s.turn 0 → placed s.hyper.opening s.hyper.phase (own_start (plan_at y md) u b) ≡ true →
      (k : ℕ) × (s.turn * H y md + u ≡ offset (plan_at y md) b + k * P (plan_at y md) b)
  start_time s u is op pl = by_turn s.turn refl
    where
      due : offset (plan_at y md) b % P (plan_at y md) b ≡ u % P (plan_at y md) b
      due = eqb-true (offset (plan_at y md) b % P (plan_at y md) b) (u % P (plan_at y md) b) ((subst (λ (x : Entry). RightAt (plan_at y md) x.tick x.action) is.1 (entry_right y.nodes (plan_at y md) s.index is.0).1).1)

      by_turn : (n : ℕ) → s.turn ≡ n → (k : ℕ) × (s.turn * H y md + u ≡ offset (plan_at y md) b + k * P (plan_at y md) b)
      by_turn zero z =
          let own = opening_own s.hyper.opening (own_start (plan_at y md) u b) (drains s.hyper.phase) (op ∙ eq-eqb s.turn 0 z) pl in
          let w = same_class (P (plan_at y md) b) (offset (plan_at y md) b) u fit.period (own_late u (offset (plan_at y md) b) own) due in
          (w.0, omega (arith, w.1, ap (λ x. x * H y md) z))
      by_turn (suc n) z = later_runs (P (plan_at y md) b) (H y md) fit.turns (offset (plan_at y md) b) (task_at (plan_at y md).mode b).wcet (task_at (plan_at y md).mode b).deadline fit.period fit.whole fit.wcet fit.late fit.deadline s.turn u (omega (arith, z)) due

pub inputs_hold : InputsHold
inputs_hold y es b i ok to il here pl =
    let ds = history y es in
    let s = spot_next y ds in
    let md = s.hyper.mode in
    let p = plan_at y md in
    let v = node_of p b in
    let u = (entry_at y s).tick in
    let f = fit y md b i ok il to in
    let now = stands y (advance 0 ∷ es) in
    let l = index_fits y md b f (some y md b i ok il to) ds s (moves y ds (stands y es)) refl in
    let is : Is y md s.index u (task_starts b) = (l, ap (λ (w : Action). record { tick = u; action = w }) here) in
    let w = start_time y md b f s u is now.turn pl in
    let k = run_at p s.turn u b in
    let k_is = run_is y md b f s.turn u w.0 w.1 in
    let t : s.turn * H y md + u ≡ offset p b + k * P p b = w.1 ∙ ap (λ z. offset p b + z * P p b) (sym k_is) in
    let r : Released p s (k * P p b) = λ d. let shut = calm s.hyper.opening (drains s.hyper.phase) now.opening d in
    let early = own_early u (offset p b) (drain_own s.hyper.opening (own_start p u b) (drains s.hyper.phase) d shut pl) in omega (arith, early, t) in
    by_case y es b i ok to il k u is t r (recall v s.stay (last_in v b i) ds) refl
  where
    by_case : (y : System) (es : List PlainEvent) (b i : ℕ) (ok : RightPlan y.nodes (plan_at y (spot_next y (history y es)).hyper.mode)) (to : Contains (message_at (plan_at y (spot_next y (history y es)).hyper.mode).mode i).to b) (il : i < length (plan_at y (spot_next y (history y es)).hyper.mode).mode.messages) (k u : ℕ) →
        Is y (spot_next y (history y es)).hyper.mode (spot_next y (history y es)).index u (task_starts b) →
        (spot_next y (history y es)).turn * H y (spot_next y (history y es)).hyper.mode + u ≡ offset (plan_at y (spot_next y (history y es)).hyper.mode) b + k * P (plan_at y (spot_next y (history y es)).hyper.mode) b →
        Released (plan_at y (spot_next y (history y es)).hyper.mode) (spot_next y (history y es)) (k * P (plan_at y (spot_next y (history y es)).hyper.mode) b) →
        (o : Option (Option (ℕ × List ℤ))) → recall (node_of (plan_at y (spot_next y (history y es)).hyper.mode) b) (spot_next y (history y es)).stay (last_in (node_of (plan_at y (spot_next y (history y es)).hyper.mode) b) b i) (history y es) ≡ o →
        recall (node_of (plan_at y (spot_next y (history y es)).hyper.mode) b) (spot_next y (history y es)).stay (took (node_of (plan_at y (spot_next y (history y es)).hyper.mode) b) i k) (history y es) ≡ values_of (flat o)
    by_case y es b i ok to il k u is t r None e =
        let s = spot_next y (history y es) in
        let v = node_of (plan_at y s.hyper.mode) b in
        none_all (last_in v b i) (took v i k) v s.stay (history y es) (none_took v b i k) e
    by_case y es b i ok to il k u is t r (Some None) e =
        let ds = history y es in
        let s = spot_next y ds in
        let md = s.hyper.mode in
        let v = node_of (plan_at y md) b in
        let mv = moves y ds (stands y es) in
        let same = sym (recall_stay v s.stay (last_in v b i) ds None e) in
        nothing (recall v s.stay (took v i k) ds) (λ xs f. none_since_start y md b i ok il to es s.stay v k s.turn s.index u xs (same_mode y ds s mv same) e f is t (λ m j before. step_on y ds s m j mv same before))
      where
        nothing : (o : Option (List ℤ)) → ((xs : List ℤ) → o ≡ Some xs → ⊥) → o ≡ None
        nothing None f = refl
        nothing (Some xs) f = absurd (f xs refl)
    by_case y es b i ok to il k u is t r (Some (Some z)) e =
        let ds = history y es in
        let s = spot_next y ds in
        let md = s.hyper.mode in
        let v = node_of (plan_at y md) b in
        let same = full_is_own y md b i ok il to es u k z.0 z.1 refl is t r e in
        some_all (last_in v b i) (took v i k) (Some (k, z.1)) z.1 v s.stay ds (none_took v b i k) (in_took v b i k z.1) (e ∙ ap (λ (x : ℕ). Some (Some (x, z.1))) same)
