-- No node has two runs in progress at once
use Rattle.std.proofs.Common.{◌≡◌, ℕ, ◌+◌, ◌*◌, ◌<◌, ◌≤◌, Bool, true, false, cond, ◌&&◌, List, [], ◌∷◌, length, get_or, refl, sym, ◌∙◌, ap, subst, arith, ◌⊎◌, inl, inr, ⊎_elim, ℤ}
use Rattle.std.specs.Prelude.{nat_eq, Option, Some, None}
use Rattle.std.proofs.lemmas.Int.{ints}
use Rattle.std.proofs.lemmas.Bool.{cases_lt, cond-true, eqb-true, eq-eqb, and_parts}
use Rattle.runtime_model.specs.Plans.{RightPlan, node_of, offset}
use Rattle.runtime_model.specs.Entries.{Action, task_ends, task_starts}
use Rattle.runtime_model.specs.Placement.{ends_run, ending_run_at}
use Rattle.runtime_model.specs.Outcomes.{PlainEvent, advance, request, restart, Outcome, beaconed, sent, silent, started, off, finished, void, requested, restarted, Step, begun_run}
use Rattle.runtime_model.specs.LookingBack.{runs, recall, or_else}
use Rattle.runtime_model.specs.System.{System, plan_at}
use Rattle.runtime_model.specs.History.{history, step_of, spot_next, last_spot, entries, entry_at, performed, finished_or_not}
use Rattle.runtime_model.specs.Registers.{RunSeen, last_run, flat}
use Rattle.runtime_model.specs.Laws.{OneRunAtATime}
use Rattle.runtime_model.proofs.Cycles.{none, entry_right, RightAt}
use Rattle.runtime_model.proofs.Once.{start_once}
use Rattle.runtime_model.proofs.Spots.{moves, stands}
use Rattle.runtime_model.proofs.Times.{task_fits, offset_is}
use Rattle.runtime_model.proofs.Registers.{cond_some, or_cases, found_again, found_now, recall_stay}
use Rattle.runtime_model.proofs.OutRegisters.{Is, H, P, E, BeforeSpot, Before, step_back, step_on, same_mode, time_order, time_before, turns_apart, in_cycle, run_is, ending_is, end_place, performed_is, not_both, split_before, both_true}
use Rattle.runtime_model.proofs.InRegisters.{start_time}
use Rattle.runtime_model.proofs.Switches.{start_of, started_is, in_entries}
use Rattle.runtime_model.proofs.Beacons.{beacon_place}

-- ---- what begins a run
-- the start of this run, which says what it will answer
abbrev Begins : ℕ → RunSeen → Outcome → Type 0
Begins v r o = (start_of o ≡ Some (v, (r.task, r.run))) × (begun_run r.task r.run o ≡ Some r.value)

begins_run : (v : ℕ) (r : RunSeen) (o : Outcome) → last_run v o ≡ Some (Some r) → Begins v r o
begins_run v r (started w b k ins z) e =
    let c = cond_some {X = Option RunSeen} (nat_eq w v) (Some (Some (record { task = b; run = k; value = z }))) (Some r) e in
    let q : record { task = b; run = k; value = z } ≡ r = grind (arith, c.1) in
    let is = cond-true (nat_eq b b && nat_eq k k) (Some z) None (both_true (nat_eq b b) (nat_eq k k) (eq-eqb b b refl) (eq-eqb k k refl)) in
    subst (λ (x : RunSeen). Begins v x (started w b k ins z)) q (ap (λ (n : ℕ). Some (n, (b, k))) (eqb-true w v c.0), is)
begins_run v r (finished w b k z) e = absurd (by_test (nat_eq w v) e)
  where
    by_test : (t : Bool) → cond {A = Option (Option RunSeen)} t (Some None) None ≡ Some (Some r) → ⊥
    by_test true e = grind (arith, e)
    by_test false e = grind (arith, e)
begins_run v r (beaconed b hs) e = absurd (grind (arith, e))
begins_run v r (sent w j l xs ts) e = absurd (grind (arith, e))
begins_run v r (silent j) e = absurd (grind (arith, e))
begins_run v r (off w b) e = absurd (grind (arith, e))
begins_run v r (void w b) e = absurd (grind (arith, e))
begins_run v r (requested m) e = absurd (grind (arith, e))
begins_run v r (restarted w) e = absurd (grind (arith, e))

module _ (y : System) (md : ℕ) (ok : RightPlan y.nodes (plan_at y md)) where
  pub some : 1 ≤ length (entries y md)
  some = let w = beacon_place y md ok 0 (omega (arith, ok.right.shape.some, ok.right.shape.starts)) in omega (arith, w.1.0)

  -- the start of a run on node v is past, and its end is not
  pub record InProgress (ds : List Step) (st v : ℕ) (r : RunSeen) : Type 0 where
    pub turn : ℕ
    pub index : ℕ
    pub tick : ℕ
    pub is_task : r.task < length (plan_at y md).mode.tasks
    pub on : node_of (plan_at y md) r.task ≡ v
    pub start : Is y md index tick (task_starts r.task)
    pub time : turn * H y md + tick ≡ offset (plan_at y md) r.task + r.run * P (plan_at y md) r.task
    pub past : Before ds turn index
    pub begun : (z : ℤ) × (recall v st (begun_run r.task r.run) ds ≡ Some z)
    pub going : (n i u : ℕ) → Is y md i u (task_ends r.task) → n * H y md + u ≡ offset (plan_at y md) r.task + E (plan_at y md) r.task + r.run * P (plan_at y md) r.task → Before ds n i → ⊥

  pub in_progress : (es : List PlainEvent) (st v : ℕ) (r : RunSeen) → (last_spot (history y es)).hyper.mode ≡ md → recall v st (last_run v) (history y es) ≡ Some (Some r) → InProgress (history y es) st v r
  in_progress [] st v r m e = absurd (grind (arith, e))
  in_progress (request q ∷ es) st v r m e =
      let ds = history y es in
      let a = r.task in
      let d = step_of y (request q) ds in
      let c = cond_some (runs v (d ∷ ds) && nat_eq d.spot.stay st) (recall v st (last_run v) ds) (Some r) e in
      let h = in_progress es st v r m c.1 in
      record {
        turn = h.turn;
        index = h.index;
        tick = h.tick;
        is_task = h.is_task;
        on = h.on;
        start = h.start;
        time = h.time;
        past = h.past;
        going = h.going;
        begun = found_again (runs v (d ∷ ds) && nat_eq d.spot.stay st) (begun_run a r.run d.out) (recall v st (begun_run a r.run) ds) c.0 h.begun;
      }
  in_progress (restart q ∷ es) st v r m e =
      let ds = history y es in
      let a = r.task in
      let d = step_of y (restart q) ds in
      let c = cond_some (runs v (d ∷ ds) && nat_eq d.spot.stay st) (recall v st (last_run v) ds) (Some r) e in
      let h = in_progress es st v r m c.1 in
      record {
        turn = h.turn;
        index = h.index;
        tick = h.tick;
        is_task = h.is_task;
        on = h.on;
        start = h.start;
        time = h.time;
        past = h.past;
        going = h.going;
        begun = found_again (runs v (d ∷ ds) && nat_eq d.spot.stay st) (begun_run a r.run d.out) (recall v st (begun_run a r.run) ds) c.0 h.begun;
      }
  in_progress (advance lost ∷ es) st v r m e =
      let ds = history y es in
      let a = r.task in
      let p = plan_at y md in
      let d = step_of y (advance lost) ds in
      let s = spot_next y ds in
      let mv = moves y ds (stands y es) in
      let c = cond_some (runs v (d ∷ ds) && nat_eq s.stay st) (or_else (last_run v d.out) (recall v st (last_run v) ds)) (Some r) e in
      ⊎_elim
      (λ (hit : last_run v d.out ≡ Some (Some r)).
      let b = begins_run v r d.out hit in
      let k = r.run in
      let g = get_or (entries y md) s.index none in
      let h' = subst (λ (z : ℕ). start_of (performed y (plan_at y z) s lost ds (get_or (entries y z) s.index none).tick (get_or (entries y z) s.index none).action) ≡ Some (v, (a, k))) m b.0 in
      let f = started_is y p s lost ds g.tick g.action v a k h' in
      let l = subst (λ (z : ℕ). s.index < length (entries y z)) m (in_entries y ds s mv (subst (λ (z : ℕ). 1 ≤ length (entries y z)) (sym m) some)) in
      let is : Is y md s.index g.tick (task_starts a) = (l, ap (λ (w : Action). record { tick = g.tick; action = w }) f.0) in
      let task = (subst (λ (w : Action). RightAt p g.tick w) f.0 (entry_right y.nodes p s.index l).1).0 in
      let fit = task_fits y.nodes p ok a task in
      let t = start_time y md a fit s g.tick is (stands y (advance lost ∷ es)).turn f.1 in
      let same : k ≡ t.0 = f.2 ∙ run_is y md a fit s.turn g.tick t.0 t.1 in
      let time : s.turn * H y md + g.tick ≡ offset p a + k * P p a = t.1 ∙ ap (λ z. offset p a + z * P p a) (sym same) in
      record {
        turn = s.turn;
        index = s.index;
        tick = g.tick;
        is_task = task;
        on = f.3;
        start = is;
        time = time;
        past = inr (refl, omega arith);
        begun = (r.value, found_now (runs v (d ∷ ds) && nat_eq s.stay st) (begun_run a k d.out) (recall v st (begun_run a k) ds) r.value c.0 b.1);
        going = λ n i u ends t' before. not_both n s.turn i s.index before (time_order y md s.turn s.index g.tick n i u (task_starts a) (task_ends a) is ends (omega (arith, time, t', fit.wcet)));
      })
      (λ (miss : (last_run v d.out ≡ None) × (recall v st (last_run v) ds ≡ Some (Some r))).
      let stay_is = eqb-true s.stay st (and_parts (runs v (d ∷ ds)) (nat_eq s.stay st) c.0).1 in
      let same = stay_is ∙ sym (recall_stay v st (last_run v) ds (Some r) miss.1) in
      let mode_ds = same_mode y ds s mv same ∙ m in
      let h = in_progress es st v r mode_ds miss.1 in
      let fit = task_fits y.nodes p ok a h.is_task in
      record {
        turn = h.turn;
        index = h.index;
        tick = h.tick;
        is_task = h.is_task;
        on = h.on;
        start = h.start;
        time = h.time;
        past = ⊎_elim (λ (q : h.turn < s.turn). inl q) (λ (q : (h.turn ≡ s.turn) × (h.index < s.index)). inr (q.0, omega (arith, q.1))) (step_on y ds s h.turn h.index mv same h.past);
        begun = found_again (runs v (d ∷ ds) && nat_eq s.stay st) (begun_run a r.run d.out) (recall v st (begun_run a r.run) ds) c.0 h.begun;
        going = λ n i u ends t' before. ⊎_elim
            (λ (at : (n ≡ s.turn) × (i ≡ s.index)).
            let out = performed_is y md a fit some ds lost i u (task_ends a) m at.1 ends in
            let now : s.turn * H y md + u ≡ offset p a + E p a + r.run * P p a = subst (λ z. z * H y md + u ≡ offset p a + E p a + r.run * P p a) at.0 t' in
            let ending = ending_is y md a fit s.turn u r.run now in
            let w = node_of p a in
            let begun = subst (λ (n : ℕ). recall n st (begun_run a r.run) ds ≡ Some h.begun.0) (sym h.on) h.begun.1 in
            let value : cond (ends_run p s.turn u a) (recall w s.stay (begun_run a (ending_run_at p s.turn u a)) ds) None ≡ Some h.begun.0 =
            cond-true (ends_run p s.turn u a) (recall w s.stay (begun_run a (ending_run_at p s.turn u a)) ds) None ending.0 ∙ ap (λ z. recall w z (begun_run a (ending_run_at p s.turn u a)) ds) stay_is ∙ ap (λ z. recall w st (begun_run a z) ds) ending.1 ∙ begun in
            let out' = out ∙ ap (finished_or_not w a (ending_run_at p s.turn u a)) value in
            let says = ap (last_run v) out' ∙ cond-true (nat_eq w v) (Some None) None (eq-eqb w v h.on) in
            nothing (last_run v d.out) miss.0 says)
            (λ (b : BeforeSpot s n i). h.going n i u ends t' (step_back y ds s n i mv same (subst (λ (z : ℕ). i < length (entries y z)) (sym mode_ds) ends.0) b))
            (split_before n s.turn i s.index before);
      })
      (or_cases (last_run v d.out) (recall v st (last_run v) ds) (Some r) c.1)
    where
      nothing : (o : Option (Option RunSeen)) → o ≡ None → o ≡ Some None → ⊥
      nothing None n e = grind (arith, e)
      nothing (Some q) n e = grind (arith, n)

  -- of two runs on one node the one that starts first ends before the other starts
  ends_first : (a b k l : ℕ) → a < length (plan_at y md).mode.tasks → b < length (plan_at y md).mode.tasks → node_of (plan_at y md) a ≡ node_of (plan_at y md) b → (a ≡ b → k < l) →
      offset (plan_at y md) a + k * P (plan_at y md) a ≤ offset (plan_at y md) b + l * P (plan_at y md) b →
      offset (plan_at y md) a + E (plan_at y md) a + k * P (plan_at y md) a ≤ offset (plan_at y md) b + l * P (plan_at y md) b
  ends_first a b k l la lb on own first =
      let p = plan_at y md in
      let fa = task_fits y.nodes p ok a la in
      let fb = task_fits y.nodes p ok b lb in
      let oa = offset_is y.nodes p ok a la in
      let ob = offset_is y.nodes p ok b lb in
      ⊎_elim
      (λ (less : a < b). ⊎_elim (λ h. omega (arith, ints, h, oa, ob)) (λ h. absurd (omega (arith, ints, h, oa, ob, first, fb.wcet))) (ok.right.s6 a b less lb on k l))
      (λ (ge : b ≤ a). ⊎_elim
      (λ (less : b < a). ⊎_elim (λ h. absurd (omega (arith, ints, h, oa, ob, first, fb.wcet))) (λ h. omega (arith, ints, h, oa, ob)) (ok.right.s6 b a less la (sym on) l k))
      (λ (le : a ≤ b).
      let same : a ≡ b = omega (arith, ge, le) in
      let t = turns_apart (P p a) k l (own same) in
      let e = ap (λ z. offset p z + l * P p z) same in
      omega (arith, t, fa.short, e))
      (cases_lt b a))
      (cases_lt a b)

-- a time has one hyperperiod and one tick
pub same_tick : (h n t m u : ℕ) → t < h → u < h → n * h + t ≡ m * h + u → (n ≡ m) × (t ≡ u)
same_tick h n t m u lt lu e =
    ⊎_elim
    (λ (less : n < m). absurd (omega (arith, turns_apart h n m less, e, lt)))
    (λ (ge : m ≤ n). ⊎_elim
    (λ (less : m < n). absurd (omega (arith, turns_apart h m n less, e, lu)))
    (λ (le : n ≤ m). let q : n ≡ m = omega (arith, ge, le) in (q, omega (arith, e, ap (λ z. z * h) q)))
    (cases_lt m n))
    (cases_lt n m)

-- ---- at a start
-- no run is in progress on the node of a start that is performed
pub clash : (y : System) (es : List PlainEvent) (lost v b l : ℕ) (ins : List (Option ℤ)) (x : ℤ) → RightPlan y.nodes (plan_at y (spot_next y (history y es)).hyper.mode) → (step_of y (advance lost) (history y es)).out ≡ started v b l ins x →
    (r : RunSeen) → recall v (spot_next y (history y es)).stay (last_run v) (history y es) ≡ Some (Some r) → ⊥
clash y es lost v b l ins x ok out r e =
    let ds = history y es in
    let a = r.task in
    let s = spot_next y ds in
    let md = s.hyper.mode in
    let p = plan_at y md in
    let entry = entry_at y s in
    let u = entry.tick in
    let mv = moves y ds (stands y es) in
    let f = started_is y p s lost ds u entry.action v b l (ap start_of out) in
    let i = in_entries y ds s mv (some y md ok) in
    let is : Is y md s.index u (task_starts b) = (i, ap (λ (w : Action). record { tick = u; action = w }) f.0) in
    let task = (subst (λ (w : Action). RightAt p u w) f.0 (entry_right y.nodes p s.index i).1).0 in
    let fit = task_fits y.nodes p ok b task in
    let t = start_time y md b fit s u is (stands y (advance lost ∷ es)).turn f.1 in
    let same = sym (recall_stay v s.stay (last_run v) ds (Some r) e) in
    let mode_ds = same_mode y ds s mv same in
    let h = in_progress y md ok es s.stay v r mode_ds e in
    let past = step_on y ds s h.turn h.index mv same h.past in
    let order = time_before y md h.turn h.index h.tick s.turn s.index u (task_starts a) (task_starts b) h.start is past in
    let own = λ (q : a ≡ b). later r.run t.0 (offset p b) (P p b) fit.period (omega (arith, order, h.time, t.1, ap (λ c. offset p c + r.run * P p c) q)) (λ k.
    let at : h.turn * H y md + h.tick ≡ s.turn * H y md + u = omega (arith, h.time, t.1, ap (λ c. offset p c + r.run * P p c) q, ap (λ n. n * P p b) k) in
    let one = same_tick (H y md) h.turn h.tick s.turn u (in_cycle y md h.index h.tick (task_starts a) h.start) (in_cycle y md s.index u (task_starts b) is) at in
    let mine = subst (λ c. Is y md h.index h.tick (task_starts c)) q h.start in
    let mine' = subst (λ c. Is y md h.index c (task_starts b)) one.1 mine in
    let index = start_once y.nodes p u b h.index s.index mine'.0 is.0 mine'.1 is.1 in
    not_before h.turn s.turn h.index s.index past one.0 index) in
    let first = ends_first y md ok a b r.run t.0 h.is_task task (h.on ∙ sym f.3) own (omega (arith, order, h.time, t.1)) in
    let end = end_place y md a (task_fits y.nodes p ok a h.is_task) r.run in
    let sooner = time_order y md end.0 end.1 end.2 s.turn s.index u (task_ends a) (task_starts b) end.3 is (omega (arith, end.4, t.1, first)) in
    h.going end.0 end.1 end.2 end.3 end.4 (step_back y ds s end.0 end.1 mv same (subst (λ (z : ℕ). end.1 < length (entries y z)) (sym mode_ds) end.3.0) sooner)
  where
    -- of two runs of one task the one that starts first has the lower number
    later : (k l o p : ℕ) → 1 ≤ p → o + k * p ≤ o + l * p → (k ≡ l → ⊥) → k < l
    later k l o p one le apart = ⊎_elim (λ (less : k < l). less)
        (λ (ge : l ≤ k). ⊎_elim
        (λ (more : l < k). absurd (omega (arith, turns_apart p l k more, le, one)))
        (λ (eq : k ≤ l). absurd (apart (omega (arith, ge, eq))))
        (cases_lt l k))
        (cases_lt k l)

    not_before : (n m i j : ℕ) → (n < m) ⊎ (n ≡ m) × (i < j) → n ≡ m → i ≡ j → ⊥
    not_before n m i j b q r = ⊎_elim (λ (l : n < m). omega (arith, l, q)) (λ (l : (n ≡ m) × (i < j)). omega (arith, l.1, r)) b

pub one_run_at_a_time : OneRunAtATime
one_run_at_a_time y es lost v b l ins x ok out = by_run (recall v (spot_next y (history y es)).stay (last_run v) (history y es)) refl
  where
    by_run : (o : Option (Option RunSeen)) → recall v (spot_next y (history y es)).stay (last_run v) (history y es) ≡ o → flat o ≡ None
    by_run None e = refl
    by_run (Some None) e = refl
    by_run (Some (Some r)) e = absurd (clash y es lost v b l ins x ok out r e)
