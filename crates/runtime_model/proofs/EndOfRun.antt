-- An end is performed exactly where the run in progress is of its task, and with that run's number and value
use Rattle.std.proofs.Common.{◌≡◌, ℕ, zero, suc, ◌+◌, ◌*◌, ◌%◌, ◌<◌, ◌≤◌, Bool, true, false, cond, not, ◌&&◌, List, [], ◌∷◌, length, get_or, refl, sym, ◌∙◌, ap, subst, arith, ◌⊎◌, inl, inr, ⊎_elim, ℤ}
use Rattle.std.specs.Prelude.{nat_eq, nat_lt, Option, Some, None}
use Rattle.std.proofs.lemmas.Bool.{cases_lt, cond-true, eqb-true, eq-eqb, and_parts}
use Rattle.runtime_model.specs.Plans.{Plan, RightPlan, node_of, offset}
use Rattle.runtime_model.specs.Entries.{Action, task_ends, beacon, slot, task_starts, due_end}
use Rattle.runtime_model.specs.Placement.{placed, own_start, ends_run, ending_run_at}
use Rattle.runtime_model.specs.Outcomes.{PlainEvent, advance, request, restart, Spot, Outcome, beaconed, sent, silent, started, off, finished, void, requested, restarted, Step, begun_run}
use Rattle.runtime_model.specs.LookingBack.{runs, recall, or_else}
use Rattle.runtime_model.specs.Packets.{packet}
use Rattle.runtime_model.specs.System.{System, plan_at}
use Rattle.runtime_model.specs.History.{history, step_of, spot_next, last_spot, entries, entry_at, performed, finished_or_not, sent_or_not, start_or_not}
use Rattle.runtime_model.specs.Registers.{RunSeen, last_run, flat, running}
use Rattle.runtime_model.specs.Laws.{EndsFollowRuns}
use Rattle.runtime_model.proofs.Cycles.{none, entry_right, RightAt}
use Rattle.runtime_model.proofs.Once.{end_once}
use Rattle.runtime_model.proofs.Spots.{moves, stands}
use Rattle.runtime_model.proofs.TaskTimes.{TaskFits}
use Rattle.runtime_model.proofs.Times.{task_fits}
use Rattle.runtime_model.proofs.Instances.{same_class, more_turns}
use Rattle.runtime_model.proofs.Registers.{cond_some, or_cases, found_now, recall_stay}
use Rattle.runtime_model.proofs.OutRegisters.{Is, H, P, E, BeforeSpot, Before, step_back, step_on, same_mode, time_order, time_before, turns_apart, in_cycle, end_time, end_place, whole_turns}
use Rattle.runtime_model.proofs.Switches.{start_of, started_is, in_entries}
use Rattle.runtime_model.proofs.OneRun.{some, InProgress, in_progress, clash, same_tick}

-- a run of a task with a number and a value
abbrev pub run_seen : ℕ → ℕ → ℤ → RunSeen
run_seen a k x = record { task = a; run = k; value = x }

-- ---- what begins a run, and what ends one

-- an outcome that begins run k of task a
record Begun (a k : ℕ) (x : ℤ) (o : Outcome) : Type 0 where
  node : ℕ
  starts : start_of o ≡ Some (node, (a, k))
  run : (v : ℕ) → node ≡ v → last_run v o ≡ Some (Some (run_seen a k x))

begun_is : (a k : ℕ) (x : ℤ) (o : Outcome) → begun_run a k o ≡ Some x → Begun a k x o
begun_is a k x (started w b l ins z) e =
    let c = cond_some (nat_eq b a && nat_eq l k) (Some z) x e in
    let both = and_parts (nat_eq b a) (nat_eq l k) c.0 in
    let task = eqb-true b a both.0 in
    let number = eqb-true l k both.1 in
    let value : z ≡ x = grind (arith, c.1) in
    record {
      node = w;
      starts = ap (λ (n : ℕ). Some (w, (n, l))) task ∙ ap (λ (n : ℕ). Some (w, (a, n))) number;
      run = λ v on. cond-true (nat_eq w v) (Some (Some (run_seen b l z))) None (eq-eqb w v on) ∙ ap (λ (n : ℕ). Some (Some (run_seen n l z))) task ∙ ap (λ (n : ℕ). Some (Some (run_seen a n z))) number ∙ ap (λ (n : ℤ). Some (Some (run_seen a k n))) value;
    }
begun_is a k x (finished w b l z) e = absurd (grind (arith, e))
begun_is a k x (beaconed b hs) e = absurd (grind (arith, e))
begun_is a k x (sent w j l xs ts) e = absurd (grind (arith, e))
begun_is a k x (silent j) e = absurd (grind (arith, e))
begun_is a k x (off w b) e = absurd (grind (arith, e))
begun_is a k x (void w b) e = absurd (grind (arith, e))
begun_is a k x (requested m) e = absurd (grind (arith, e))
begun_is a k x (restarted w) e = absurd (grind (arith, e))

-- the node, the task, the run and the value of an end
abbrev end_of : Outcome → Option (ℕ × (ℕ × (ℕ × ℤ)))
end_of (finished v b k x) = Some (v, (b, (k, x)))
end_of o = None

-- an end that is performed is one of its entry, of a run that began
record EndIs (p : Plan) (s : Spot) (ds : List Step) (u : ℕ) (w : Action) (v b k : ℕ) (x : ℤ) : Type 0 where
  action : w ≡ task_ends b
  ends : ends_run p s.turn u b ≡ true
  number : k ≡ ending_run_at p s.turn u b
  on : node_of p b ≡ v
  begun : recall (node_of p b) s.stay (begun_run b (ending_run_at p s.turn u b)) ds ≡ Some x

ended_is : (y : System) (p : Plan) (s : Spot) (lost : ℕ) (ds : List Step) (u : ℕ) (w : Action) (v b k : ℕ) (x : ℤ) → end_of (performed y p s lost ds u w) ≡ Some (v, (b, (k, x))) → EndIs p s ds u w v b k x
ended_is y p s lost ds u (task_ends a) v b k x e = by_value (ends_run p s.turn u a) (recall (node_of p a) s.stay (begun_run a (ending_run_at p s.turn u a)) ds) refl refl e
  where
    by_value : (r : Bool) (o : Option ℤ) → ends_run p s.turn u a ≡ r → recall (node_of p a) s.stay (begun_run a (ending_run_at p s.turn u a)) ds ≡ o →
        end_of (finished_or_not (node_of p a) a (ending_run_at p s.turn u a) (cond r o None)) ≡ Some (v, (b, (k, x))) → EndIs p s ds u (task_ends a) v b k x
    by_value false o f g e = absurd (grind (arith, e))
    by_value true None f g e = absurd (grind (arith, e))
    by_value true (Some z) f g e =
        let q : (node_of p a, (a, (ending_run_at p s.turn u a, z))) ≡ (v, (b, (k, x))) = grind (arith, e) in
        let task = ap (λ (t : ℕ × (ℕ × (ℕ × ℤ))). t.1.0) q in
        record {
          action = ap task_ends task;
          ends = subst (λ c. ends_run p s.turn u c ≡ true) task f;
          number = sym (ap (λ (t : ℕ × (ℕ × (ℕ × ℤ))). t.1.1.0) q) ∙ ap (ending_run_at p s.turn u) task;
          on = sym (ap (node_of p) task) ∙ ap (λ (t : ℕ × (ℕ × (ℕ × ℤ))). t.0) q;
          begun = subst (λ c. recall (node_of p c) s.stay (begun_run c (ending_run_at p s.turn u c)) ds ≡ Some x) task (g ∙ ap (λ (t : ℕ × (ℕ × (ℕ × ℤ))). Some t.1.1.1) q);
        }
ended_is y p s lost ds u (beacon j) v b k x e = absurd (grind (arith, e))
ended_is y p s lost ds u (slot j i) v b k x e = absurd (not_sent (packet p s j i ds) e)
  where
    not_sent : (o : Option (List ℤ)) → end_of (sent_or_not p y.nodes s j i ds o lost) ≡ Some (v, (b, (k, x))) → ⊥
    not_sent None e = grind (arith, e)
    not_sent (Some xs) e = grind (arith, e)
ended_is y p s lost ds u (task_starts a) v b k x e = absurd (not_started (placed s.hyper.opening s.hyper.phase (own_start p u a) && runs (node_of p a) ds) e)
  where
    not_started : (o : Bool) → end_of (start_or_not y p s ds a u o) ≡ Some (v, (b, (k, x))) → ⊥
    not_started true e = grind (arith, e)
    not_started false e = grind (arith, e)

-- what neither begins nor ends a run on node v leaves the run in progress
leaves_run : (v : ℕ) (o : Outcome) → ((b l : ℕ) (ins : List (Option ℤ)) (x : ℤ) → o ≡ started v b l ins x → ⊥) → ((b l : ℕ) (x : ℤ) → end_of o ≡ Some (v, (b, (l, x))) → ⊥) → last_run v o ≡ None
leaves_run v (started w b l ins x) f g = by_test (nat_eq w v) refl
  where
    by_test : (t : Bool) → nat_eq w v ≡ t → cond t (Some (Some (run_seen b l x))) None ≡ None
    by_test true e = absurd (f b l ins x (ap (λ (n : ℕ). started n b l ins x) (eqb-true w v e)))
    by_test false e = refl
leaves_run v (finished w b l x) f g = by_test (nat_eq w v) refl
  where
    by_test : (t : Bool) → nat_eq w v ≡ t → cond {A = Option (Option RunSeen)} t (Some None) None ≡ None
    by_test true e = absurd (g b l x (ap (λ (n : ℕ). Some (n, (b, (l, x)))) (eqb-true w v e)))
    by_test false e = refl
leaves_run v (beaconed b hs) f g = refl
leaves_run v (sent w j l xs ts) f g = refl
leaves_run v (silent j) f g = refl
leaves_run v (off w b) f g = refl
leaves_run v (void w b) f g = refl
leaves_run v (requested m) f g = refl
leaves_run v (restarted w) f g = refl

found_later : {X : Type 0} (b : Bool) (x w : Option X) (z : X) → b ≡ true → x ≡ None → w ≡ Some z → cond b (or_else x w) None ≡ Some z
found_later true None w z e n h = h
found_later true (Some x) w z e n h = absurd (grind (arith, n))
found_later false x w z e n h = absurd cc

-- ---- in one mode
module _ (y : System) (md : ℕ) (ok : RightPlan y.nodes (plan_at y md)) where
  -- the end of run k of task a is not past
  abbrev Ahead : List Step → ℕ → ℕ → Type 0
  Ahead ds a k = (n i u : ℕ) → Is y md i u (task_ends a) → n * H y md + u ≡ offset (plan_at y md) a + E (plan_at y md) a + k * P (plan_at y md) a → Before ds n i → ⊥

  -- the end of a run that is the next entry is not past
  next_ahead : (ds : List Step) (s : Spot) (a k u : ℕ) → Is y md s.index u (task_ends a) → s.turn * H y md + u ≡ offset (plan_at y md) a + E (plan_at y md) a + k * P (plan_at y md) a →
      ((n i : ℕ) → Before ds n i → BeforeSpot s n i) → Ahead ds a k
  next_ahead ds s a k u is time on n i t other at before =
      let one = same_tick (H y md) n t s.turn u (in_cycle y md i t (task_ends a) other) (in_cycle y md s.index u (task_ends a) is) (omega (arith, time, at)) in
      let other' = subst (λ z. Is y md i z (task_ends a)) one.1 other in
      let index = end_once y.nodes (plan_at y md) u a i s.index other'.0 is.0 other'.1 is.1 in
      not_before n s.turn i s.index (on n i before) one.0 index
    where
      not_before : (n m i j : ℕ) → (n < m) ⊎ (n ≡ m) × (i < j) → n ≡ m → i ≡ j → ⊥
      not_before n m i j b q r = ⊎_elim (λ (l : n < m). omega (arith, l, q)) (λ (l : (n ≡ m) × (i < j)). omega (arith, l.1, r)) b

  -- an end that is performed, in this mode
  end_here : (es : List PlainEvent) (lost v b l : ℕ) (x : ℤ) → (spot_next y (history y es)).hyper.mode ≡ md → end_of (step_of y (advance lost) (history y es)).out ≡ Some (v, (b, (l, x))) →
      let ds = history y es in let s = spot_next y ds in
      (u : ℕ) × Is y md s.index u (task_ends b) × (b < length (plan_at y md).mode.tasks) × (node_of (plan_at y md) b ≡ v)
      × (s.turn * H y md + u ≡ offset (plan_at y md) b + E (plan_at y md) b + l * P (plan_at y md) b) × (recall v s.stay (begun_run b l) ds ≡ Some x)
  end_here es lost v b l x m out =
      let ds = history y es in
      let p = plan_at y md in
      let s = spot_next y ds in
      let g = get_or (entries y md) s.index none in
      let out' = subst (λ (z : ℕ). end_of (performed y (plan_at y z) s lost ds (get_or (entries y z) s.index none).tick (get_or (entries y z) s.index none).action) ≡ Some (v, (b, (l, x)))) m out in
      let f = ended_is y p s lost ds g.tick g.action v b l x out' in
      let place = subst (λ (z : ℕ). s.index < length (entries y z)) m (in_entries y ds s (moves y ds (stands y es)) (subst (λ (z : ℕ). 1 ≤ length (entries y z)) (sym m) (some y md ok))) in
      let is : Is y md s.index g.tick (task_ends b) = (place, ap (λ (w : Action). record { tick = g.tick; action = w }) f.action) in
      let task = (subst (λ (w : Action). RightAt p g.tick w) f.action (entry_right y.nodes p s.index place).1).0 in
      let time = end_time y md b (task_fits y.nodes p ok b task) s.turn s.index g.tick l is f.ends f.number in
      (g.tick, is, task, f.on, time, ap (λ n. recall n s.stay (begun_run b l) ds) (sym f.on) ∙ ap (λ n. recall (node_of p b) s.stay (begun_run b n) ds) f.number ∙ f.begun)

  -- a run that began, whose end is not past, is the run in progress
  pub still_running : (es : List PlainEvent) (st v a k : ℕ) (x : ℤ) → (last_spot (history y es)).hyper.mode ≡ md → node_of (plan_at y md) a ≡ v → recall v st (begun_run a k) (history y es) ≡ Some x → Ahead (history y es) a k →
      recall v st (last_run v) (history y es) ≡ Some (Some (run_seen a k x))
  still_running [] st v a k x m on e ahead = absurd (grind (arith, e))
  still_running (request q ∷ es) st v a k x m on e ahead =
      let ds = history y es in
      let d = step_of y (request q) ds in
      let c = cond_some (runs v (d ∷ ds) && nat_eq d.spot.stay st) (recall v st (begun_run a k) ds) x e in
      found_later (runs v (d ∷ ds) && nat_eq d.spot.stay st) (last_run v d.out) (recall v st (last_run v) ds) (Some (run_seen a k x)) c.0 refl (still_running es st v a k x m on c.1 ahead)
  still_running (restart q ∷ es) st v a k x m on e ahead =
      let ds = history y es in
      let d = step_of y (restart q) ds in
      let c = cond_some (runs v (d ∷ ds) && nat_eq d.spot.stay st) (recall v st (begun_run a k) ds) x e in
      found_later (runs v (d ∷ ds) && nat_eq d.spot.stay st) (last_run v d.out) (recall v st (last_run v) ds) (Some (run_seen a k x)) c.0 refl (still_running es st v a k x m on c.1 ahead)
  still_running (advance lost ∷ es) st v a k x m on e ahead =
      let ds = history y es in
      let p = plan_at y md in
      let d = step_of y (advance lost) ds in
      let s = spot_next y ds in
      let mv = moves y ds (stands y es) in
      let c = cond_some (runs v (d ∷ ds) && nat_eq s.stay st) (or_else (begun_run a k d.out) (recall v st (begun_run a k) ds)) x e in
      ⊎_elim
      (λ (hit : begun_run a k d.out ≡ Some x).
      let b = begun_is a k x d.out hit in
      let g = get_or (entries y md) s.index none in
      let h' = subst (λ (z : ℕ). start_of (performed y (plan_at y z) s lost ds (get_or (entries y z) s.index none).tick (get_or (entries y z) s.index none).action) ≡ Some (b.node, (a, k))) m b.starts in
      let f = started_is y p s lost ds g.tick g.action b.node a k h' in
      found_now (runs v (d ∷ ds) && nat_eq s.stay st) (last_run v d.out) (recall v st (last_run v) ds) (Some (run_seen a k x)) c.0 (b.run v (sym f.3 ∙ on)))
      (λ (miss : (begun_run a k d.out ≡ None) × (recall v st (begun_run a k) ds ≡ Some x)).
      let stay_is = eqb-true s.stay st (and_parts (runs v (d ∷ ds)) (nat_eq s.stay st) c.0).1 in
      let same = stay_is ∙ sym (recall_stay v st (begun_run a k) ds x miss.1) in
      let mode_ds = same_mode y ds s mv same ∙ m in
      let up = λ (n i : ℕ) (b : Before ds n i). step_on y ds s n i mv same b in
      let older = still_running es st v a k x mode_ds on miss.1 (λ n i u is t b. ahead n i u is t (wider n s.turn i s.index (up n i b))) in
      let no_start = λ (b l : ℕ) (ins : List (Option ℤ)) (z : ℤ) (out : d.out ≡ started v b l ins z).
      clash y es lost v b l ins z (subst (λ (q : ℕ). RightPlan y.nodes (plan_at y q)) (sym m) ok) out (run_seen a k x) (ap (λ q. recall v q (last_run v) ds) stay_is ∙ older) in
      let no_end = λ (b l : ℕ) (z : ℤ) (out : end_of d.out ≡ Some (v, (b, (l, z)))).
      let f = end_here es lost v b l z m out in
      let begun = ap (λ q. recall v q (begun_run b l) ds) (sym stay_is) ∙ f.5 in
      let theirs = still_running es st v b l z mode_ds f.3 begun (next_ahead ds s b l f.0 f.1 f.4 up) in
      let one : run_seen b l z ≡ run_seen a k x = same_run (run_seen b l z) (run_seen a k x) (sym theirs ∙ older) in
      let is = subst (λ q. Is y md s.index f.0 (task_ends q)) (ap (λ (r : RunSeen). r.task) one) f.1 in
      let time = f.4 ∙ ap (λ (r : RunSeen). offset p r.task + E p r.task + r.run * P p r.task) one in
      ahead s.turn s.index f.0 is time (inr (refl, omega arith)) in
      found_later (runs v (d ∷ ds) && nat_eq s.stay st) (last_run v d.out) (recall v st (last_run v) ds) (Some (run_seen a k x)) c.0 (leaves_run v d.out no_start no_end) older)
      (or_cases (begun_run a k d.out) (recall v st (begun_run a k) ds) x c.1)
    where
      wider : (n m i j : ℕ) → (n < m) ⊎ (n ≡ m) × (i < j) → (n < m) ⊎ (n ≡ m) × (i < suc j)
      wider n m i j b = ⊎_elim (λ (q : n < m). inl q) (λ (q : (n ≡ m) × (i < j)). inr (q.0, omega (arith, q.1))) b

      same_run : (r q : RunSeen) → Some (Some r) ≡ Some (Some q) → r ≡ q
      same_run r q e = grind (arith, e)

-- ---- at an end

-- the value of the run in progress, where it is one of this task
abbrev pub value_in : ℕ → Option RunSeen → Option ℤ
value_in a None = None
value_in a (Some r) = cond (nat_eq r.task a) (Some r.value) None

-- what an end of task a ends: the value of the run of its tick, where that run's start was performed and the node is unbroken since
abbrev pub end_value : System → List Step → ℕ → Option ℤ
end_value y ds a =
    let s = spot_next y ds in
    let p = plan_at y s.hyper.mode in
    let u = (entry_at y s).tick in
    cond (ends_run p s.turn u a) (recall (node_of p a) s.stay (begun_run a (ending_run_at p s.turn u a)) ds) None

module _ (y : System) (es : List PlainEvent) (a : ℕ) (ok : RightPlan y.nodes (plan_at y (spot_next y (history y es)).hyper.mode)) (act : (entry_at y (spot_next y (history y es))).action ≡ task_ends a) where
  abbrev ds : List Step
  ds = history y es

  abbrev s : Spot
  s = spot_next y ds

  abbrev p : Plan
  p = plan_at y s.hyper.mode

  abbrev u : ℕ
  u = (entry_at y s).tick

  here : Is y s.hyper.mode s.index u (task_ends a)
  here = (in_entries y ds s (moves y ds (stands y es)) (some y s.hyper.mode ok), ap (λ (w : Action). record { tick = u; action = w }) act)

  due : (a < length p.mode.tasks) × (due_end p u a ≡ true)
  due = subst (λ (w : Action). RightAt p u w) act (entry_right y.nodes p s.index here.0).1

  fit : TaskFits y.nodes p a
  fit = task_fits y.nodes p ok a due.0

  -- the run in progress of the task is the one that ends
  ending_run : (r : RunSeen) → r.task ≡ a → InProgress y s.hyper.mode ok ds s.stay (node_of p a) r → (last_spot ds).stay ≡ s.stay → (ends_run p s.turn u a ≡ true) × (ending_run_at p s.turn u a ≡ r.run)
  ending_run r task h stay =
      let md = s.hyper.mode in
      let mv = moves y ds (stands y es) in
      let past = step_on y ds s h.turn h.index mv (sym stay) h.past in
      let began = time_before y md h.turn h.index h.tick s.turn s.index u (task_starts r.task) (task_ends a) h.start here past in
      let started_at : h.turn * H y md + h.tick ≡ offset p a + r.run * P p a = h.time ∙ ap (λ z. offset p z + r.run * P p z) task in
      let after : offset p a + r.run * P p a < s.turn * H y md + u = omega (arith, began, started_at) in
      let cls = eqb-true ((offset p a + E p a) % P p a) (u % P p a) due.1 ∙ sym (ap (λ x. x % P p a) (whole_turns y md a fit s.turn u) ∙ more_turns (P p a) (s.turn * fit.turns) u fit.period) in
      let ends = not_less (s.turn * H y md + u) (offset p a + E p a) (late_enough (offset p a) (E p a) (P p a) (s.turn * H y md + u) (r.run * P p a) fit.period fit.short after cls) in
      let time = end_time y md a fit s.turn s.index u (ending_run_at p s.turn u a) here ends refl in (
        ends,
        same (ending_run_at p s.turn u a) r.run
            (λ l. omega (arith, turns_apart (P p a) (ending_run_at p s.turn u a) r.run l, time, after, fit.short))
            (λ l.
            let end = end_place y md a fit r.run in
            let sooner = time_order y md end.0 end.1 end.2 s.turn s.index u (task_ends a) (task_ends a) end.3 here (omega (arith, end.4, time, turns_apart (P p a) r.run (ending_run_at p s.turn u a) l, fit.period)) in
            let mode_ds = same_mode y ds s mv (sym stay) in
            let its = subst (λ z. Is y md end.1 end.2 (task_ends z)) (sym task) end.3 in
            let at = end.4 ∙ ap (λ z. offset p z + E p z + r.run * P p z) (sym task) in
            h.going end.0 end.1 end.2 its at (step_back y ds s end.0 end.1 mv (sym stay) (subst (λ (z : ℕ). end.1 < length (entries y z)) (sym mode_ds) end.3.0) sooner)),
      )
    where
      not_less : (m n : ℕ) → n ≤ m → not (nat_lt m n) ≡ true
      not_less m n l = grind (arith, l)

      same : (k r : ℕ) → (k < r → ⊥) → (r < k → ⊥) → k ≡ r
      same k r f g = ⊎_elim (λ (l : k < r). absurd (f l)) (λ (l : r ≤ k). ⊎_elim (λ (m : r < k). absurd (g m)) (λ (m : k ≤ r). omega (arith, l, m)) (cases_lt r k)) (cases_lt k r)

      -- a time of the class of o + e that is after o is at least o + e
      late_enough : (o e q t x : ℕ) → 1 ≤ q → e ≤ q → o + x < t → (o + e) % q ≡ t % q → o + e ≤ t
      late_enough o e q t x one short after cls =
          ⊎_elim
          (λ (early : t < o + e). let j = same_class q t (o + e) one (omega (arith, early)) (sym cls) in absurd (by_steps j.0 j.1 early))
          (λ (le : o + e ≤ t). le)
          (cases_lt t (o + e))
        where
          by_steps : (j : ℕ) → o + e ≡ t + j * q → t < o + e → ⊥
          by_steps zero f early = omega (arith, f, early)
          by_steps (suc j) f early = omega (arith, f, short, after)

  -- a run that ends here is in progress
  pub ends_running : (x : ℤ) → end_value y ds a ≡ Some x → recall (node_of p a) s.stay (last_run (node_of p a)) ds ≡ Some (Some (run_seen a (ending_run_at p s.turn u a) x))
  ends_running x e =
      let md = s.hyper.mode in
      let mv = moves y ds (stands y es) in
      let k = ending_run_at p s.turn u a in
      let c = cond_some (ends_run p s.turn u a) (recall (node_of p a) s.stay (begun_run a k) ds) x e in
      let stay = recall_stay (node_of p a) s.stay (begun_run a k) ds x c.1 in
      let time = end_time y md a fit s.turn s.index u k here c.0 refl in
      still_running y md ok es s.stay (node_of p a) a k x (same_mode y ds s mv (sym stay)) refl c.1 (next_ahead y md ok ds s a k u here time (λ n i b. step_on y ds s n i mv (sym stay) b))

  -- a run of the task that is in progress ends here, with its value
  pub running_ends : (r : RunSeen) → recall (node_of p a) s.stay (last_run (node_of p a)) ds ≡ Some (Some r) → r.task ≡ a → (ends_run p s.turn u a ≡ true) × (ending_run_at p s.turn u a ≡ r.run) × (end_value y ds a ≡ Some r.value)
  running_ends r e task =
      let md = s.hyper.mode in
      let mv = moves y ds (stands y es) in
      let v = node_of p a in
      let k = ending_run_at p s.turn u a in
      let stay = recall_stay v s.stay (last_run v) ds (Some r) e in
      let mode_ds = same_mode y ds s mv (sym stay) in
      let h = in_progress y md ok es s.stay v r mode_ds e in
      let is = ending_run r task h stay in
      let mine = still_running y md ok es s.stay v r.task r.run h.begun.0 mode_ds h.on h.begun.1 h.going in
      let value = value_of (run_seen r.task r.run h.begun.0) r (sym mine ∙ e) in
      let begun : recall v s.stay (begun_run a k) ds ≡ Some r.value =
      ap (λ z. recall v s.stay (begun_run z k) ds) (sym task) ∙ ap (λ z. recall v s.stay (begun_run r.task z) ds) is.1 ∙ h.begun.1 ∙ ap (λ (z : ℤ). Some z) value in
      (is.0, is.1, cond-true (ends_run p s.turn u a) (recall v s.stay (begun_run a k) ds) None is.0 ∙ begun)
    where
      value_of : (q r : RunSeen) → Some (Some q) ≡ Some (Some r) → q.value ≡ r.value
      value_of q r e = ap (λ (z : RunSeen). z.value) (let same : q ≡ r = grind (arith, e) in same)

  -- what an end ends is the value of the run in progress, where that is of its task
  pub end_is_running : end_value y ds a ≡ value_in a (running (node_of p a) s.stay ds)
  end_is_running = by_run (recall (node_of p a) s.stay (last_run (node_of p a)) ds) refl (end_value y ds a) refl
    where
      nothing : (r : RunSeen) → None ≡ Some (Some r) → ⊥
      nothing r e = grind (arith, e)

      empty : (r : RunSeen) → Some None ≡ Some (Some r) → ⊥
      empty r e = grind (arith, e)

      of_task : (q r : RunSeen) → Some (Some q) ≡ Some (Some r) → q.task ≡ r.task
      of_task q r e = ap (λ (z : RunSeen). z.task) (let same : q ≡ r = grind (arith, e) in same)

      by_task : (r : RunSeen) → recall (node_of p a) s.stay (last_run (node_of p a)) ds ≡ Some (Some r) → (o : Option ℤ) → end_value y ds a ≡ o → (b : Bool) → nat_eq r.task a ≡ b → end_value y ds a ≡ cond b (Some r.value) None
      by_task r e o f true t = (running_ends r e (eqb-true r.task a t)).2
      by_task r e None f false t = f
      by_task r e (Some x) f false t = absurd (let q : true ≡ false = sym (eq-eqb r.task a (of_task r (run_seen a (ending_run_at p s.turn u a) x) (sym e ∙ ends_running x f))) ∙ t in cc)

      by_run : (w : Option (Option RunSeen)) → recall (node_of p a) s.stay (last_run (node_of p a)) ds ≡ w → (o : Option ℤ) → end_value y ds a ≡ o → end_value y ds a ≡ value_in a (flat w)
      by_run None e None f = f
      by_run None e (Some x) f = absurd (nothing (run_seen a (ending_run_at p s.turn u a) x) (sym e ∙ ends_running x f))
      by_run (Some None) e None f = f
      by_run (Some None) e (Some x) f = absurd (empty (run_seen a (ending_run_at p s.turn u a) x) (sym e ∙ ends_running x f))
      by_run (Some (Some r)) e o f = by_task r e o f (nat_eq r.task a) refl

-- an end is performed, as a run with a value, exactly where that is the run in progress on its node
pub ends_follow_runs : EndsFollowRuns
ends_follow_runs y es lost a k x ok act = (forth, back)
  where
    ds : List Step
    ds = history y es

    s : Spot
    s = spot_next y ds

    p : Plan
    p = plan_at y s.hyper.mode

    v : ℕ
    v = node_of p a

    u : ℕ
    u = (entry_at y s).tick

    forth : (step_of y (advance lost) ds).out ≡ finished v a k x → running v s.stay ds ≡ Some (run_seen a k x)
    forth out =
        let f = ended_is y p s lost ds u (entry_at y s).action v a k x (ap end_of out) in
        let value = cond-true (ends_run p s.turn u a) (recall v s.stay (begun_run a (ending_run_at p s.turn u a)) ds) None f.ends ∙ f.begun in
        ap flat (ends_running y es a ok act x value) ∙ ap (λ n. Some (run_seen a n x)) (sym f.number)

    full : (o : Option (Option RunSeen)) (r : RunSeen) → flat o ≡ Some r → o ≡ Some (Some r)
    full None r e = absurd (grind (arith, e))
    full (Some q) r e = ap (λ (z : Option RunSeen). Some z) e

    back : running v s.stay ds ≡ Some (run_seen a k x) → (step_of y (advance lost) ds).out ≡ finished v a k x
    back run =
        let w = running_ends y es a ok act (run_seen a k x) (full (recall v s.stay (last_run v) ds) (run_seen a k x) run) refl in
        ap (λ (z : Action). performed y p s lost ds u z) act ∙ ap (finished_or_not v a (ending_run_at p s.turn u a)) w.2 ∙ ap (λ n. finished v a n x) w.1
