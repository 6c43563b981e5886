-- What happens where nothing is lost and nobody restarts
use Rattle.std.proofs.Common.{◌≡◌, ℕ, zero, suc, ◌+◌, ◌*◌, ◌/◌, ◌%◌, ◌^◌, ◌<◌, ◌≤◌, Bool, true, false, cond, not, ◌&&◌, ◌||◌, List, [], ◌∷◌, ◌++◌, length, length-append, get_or, Contains, refl, sym, ◌∙◌, ap, subst, arith, ⊎_elim, ℤ}
use Rattle.std.specs.Prelude.{nat_eq, Option, Some, None}
use Rattle.std.specs.List.{filter}
use Rattle.std.proofs.lemmas.Bool.{cases_lt, cases_Bool, cond-true, cond-false, eq-eqb}
use Rattle.std.proofs.lemmas.List.{get_or_append_left, get_or-append-add}
use Rattle.std.proofs.lemmas.List.Elements.{filter-append}
use Rattle.sched_model.specs.Numbers.{below, has, natural}
use Rattle.sched_model.specs.PlainMode.{task_at}
use Rattle.sched_model.specs.Rounds.{round_start}
use Rattle.sched_model.proofs.Graph.{contains_has}
use Rattle.runtime_model.specs.Plans.{Plan, node_of, offset}
use Rattle.runtime_model.specs.Entries.{Action, task_ends, beacon, slot, task_starts}
use Rattle.runtime_model.specs.Placement.{placed, own_start, run_at, ends_run, ending_run_at}
use Rattle.runtime_model.specs.Outcomes.{PlainEvent, advance, request, restart, Outcome, Spot, Step, is_beacon, hears, restarts, begun_run, ended_run}
use Rattle.runtime_model.specs.LookingBack.{synced, coasts, runs, recall, or_else, last_beacon}
use Rattle.runtime_model.specs.System.{System, plan_at}
use Rattle.runtime_model.specs.Packets.{in_set, reached, packet}
use Rattle.runtime_model.specs.Inputs.{inputs}
use Rattle.runtime_model.specs.History.{history, step_of, spot_next, last_spot, entries, entry_at, performed, sent_or_not, start_or_not, finished_or_not}
use Rattle.runtime_model.specs.Script.{opens_round}
use Rattle.runtime_model.specs.Laws.{RequestsFit, Lossless}
use Rattle.runtime_model.proofs.Cycles.{none, key, key_order}
use Rattle.runtime_model.proofs.Spots.{Same, Within, Opens, Moves, moves, stands}
use Rattle.runtime_model.proofs.Modes.{AllRight}
use Rattle.runtime_model.proofs.Beacons.{outcome_is, seen_entry, Seen, Unseen, seen_or_not, some, not_unseen, beacon_place, index_now}
use Rattle.runtime_model.proofs.TaskTimes.{TaskFits}
use Rattle.runtime_model.proofs.Registers.{found_again, or_first}
use Rattle.runtime_model.proofs.OutRegisters.{Is, H, P, E, BeforeSpot, Before, Released, step_back, same_mode, released_back, time_order, run_is, ending_is, start_place, end_place, is_placed, performed_is, split_before, both_true}

-- ---- everybody hears
pub no_bit : (v : ℕ) → in_set 0 v ≡ false
no_bit v = ap (λ n. nat_eq (n % 2) 1) (none_of (2 ^ v))
  where
    none_of : (n : ℕ) → 0 / n ≡ 0
    none_of n = grind arith

pub kept : (t : ℕ → Bool) (n v : ℕ) → v < n → t v ≡ true → Contains (filter t (below n)) v
kept t zero v l e = absurd (omega (arith, l))
kept t (suc n) v l e =
    subst (λ (xs : List ℕ). Contains xs v) (sym (filter-append t (below n) (n ∷ [])))
    (⊎_elim
    (λ (less : v < n).
    let c = kept t n v less e in
    (c.0, omega (arith, c.1, length-append (filter t (below n)) (filter t (n ∷ []))), get_or_append_left (filter t (below n)) (filter t (n ∷ [])) v c.0 c.1 ∙ c.2))
    (λ (ge : n ≤ v).
    let same : n ≡ v = omega (arith, ge, l) in
    let last : filter t (n ∷ []) ≡ v ∷ [] = cond-true (t n) (n ∷ []) [] (ap t same ∙ e) ∙ ap (λ z. z ∷ []) same in
    let size = ap (λ (xs : List ℕ). length xs) last in (
      length (filter t (below n)),
      omega (arith, size, length-append (filter t (below n)) (filter t (n ∷ []))),
      (let q : length (filter t (below n)) ≡ length (filter t (below n)) + 0 = omega arith in ap (λ z. get_or (filter t (below n) ++ filter t (n ∷ [])) z v) q) ∙ get_or-append-add (filter t (below n)) (filter t (n ∷ [])) 0 v ∙ ap (λ (xs : List ℕ). get_or xs 0 v) last,
    ))
    (cases_lt v n))

all_hear : (host v n : ℕ) → v < n → has (filter (reached 0 host) (below n)) v ≡ true
all_hear host v n l = contains_has (filter (reached 0 host) (below n)) v (kept (reached 0 host) n v l (either (nat_eq v host) (in_set 0 v) (no_bit v)))
  where
    either : (a b : Bool) → b ≡ false → (a || not b) ≡ true
    either true b e = refl
    either false true e = absurd cc
    either false false e = refl

-- an entry restarts nobody
stays_up : (y : System) (p : Plan) (s : Spot) (lost v : ℕ) (ds : List Step) (u : ℕ) (w : Action) → restarts v (performed y p s lost ds u w) ≡ false
stays_up y p s lost v ds u (task_ends a) = of_end (cond (ends_run p s.turn u a) (recall (node_of p a) s.stay (begun_run a (ending_run_at p s.turn u a)) ds) None)
  where
    of_end : (o : Option ℤ) → restarts v (finished_or_not (node_of p a) a (ending_run_at p s.turn u a) o) ≡ false
    of_end None = refl
    of_end (Some x) = refl
stays_up y p s lost v ds u (beacon j) = refl
stays_up y p s lost v ds u (slot j i) = of_slot (packet p s j i ds)
  where
    of_slot : (o : Option (List ℤ)) → restarts v (sent_or_not p y.nodes s j i ds o lost) ≡ false
    of_slot None = refl
    of_slot (Some x) = refl
stays_up y p s lost v ds u (task_starts a) = of_start (placed s.hyper.opening s.hyper.phase (own_start p u a) && runs (node_of p a) ds)
  where
    of_start : (o : Bool) → restarts v (start_or_not y p s ds a u o) ≡ false
    of_start true = refl
    of_start false = refl

-- every node heard the last beacon, where there was one
pub all_synced : (y : System) (es : List PlainEvent) (v : ℕ) → Lossless es → v < y.nodes → (g : Step) → last_beacon (history y es) ≡ Some g → synced v (history y es) ≡ true
all_synced y [] v q l g e = absurd (grind (arith, e))
all_synced y (request m ∷ es) v q l g e = all_synced y es v q l g e
all_synced y (restart w ∷ es) v q l g e = absurd q
all_synced y (advance lost ∷ es) v q l g e =
    let ds = history y es in
    let s = spot_next y ds in
    let p = plan_at y s.hyper.mode in
    let entry = entry_at y s in
    let d = step_of y (advance lost) ds in
    let up = stays_up y p s lost v ds entry.tick entry.action in
    let is = outcome_is y p s lost ds entry.tick entry.action in
    ⊎_elim
    (λ (rings : opens_round entry.action ≡ true).
    let j = seen_entry entry.action rings in
    let heard = ap (λ (w : Action). hears v (performed y p s lost ds entry.tick w)) j.1 ∙ ap (λ z. has (filter (reached z y.host) (below y.nodes)) v) q.0 ∙ all_hear y.host v y.nodes l in
    by_tests (restarts v d.out) (is_beacon d.out) (hears v d.out) (synced v ds) up (is ∙ rings) heard)
    (λ (quiet : opens_round entry.action ≡ false).
    let no_beacon = is ∙ quiet in
    let before = all_synced y es v q.1 l g (sym (cond-false (is_beacon d.out) (Some d) (last_beacon ds) no_beacon) ∙ e) in
    by_no_tests (restarts v d.out) (is_beacon d.out) (hears v d.out) (synced v ds) up no_beacon before)
    (cases_Bool (opens_round entry.action))
  where
    by_tests : (r b h x : Bool) → r ≡ false → b ≡ true → h ≡ true → cond r false (cond b h x) ≡ true
    by_tests false true true x r b h = refl
    by_tests false true false x r b h = absurd cc
    by_tests false false h x r b k = absurd cc
    by_tests true b h x r c k = absurd cc

    by_no_tests : (r b h x : Bool) → r ≡ false → b ≡ false → x ≡ true → cond r false (cond b h x) ≡ true
    by_no_tests false false h true r b e = refl
    by_no_tests false false h false r b e = absurd cc
    by_no_tests false true h x r b e = absurd cc
    by_no_tests true b h x r c e = absurd cc

synced_runs : (v : ℕ) (ds : List Step) → synced v ds ≡ true → runs v ds ≡ true
synced_runs v ds e = ap (λ (b : Bool). b || coasts v ds) e

-- after the first beacon of a hyperperiod there was one
beacon_heard : (y : System) (right : AllRight y) (es : List PlainEvent) (lost : ℕ) → RequestsFit y es → 2 ≤ key (entry_at y (spot_next y (history y es))) → (g : Step) × (last_beacon (history y es) ≡ Some g)
beacon_heard y right es lost rf l =
    let ds = history y es in
    let s = spot_next y ds in
    let md = s.hyper.mode in
    let p = plan_at y md in
    let ok = right (advance lost ∷ es) rf in
    let origin = beacon_place y md ok 0 (omega (arith, ok.right.shape.some, ok.right.shape.starts)) in
    let zero_tick = ap natural ok.right.s1.begin in
    let first = key_order y.nodes p origin.0 s.index origin.1.0 (index_now y right es rf lost) (omega (arith, ap key origin.1.1, zero_tick, l)) in
    let turned = λ (index : s.index ≡ 0). absurd (omega (arith, first, index)) in
    ⊎_elim
    (λ (m : Same y ds s). ⊎_elim
    (λ (h : Seen y ds). (h.done, h.is_last))
    (λ (u : Unseen y ds). absurd (not_unseen y right es rf u origin.0 0 (natural (round_start p.schedule 0)) (subst (λ (z : ℕ). Is y z origin.0 (natural (round_start p.schedule 0)) (beacon 0)) m.alike.mode origin.1) (omega (arith, first, m.index))))
    (seen_or_not y (some y right) es rf))
    (λ r. ⊎_elim (λ (m : Within y ds s). turned m.index) (λ (m : Opens y ds s). turned m.index) r)
    (moves y ds (stands y es))

-- ---- what was passed in this stay was performed
pub still_some : (b : Bool) (d : Step) (o : Option Step) → ((g : Step) × (o ≡ Some g)) → (g : Step) × (cond b (Some d) o ≡ Some g)
still_some true d o h = (d, refl)
still_some false d o h = h

-- an earlier entry of the stay stands in the same stay as the last event
pub same_stay : (y : System) (ds : List Step) (s : Spot) (n i : ℕ) → Moves y ds s → BeforeSpot s n i → s.stay ≡ (last_spot ds).stay
same_stay y ds s n i m b =
    ⊎_elim (λ (h : Same y ds s). h.stay)
    (λ r. ⊎_elim (λ (h : Within y ds s). h.stay)
    (λ (h : Opens y ds s). absurd (⊎_elim (λ (x : n < s.turn). omega (arith, x, h.turn)) (λ (x : (n ≡ s.turn) × (i < s.index)). omega (arith, x.1, h.index)) b)) r)
    m

module _ (y : System) (right : AllRight y) (md st : ℕ) where
  abbrev pub There : ℕ → ℕ → ℕ → List PlainEvent → ℕ → Type 0
  There n i x es lost = let s = spot_next y (history y es) in
      RequestsFit y es × Lossless (advance lost ∷ es) × (s.stay ≡ st) × (s.hyper.mode ≡ md) × (s.turn ≡ n) × (s.index ≡ i) × Released (plan_at y md) s x

  abbrev pub Passed : ℕ → ℕ → ℕ → List PlainEvent → Type 0
  Passed n i x es = let l = last_spot (history y es) in
      RequestsFit y es × Lossless es × (l.stay ≡ st) × (l.hyper.mode ≡ md) × Released (plan_at y md) l x × Before (history y es) n i

  -- what the entry at place i of hyperperiod n gives, or what was found before it, is found once it is past
  pub visited : {X : Type 0} (n i x v : ℕ) (f : Outcome → Option X) → v < y.nodes → i < length (entries y md) →
      ((es : List PlainEvent) (lost : ℕ) → There n i x es lost → ((z : X) × (or_else (f (step_of y (advance lost) (history y es)).out) (recall v st f (history y es)) ≡ Some z)) × ((g : Step) × (last_beacon (history y (advance lost ∷ es)) ≡ Some g))) →
      (es : List PlainEvent) → Passed n i x es → ((z : X) × (recall v st f (history y es) ≡ Some z)) × ((g : Step) × (last_beacon (history y es) ≡ Some g))
  visited n i x v f lv li hit [] w = absurd (⊎_elim (λ (q : n < 0). omega (arith, q)) (λ (q : (n ≡ 0) × (i < 0)). omega (arith, q.1)) w.5)
  visited n i x v f lv li hit (request m ∷ es) w =
      let ds = history y es in
      let d = step_of y (request m) ds in
      let r = visited n i x v f lv li hit es (w.0.1, w.1, w.2, w.3, w.4, w.5) in
      let up = synced_runs v (d ∷ ds) (all_synced y (request m ∷ es) v w.1 lv r.1.0 r.1.1) in
      (found_again (runs v (d ∷ ds) && nat_eq d.spot.stay st) (f d.out) (recall v st f ds) (both_true (runs v (d ∷ ds)) (nat_eq d.spot.stay st) up (eq-eqb d.spot.stay st w.2)) r.0, r.1)
  visited n i x v f lv li hit (restart q ∷ es) w = absurd w.1
  visited n i x v f lv li hit (advance lost ∷ es) w =
      let ds = history y es in
      let s = spot_next y ds in
      let d = step_of y (advance lost) ds in
      let mv = moves y ds (stands y es) in
      ⊎_elim
      (λ (at : (n ≡ s.turn) × (i ≡ s.index)).
      let h = hit es lost (w.0, w.1, w.2, w.3, sym at.0, sym at.1, w.4) in
      let up = synced_runs v (d ∷ ds) (all_synced y (advance lost ∷ es) v w.1 lv h.1.0 h.1.1) in
      ((h.0.0, cond-true (runs v (d ∷ ds) && nat_eq s.stay st) (or_else (f d.out) (recall v st f ds)) None (both_true (runs v (d ∷ ds)) (nat_eq s.stay st) up (eq-eqb s.stay st w.2)) ∙ h.0.1), h.1))
      (λ (before : BeforeSpot s n i).
      let same = same_stay y ds s n i mv before in
      let mode = same_mode y ds s mv same ∙ w.3 in
      let r = visited n i x v f lv li hit es (
        w.0,
        w.1.1,
        sym same ∙ w.2,
        mode,
        released_back y (plan_at y md) ds s x mv same w.4,
        step_back y ds s n i mv same (subst (λ (z : ℕ). i < length (entries y z)) (sym mode) li) before,
      ) in
      let last = still_some (is_beacon d.out) d (last_beacon ds) r.1 in
      let up = synced_runs v (d ∷ ds) (all_synced y (advance lost ∷ es) v w.1 lv last.0 last.1) in
      (found_again (runs v (d ∷ ds) && nat_eq s.stay st) (f d.out) (recall v st f ds) (both_true (runs v (d ∷ ds)) (nat_eq s.stay st) up (eq-eqb s.stay st w.2)) r.0, last))
      (split_before n s.turn i s.index w.5)

  module _ (a k : ℕ) (fit : TaskFits y.nodes (plan_at y md) a) where
    abbrev p : Plan
    p = plan_at y md

    some_entries : 1 ≤ length (entries y md)
    some_entries = let w = start_place y md a fit 0 in omega (arith, w.3.0)

    -- the start of run k
    start_hit : (es : List PlainEvent) (lost : ℕ) → let w = start_place y md a fit k in There w.0 w.1 (k * P p a) es lost →
        ((z : ℤ) × (or_else (begun_run a k (step_of y (advance lost) (history y es)).out) (recall (node_of p a) st (begun_run a k) (history y es)) ≡ Some z)) × ((g : Step) × (last_beacon (history y (advance lost ∷ es)) ≡ Some g))
    start_hit es lost t =
        let w = start_place y md a fit k in
        let ds = history y es in
        let s = spot_next y ds in
        let d = step_of y (advance lost) ds in
        let u = w.2 in
        let v = node_of p a in
        let out = performed_is y md a fit some_entries ds lost w.1 u (task_starts a) t.3 (sym t.5) w.3 in
        let entry = ap (λ (z : ℕ). get_or (entries y z) s.index none) t.3 ∙ ap (λ (z : ℕ). get_or (entries y md) z none) t.5 ∙ w.3.1 in
        let heard = beacon_heard y right es lost t.0 (omega (arith, ap key entry)) in
        let running = synced_runs v ds (all_synced y es v t.1.1 fit.on_node heard.0 heard.1) in
        let time : s.turn * H y md + u ≡ offset p a + k * P p a = ap (λ z. z * H y md + u) t.4 ∙ w.4 in
        let ok = placed s.hyper.opening s.hyper.phase (own_start p u a) in
        let may = both_true ok (runs v ds) (is_placed y md a fit s u k (stands y (advance lost ∷ es)).turn time t.6) running in
        let out' = out ∙ ap (start_or_not y p s ds a u) may in
        let number = (task_at p.mode a).number in
        let k' = run_at p s.turn u a in
        let ins = inputs p s.stay a k' ds in
        let ans = y.answers ds number ins in
        let says = ap (begun_run a k) out' ∙ cond-true (nat_eq a a && nat_eq k' k) (Some ans) None (both_true (nat_eq a a) (nat_eq k' k) (eq-eqb a a refl) (eq-eqb k' k (run_is y md a fit s.turn u k time))) in
        ((ans, or_first (begun_run a k d.out) (recall v st (begun_run a k) ds) ans says), still_some (is_beacon d.out) d (last_beacon ds) heard)

    -- run k was started, once its start is past
    was_started : (es : List PlainEvent) → let w = start_place y md a fit k in Passed w.0 w.1 (k * P p a) es → ((z : ℤ) × (recall (node_of p a) st (begun_run a k) (history y es) ≡ Some z)) × ((g : Step) × (last_beacon (history y es) ≡ Some g))
    was_started es t = let w = start_place y md a fit k in visited w.0 w.1 (k * P p a) (node_of p a) (begun_run a k) fit.on_node w.3.0 start_hit es t

    -- the end of run k
    end_hit : (es : List PlainEvent) (lost : ℕ) → let w = end_place y md a fit k in There w.0 w.1 (k * P p a) es lost →
        ((z : ℤ) × (or_else (ended_run a k (step_of y (advance lost) (history y es)).out) (recall (node_of p a) st (ended_run a k) (history y es)) ≡ Some z)) × ((g : Step) × (last_beacon (history y (advance lost ∷ es)) ≡ Some g))
    end_hit es lost t =
        let w = end_place y md a fit k in
        let b = start_place y md a fit k in
        let ds = history y es in
        let s = spot_next y ds in
        let d = step_of y (advance lost) ds in
        let mv = moves y ds (stands y es) in
        let u = w.2 in
        let v = node_of p a in
        let out = performed_is y md a fit some_entries ds lost w.1 u (task_ends a) t.3 (sym t.5) w.3 in
        let time : s.turn * H y md + u ≡ offset p a + E p a + k * P p a = ap (λ z. z * H y md + u) t.4 ∙ w.4 in
        let here : Is y md s.index u (task_ends a) = subst (λ z. Is y md z u (task_ends a)) (sym t.5) w.3 in
        let first = time_order y md b.0 b.1 b.2 s.turn s.index u (task_starts a) (task_ends a) b.3 here (omega (arith, b.4, time, fit.wcet)) in
        let same = same_stay y ds s b.0 b.1 mv first in
        let mode = same_mode y ds s mv same ∙ t.3 in
        let begun = was_started es (t.0, t.1.1, sym same ∙ t.2, mode, released_back y p ds s (k * P p a) mv same t.6, step_back y ds s b.0 b.1 mv same (subst (λ (z : ℕ). b.1 < length (entries y z)) (sym mode) b.3.0) first) in
        let ending = ending_is y md a fit s.turn u k time in
        let k' = ending_run_at p s.turn u a in
        let value : cond (ends_run p s.turn u a) (recall v s.stay (begun_run a k') ds) None ≡ Some begun.0.0 =
        cond-true (ends_run p s.turn u a) (recall v s.stay (begun_run a k') ds) None ending.0 ∙ ap (λ z. recall v z (begun_run a k') ds) t.2 ∙ ap (λ z. recall v st (begun_run a z) ds) ending.1 ∙ begun.0.1 in
        let out' = out ∙ ap (finished_or_not v a k') value in
        let says = ap (ended_run a k) out' ∙ cond-true (nat_eq a a && nat_eq k' k) (Some begun.0.0) None (both_true (nat_eq a a) (nat_eq k' k) (eq-eqb a a refl) (eq-eqb k' k ending.1)) in
        ((begun.0.0, or_first (ended_run a k d.out) (recall v st (ended_run a k) ds) begun.0.0 says), still_some (is_beacon d.out) d (last_beacon ds) begun.1)

    -- run k ended, once its end is past
    pub was_ended : (es : List PlainEvent) → let w = end_place y md a fit k in Passed w.0 w.1 (k * P p a) es → ((z : ℤ) × (recall (node_of p a) st (ended_run a k) (history y es) ≡ Some z)) × ((g : Step) × (last_beacon (history y es) ≡ Some g))
    was_ended es t = let w = end_place y md a fit k in visited w.0 w.1 (k * P p a) (node_of p a) (ended_run a k) fit.on_node w.3.0 end_hit es t
