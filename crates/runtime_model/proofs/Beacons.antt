-- Beacons of a hyperperiod come in order
use Rattle.std.proofs.Common.{◌≡◌, ℕ, zero, suc, ◌+◌, ◌-◌, ◌<◌, ◌≤◌, Bool, true, false, cond, ◌&&◌, List, [], ◌∷◌, length, get_or, refl, sym, ◌∙◌, ap, subst, arith, ◌⊎◌, inl, inr, ⊎_elim, ℤ, pos, ◌<ℤ◌}
use Rattle.std.specs.Prelude.{Option, Some, None, unwrap_or}
use Rattle.std.proofs.lemmas.Bool.{cases_lt, cases_Bool, cond-true, cond-false}
use Rattle.std.proofs.lemmas.Int.{ints}
use Rattle.sched_model.specs.Numbers.{natural}
use Rattle.sched_model.specs.Rounds.{round_start}
use Rattle.runtime_model.specs.Entries.{Entry, Action, task_ends, beacon, slot, task_starts}
use Rattle.runtime_model.specs.History.{history, step_of, last_spot, next_place, spot_next, entries, entry_at, moment, performed, finished_or_not, sent_or_not, start_or_not}
use Rattle.runtime_model.specs.LookingBack.{recall, runs, last_beacon}
use Rattle.runtime_model.specs.Outcomes.{PlainEvent, advance, request, restart, Spot, Step, is_beacon, begun_run}
use Rattle.runtime_model.specs.Packets.{packet}
use Rattle.runtime_model.specs.Placement.{placed, own_start, ends_run, ending_run_at}
use Rattle.runtime_model.specs.Laws.{RequestsFit}
use Rattle.runtime_model.proofs.Modes.{AllRight}
use Rattle.runtime_model.specs.Script.{opens_round}
use Rattle.runtime_model.specs.Plans.{Plan, node_of, RightPlan}
use Rattle.runtime_model.specs.System.{System, plan_at}
use Rattle.runtime_model.proofs.Cycles.{none, has_beacon, entry_right, RightAt, key_order, key}
use Rattle.runtime_model.proofs.Times.{natural_is, round_from_zero}
use Rattle.runtime_model.proofs.OutRegisters.{Is, H}
use Rattle.runtime_model.proofs.Spots.{Same, Within, Opens, moves, stands}

-- the entry at place i of the last hyperperiod is a beacon
abbrev pub BeaconAt : System → List Step → ℕ → Bool
BeaconAt y ds i = opens_round (get_or (entries y (last_spot ds).hyper.mode) i none).action

-- the last beacon was in the last hyperperiod, and no entry since was a beacon
pub record Seen (y : System) (ds : List Step) : Type 0 where
  pub done : Step
  pub is_last : last_beacon ds ≡ Some done
  pub stay : done.spot.stay ≡ (last_spot ds).stay
  pub turn : done.spot.turn ≡ (last_spot ds).turn
  pub mode : done.spot.hyper.mode ≡ (last_spot ds).hyper.mode
  pub begin : done.spot.begin ≡ (last_spot ds).begin
  pub past : done.spot.index < next_place ds
  pub inside : done.spot.index < length (entries y (last_spot ds).hyper.mode)
  pub is_beacon : BeaconAt y ds done.spot.index ≡ true
  pub quiet : (i : ℕ) → done.spot.index < i → i < next_place ds → BeaconAt y ds i ≡ false

-- the last hyperperiod had no beacon yet
abbrev pub Unseen : System → List Step → Type 0
Unseen y ds = (i : ℕ) → i < next_place ds → BeaconAt y ds i ≡ false

-- an outcome is a beacon exactly where the entry is one
pub outcome_is : (y : System) (p : Plan) (s : Spot) (lost : ℕ) (ds : List Step) (u : ℕ) (w : Action) → is_beacon (performed y p s lost ds u w) ≡ opens_round w
outcome_is y p s lost ds u (task_ends a) = of_end (cond (ends_run p s.turn u a) (recall (node_of p a) s.stay (begun_run a (ending_run_at p s.turn u a)) ds) None)
  where
    of_end : (o : Option ℤ) → is_beacon (finished_or_not (node_of p a) a (ending_run_at p s.turn u a) o) ≡ false
    of_end None = refl
    of_end (Some x) = refl
outcome_is y p s lost ds u (beacon j) = refl
outcome_is y p s lost ds u (slot j i) = of_slot (packet p s j i ds)
  where
    of_slot : (o : Option (List ℤ)) → is_beacon (sent_or_not p y.nodes s j i ds o lost) ≡ false
    of_slot None = refl
    of_slot (Some x) = refl
outcome_is y p s lost ds u (task_starts a) = of_start (placed s.hyper.opening s.hyper.phase (own_start p u a) && runs (node_of p a) ds)
  where
    of_start : (o : Bool) → is_beacon (start_or_not y p s ds a u o) ≡ false
    of_start true = refl
    of_start false = refl

-- each cycle has entries
abbrev pub SomeEntries : System → Type 0
SomeEntries y = (es : List PlainEvent) → RequestsFit y es → 1 ≤ length (entries y (last_spot (history y es)).hyper.mode)

pub seen_or_not : (y : System) → SomeEntries y → (es : List PlainEvent) → RequestsFit y es → Seen y (history y es) ⊎ Unseen y (history y es)
seen_or_not y some [] f = inr (λ i l. absurd (omega (arith, l)))
seen_or_not y some (request m ∷ es) f = ⊎_elim (λ (h : Seen y (history y es)). inl (record { done = h.done; is_last = h.is_last; stay = h.stay; turn = h.turn; mode = h.mode; begin = h.begin; past = h.past; inside = h.inside; is_beacon = h.is_beacon; quiet = h.quiet })) (λ (h : Unseen y (history y es)). inr h) (seen_or_not y some es f.1)
seen_or_not y some (restart v ∷ es) f = ⊎_elim (λ (h : Seen y (history y es)). inl (record { done = h.done; is_last = h.is_last; stay = h.stay; turn = h.turn; mode = h.mode; begin = h.begin; past = h.past; inside = h.inside; is_beacon = h.is_beacon; quiet = h.quiet })) (λ (h : Unseen y (history y es)). inr h) (seen_or_not y some es f)
seen_or_not y some (advance lost ∷ es) f =
    let ds = history y es in
    let s = spot_next y ds in
    let e = entry_at y s in
    let d = step_of y (advance lost) ds in
    let is = outcome_is y (plan_at y s.hyper.mode) s lost ds e.tick e.action in
    let nonempty = some (advance lost ∷ es) f in
    let in_cycle_now : s.index < length (entries y s.hyper.mode) = ⊎_elim (λ (m : Same y ds s). subst (λ (z : ℕ). s.index < length (entries y z)) (sym m.alike.mode) (omega (arith, m.inside, m.index)))
    (λ r. ⊎_elim (λ (m : Within y ds s). omega (arith, m.index, nonempty)) (λ (m : Opens y ds s). omega (arith, m.index, nonempty)) r) (moves y ds (stands y es)) in
    ⊎_elim
    (λ (yes : opens_round e.action ≡ true).
    inl (record { done = d; is_last = cond-true (is_beacon d.out) (Some d) (last_beacon ds) (is ∙ yes); stay = refl; turn = refl; mode = refl; begin = refl; past = omega arith; inside = in_cycle_now; is_beacon = yes; quiet = λ i a b. absurd (omega (arith, a, b)) }))
    (λ (no_beacon : opens_round e.action ≡ false).
    let same_last = cond-false (is_beacon d.out) (Some d) (last_beacon ds) (is ∙ no_beacon) in
    let others = λ (lo : ℕ) (before : (i : ℕ) → lo ≤ i → i < s.index → BeaconAt y (d ∷ ds) i ≡ false) (i : ℕ) (a : lo ≤ i) (b : i < suc s.index). quiet_more y (d ∷ ds) s.index lo before no_beacon i a b in
    ⊎_elim
    (λ (m : Same y ds s).
    let mode = m.alike.mode in
    ⊎_elim
    (λ (h : Seen y ds). inl (record {
      done = h.done;
      is_last = same_last ∙ h.is_last;
      stay = h.stay ∙ sym m.stay;
      turn = h.turn ∙ sym m.turn;
      mode = h.mode ∙ sym mode;
      begin = h.begin ∙ sym m.begin;
      past = omega (arith, h.past, m.index);
      inside = subst (λ (z : ℕ). h.done.spot.index < length (entries y z)) (sym mode) h.inside;
      is_beacon = ap (λ (z : ℕ). opens_round (get_or (entries y z) h.done.spot.index none).action) mode ∙ h.is_beacon;
      quiet = λ i a b. others (suc h.done.spot.index) (λ i a b. ap (λ (z : ℕ). opens_round (get_or (entries y z) i none).action) mode ∙ h.quiet i (omega (arith, a)) (omega (arith, b, m.index))) i (omega (arith, a)) b;
    }))
    (λ (h : Unseen y ds). inr (λ i b. others 0 (λ i a b. ap (λ (z : ℕ). opens_round (get_or (entries y z) i none).action) mode ∙ h i (omega (arith, b, m.index))) i (omega arith) b))
    (seen_or_not y some es f))
    (λ r. inr (λ i b. others 0 (λ i a b. absurd (omega (arith, b, ⊎_elim (λ (m : Within y ds s). m.index) (λ (m : Opens y ds s). m.index) r))) i (omega arith) b))
    (moves y ds (stands y es)))
    (cases_Bool (opens_round e.action))
  where
    quiet_more : (y : System) (ds : List Step) (n lo : ℕ) → ((i : ℕ) → lo ≤ i → i < n → BeaconAt y ds i ≡ false) → BeaconAt y ds n ≡ false → (i : ℕ) → lo ≤ i → i < suc n → BeaconAt y ds i ≡ false
    quiet_more y ds n lo before here i a b =
        ⊎_elim (λ (l : i < n). before i a l) (λ (l : n ≤ i). subst (λ z. BeaconAt y ds z ≡ false) (let q : n ≡ i = omega (arith, l, b) in q) here) (cases_lt i n)

-- ---- under a right plan
module _ (y : System) (md : ℕ) (ok : RightPlan y.nodes (plan_at y md)) where
  pub start_is : (j : ℕ) → j < length (plan_at y md).schedule.starts → pos (natural (round_start (plan_at y md).schedule j)) ≡ round_start (plan_at y md).schedule j
  start_is j l = natural_is (round_start (plan_at y md).schedule j) (round_from_zero y.nodes (plan_at y md) ok j l)

  -- rounds begin later by place, and within the hyperperiod
  pub later_start : (k j : ℕ) → suc (k + j) < length (plan_at y md).schedule.starts → round_start (plan_at y md).schedule j <ℤ round_start (plan_at y md).schedule (suc (k + j))
  later_start zero j l = let e = ap (round_start (plan_at y md).schedule) (let q : suc (0 + j) ≡ suc j = omega arith in q) in omega (arith, ints, e, ok.right.s1.apart j (omega (arith, l)), ok.valid.round)
  later_start (suc k) j l = let e = ap (round_start (plan_at y md).schedule) (let q : suc (suc k + j) ≡ suc (suc (k + j)) = omega arith in q) in
      omega (arith, ints, e, later_start k j (omega (arith, l)), ok.right.s1.apart (suc (k + j)) (omega (arith, l)), ok.valid.round)

  pub before_end : (j : ℕ) → j < length (plan_at y md).schedule.starts → round_start (plan_at y md).schedule j <ℤ pos (H y md)
  before_end j l =
      let r = length (plan_at y md).schedule.starts in
      let e = ok.right.s1.end (r - 1) (omega (arith, l)) in
      ⊎_elim
      (λ (h : j < r - 1). let a = later_start (r - 2 - j) j (omega (arith, h)) in
      let q = ap (round_start (plan_at y md).schedule) (let q : suc (r - 2 - j + j) ≡ r - 1 = omega (arith, h) in q) in
      omega (arith, ints, a, q, e, ok.valid.round))
      (λ (h : r - 1 ≤ j). let q = ap (round_start (plan_at y md).schedule) (let q : r - 1 ≡ j = omega (arith, h, l) in q) in omega (arith, ints, q, e, ok.valid.round))
      (cases_lt j (r - 1))

  -- the place of a beacon
  pub beacon_place : (j : ℕ) → j < length (plan_at y md).schedule.starts → (i : ℕ) × Is y md i (natural (round_start (plan_at y md).schedule j)) (beacon j)
  beacon_place j l = let h = has_beacon y.nodes (plan_at y md) j l (omega (arith, ints, before_end j l, start_is j l)) in (h.0, (h.1, h.2))

  -- of two beacons the one of the lower place is first
  pub beacon_order : (i j g k t u : ℕ) → Is y md i t (beacon j) → Is y md g u (beacon k) → j < k → i < g
  beacon_order i j g k t u a b l =
      let ra = (subst (λ (x : Entry). RightAt (plan_at y md) x.tick x.action) a.1 (entry_right y.nodes (plan_at y md) i a.0).1) in
      let rb = (subst (λ (x : Entry). RightAt (plan_at y md) x.tick x.action) b.1 (entry_right y.nodes (plan_at y md) g b.0).1) in
      let late = later_start (k - suc j) j (omega (arith, l, rb.0)) in
      let q = ap (round_start (plan_at y md).schedule) (let q : suc (k - suc j + j) ≡ k = omega (arith, l) in q) in
      let sooner : t < u = omega (arith, ints, late, q, start_is j ra.0, start_is k rb.0, ra.1, rb.1) in
      key_order y.nodes (plan_at y md) i g a.0 b.0 (omega (arith, ap key a.1, ap key b.1, sooner))

-- the entry of a seen beacon
pub seen_entry : (w : Action) → opens_round w ≡ true → (j : ℕ) × (w ≡ beacon j)
seen_entry (beacon j) e = (j, refl)
seen_entry (task_ends a) e = absurd cc
seen_entry (slot j i) e = absurd cc
seen_entry (task_starts a) e = absurd cc

abbrev pub gap_of_mode : System → ℕ → ℕ
gap_of_mode y md = (plan_at y md).mode.gap

module _ (y : System) (right : AllRight y) where
  pub some_round : (es : List PlainEvent) (rf : RequestsFit y es) → 0 < length (plan_at y (last_spot (history y es)).hyper.mode).schedule.starts
  some_round es rf = let k = right es rf in omega (arith, k.right.shape.some, k.right.shape.starts)

  pub some : SomeEntries y
  some es rf = let w = beacon_place y (last_spot (history y es)).hyper.mode (right es rf) 0 (some_round es rf) in omega (arith, w.1.0)

  -- what a seen beacon is, and when
  pub seen_round : (es : List PlainEvent) (rf : RequestsFit y es) (h : Seen y (history y es)) → (j : ℕ) × (j < length (plan_at y (last_spot (history y es)).hyper.mode).schedule.starts)
      × Is y (last_spot (history y es)).hyper.mode h.done.spot.index (natural (round_start (plan_at y (last_spot (history y es)).hyper.mode).schedule j)) (beacon j)
      × (moment y h.done ≡ (last_spot (history y es)).begin + natural (round_start (plan_at y (last_spot (history y es)).hyper.mode).schedule j))
  seen_round es rf h =
      let md = (last_spot (history y es)).hyper.mode in
      let g = get_or (entries y md) h.done.spot.index none in
      let w = seen_entry g.action h.is_beacon in
      let here : Is y md h.done.spot.index g.tick (beacon w.0) = (h.inside, ap (λ (z : Action). record { tick = g.tick; action = z }) w.1) in
      let at = (subst (λ (x : Entry). RightAt (plan_at y md) x.tick x.action) here.1 (entry_right y.nodes (plan_at y md) h.done.spot.index here.0).1) in
      let mode = ap (λ (z : ℕ). (get_or (entries y z) h.done.spot.index none).tick) h.mode in
      (w.0, at.0, subst (λ z. Is y md h.done.spot.index z (beacon w.0)) (sym at.1) here, omega (arith, h.begin, mode, at.1))

  -- a beacon of a lower place that is past is no later than the seen one
  pub not_lower : (es : List PlainEvent) (rf : RequestsFit y es) (h : Seen y (history y es)) (j k i : ℕ) → Is y (last_spot (history y es)).hyper.mode h.done.spot.index (natural (round_start (plan_at y (last_spot (history y es)).hyper.mode).schedule j)) (beacon j) →
      Is y (last_spot (history y es)).hyper.mode i (natural (round_start (plan_at y (last_spot (history y es)).hyper.mode).schedule k)) (beacon k) → i < next_place (history y es) → k ≤ j
  not_lower es rf h j k i a b past =
      let md = (last_spot (history y es)).hyper.mode in
      ⊎_elim
      (λ (less : j < k). absurd (let q = h.quiet i (beacon_order y md (right es rf) h.done.spot.index j i k _ _ a b less) past in
      let r : opens_round (get_or (entries y md) i none).action ≡ true = ap (λ (z : Entry). opens_round z.action) b.1 in
      let s : true ≡ false = sym r ∙ q in cc))
      (λ (le : k ≤ j). le)
      (cases_lt j k)

  pub not_unseen : (es : List PlainEvent) (rf : RequestsFit y es) → Unseen y (history y es) → (i k t : ℕ) → Is y (last_spot (history y es)).hyper.mode i t (beacon k) → i < next_place (history y es) → ⊥
  not_unseen es rf h i k t b past =
      let md = (last_spot (history y es)).hyper.mode in
      let r : opens_round (get_or (entries y md) i none).action ≡ true = ap (λ (z : Entry). opens_round z.action) b.1 in
      let s : true ≡ false = sym r ∙ h i past in cc

  -- at the end of a hyperperiod its last beacon is at most the gap away
  ended_gap : (es : List PlainEvent) (rf : RequestsFit y es) → length (entries y (last_spot (history y es)).hyper.mode) ≤ next_place (history y es) →
      (g : Step) × (last_beacon (history y es) ≡ Some g) × ((last_spot (history y es)).begin + H y (last_spot (history y es)).hyper.mode ≤ moment y g + gap_of_mode y g.spot.hyper.mode)
  ended_gap es rf over =
      let ds = history y es in
      let md = (last_spot ds).hyper.mode in
      let p = plan_at y md in
      let r = length p.schedule.starts in
      let k = right es rf in
      let w = beacon_place y md k (r - 1) (omega (arith, some_round es rf)) in
      ⊎_elim
      (λ (h : Seen y ds).
      let q = seen_round es rf h in
      let low = not_lower es rf h q.0 (r - 1) w.0 q.2 w.1 (omega (arith, w.1.0, over)) in
      let last : suc q.0 ≡ r = omega (arith, q.1, low) in
      let g = k.right.s2.across q.0 last in
      let gap = ap (λ (z : ℕ). (plan_at y z).mode.gap) h.mode in
      (h.done, h.is_last, omega (arith, ints, g, start_is y md k q.0 q.1, q.3, gap)))
      (λ (h : Unseen y ds). absurd (not_unseen es rf h w.0 (r - 1) (natural (round_start p.schedule (r - 1))) w.1 (omega (arith, w.1.0, over))))
      (seen_or_not y some es rf)

  -- before the first beacon of a hyperperiod the last one is at most the gap before its start
  crossed : (es : List PlainEvent) (rf : RequestsFit y es) → Unseen y (history y es) → (last_beacon (history y es) ≡ None) ⊎ ((g : Step) × (last_beacon (history y es) ≡ Some g) × ((last_spot (history y es)).begin ≤ moment y g + gap_of_mode y g.spot.hyper.mode))
  crossed [] rf u = inl refl
  crossed (request m ∷ es) rf u = crossed es rf.1 u
  crossed (restart v ∷ es) rf u = crossed es rf u
  crossed (advance lost ∷ es) rf u =
      let ds = history y es in
      let s = spot_next y ds in
      let e = entry_at y s in
      let d = step_of y (advance lost) ds in
      let is = outcome_is y (plan_at y s.hyper.mode) s lost ds e.tick e.action in
      let same_last = cond-false (is_beacon d.out) (Some d) (last_beacon ds) (is ∙ u s.index (omega arith)) in
      ⊎_elim
      (λ (m : Same y ds s).
      ⊎_elim (λ (x : last_beacon ds ≡ None). inl (same_last ∙ x))
      (λ (x : (g : Step) × (last_beacon ds ≡ Some g) × ((last_spot ds).begin ≤ moment y g + gap_of_mode y g.spot.hyper.mode)). inr (x.0, same_last ∙ x.1, omega (arith, x.2, m.begin)))
      (crossed es rf (λ i l. sym (ap (λ (z : ℕ). opens_round (get_or (entries y z) i none).action) m.alike.mode) ∙ u i (omega (arith, l, m.index)))))
      (λ r. let over : length (entries y (last_spot ds).hyper.mode) ≤ next_place ds = ⊎_elim (λ (m : Within y ds s). m.over) (λ (m : Opens y ds s). m.over) r in
      let begin : s.begin ≡ (last_spot ds).begin + H y (last_spot ds).hyper.mode = ⊎_elim (λ (m : Within y ds s). m.begin) (λ (m : Opens y ds s). m.begin) r in
      let x = ended_gap es rf over in
      inr (x.0, same_last ∙ x.1, omega (arith, x.2, begin)))
      (moves y ds (stands y es))

  -- within a hyperperiod
  in_turn : (es : List PlainEvent) (rf : RequestsFit y es) (h : Seen y (history y es)) (g : Step) (i t k b : ℕ) → last_beacon (history y es) ≡ Some g → Is y (last_spot (history y es)).hyper.mode i t (beacon k) → i ≡ next_place (history y es) → b ≡ (last_spot (history y es)).begin →
      b + t ≤ moment y g + gap_of_mode y g.spot.hyper.mode
  in_turn es rf h g i t k b before is now begin =
      let ds = history y es in
      let md = (last_spot ds).hyper.mode in
      let p = plan_at y md in
      let r = right es rf in
      let q = seen_round es rf h in
      let at = (subst (λ (x : Entry). RightAt p x.tick x.action) is.1 (entry_right y.nodes p i is.0).1) in
      let same = ap (λ (o : Option Step). unwrap_or o g) (sym h.is_last ∙ before) in
      let m = ap (moment y) same in
      let gap = ap (λ (d : Step). gap_of_mode y d.spot.hyper.mode) (sym same) ∙ ap (gap_of_mode y) h.mode in
      ⊎_elim
      (λ (less : q.0 < k).
      let w = beacon_place y md r (k - 1) (omega (arith, at.0)) in
      let low = not_lower es rf h q.0 (k - 1) w.0 q.2 w.1 (omega (arith, beacon_order y md r w.0 (k - 1) i k _ _ w.1 is (omega (arith, less)), now)) in
      let next : suc q.0 ≡ k = omega (arith, less, low) in
      let e = ap (λ j. natural (round_start p.schedule j)) next in
      let s2 = r.right.s2.within q.0 (omega (arith, next, at.0)) in
      omega (arith, ints, s2, e, at.1, start_is y md r q.0 q.1, start_is y md r (suc q.0) (omega (arith, next, at.0)), q.3, m, gap, begin))
      (λ (le : k ≤ q.0). ⊎_elim
      (λ (less : k < q.0). absurd (omega (arith, beacon_order y md r i k h.done.spot.index q.0 _ _ is q.2 less, h.past, now)))
      (λ (ge : q.0 ≤ k). let e = ap (λ j. natural (round_start p.schedule j)) (let x : q.0 ≡ k = omega (arith, le, ge) in x) in omega (arith, e, at.1, q.3, m, begin))
      (cases_lt k q.0))
      (cases_lt q.0 k)

  pub index_now : (es : List PlainEvent) (rf : RequestsFit y es) (lost : ℕ) → (spot_next y (history y es)).index < length (entries y (spot_next y (history y es)).hyper.mode)
  index_now es rf lost =
      let ds = history y es in
      let s = spot_next y ds in
      let nonempty = some (advance lost ∷ es) rf in
      ⊎_elim (λ (m : Same y ds s). subst (λ (z : ℕ). s.index < length (entries y z)) (sym m.alike.mode) (omega (arith, m.inside, m.index)))
      (λ r. ⊎_elim (λ (m : Within y ds s). omega (arith, m.index, nonempty)) (λ (m : Opens y ds s). omega (arith, m.index, nonempty)) r) (moves y ds (stands y es))

  -- consecutive beacons are at most the gap apart
  pub beacon_gap : (es : List PlainEvent) (rf : RequestsFit y es) (lost : ℕ) (g : Step) → is_beacon (step_of y (advance lost) (history y es)).out ≡ true → last_beacon (history y es) ≡ Some g →
      moment y (step_of y (advance lost) (history y es)) ≤ moment y g + gap_of_mode y g.spot.hyper.mode
  beacon_gap es rf lost g rings before =
      let ds = history y es in
      let s = spot_next y ds in
      let md = s.hyper.mode in
      let p = plan_at y md in
      let e = entry_at y s in
      let k = right (advance lost ∷ es) rf in
      let here = sym (outcome_is y p s lost ds e.tick e.action) ∙ rings in
      let w = seen_entry e.action here in
      let is : Is y md s.index e.tick (beacon w.0) = (index_now es rf lost, ap (λ (z : Action). record { tick = e.tick; action = z }) w.1) in
      let at = (subst (λ (x : Entry). RightAt p x.tick x.action) is.1 (entry_right y.nodes p s.index is.0).1) in
      let zero_place = beacon_place y md k 0 (omega (arith, at.0)) in
      let at_zero = λ (z : w.0 ≡ 0). let q = ap (λ j. natural (round_start p.schedule j)) z in let b = k.right.s1.begin in
      first_tick e.tick (natural (round_start p.schedule w.0)) (natural (round_start p.schedule 0)) (sym at.1) q (ap natural b) in
      let from_end = λ (x : (h : Step) × (last_beacon ds ≡ Some h) × (s.begin ≤ moment y h + gap_of_mode y h.spot.hyper.mode)) (z : w.0 ≡ 0).
      let same = ap (λ (o : Option Step). unwrap_or o g) (sym x.1 ∙ before) in
      let m = ap (moment y) same in let q = ap (λ (h : Step). gap_of_mode y h.spot.hyper.mode) same in
      added s.begin e.tick (moment y x.0) (moment y g) (gap_of_mode y x.0.spot.hyper.mode) (gap_of_mode y g.spot.hyper.mode) (at_zero z) x.2 m q in
      ⊎_elim
      (λ (m : Same y ds s).
      let mode = m.alike.mode in
      let is' : Is y (last_spot ds).hyper.mode s.index e.tick (beacon w.0) = subst (λ (z : ℕ). Is y z s.index e.tick (beacon w.0)) mode is in
      ⊎_elim
      (λ (h : Seen y ds). in_turn es rf h g s.index e.tick w.0 s.begin (before) is' m.index m.begin)
      (λ (u : Unseen y ds). ⊎_elim
      (λ (pos_k : 0 < w.0).
      let z' = subst (λ (z : ℕ). Is y z zero_place.0 (natural (round_start p.schedule 0)) (beacon 0)) mode zero_place.1 in
      absurd (not_unseen es rf u zero_place.0 0 (natural (round_start p.schedule 0)) z' (omega (arith, beacon_order y md k zero_place.0 0 s.index w.0 (natural (round_start p.schedule 0)) e.tick zero_place.1 is pos_k, m.index))))
      (λ (z : w.0 ≤ 0). ⊎_elim
      (λ (x : last_beacon ds ≡ None). absurd (let q = sym x ∙ before in grind (arith, q)))
      (λ (x : (h : Step) × (last_beacon ds ≡ Some h) × ((last_spot ds).begin ≤ moment y h + gap_of_mode y h.spot.hyper.mode)). from_end (x.0, x.1, omega (arith, x.2, m.begin)) (omega (arith, z)))
      (crossed es rf u))
      (cases_lt 0 w.0))
      (seen_or_not y some es rf))
      (λ r. let over : length (entries y (last_spot ds).hyper.mode) ≤ next_place ds = ⊎_elim (λ (m : Within y ds s). m.over) (λ (m : Opens y ds s). m.over) r in
      let begin : s.begin ≡ (last_spot ds).begin + H y (last_spot ds).hyper.mode = ⊎_elim (λ (m : Within y ds s). m.begin) (λ (m : Opens y ds s). m.begin) r in
      let index : s.index ≡ 0 = ⊎_elim (λ (m : Within y ds s). m.index) (λ (m : Opens y ds s). m.index) r in
      let x = ended_gap es rf over in
      ⊎_elim
      (λ (pos_k : 0 < w.0). absurd (omega (arith, beacon_order y md k zero_place.0 0 s.index w.0 (natural (round_start p.schedule 0)) e.tick zero_place.1 is pos_k, index)))
      (λ (z : w.0 ≤ 0). from_end (x.0, x.1, omega (arith, x.2, begin)) (omega (arith, z)))
      (cases_lt 0 w.0))
      (moves y ds (stands y es))
    where
      first_tick : (t a b : ℕ) → t ≡ a → a ≡ b → b ≡ 0 → t ≡ 0
      first_tick t a b x z q = x ∙ z ∙ q

      added : (b t m n c d : ℕ) → t ≡ 0 → b ≤ m + c → m ≡ n → c ≡ d → b + t ≤ n + d
      added b t m n c d z l e f = omega (arith, z, l, e, f)
