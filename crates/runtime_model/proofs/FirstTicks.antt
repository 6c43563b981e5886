-- A cycle has a beacon, and what stands before its first beacon is at tick 0; ticks never fall
use Rattle.std.proofs.Common.{◌≡◌, ℕ, suc, ◌+◌, ◌<◌, ◌≤◌, true, false, List, [], ◌∷◌, length, get_or, refl, sym, ◌∙◌, ap, arith, ◌⊎◌, inl, inr, ⊎_elim}
use Rattle.std.proofs.lemmas.Bool.{cases_lt}
use Rattle.sched_model.specs.Numbers.{natural}
use Rattle.sched_model.specs.Rounds.{round_start}
use Rattle.runtime_model.specs.Entries.{Entry, Action, task_ends, beacon, slot, task_starts}
use Rattle.runtime_model.specs.Plans.{RightPlan}
use Rattle.runtime_model.specs.Outcomes.{PlainEvent, advance, request, restart, Step}
use Rattle.runtime_model.specs.System.{System, plan_at}
use Rattle.runtime_model.specs.History.{history, step_of, last_spot, next_place, spot_next, entries, entry_at, moment, now_after}
use Rattle.runtime_model.specs.Script.{opens_round}
use Rattle.runtime_model.specs.Laws.{RequestsFit, TicksRise}
use Rattle.runtime_model.proofs.Cycles.{none, entry_right, cycle_rises, rises_at, rank}
use Rattle.runtime_model.proofs.Spots.{Same, Within, Opens, moves, stands}
use Rattle.runtime_model.proofs.Modes.{AllRight, all_right}
use Rattle.runtime_model.proofs.Beacons.{Unseen, beacon_place, index_now, some}
use Rattle.runtime_model.proofs.OutRegisters.{H}

-- the tick of an entry by its key
kinds : (w : Action) → rank w ≤ 2
kinds (task_ends a) = omega arith
kinds (beacon j) = omega arith
kinds (slot j i) = omega arith
kinds (task_starts a) = omega arith

-- of two places in a cycle the later one has no lower tick
pub tick_rises : (y : System) (md i j : ℕ) → i ≤ j → j < length (entries y md) → (get_or (entries y md) i none).tick ≤ (get_or (entries y md) j none).tick
tick_rises y md i j le l =
    let k = rises_at (entries y md) i j (cycle_rises y.nodes (plan_at y md)) le l in
    omega (arith, k, kinds (get_or (entries y md) j none).action)

-- ---- under a right plan
module _ (y : System) (md : ℕ) (ok : RightPlan y.nodes (plan_at y md)) where
  rounds_some : 0 < length (plan_at y md).schedule.starts
  rounds_some = omega (arith, ok.right.shape.some, ok.right.shape.starts)

  -- the first round starts with the hyperperiod
  pub first_start : natural (round_start (plan_at y md).schedule 0) ≡ 0
  first_start = ap natural ok.right.s1.begin

  -- a cycle is not empty: it has the beacon of the first round
  pub some_entries : 1 ≤ length (entries y md)
  some_entries = let w = beacon_place y md ok 0 rounds_some in omega (arith, w.1.0)

  -- each entry that stands before the first beacon, and that beacon itself, has tick 0
  pub first_ticks : (i : ℕ) → i < length (entries y md) → ((k : ℕ) → k < i → opens_round (get_or (entries y md) k none).action ≡ false) → (get_or (entries y md) i none).tick ≡ 0
  first_ticks i l quiet =
      let w = beacon_place y md ok 0 rounds_some in
      ⊎_elim
      (λ (past : w.0 < i). absurd (let q : true ≡ false = sym (ap (λ (z : Entry). opens_round z.action) w.1.1) ∙ quiet w.0 past in cc))
      (λ (le : i ≤ w.0).
      let t = tick_rises y md i w.0 le w.1.0 in
      omega (arith, t, ap (λ (z : Entry). z.tick) w.1.1, first_start))
      (cases_lt w.0 i)

  -- the first entry of the cycle has tick 0
  pub first_tick : (get_or (entries y md) 0 none).tick ≡ 0
  first_tick = first_ticks 0 some_entries (λ k l. absurd (omega (arith, l)))

  -- each tick is within the hyperperiod
  pub tick_inside : (i : ℕ) → i < length (entries y md) → (get_or (entries y md) i none).tick < H y md
  tick_inside i l = (entry_right y.nodes (plan_at y md) i l).0

-- ---- the next entry against the last one

-- the next Advance stands in the hyperperiod of the last event, at no lower tick
pub record Stays (y : System) (ds : List Step) : Type 0 where
  pub same : Same y ds (spot_next y ds)
  pub later : (entry_at y (last_spot ds)).tick ≤ (entry_at y (spot_next y ds)).tick
  pub inside : (entry_at y (spot_next y ds)).tick < H y (last_spot ds).hyper.mode

-- it stands at the first entry of the next hyperperiod: every entry of the old one is past, and so is its length, that of the old mode
pub record Turns (y : System) (ds : List Step) : Type 0 where
  pub over : length (entries y (last_spot ds).hyper.mode) ≤ next_place ds
  pub index : (spot_next y ds).index ≡ 0
  pub begin : (spot_next y ds).begin ≡ (last_spot ds).begin + H y (last_spot ds).hyper.mode
  pub tick : (entry_at y (spot_next y ds)).tick ≡ 0

-- ---- every list of events
module _ (y : System) (right : AllRight y) where
  -- the last event stands at an entry of its cycle, and the next entry is that one, before the first Advance, or comes after it
  pub last_index : (es : List PlainEvent) → RequestsFit y es → let ds = history y es in ((last_spot ds).index < length (entries y (last_spot ds).hyper.mode)) × ((last_spot ds).index ≤ next_place ds) × (next_place ds ≤ suc (last_spot ds).index)
  last_index [] f = (some y right [] f, omega arith, omega arith)
  last_index (request m ∷ es) f = last_index es f.1
  last_index (restart v ∷ es) f = last_index es f
  last_index (advance lost ∷ es) f = (index_now y right es f lost, omega arith, omega arith)

  -- the tick of the last Advance is that of the entry at the last spot
  pub now_is : (es : List PlainEvent) → RequestsFit y es → now_after y (history y es) ≡ (last_spot (history y es)).begin + (entry_at y (last_spot (history y es))).tick
  now_is [] f = let t = first_tick y 0 (right [] f) in omega (arith, t)
  now_is (request m ∷ es) f = refl
  now_is (restart v ∷ es) f = refl
  now_is (advance lost ∷ es) f = refl

  -- no tick passes at a request or a restart
  pub request_now : (es : List PlainEvent) (m : ℕ) → RequestsFit y (request m ∷ es) → now_after y (history y (request m ∷ es)) ≡ now_after y (history y es)
  request_now es m f = sym (now_is es f.1)

  pub restart_now : (es : List PlainEvent) (v : ℕ) → RequestsFit y es → now_after y (history y (restart v ∷ es)) ≡ now_after y (history y es)
  restart_now es v f = sym (now_is es f)

  -- before the first beacon of a hyperperiod no tick of it has passed
  pub unseen_now : (es : List PlainEvent) → RequestsFit y es → Unseen y (history y es) → now_after y (history y es) ≡ (last_spot (history y es)).begin
  unseen_now es f u =
      let ds = history y es in
      let l = last_index es f in
      let t = first_ticks y (last_spot ds).hyper.mode (right es f) (last_spot ds).index l.0 (λ k b. u k (omega (arith, b, l.1))) in
      omega (arith, now_is es f, t)

  -- the next entry is in the hyperperiod of the last event, or the first one of the next
  pub onward : (es : List PlainEvent) → RequestsFit y es → Stays y (history y es) ⊎ Turns y (history y es)
  onward es f =
      let ds = history y es in
      let s = spot_next y ds in
      let ok = right (advance 0 ∷ es) f in
      let turn = λ (over : length (entries y (last_spot ds).hyper.mode) ≤ next_place ds) (index : s.index ≡ 0) (begin : s.begin ≡ (last_spot ds).begin + H y (last_spot ds).hyper.mode).
      let t : Turns y ds = record { over = over; index = index; begin = begin; tick = ap (λ i. (get_or (entries y s.hyper.mode) i none).tick) index ∙ first_tick y s.hyper.mode ok } in t in
      ⊎_elim
      (λ (m : Same y ds s).
      let l = last_index es f in
      let mode = ap (λ (z : ℕ). (get_or (entries y z) s.index none).tick) m.alike.mode in
      let here : s.index < length (entries y (last_spot ds).hyper.mode) = omega (arith, m.inside, m.index) in
      let rises = tick_rises y (last_spot ds).hyper.mode (last_spot ds).index s.index (omega (arith, l.1, m.index)) here in
      let inside = tick_inside y (last_spot ds).hyper.mode (right es f) s.index here in
      inl (record { same = m; later = omega (arith, rises, mode); inside = omega (arith, inside, mode) }))
      (λ r. inr (⊎_elim (λ (m : Within y ds s). turn m.over m.index m.begin) (λ (m : Opens y ds s). turn m.over m.index m.begin) r))
      (moves y ds (stands y es))

  -- the last Advance is in the hyperperiod of the last event
  pub now_inside : (es : List PlainEvent) → RequestsFit y es → ((last_spot (history y es)).begin ≤ now_after y (history y es)) × (now_after y (history y es) < (last_spot (history y es)).begin + H y (last_spot (history y es)).hyper.mode)
  now_inside es f =
      let ds = history y es in
      let l = last_index es f in
      let n = now_is es f in
      (omega (arith, n), omega (arith, n, tick_inside y (last_spot ds).hyper.mode (right es f) (last_spot ds).index l.0))

  -- ticks never fall, and one Advance moves on by at most a hyperperiod
  pub moments_rise : (es : List PlainEvent) (lost : ℕ) → RequestsFit y es → let ds = history y es in let d = step_of y (advance lost) ds in
      (now_after y ds ≤ moment y d) × (moment y d ≤ now_after y ds + H y (last_spot ds).hyper.mode)
  moments_rise es lost f =
      let ds = history y es in
      let n = now_is es f in
      let i = now_inside es f in
      ⊎_elim
      (λ (t : Stays y ds). (omega (arith, n, t.later, t.same.begin), omega (arith, i.0, t.inside, t.same.begin)))
      (λ (t : Turns y ds). (omega (arith, i.1, t.begin), omega (arith, i.0, t.begin, t.tick)))
      (onward es f)

pub ticks_rise : TicksRise
ticks_rise y plans es lost f = moments_rise y (all_right y plans) es lost f
