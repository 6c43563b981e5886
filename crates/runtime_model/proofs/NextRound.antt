-- Where the next entry stands to the last beacon
use Rattle.std.proofs.Common.{◌≡◌, ℕ, suc, ◌+◌, ◌-◌, ◌<◌, ◌≤◌, true, false, List, [], ◌∷◌, length, get_or, sym, ◌∙◌, ap, subst, arith, ◌⊎◌, inl, inr, ⊎_elim}
use Rattle.std.specs.Prelude.{Option, Some, unwrap_or}
use Rattle.std.proofs.lemmas.Bool.{cases_lt, cases_Bool, cond-false}
use Rattle.sched_model.specs.Numbers.{natural}
use Rattle.sched_model.specs.Rounds.{round_start}
use Rattle.runtime_model.specs.Entries.{Entry, Action, beacon}
use Rattle.runtime_model.specs.Plans.{RightPlan, first_round}
use Rattle.runtime_model.specs.Outcomes.{PlainEvent, advance, request, restart, Step, is_beacon}
use Rattle.runtime_model.specs.LookingBack.{last_beacon}
use Rattle.runtime_model.specs.System.{System, plan_at}
use Rattle.runtime_model.specs.History.{history, step_of, last_spot, next_place, spot_next, entries, entry_at, moment, now_after, performed}
use Rattle.runtime_model.specs.Script.{opens_round}
use Rattle.runtime_model.specs.HostOfEvents.{beacon_place}
use Rattle.runtime_model.specs.Laws.{RequestsFit, BeaconsInOrder}
use Rattle.runtime_model.proofs.Cycles.{none, entry_right, RightAt}
use Rattle.runtime_model.proofs.Modes.{AllRight, all_right}
use Rattle.runtime_model.proofs.OutRegisters.{Is, H}
use Rattle.runtime_model.proofs.Beacons.{Seen, Unseen, outcome_is, seen_entry, beacon_order, not_lower, not_unseen, some_round, index_now}
use Rattle.runtime_model.proofs.HostEvents.{seen_at, seen_still, unseen_still, unseen_anew, beacon_place_in, follows_seen}
use Rattle.runtime_model.proofs.FirstTicks.{tick_rises, first_ticks, Stays, Turns, onward, now_is}

-- how many rounds a mode has, and the tick at which one of them starts
abbrev pub rounds_of : System → ℕ → ℕ
rounds_of y md = length (plan_at y md).schedule.starts

abbrev pub round_tick : System → ℕ → ℕ → ℕ
round_tick y md j = natural (round_start (plan_at y md).schedule j)

-- the step is the beacon of the round at place j of a mode with a right plan
pub record BeaconStep (y : System) (d : Step) (j : ℕ) : Type 0 where
  pub is : Is y d.spot.hyper.mode d.spot.index (round_tick y d.spot.hyper.mode j) (beacon j)
  pub place : beacon_place y d d.out ≡ j
  pub inside : j < rounds_of y d.spot.hyper.mode
  pub at : moment y d ≡ d.spot.begin + round_tick y d.spot.hyper.mode j
  pub right : RightPlan y.nodes (plan_at y d.spot.hyper.mode)

-- the last event is in the hyperperiod of the last beacon d
abbrev pub Here : System → List Step → Step → Type 0
Here y ds d = (h : Seen y ds) × (h.done ≡ d)

-- the last event is in the hyperperiod after that of the last beacon d, whose round j is the last of its mode: before the first beacon, and at its first tick
pub record Gone (y : System) (ds : List Step) (d : Step) (j : ℕ) : Type 0 where
  pub last : suc j ≡ rounds_of y d.spot.hyper.mode
  pub unseen : Unseen y ds
  pub begin : (last_spot ds).begin ≡ d.spot.begin + H y d.spot.hyper.mode
  pub now : now_after y ds ≡ (last_spot ds).begin

-- the next entry is in the hyperperiod of the last beacon too: at most at the start of the next round, and where it is a beacon it is that round's
pub record Still (y : System) (ds : List Step) (d : Step) (j : ℕ) : Type 0 where
  pub here : Here y ds d
  pub stays : Stays y ds
  pub stay : (spot_next y ds).stay ≡ d.spot.stay
  pub turn : (spot_next y ds).turn ≡ d.spot.turn
  pub begin : (spot_next y ds).begin ≡ d.spot.begin
  pub mode : (spot_next y ds).hyper.mode ≡ d.spot.hyper.mode
  pub after : round_tick y d.spot.hyper.mode j ≤ (entry_at y (spot_next y ds)).tick
  pub before : suc j < rounds_of y d.spot.hyper.mode → (entry_at y (spot_next y ds)).tick ≤ round_tick y d.spot.hyper.mode (suc j)
  pub inside : (entry_at y (spot_next y ds)).tick < H y d.spot.hyper.mode
  pub beacon : (i : ℕ) → (entry_at y (spot_next y ds)).action ≡ beacon i →
      (i ≡ suc j) × (suc j < rounds_of y d.spot.hyper.mode) × ((entry_at y (spot_next y ds)).tick ≡ round_tick y d.spot.hyper.mode (suc j))

-- it is the first entry of the hyperperiod after it
pub record Turning (y : System) (ds : List Step) (d : Step) (j : ℕ) : Type 0 where
  pub here : Here y ds d
  pub turns : Turns y ds
  pub last : suc j ≡ rounds_of y d.spot.hyper.mode
  pub begin : (spot_next y ds).begin ≡ d.spot.begin + H y d.spot.hyper.mode
  pub beacon : (i : ℕ) → (entry_at y (spot_next y ds)).action ≡ beacon i → i ≡ 0

-- it is in the hyperperiod after it, as the last event is: at its first tick, and where it is a beacon it is the first round's
pub record Anew (y : System) (ds : List Step) (d : Step) (j : ℕ) : Type 0 where
  pub gone : Gone y ds d j
  pub stays : Stays y ds
  pub begin : (spot_next y ds).begin ≡ d.spot.begin + H y d.spot.hyper.mode
  pub tick : (entry_at y (spot_next y ds)).tick ≡ 0
  pub beacon : (i : ℕ) → (entry_at y (spot_next y ds)).action ≡ beacon i → i ≡ 0

module _ (y : System) (right : AllRight y) where
  -- the next entry, where it is a beacon
  beacon_is : (es : List PlainEvent) (rf : RequestsFit y es) (i : ℕ) → let s = spot_next y (history y es) in (entry_at y s).action ≡ beacon i →
      Is y s.hyper.mode s.index (entry_at y s).tick (beacon i) × (i < rounds_of y s.hyper.mode) × ((entry_at y s).tick ≡ round_tick y s.hyper.mode i)
  beacon_is es rf i act =
      let s = spot_next y (history y es) in
      let e = entry_at y s in
      let p = plan_at y s.hyper.mode in
      let is : Is y s.hyper.mode s.index e.tick (beacon i) = (index_now y right es rf 0, ap (λ (z : Action). record { tick = e.tick; action = z }) act) in
      let at = (subst (λ (x : Entry). RightAt p x.tick x.action) is.1 (entry_right y.nodes p s.index is.0).1) in
      (is, at.0, sym at.1)

  -- a beacon at the first entry of a hyperperiod is that of the first round
  first_of : (es : List PlainEvent) (rf : RequestsFit y es) → (spot_next y (history y es)).index ≡ 0 → (i : ℕ) → (entry_at y (spot_next y (history y es))).action ≡ beacon i → i ≡ 0
  first_of es rf index i act =
      let s = spot_next y (history y es) in
      let e = entry_at y s in
      let ok = right (advance 0 ∷ es) rf in
      let b = beacon_is es rf i act in
      let origin = beacon_place_in y right s.hyper.mode 0 ok (omega (arith, b.1)) in
      ⊎_elim
      (λ (later : 0 < i). absurd (omega (arith, beacon_order y s.hyper.mode ok origin.0 0 s.index i (round_tick y s.hyper.mode 0) e.tick origin.1 b.0 later, index)))
      (λ (z : i ≤ 0). omega (arith, z))
      (cases_lt 0 i)

  -- where no entry of the hyperperiod is left, the last beacon was that of its last round
  last_round : (es : List PlainEvent) (rf : RequestsFit y es) (h : Seen y (history y es)) (j : ℕ) → let md = (last_spot (history y es)).hyper.mode in
      Is y md h.done.spot.index (round_tick y md j) (beacon j) → j < rounds_of y md → length (entries y md) ≤ next_place (history y es) → suc j ≡ rounds_of y md
  last_round es rf h j is inside over =
      let md = (last_spot (history y es)).hyper.mode in
      let r = rounds_of y md in
      let w = beacon_place_in y right md (r - 1) (right es rf) (omega (arith, inside)) in
      let low = not_lower y right es rf h j (r - 1) w.0 is w.1 (omega (arith, w.1.0, over)) in
      omega (arith, low, inside)

  still_or_turning : (es : List PlainEvent) (rf : RequestsFit y es) (d : Step) (j : ℕ) → BeaconStep y d j → Here y (history y es) d → Still y (history y es) d j ⊎ Turning y (history y es) d j
  still_or_turning es rf d j b here =
      let ds = history y es in
      let s = spot_next y ds in
      let e = entry_at y s in
      let l = last_spot ds in
      let md = d.spot.hyper.mode in
      let h = here.0 in
      let eq = here.1 in
      let mode : md ≡ l.hyper.mode = ap (λ (q : Step). q.spot.hyper.mode) (sym eq) ∙ h.mode in
      let begin : d.spot.begin ≡ l.begin = ap (λ (q : Step). q.spot.begin) (sym eq) ∙ h.begin in
      let ok = right es rf in
      let index : h.done.spot.index ≡ d.spot.index = ap (λ (q : Step). q.spot.index) eq in
      let is : Is y l.hyper.mode h.done.spot.index (round_tick y l.hyper.mode j) (beacon j) = subst (λ (z : ℕ). Is y z h.done.spot.index (round_tick y z j) (beacon j)) mode (subst (λ i. Is y md i (round_tick y md j) (beacon j)) (sym index) b.is) in
      let inside : j < rounds_of y l.hyper.mode = subst (λ z. j < rounds_of y z) mode b.inside in
      let in_mode = λ (k : ℕ). ap (λ (z : ℕ). round_tick y z k) mode in
      let count = ap (rounds_of y) mode in
      let length_is = ap (H y) mode in
      ⊎_elim
      (λ (t : Stays y ds).
      let m = t.same in
      let sm = m.alike.mode in
      let here_tick = ap (λ (z : ℕ). (get_or (entries y z) s.index none).tick) sm in
      let place : s.index < length (entries y l.hyper.mode) = omega (arith, m.inside, m.index) in
      inl (record {
        here = here;
        stays = t;
        stay = m.stay ∙ sym h.stay ∙ ap (λ (q : Step). q.spot.stay) eq;
        turn = m.turn ∙ sym h.turn ∙ ap (λ (q : Step). q.spot.turn) eq;
        begin = m.begin ∙ sym begin;
        mode = sm ∙ sym mode;
        after =
            let r = tick_rises y l.hyper.mode h.done.spot.index s.index (omega (arith, h.past, m.index)) place in
            omega (arith, r, here_tick, ap (λ (z : Entry). z.tick) is.1, in_mode j);
        before = λ more.
            let w = beacon_place_in y right l.hyper.mode (suc j) ok (omega (arith, more, count)) in
            let le : s.index ≤ w.0 = ⊎_elim
            (λ (past : w.0 < s.index). absurd (omega (arith, not_lower y right es rf h j (suc j) w.0 is w.1 (omega (arith, past, m.index)))))
            (λ (le : s.index ≤ w.0). le)
            (cases_lt w.0 s.index) in
            let r = tick_rises y l.hyper.mode s.index w.0 le w.1.0 in
            omega (arith, r, here_tick, ap (λ (z : Entry). z.tick) w.1.1, in_mode (suc j));
        inside = omega (arith, t.inside, length_is);
        beacon = λ i act.
            let q = beacon_is es rf i act in
            let is' : Is y l.hyper.mode s.index e.tick (beacon i) = subst (λ (z : ℕ). Is y z s.index e.tick (beacon i)) sm q.0 in
            let next = follows_seen y right es rf ok h j is s.index e.tick i is' m.index in
            let counted = ap (rounds_of y) sm in
            let tick : e.tick ≡ round_tick y md (suc j) = q.2 ∙ ap (λ (z : ℕ). round_tick y z i) (sm ∙ sym mode) ∙ ap (round_tick y md) (sym next) in
            (sym next, omega (arith, next, q.1, counted, count), tick);
      }))
      (λ (t : Turns y ds).
      let last = last_round es rf h j is inside t.over in
      inr (record {
        here = here;
        turns = t;
        last = omega (arith, last, count);
        begin = omega (arith, t.begin, begin, length_is);
        beacon = first_of es rf t.index;
      }))
      (onward y right es rf)

  anew : (es : List PlainEvent) (rf : RequestsFit y es) (d : Step) (j : ℕ) → Gone y (history y es) d j → Anew y (history y es) d j
  anew es rf d j g =
      let ds = history y es in
      let s = spot_next y ds in
      let e = entry_at y s in
      let l = last_spot ds in
      let md = l.hyper.mode in
      let ok = right es rf in
      let r = rounds_of y md in
      let some = some_round y right es rf in
      ⊎_elim
      (λ (t : Stays y ds).
      let m = t.same in
      let here_tick = ap (λ (z : ℕ). (get_or (entries y z) s.index none).tick) m.alike.mode in
      let zero_tick = first_ticks y md ok s.index (omega (arith, m.inside, m.index)) (λ k b. g.unseen k (omega (arith, b, m.index))) in
      record {
        gone = g;
        stays = t;
        begin = m.begin ∙ g.begin;
        tick = here_tick ∙ zero_tick;
        beacon = λ i act.
            let q = beacon_is es rf i act in
            let is' : Is y md s.index e.tick (beacon i) = subst (λ (z : ℕ). Is y z s.index e.tick (beacon i)) m.alike.mode q.0 in
            let origin = beacon_place_in y right md 0 ok some in
            ⊎_elim
            (λ (later : 0 < i). absurd (not_unseen y right es rf g.unseen origin.0 0 (round_tick y md 0) origin.1
            (omega (arith, beacon_order y md ok origin.0 0 s.index i (round_tick y md 0) e.tick origin.1 is' later, m.index))))
            (λ (z : i ≤ 0). omega (arith, z))
            (cases_lt 0 i);
      })
      (λ (t : Turns y ds).
      let w = beacon_place_in y right md (r - 1) ok (omega (arith, some)) in
      absurd (not_unseen y right es rf g.unseen w.0 (r - 1) (round_tick y md (r - 1)) w.1 (omega (arith, w.1.0, t.over))))
      (onward y right es rf)

  -- where the next entry stands
  pub next_stands : (es : List PlainEvent) (rf : RequestsFit y es) (d : Step) (j : ℕ) → BeaconStep y d j → Here y (history y es) d ⊎ Gone y (history y es) d j →
      Still y (history y es) d j ⊎ (Turning y (history y es) d j ⊎ Anew y (history y es) d j)
  next_stands es rf d j b at =
      let ds = history y es in
      ⊎_elim
      (λ (h : Here y ds d). ⊎_elim (λ (x : Still y ds d j). inl x) (λ (x : Turning y ds d j). inr (inl x)) (still_or_turning es rf d j b h))
      (λ (g : Gone y ds d j). inr (inr (anew es rf d j g)))
      at

  -- the last beacon is that of a round, and the last event is in its hyperperiod or at the first tick of the one after it
  pub last_stands : (es : List PlainEvent) (rf : RequestsFit y es) (d : Step) → last_beacon (history y es) ≡ Some d → (j : ℕ) × BeaconStep y d j × (Here y (history y es) d ⊎ Gone y (history y es) d j)
  last_stands [] rf d e = absurd (grind (arith, e))
  last_stands (request m ∷ es) rf d e =
      let w = last_stands es rf.1 d e in
      let ds = history y es in (
        w.0,
        w.1,
        ⊎_elim
            (λ (q : Here y ds d). let h = q.0 in inl (record { done = h.done; is_last = h.is_last; stay = h.stay; turn = h.turn; mode = h.mode; begin = h.begin; past = h.past; inside = h.inside; is_beacon = h.is_beacon; quiet = h.quiet }, q.1))
            (λ (g : Gone y ds d w.0). inr (record { last = g.last; unseen = g.unseen; begin = g.begin; now = sym (now_is y right es rf.1) ∙ g.now }))
            w.2,
      )
  last_stands (restart v ∷ es) rf d e =
      let w = last_stands es rf d e in
      let ds = history y es in (
        w.0,
        w.1,
        ⊎_elim
            (λ (q : Here y ds d). let h = q.0 in inl (record { done = h.done; is_last = h.is_last; stay = h.stay; turn = h.turn; mode = h.mode; begin = h.begin; past = h.past; inside = h.inside; is_beacon = h.is_beacon; quiet = h.quiet }, q.1))
            (λ (g : Gone y ds d w.0). inr (record { last = g.last; unseen = g.unseen; begin = g.begin; now = sym (now_is y right es rf) ∙ g.now }))
            w.2,
      )
  last_stands (advance lost ∷ es) rf d e =
      let ds = history y es in
      let s = spot_next y ds in
      let entry = entry_at y s in
      let d' = step_of y (advance lost) ds in
      let out = outcome_is y (plan_at y s.hyper.mode) s lost ds entry.tick entry.action in
      ⊎_elim
      (λ (rings : opens_round entry.action ≡ true).
      let j = seen_entry entry.action rings in
      let g = seen_at y right es rf lost j.0 j.1 in
      let h = g.0 in
      let same : h.done ≡ d = ap (λ (o : Option Step). unwrap_or o d) (sym h.is_last ∙ e) in
      let is = subst (λ (z : ℕ). Is y z h.done.spot.index (round_tick y z j.0) (beacon j.0)) (sym h.mode) g.1 in
      let at = (subst (λ (x : Entry). RightAt (plan_at y h.done.spot.hyper.mode) x.tick x.action) is.1 (entry_right y.nodes (plan_at y h.done.spot.hyper.mode) h.done.spot.index is.0).1) in
      let b : BeaconStep y h.done j.0 = record { is = is; place = g.2; inside = at.0; at = omega (arith, ap (λ (z : Entry). z.tick) is.1); right = subst (λ (z : ℕ). RightPlan y.nodes (plan_at y z)) (sym h.mode) (right (advance lost ∷ es) rf) } in
      (j.0, subst (λ (q : Step). BeaconStep y q j.0) same b, inl (h, same)))
      (λ (no_beacon : opens_round entry.action ≡ false).
      let before = sym (cond-false (is_beacon d'.out) (Some d') (last_beacon ds) (out ∙ no_beacon)) ∙ e in
      let w = last_stands es rf d before in
      let gone = λ (g : Gone y (d' ∷ ds) d w.0). let x : (j : ℕ) × BeaconStep y d j × (Here y (d' ∷ ds) d ⊎ Gone y (d' ∷ ds) d j) = (w.0, w.1, inr g) in x in
      ⊎_elim
      (λ (x : Still y ds d w.0).
      let g = seen_still y right es lost x.stays.same no_beacon x.here.0 in
      (w.0, w.1, inl (g.0, g.1 ∙ x.here.1)))
      (λ r. ⊎_elim
      (λ (x : Turning y ds d w.0). gone (record { last = x.last; unseen = unseen_anew y right es lost x.turns.index no_beacon; begin = x.begin; now = omega (arith, x.turns.tick) }))
      (λ (x : Anew y ds d w.0). gone (record { last = x.gone.last; unseen = unseen_still y right es lost x.stays.same no_beacon x.gone.unseen; begin = x.begin; now = omega (arith, x.tick) })) r)
      (next_stands es rf d w.0 w.1 w.2))
      (cases_Bool (opens_round entry.action))

-- the beacons come in the order of the rounds
pub beacons_in_order : BeaconsInOrder
beacons_in_order y plans es lost g rf e rings =
    let right = all_right y plans in
    let ds = history y es in
    let s = spot_next y ds in
    let entry = entry_at y s in
    let p = plan_at y s.hyper.mode in
    let d = step_of y (advance lost) ds in
    let i = seen_entry entry.action (sym (outcome_is y p s lost ds entry.tick entry.action) ∙ rings) in
    let place : beacon_place y d d.out ≡ i.0 = ap (λ (w : Action). beacon_place y d (performed y p s lost ds entry.tick w)) i.1 ∙ minus (first_round y.plans s.hyper.mode) i.0 in
    let w = last_stands y right es rf g e in
    let j = w.0 in
    ⊎_elim
    (λ (x : Still y ds g j). inl (place ∙ (x.beacon i.0 i.1).0 ∙ ap suc (sym w.1.place), x.stay, x.turn, x.begin))
    (λ r. inr (⊎_elim
    (λ (x : Turning y ds g j). (ap suc w.1.place ∙ x.last, place ∙ x.beacon i.0 i.1, at s.begin entry.tick (g.spot.begin + H y g.spot.hyper.mode) x.begin x.turns.tick))
    (λ (x : Anew y ds g j). (ap suc w.1.place ∙ x.gone.last, place ∙ x.beacon i.0 i.1, at s.begin entry.tick (g.spot.begin + H y g.spot.hyper.mode) x.begin x.tick))
    r))
    (next_stands y right es rf g j w.1 w.2)
  where
    minus : (n j : ℕ) → n + j - n ≡ j
    minus n j = omega arith

    at : (b t m : ℕ) → b ≡ m → t ≡ 0 → b + t ≡ m
    at b t m e z = omega (arith, e, z)
