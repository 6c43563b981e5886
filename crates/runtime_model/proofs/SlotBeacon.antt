-- At a slot the last beacon is that of its round, and no tick has passed since
use Rattle.std.proofs.Common.{◌≡◌, ℕ, suc, ◌+◌, ◌-◌, ◌*◌, ◌<◌, ◌≤◌, true, false, List, ◌∷◌, length, get_or, refl, sym, ◌∙◌, ap, subst, arith, inl, ⊎_elim}
use Rattle.std.specs.Prelude.{Some}
use Rattle.std.proofs.lemmas.Int.{ints}
use Rattle.std.proofs.lemmas.Bool.{cases_lt}
use Rattle.sched_model.specs.Rounds.{round_start}
use Rattle.runtime_model.specs.Entries.{Entry, Action, task_ends, beacon, slot, task_starts}
use Rattle.runtime_model.specs.Plans.{RightPlan, Carried}
use Rattle.runtime_model.specs.Outcomes.{PlainEvent, advance, Step}
use Rattle.runtime_model.specs.LookingBack.{last_beacon}
use Rattle.runtime_model.specs.System.{System, plan_at}
use Rattle.runtime_model.specs.History.{history, last_spot, next_place, spot_next, entries, entry_at, moment, now_after}
use Rattle.runtime_model.specs.Script.{opens_round}
use Rattle.runtime_model.specs.Laws.{RequestsFit, SlotsFollowBeacons}
use Rattle.runtime_model.proofs.Cycles.{none, entry_right, RightAt, cycle_rises, rises_at, key, rank}
use Rattle.runtime_model.proofs.Modes.{AllRight, all_right}
use Rattle.runtime_model.proofs.Times.{slot_carried}
use Rattle.runtime_model.proofs.Beacons.{Seen, Unseen, seen_or_not, some, index_now, start_is, later_start}
use Rattle.runtime_model.proofs.FirstTicks.{tick_rises, Stays, Turns, onward, moments_rise}
use Rattle.runtime_model.proofs.NextRound.{rounds_of, round_tick, BeaconStep, Still, Turning, Anew, next_stands, last_stands}
use Rattle.runtime_model.proofs.Passing.{moment_next, here_now}
use Rattle.runtime_model.proofs.SlotRound.{slot_led}

-- an entry by its parts
abbrev entry_of : ℕ → Action → Entry
entry_of u w = record { tick = u; action = w }

module _ (y : System) (md : ℕ) (ok : RightPlan y.nodes (plan_at y md)) where
  -- a later round starts at a later tick
  pub rounds_rise : (j k : ℕ) → j < k → k < rounds_of y md → round_tick y md j < round_tick y md k
  rounds_rise j k l in_mode =
      let late = later_start y md ok (k - suc j) j (omega (arith, l, in_mode)) in
      let q = ap (round_start (plan_at y md).schedule) (let q : suc (k - suc j + j) ≡ k = omega (arith, l) in q) in
      omega (arith, ints, late, q, start_is y md ok j (omega (arith, l, in_mode)), start_is y md ok k in_mode)

  -- rounds that start at one tick are one
  pub one_round : (j k : ℕ) → j < rounds_of y md → k < rounds_of y md → round_tick y md j ≡ round_tick y md k → j ≡ k
  one_round j k lj lk e =
      ⊎_elim
      (λ (l : j < k). absurd (omega (arith, rounds_rise j k l lk, e)))
      (λ (g : k ≤ j). ⊎_elim
      (λ (l : k < j). absurd (omega (arith, rounds_rise k j l lj, e)))
      (λ (l : j ≤ k). omega (arith, g, l))
      (cases_lt k j))
      (cases_lt j k)

-- The next entry is a slot of round j with message i, and d, the last beacon, is that of round j of the same hyperperiod. No tick has passed since it,
-- and none passes before the slot. Between the two stand only slots of that round
pub record AtSlot (y : System) (ds : List Step) (d : Step) (j i : ℕ) : Type 0 where
  pub is_last : last_beacon ds ≡ Some d
  pub beacon : BeaconStep y d j
  pub still : Still y ds d j
  pub carried : Carried (plan_at y (spot_next y ds).hyper.mode) j i
  pub now : now_after y ds ≡ moment y d
  pub next : moment_next y ds ≡ moment y d
  pub between : (x : ℕ) → d.spot.index < x → x < (spot_next y ds).index → (m : ℕ) × (get_or (entries y (spot_next y ds).hyper.mode) x none ≡ record { tick = (entry_at y (spot_next y ds)).tick; action = slot j m })

module _ (y : System) (right : AllRight y) where
  pub slot_stands : (es : List PlainEvent) (rf : RequestsFit y es) (j i : ℕ) → (entry_at y (spot_next y (history y es))).action ≡ slot j i → (d : Step) × AtSlot y (history y es) d j i
  slot_stands es rf j i act =
      let ds = history y es in
      let s = spot_next y ds in
      let e = entry_at y s in
      let md = s.hyper.mode in
      let lm = (last_spot ds).hyper.mode in
      let p = plan_at y md in
      let ok = right (advance 0 ∷ es) rf in
      let place = index_now y right es rf 0 in
      let led = slot_led y.nodes p s.index place j i act in
      let b = led.0 in
      let at = subst (λ (w : Action). RightAt p e.tick w) act (entry_right y.nodes p s.index place).1 in
      let origin = subst (λ (x : Entry). RightAt p x.tick x.action) led.2 (entry_right y.nodes p b (omega (arith, led.1, place))).1 in
      ⊎_elim
      (λ (t : Stays y ds).
      let m = t.same in
      let mode = m.alike.mode in
      let rings : opens_round (get_or (entries y lm) b none).action ≡ true = ap (λ (z : ℕ). opens_round (get_or (entries y z) b none).action) (sym mode) ∙ ap (λ (x : Entry). opens_round x.action) led.2 in
      ⊎_elim
      (λ (h : Seen y ds).
      let d = h.done in
      let w = last_stands y right es rf d h.is_last in
      let k = w.0 in
      let dm : md ≡ d.spot.hyper.mode = mode ∙ sym h.mode in
      let is = subst (λ (z : ℕ). Rattle.runtime_model.proofs.OutRegisters.Is y z d.spot.index (round_tick y z k) (beacon k)) (sym dm) w.1.is in
      let before : b ≤ d.spot.index = not_quiet b d.spot.index (next_place ds) (λ l. let q : true ≡ false = sym rings ∙ h.quiet b l (omega (arith, led.1, m.index)) in cc) in
      let low = tick_rises y md b d.spot.index before is.0 in
      let high = tick_rises y md d.spot.index s.index (omega (arith, h.past, m.index)) place in
      let tick : round_tick y md k ≡ e.tick = omega (arith, low, high, ap (λ (x : Entry). x.tick) led.2, ap (λ (x : Entry). x.tick) is.1) in
      let one : k ≡ j = one_round y md ok k j (omega (arith, w.1.inside, ap (rounds_of y) dm)) origin.0 (omega (arith, tick, origin.1)) in
      let bs = subst (λ z. BeaconStep y d z) one w.1 in
      let st = ⊎_elim
      (λ (x : Still y ds d j). x)
      (λ r. ⊎_elim (λ (x : Turning y ds d j). absurd (omega (arith, x.turns.over, m.inside))) (λ (x : Anew y ds d j). absurd (seen_gone ds h x.gone.unseen)) r)
      (next_stands y right es rf d j bs (inl (h, refl))) in
      let n = here_now y right es rf d j bs (h, refl) in
      let next : s.begin + e.tick ≡ moment y d = omega (arith, bs.at, st.begin, tick, ap (λ z. round_tick y md z) one, ap (λ z. round_tick y z j) dm) in
      let forward = (moments_rise y right es 0 rf).0 in (
        d,
        record {
          is_last = h.is_last;
          beacon = bs;
          still = st;
          carried = slot_carried y.nodes p ok e.tick j i at;
          now = omega (arith, n.2, forward, next);
          next = next;
          between = λ x lo hi.
              let here : x < length (entries y md) = omega (arith, hi, place) in
              let g = get_or (entries y md) x none in
              let k1 = rises_at (entries y md) d.spot.index x (cycle_rises y.nodes p) (omega (arith, lo)) here in
              let k2 = rises_at (entries y md) x s.index (cycle_rises y.nodes p) (omega (arith, hi)) place in
              let kd : key (get_or (entries y md) d.spot.index none) ≡ 3 * e.tick + 1 = omega (arith, ap key is.1, tick) in
              let ks : key e ≡ 3 * e.tick + 1 = ap (λ w. 3 * e.tick + rank w) act in
              let calm = ap (λ (z : ℕ). opens_round (get_or (entries y z) x none).action) mode ∙ h.quiet x lo (omega (arith, hi, m.index)) in
              let found = slot_by md ok e.tick j g (omega (arith, k1, k2, kd, ks)) calm origin.0 origin.1 (entry_right y.nodes p x here).1 in
              found;
        },
      ))
      (λ (u : Unseen y ds). absurd (let q : true ≡ false = sym rings ∙ u b (omega (arith, led.1, m.index)) in cc))
      (seen_or_not y (some y right) es rf))
      (λ (t : Turns y ds). absurd (omega (arith, led.1, t.index)))
      (onward y right es rf)
    where
      not_quiet : (a b n : ℕ) → (b < a → ⊥) → a ≤ b
      not_quiet a b n f = ⊎_elim (λ (l : b < a). absurd (f l)) (λ (l : a ≤ b). l) (cases_lt b a)

      seen_gone : (ds : List Step) → Seen y ds → Unseen y ds → ⊥
      seen_gone ds h u = let q : true ≡ false = sym h.is_beacon ∙ u h.done.spot.index h.past in cc

      -- an entry of the kind and the tick of a round's slots, which is no beacon, is one of its slots
      slot_by : (md : ℕ) (ok : RightPlan y.nodes (plan_at y md)) (t j : ℕ) (g : Entry) → key g ≡ 3 * t + 1 → opens_round g.action ≡ false → j < rounds_of y md → round_tick y md j ≡ t → RightAt (plan_at y md) g.tick g.action →
          (m : ℕ) × (g ≡ record { tick = t; action = slot j m })
      slot_by md ok t j g k calm lj start r = by_action g.tick g.action k calm r
        where
          by_action : (u : ℕ) (w : Action) → 3 * u + rank w ≡ 3 * t + 1 → opens_round w ≡ false → RightAt (plan_at y md) u w → (m : ℕ) × (entry_of u w ≡ entry_of t (slot j m))
          by_action u (task_ends a) k c r = absurd (omega (arith, k))
          by_action u (beacon q) k c r = absurd cc
          by_action u (slot q m) k c r =
              let same : u ≡ t = omega (arith, k) in
              let one = one_round y md ok q j r.0 lj (r.1 ∙ same ∙ sym start) in
              (m, ap (λ (z : ℕ). entry_of z (slot q m)) same ∙ ap (λ (z : ℕ). entry_of t (slot z m)) one)
          by_action u (task_starts a) k c r = absurd (omega (arith, k))

pub slots_follow_beacons : SlotsFollowBeacons
slots_follow_beacons y plans es j i rf act =
    let w = slot_stands y (all_right y plans) es rf j i act in
    let x = w.1 in
    (x.carried, (w.0, x.is_last, x.beacon.place, sym x.still.mode, sym x.still.stay, sym x.still.turn, sym x.now, sym x.next))
