-- What passes between the last event and the next Advance, as a running node sees it: the conditions of its passing of ticks and of a missed beacon
use Rattle.std.proofs.Common.{◌≡◌, ℕ, suc, ◌+◌, ◌-◌, ◌<◌, ◌≤◌, Bool, true, false, cond, not, ◌&&◌, List, get_or, refl, sym, ◌∙◌, ap, arith, ◌⊎◌, inl, inr, ⊎_elim}
use Rattle.std.specs.Prelude.{nat_eq, nat_lt, nat_le, Some}
use Rattle.std.proofs.lemmas.Bool.{cases_lt}
use Rattle.sched_model.proofs.Hyperperiods.{hyper_some}
use Rattle.runtime_model.specs.Entries.{Entry, beacon}
use Rattle.runtime_model.specs.Outcomes.{PlainEvent, Step}
use Rattle.runtime_model.specs.HostCalls.{call_state}
use Rattle.runtime_model.specs.HostOfEvents.{schedule_counts, calls_of}
use Rattle.runtime_model.specs.System.{System, plan_at}
use Rattle.runtime_model.specs.History.{history, last_spot, spot_next, entries, entry_at, moment, now_after}
use Rattle.runtime_model.specs.Laws.{RequestsFit}
use Rattle.runtime_model.specs.LookingBack.{last_beacon}
use Rattle.runtime_model.proofs.Modes.{AllRight}
use Rattle.runtime_model.proofs.Cycles.{none}
use Rattle.runtime_model.proofs.OutRegisters.{H, in_cycle}
use Rattle.runtime_model.proofs.Beacons.{Seen, Unseen}
use Rattle.runtime_model.proofs.FirstTicks.{tick_rises, first_start, last_index, now_is, now_inside, unseen_now, moments_rise, Stays, Turns}
use Rattle.runtime_model.proofs.NextRound.{rounds_of, round_tick, BeaconStep, Here, Gone, Still, Turning, Anew, next_stands, last_stands}
use Rattle.runtime_model.proofs.HostRounds.{seen_or_unseen}

-- ---- what a running node knows and computes, in whole numbers

-- the tick that a running node is at: that of the last Advance, from the start of the hyperperiod of the last event
abbrev pub tick_now : System → List Step → ℕ
tick_now y ds = now_after y ds - (last_spot ds).begin

-- the tick of the next Advance from the beginning of the world, and the ticks that pass before it
abbrev pub moment_next : System → List Step → ℕ
moment_next y ds = (spot_next y ds).begin + (entry_at y (spot_next y ds)).tick

abbrev pub ticks_next : System → List Step → ℕ
ticks_next y ds = moment_next y ds - now_after y ds

-- no tick has passed since the last beacon
abbrev pub still_at_beacon : System → List Step → Step → Bool
still_at_beacon y ds d = nat_eq (now_after y ds) (moment y d)

-- round j is the last one of the mode
abbrev pub is_last_round : System → ℕ → ℕ → Bool
is_last_round y md j = not (nat_lt (suc j) (rounds_of y md))

-- the round after round j of the mode
abbrev pub round_after : System → ℕ → ℕ → ℕ
round_after y md j = cond (is_last_round y md j) 0 (suc j)

-- a node at this tick, whose last beacon was round j's, has turned since
abbrev pub turned_since : System → ℕ → ℕ → ℕ → Bool → Bool
turned_since y md j tick at = not at && nat_le tick (round_tick y md j)

-- the start of its next round, from the start of the hyperperiod that it is in
abbrev pub next_tick : System → ℕ → ℕ → ℕ → Bool → ℕ
next_tick y md j tick at = round_tick y md (round_after y md j) + cond (is_last_round y md j && not (turned_since y md j tick at)) (H y md) 0

-- ---- small facts
is_last : (y : System) (md j : ℕ) → suc j ≡ rounds_of y md → is_last_round y md j ≡ true
is_last y md j e = by_num (suc j) (rounds_of y md) e
  where
    by_num : (m n : ℕ) → m ≡ n → not (nat_lt m n) ≡ true
    by_num m n e = grind (arith, e)

not_last : (y : System) (md j : ℕ) → suc j < rounds_of y md → is_last_round y md j ≡ false
not_last y md j l = by_num (suc j) (rounds_of y md) l
  where
    by_num : (m n : ℕ) → m < n → not (nat_lt m n) ≡ false
    by_num m n l = grind (arith, l)

less_yes : (m n : ℕ) → m < n → nat_lt m n ≡ true
less_yes m n l = grind (arith, l)

less_no : (m n : ℕ) → n ≤ m → nat_lt m n ≡ false
less_no m n l = grind (arith, l)

apart : (m n : ℕ) → n < m → nat_eq m n ≡ false
apart m n l = grind (arith, l)

-- of the last round and of another one
next_of_last : (y : System) (md j t : ℕ) (at b : Bool) → is_last_round y md j ≡ true → turned_since y md j t at ≡ b → next_tick y md j t at ≡ round_tick y md 0 + cond (not b) (H y md) 0
next_of_last y md j t at b l e =
    ap (λ x. round_tick y md (cond x 0 (suc j)) + cond (x && not (turned_since y md j t at)) (H y md) 0) l ∙ ap (λ x. round_tick y md 0 + cond (not x) (H y md) 0) e

next_of_other : (y : System) (md j t : ℕ) (at : Bool) → is_last_round y md j ≡ false → next_tick y md j t at ≡ round_tick y md (suc j)
next_of_other y md j t at l =
    ap (λ x. round_tick y md (cond x 0 (suc j)) + cond (x && not (turned_since y md j t at)) (H y md) 0) l ∙ (let e : round_tick y md (suc j) + 0 ≡ round_tick y md (suc j) = omega arith in e)

not_turned : (now at t s : ℕ) → at ≤ now → (at < now → s < t) → (not (nat_eq now at) && nat_le t s) ≡ false
not_turned now at t s le f =
    ⊎_elim
    (λ (l : at < now). by_second (not (nat_eq now at)) (nat_le t s) (let x = f l in let q : nat_le t s ≡ false = greater t s x in q))
    (λ (g : now ≤ at). by_first (nat_eq now at) (nat_le t s) (same now at (omega (arith, le, g))))
    (cases_lt at now)
  where
    greater : (m n : ℕ) → n < m → nat_le m n ≡ false
    greater m n l = grind (arith, l)

    same : (m n : ℕ) → m ≡ n → nat_eq m n ≡ true
    same m n e = grind (arith, e)

    by_first : (a b : Bool) → a ≡ true → (not a && b) ≡ false
    by_first true b e = refl
    by_first false b e = absurd cc

    by_second : (a b : Bool) → b ≡ false → (a && b) ≡ false
    by_second true b e = e
    by_second false b e = refl

has_turned : (now at t s : ℕ) → at < now → t ≡ 0 → (not (nat_eq now at) && nat_le t s) ≡ true
has_turned now at t s l z = by_parts (nat_eq now at) (nat_le t s) (apart now at l) (low t s z)
  where
    low : (t s : ℕ) → t ≡ 0 → nat_le t s ≡ true
    low t s z = grind (arith, z)

    by_parts : (a b : Bool) → a ≡ false → b ≡ true → (not a && b) ≡ true
    by_parts false true x z = refl
    by_parts true b x z = absurd cc
    by_parts false false x z = absurd cc

-- the host is in a round
abbrev call_of : System → List Step → Bool
call_of y ds = (call_state (schedule_counts y) (calls_of y ds)).inside

-- ---- what passes

-- The node of the last beacon d, of round j, at the next Advance: the ticks that pass do not take it beyond its next round's start; it turns exactly where the
-- hyperperiod does; then it is at the entry's tick; and at a beacon it is at its next round's start
pub record Passes (y : System) (ds : List Step) (d : Step) (j : ℕ) : Type 0 where
  pub forward : now_after y ds ≤ moment_next y ds
  pub high : tick_now y ds + ticks_next y ds ≤ next_tick y d.spot.hyper.mode j (tick_now y ds) (still_at_beacon y ds d)
  pub stays : Stays y ds → (tick_now y ds + ticks_next y ds < H y d.spot.hyper.mode) × (tick_now y ds + ticks_next y ds ≡ (entry_at y (spot_next y ds)).tick)
  pub turns : Turns y ds → (tick_now y ds + ticks_next y ds ≡ H y d.spot.hyper.mode) × ((entry_at y (spot_next y ds)).tick ≡ 0)
  pub at_beacon : Stays y ds → (still_at_beacon y ds d && nat_eq (ticks_next y ds) 0) ≡ nat_eq (moment_next y ds) (moment y d)
  pub past_beacon : Turns y ds → nat_eq (moment_next y ds) (moment y d) ≡ false
  pub miss : (i : ℕ) → (entry_at y (spot_next y ds)).action ≡ beacon i →
      (i ≡ round_after y d.spot.hyper.mode j) × ((entry_at y (spot_next y ds)).tick ≡ next_tick y d.spot.hyper.mode j (entry_at y (spot_next y ds)).tick (nat_eq (moment_next y ds) (moment y d)))

module _ (y : System) (right : AllRight y) where
  -- a hyperperiod either stays or turns
  stays_or_turns : (ds : List Step) → Stays y ds → Turns y ds → ⊥
  stays_or_turns ds a b = omega (arith, a.same.inside, b.over)

  -- the last beacon is not after the last event
  pub here_now : (es : List PlainEvent) (rf : RequestsFit y es) (d : Step) (j : ℕ) → BeaconStep y d j → Here y (history y es) d →
      ((last_spot (history y es)).begin ≡ d.spot.begin) × ((last_spot (history y es)).hyper.mode ≡ d.spot.hyper.mode) × (moment y d ≤ now_after y (history y es))
  here_now es rf d j b here =
      let ds = history y es in
      let l = last_spot ds in
      let h = here.0 in
      let begin : l.begin ≡ d.spot.begin = sym h.begin ∙ ap (λ (q : Step). q.spot.begin) here.1 in
      let mode : l.hyper.mode ≡ d.spot.hyper.mode = sym h.mode ∙ ap (λ (q : Step). q.spot.hyper.mode) here.1 in
      let index = last_index y right es rf in
      let r = tick_rises y l.hyper.mode h.done.spot.index l.index (omega (arith, h.past, index.2)) index.0 in
      let at : (get_or (entries y l.hyper.mode) h.done.spot.index none).tick ≡ round_tick y d.spot.hyper.mode j =
      ap (λ (z : ℕ). (get_or (entries y z) h.done.spot.index none).tick) mode ∙ ap (λ (q : Step). (get_or (entries y d.spot.hyper.mode) q.spot.index none).tick) here.1 ∙ ap (λ (z : Entry). z.tick) b.is.1 in
      (begin, mode, omega (arith, b.at, now_is y right es rf, begin, r, at))

  -- no tick has passed since the last beacon, or the node is past its round's start: it does not take itself to have turned
  pub here_turned : (es : List PlainEvent) (rf : RequestsFit y es) (d : Step) (j : ℕ) → BeaconStep y d j → Here y (history y es) d →
      turned_since y d.spot.hyper.mode j (tick_now y (history y es)) (still_at_beacon y (history y es) d) ≡ false
  here_turned es rf d j b here =
      let ds = history y es in
      let n = here_now es rf d j b here in
      not_turned (now_after y ds) (moment y d) (tick_now y ds) (round_tick y d.spot.hyper.mode j) n.2 (λ l. omega (arith, l, b.at, n.0))

  -- in the hyperperiod after it does
  pub gone_turned : (es : List PlainEvent) (rf : RequestsFit y es) (d : Step) (j : ℕ) → BeaconStep y d j → Gone y (history y es) d j →
      turned_since y d.spot.hyper.mode j (tick_now y (history y es)) (still_at_beacon y (history y es) d) ≡ true
  gone_turned es rf d j b g =
      let ds = history y es in
      let low = in_cycle y d.spot.hyper.mode d.spot.index (round_tick y d.spot.hyper.mode j) (beacon j) b.is in
      has_turned (now_after y ds) (moment y d) (tick_now y ds) (round_tick y d.spot.hyper.mode j) (omega (arith, g.now, g.begin, b.at, low)) (omega (arith, g.now))

  passes_still : (es : List PlainEvent) (rf : RequestsFit y es) (d : Step) (j : ℕ) → BeaconStep y d j → Still y (history y es) d j → Passes y (history y es) d j
  passes_still es rf d j b x =
      let ds = history y es in
      let md = d.spot.hyper.mode in
      let t = (entry_at y (spot_next y ds)).tick in
      let n = here_now es rf d j b x.here in
      let at = still_at_beacon y ds d in
      let forward = (moments_rise y right es 0 rf).0 in
      let from = now_inside y right es rf in
      let reached : tick_now y ds + ticks_next y ds ≡ t = omega (arith, forward, from.0, x.begin, n.0) in
      record {
        forward = forward;
        high = ⊎_elim
            (λ (more : suc j < rounds_of y md). omega (arith, reached, x.before more, next_of_other y md j (tick_now y ds) at (not_last y md j more)))
            (λ (over : rounds_of y md ≤ suc j). omega (arith, reached, x.inside, next_of_last y md j (tick_now y ds) at false (is_last y md j (omega (arith, over, b.inside))) (here_turned es rf d j b x.here)))
            (cases_lt (suc j) (rounds_of y md));
        stays = λ st. (omega (arith, reached, x.inside), reached);
        turns = λ tr. absurd (stays_or_turns ds x.stays tr);
        at_beacon = λ st. both_at (now_after y ds) (moment_next y ds) (moment y d) n.2 forward;
        past_beacon = λ tr. absurd (stays_or_turns ds x.stays tr);
        miss = λ i act.
            let q = x.beacon i act in
            let l = not_last y md j q.1 in
            (q.0 ∙ sym (ap (λ z. cond z 0 (suc j)) l), q.2 ∙ sym (next_of_other y md j t (nat_eq (moment_next y ds) (moment y d)) l));
      }
    where
      both_at : (now then at : ℕ) → at ≤ now → now ≤ then → (nat_eq now at && nat_eq (then - now) 0) ≡ nat_eq then at
      both_at now then at a b =
          ⊎_elim
          (λ (l : at < then). by_parts (nat_eq now at) (nat_eq (then - now) 0) (nat_eq then at) (apart then at l) (⊎_elim (λ (z : at < now). inl (apart now at z)) (λ (z : now ≤ at). inr (apart (then - now) 0 (omega (arith, l, z)))) (cases_lt at now)))
          (λ (l : then ≤ at). by_same (nat_eq now at) (nat_eq (then - now) 0) (nat_eq then at) (same now at (omega (arith, a, b, l))) (same (then - now) 0 (omega (arith, a, b, l))) (same then at (omega (arith, a, b, l))))
          (cases_lt at then)
        where
          same : (m n : ℕ) → m ≡ n → nat_eq m n ≡ true
          same m n e = grind (arith, e)

          by_parts : (p q r : Bool) → r ≡ false → (p ≡ false) ⊎ (q ≡ false) → (p && q) ≡ r
          by_parts p q r e (inl x) = ap (λ z. z && q) x ∙ sym e
          by_parts true q r e (inr x) = x ∙ sym e
          by_parts false q r e (inr x) = sym e

          by_same : (p q r : Bool) → p ≡ true → q ≡ true → r ≡ true → (p && q) ≡ r
          by_same true true true x z w = refl
          by_same false q r x z w = absurd cc
          by_same true false r x z w = absurd cc
          by_same true true false x z w = absurd cc

  passes_turning : (es : List PlainEvent) (rf : RequestsFit y es) (d : Step) (j : ℕ) → BeaconStep y d j → Turning y (history y es) d j → Passes y (history y es) d j
  passes_turning es rf d j b x =
      let ds = history y es in
      let md = d.spot.hyper.mode in
      let t = (entry_at y (spot_next y ds)).tick in
      let n = here_now es rf d j b x.here in
      let at = still_at_beacon y ds d in
      let forward = (moments_rise y right es 0 rf).0 in
      let from = now_inside y right es rf in
      let last = is_last y md j x.last in
      let zero_start = first_start y md b.right in
      let low = in_cycle y md d.spot.index (round_tick y md j) (beacon j) b.is in
      let reached : tick_now y ds + ticks_next y ds ≡ H y md = omega (arith, forward, from.0, x.begin, x.turns.tick, n.0) in
      let past : moment y d < moment_next y ds = omega (arith, b.at, x.begin, low) in
      record {
        forward = forward;
        high = omega (arith, reached, next_of_last y md j (tick_now y ds) at false last (here_turned es rf d j b x.here));
        stays = λ st. absurd (stays_or_turns ds st x.turns);
        turns = λ tr. (reached, x.turns.tick);
        at_beacon = λ st. absurd (stays_or_turns ds st x.turns);
        past_beacon = λ tr. apart (moment_next y ds) (moment y d) past;
        miss = λ i act. (
          x.beacon i act ∙ sym (ap (λ z. cond z 0 (suc j)) last),
          let q = next_of_last y md j t (nat_eq (moment_next y ds) (moment y d)) true last (has_turned (moment_next y ds) (moment y d) t (round_tick y md j) past x.turns.tick) in omega (arith, q, zero_start, x.turns.tick),
        );
      }

  passes_anew : (es : List PlainEvent) (rf : RequestsFit y es) (d : Step) (j : ℕ) → BeaconStep y d j → Anew y (history y es) d j → Passes y (history y es) d j
  passes_anew es rf d j b x =
      let ds = history y es in
      let md = d.spot.hyper.mode in
      let t = (entry_at y (spot_next y ds)).tick in
      let g = x.gone in
      let at = still_at_beacon y ds d in
      let forward = (moments_rise y right es 0 rf).0 in
      let last = is_last y md j g.last in
      let zero_start = first_start y md b.right in
      let low = in_cycle y md d.spot.index (round_tick y md j) (beacon j) b.is in
      let reached : tick_now y ds + ticks_next y ds ≡ 0 = omega (arith, g.now, g.begin, x.begin, x.tick) in
      let past : moment y d < moment_next y ds = omega (arith, b.at, x.begin, low) in
      let before : moment y d < now_after y ds = omega (arith, b.at, g.now, g.begin, low) in
      record {
        forward = forward;
        high = omega (arith, reached);
        stays = λ st. (omega (arith, reached, hyper_some (plan_at y md).mode), omega (arith, reached, x.tick));
        turns = λ tr. absurd (stays_or_turns ds x.stays tr);
        at_beacon = λ st. ap (λ z. z && nat_eq (ticks_next y ds) 0) (apart (now_after y ds) (moment y d) before) ∙ sym (apart (moment_next y ds) (moment y d) past);
        past_beacon = λ tr. apart (moment_next y ds) (moment y d) past;
        miss = λ i act. (
          x.beacon i act ∙ sym (ap (λ z. cond z 0 (suc j)) last),
          let q = next_of_last y md j t (nat_eq (moment_next y ds) (moment y d)) true last (has_turned (moment_next y ds) (moment y d) t (round_tick y md j) past x.tick) in omega (arith, q, zero_start, x.tick),
        );
      }

  -- The last beacon is that of a round j, and between the last event and the next Advance passes what a node of that round may pass
  pub passes : (es : List PlainEvent) (rf : RequestsFit y es) (d : Step) → last_beacon (history y es) ≡ Some d → (j : ℕ) × BeaconStep y d j × Passes y (history y es) d j
  passes es rf d e =
      let ds = history y es in
      let w = last_stands y right es rf d e in
      let j = w.0 in (
        j,
        w.1,
        ⊎_elim
            (λ (x : Still y ds d j). passes_still es rf d j w.1 x)
            (λ r. ⊎_elim (λ (x : Turning y ds d j). passes_turning es rf d j w.1 x) (λ (x : Anew y ds d j). passes_anew es rf d j w.1 x) r)
            (next_stands y right es rf d j w.1 w.2),
      )

  -- the hyperperiod of the last event has begun where it had the last beacon, and not where that one was before it
  pub here_begun : (es : List PlainEvent) (rf : RequestsFit y es) → Seen y (history y es) → (last_spot (history y es)).hyper.begun ≡ true
  here_begun es rf h =
      let ds = history y es in
      ⊎_elim
      (λ (q : Seen y ds × (call_of y ds ≡ true) × ((last_spot ds).hyper.begun ≡ true)). q.2)
      (λ (q : Unseen y ds × (call_of y ds ≡ false) × ((last_spot ds).hyper.begun ≡ false)). absurd (let z : true ≡ false = sym h.is_beacon ∙ q.0 h.done.spot.index h.past in cc))
      (seen_or_unseen y right es rf)

  pub unseen_begun : (es : List PlainEvent) (rf : RequestsFit y es) → Unseen y (history y es) → (last_spot (history y es)).hyper.begun ≡ false
  unseen_begun es rf u =
      let ds = history y es in
      ⊎_elim
      (λ (q : Seen y ds × (call_of y ds ≡ true) × ((last_spot ds).hyper.begun ≡ true)). absurd (let h = q.0 in let z : true ≡ false = sym h.is_beacon ∙ u h.done.spot.index h.past in cc))
      (λ (q : Unseen y ds × (call_of y ds ≡ false) × ((last_spot ds).hyper.begun ≡ false)). q.2)
      (seen_or_unseen y right es rf)

  -- in a hyperperiod that has not begun no tick has passed
  pub unbegun_now : (es : List PlainEvent) (rf : RequestsFit y es) → (last_spot (history y es)).hyper.begun ≡ false → now_after y (history y es) ≡ (last_spot (history y es)).begin
  unbegun_now es rf b =
      let ds = history y es in
      ⊎_elim
      (λ (q : Seen y ds × (call_of y ds ≡ true) × ((last_spot ds).hyper.begun ≡ true)). absurd (let z : true ≡ false = sym q.2 ∙ b in cc))
      (λ (q : Unseen y ds × (call_of y ds ≡ false) × ((last_spot ds).hyper.begun ≡ false)). unseen_now y right es rf q.0)
      (seen_or_unseen y right es rf)
