-- The calls that events make of a host, against the events' timeline
use Rattle.std.proofs.Common.{◌≡◌, ℕ, zero, suc, ◌+◌, ◌-◌, ◌<◌, ◌≤◌, Bool, true, false, cond, not, ◌&&◌, List, [], ◌∷◌, ◌++◌, length, get_or, map, refl, sym, ◌∙◌, ap, subst, arith, ◌⊎◌, inl, inr, ⊎_elim}
use Rattle.std.specs.Prelude.{nat_eq, nat_lt, Option, Some, None, ℤ}
use Rattle.std.proofs.lemmas.Bool.{cases_lt, cases_Bool, cond-true, cond-false, eq-eqb}
use Rattle.std.proofs.lemmas.List.{length-map}
use Rattle.sched_model.specs.Numbers.{natural}
use Rattle.sched_model.specs.Rounds.{round_start}
use Rattle.sched_model.specs.declared.schedule.Schedule.{Schedule}
use Rattle.runtime_model.specs.Timeline.{Mark, asked, begins, ended, timeline_of}
use Rattle.runtime_model.specs.HostCalls.{HostCall, request_call, next_beacon_call, end_round_call, CallState, rounds_in, call_state, call_step, AllMay}
use Rattle.runtime_model.specs.Plans.{Plan, node_of, round_counts, first_round}
use Rattle.runtime_model.specs.Entries.{Entry, Action, task_ends, beacon, slot, task_starts}
use Rattle.runtime_model.specs.Placement.{placed, own_start, ends_run, ending_run_at}
use Rattle.runtime_model.specs.Outcomes.{PlainEvent, advance, request, restart, Spot, Step, is_beacon, begun_run}
use Rattle.runtime_model.specs.LookingBack.{last_beacon, runs, recall}
use Rattle.runtime_model.specs.System.{System, plan_at, no_plan}
use Rattle.runtime_model.specs.Packets.{packet}
use Rattle.runtime_model.specs.History.{history, step_of, spot_next, entries, entry_at, last_spot, next_place, marks_of, turns, arrival, is_first_beacon, performed, finished_or_not, sent_or_not, start_or_not}
use Rattle.runtime_model.specs.Script.{opens_round}
use Rattle.runtime_model.specs.HostOfEvents.{schedule_counts, has_ended, own_calls, calls_of, beacon_place}
use Rattle.runtime_model.specs.Laws.{RequestsFit, HostsFollowEvents}
use Rattle.runtime_model.proofs.Cycles.{none, entry_right, RightAt}
use Rattle.runtime_model.proofs.Once.{beacon_once}
use Rattle.runtime_model.proofs.OutRegisters.{Is}
use Rattle.runtime_model.proofs.Spots.{Same, Within, Opens, moves, stands}
use Rattle.runtime_model.proofs.Modes.{AllRight, all_right}
use Rattle.runtime_model.proofs.Beacons.{BeaconAt, Seen, Unseen, outcome_is, seen_entry, beacon_order, some_round, some, not_lower, not_unseen, index_now}
use Rattle.runtime_model.proofs.Knowing.{arrival_mode, first_is}

-- ---- what calls come to
pub record Comes (s : CallState) (ms : List Mark) (r : ℕ) (i : Bool) : Type 0 where
  pub marks : s.marks ≡ ms
  pub round : s.round ≡ r
  pub inside : s.inside ≡ i

not_less : (m n : ℕ) → m ≡ n → nat_lt m n ≡ false
not_less m n e = grind (arith, e)

is_less : (m n : ℕ) → m < n → nat_lt m n ≡ true
is_less m n l = grind (arith, l)

not_one : (m r : ℕ) → m ≡ suc (suc r) → nat_eq m 1 ≡ false
not_one m r e = grind (arith, e)

-- the end of the last round, and of an earlier one
end_last : (rounds : List ℕ) (s : CallState) (ms : List Mark) (r : ℕ) → Comes s ms r true → r ≡ rounds_in rounds (timeline_of ms).last.mode → Comes (call_step rounds end_round_call s) (ended ∷ ms) 1 false
end_last rounds s ms r c e =
    let on : CallState = record { marks = s.marks; round = suc s.round; inside = false } in
    let over : CallState = record { marks = ended ∷ s.marks; round = 1; inside = false } in
    let limit = rounds_in rounds (timeline_of s.marks).last.mode in
    let q = cond-false (nat_lt s.round limit) on over (not_less s.round limit (c.round ∙ e ∙ sym (ap (λ (m : List Mark). rounds_in rounds (timeline_of m).last.mode) c.marks))) in
    record { marks = ap (λ (z : CallState). z.marks) q ∙ ap (λ (m : List Mark). ended ∷ m) c.marks; round = ap (λ (z : CallState). z.round) q; inside = ap (λ (z : CallState). z.inside) q }

end_other : (rounds : List ℕ) (s : CallState) (ms : List Mark) (r : ℕ) → Comes s ms r true → r < rounds_in rounds (timeline_of ms).last.mode → Comes (call_step rounds end_round_call s) ms (suc r) false
end_other rounds s ms r c l =
    let on : CallState = record { marks = s.marks; round = suc s.round; inside = false } in
    let over : CallState = record { marks = ended ∷ s.marks; round = 1; inside = false } in
    let limit = rounds_in rounds (timeline_of s.marks).last.mode in
    let same = ap (λ (m : List Mark). rounds_in rounds (timeline_of m).last.mode) c.marks in
    let q = cond-true (nat_lt s.round limit) on over (is_less s.round limit (omega (arith, c.round, same, l))) in
    record { marks = ap (λ (z : CallState). z.marks) q ∙ c.marks; round = ap (λ (z : CallState). z.round) q ∙ ap suc c.round; inside = ap (λ (z : CallState). z.inside) q }

-- the beacon of the first round, and of a later one
first_beacon : (rounds : List ℕ) (s : CallState) (ms : List Mark) → Comes s ms 1 false → Comes (call_step rounds next_beacon_call s) (begins ∷ ms) 1 true
first_beacon rounds s ms c = record {
  marks = cond-true (nat_eq s.round 1) (begins ∷ s.marks) s.marks (eq-eqb s.round 1 c.round) ∙ ap (λ (m : List Mark). begins ∷ m) c.marks;
  round = c.round;
  inside = refl;
}

later_beacon : (rounds : List ℕ) (s : CallState) (ms : List Mark) (r : ℕ) → Comes s ms (suc (suc r)) false → Comes (call_step rounds next_beacon_call s) ms (suc (suc r)) true
later_beacon rounds s ms r c = record {
  marks = cond-false (nat_eq s.round 1) (begins ∷ s.marks) s.marks (not_one s.round r c.round) ∙ c.marks;
  round = c.round;
  inside = refl;
}

-- ---- what a step adds
pub counts_at : (ps : List Plan) (md : ℕ) → rounds_in (round_counts (map (λ p. p.schedule) ps)) md ≡ length (get_or ps md no_plan).schedule.starts
counts_at [] md = refl
counts_at (p ∷ ps) zero = refl
counts_at (p ∷ ps) (suc md) = counts_at ps md

ended_in : (f t : Bool) → has_ended (cond f (begins ∷ []) [] ++ cond t (ended ∷ []) []) ≡ t
ended_in true true = refl
ended_in true false = refl
ended_in false true = refl
ended_in false false = refl

-- only beacons are calls among the entries
quiet_calls : (y : System) (d : Step) (p : Plan) (s : Spot) (lost : ℕ) (ds : List Step) (u : ℕ) (w : Action) → opens_round w ≡ false → own_calls y d (performed y p s lost ds u w) ≡ []
quiet_calls y d p s lost ds u (task_ends a) e = of_end (cond (ends_run p s.turn u a) (recall (node_of p a) s.stay (begun_run a (ending_run_at p s.turn u a)) ds) None)
  where
    of_end : (o : Option ℤ) → own_calls y d (finished_or_not (node_of p a) a (ending_run_at p s.turn u a) o) ≡ []
    of_end None = refl
    of_end (Some x) = refl
quiet_calls y d p s lost ds u (beacon j) e = absurd cc
quiet_calls y d p s lost ds u (slot j i) e = of_slot (packet p s j i ds)
  where
    of_slot : (o : Option (List ℤ)) → own_calls y d (sent_or_not p y.nodes s j i ds o lost) ≡ []
    of_slot None = refl
    of_slot (Some x) = refl
quiet_calls y d p s lost ds u (task_starts a) e = of_start (placed s.hyper.opening s.hyper.phase (own_start p u a) && runs (node_of p a) ds)
  where
    of_start : (o : Bool) → own_calls y d (start_or_not y p s ds a u o) ≡ []
    of_start true = refl
    of_start false = refl

pub quiet_more : (y : System) (ds : List Step) (n lo : ℕ) → ((i : ℕ) → lo ≤ i → i < n → BeaconAt y ds i ≡ false) → BeaconAt y ds n ≡ false → (i : ℕ) → lo ≤ i → i < suc n → BeaconAt y ds i ≡ false
quiet_more y ds n lo before here i a b =
    ⊎_elim (λ (l : i < n). before i a l) (λ (l : n ≤ i). subst (λ z. BeaconAt y ds z ≡ false) (let q : n ≡ i = omega (arith, l, b) in q) here) (cases_lt i n)

-- the host is in the round of the last beacon, which was in the last hyperperiod; or that had no beacon yet, and the host is in no round
abbrev pub Where : System → List Step → CallState → List Mark → Type 0
Where y ds s ms =
    ((h : Seen y ds) × (j : ℕ) × Is y (last_spot ds).hyper.mode h.done.spot.index (natural (round_start (plan_at y (last_spot ds).hyper.mode).schedule j)) (beacon j) × (beacon_place y h.done h.done.out ≡ j) × Comes s ms (suc j) true)
    ⊎ (Unseen y ds × Comes s ms 1 false)

abbrev pub After : System → List Step → List HostCall → List Mark → Type 0
After y ds calls ms = AllMay (schedule_counts y) calls × Where y ds (call_state (schedule_counts y) calls) ms

-- the calls and the marks of a step by what they are
settle : (y : System) (ds : List Step) (calls calls' : List HostCall) (ms ms' : List Mark) → calls ≡ calls' → ms ≡ ms' → After y ds calls' ms' → After y ds calls ms
settle y ds calls calls' ms ms' a b w =
    subst (λ (cs : List HostCall). After y ds cs ms) (sym a) (subst (λ (m : List Mark). After y ds calls' m) (sym b) w)

-- ---- one more Advance
module _ (y : System) (right : AllRight y) where
  -- the entry is a beacon
  pub seen_now : (es : List PlainEvent) (rf : RequestsFit y es) (lost : ℕ) → opens_round (entry_at y (spot_next y (history y es))).action ≡ true → (g : Seen y (history y (advance lost ∷ es))) × (g.done ≡ step_of y (advance lost) (history y es))
  seen_now es rf lost rings =
      let ds = history y es in
      let s = spot_next y ds in
      let e = entry_at y s in
      let d = step_of y (advance lost) ds in
      let is = outcome_is y (plan_at y s.hyper.mode) s lost ds e.tick e.action in
      (record { done = d; is_last = cond-true (is_beacon d.out) (Some d) (last_beacon ds) (is ∙ rings); stay = refl; turn = refl; mode = refl; begin = refl; past = omega arith; inside = index_now y right es rf lost; is_beacon = rings; quiet = λ i a b. absurd (omega (arith, a, b)) }, refl)

  -- it is none, in the same hyperperiod
  pub seen_still : (es : List PlainEvent) (lost : ℕ) → Same y (history y es) (spot_next y (history y es)) → opens_round (entry_at y (spot_next y (history y es))).action ≡ false → (h : Seen y (history y es)) → (g : Seen y (history y (advance lost ∷ es))) × (g.done ≡ h.done)
  seen_still es lost m no_beacon h =
      let ds = history y es in
      let s = spot_next y ds in
      let e = entry_at y s in
      let d = step_of y (advance lost) ds in
      let mode = m.alike.mode in
      let is = outcome_is y (plan_at y s.hyper.mode) s lost ds e.tick e.action in (
        record {
          done = h.done;
          is_last = cond-false (is_beacon d.out) (Some d) (last_beacon ds) (is ∙ no_beacon) ∙ h.is_last;
          stay = h.stay ∙ sym m.stay;
          turn = h.turn ∙ sym m.turn;
          mode = h.mode ∙ sym mode;
          begin = h.begin ∙ sym m.begin;
          past = omega (arith, h.past, m.index);
          inside = subst (λ (z : ℕ). h.done.spot.index < length (entries y z)) (sym mode) h.inside;
          is_beacon = ap (λ (z : ℕ). opens_round (get_or (entries y z) h.done.spot.index none).action) mode ∙ h.is_beacon;
          quiet = λ i a b. quiet_more y (d ∷ ds) s.index (suc h.done.spot.index) (λ i a b. ap (λ (z : ℕ). opens_round (get_or (entries y z) i none).action) mode ∙ h.quiet i (omega (arith, a)) (omega (arith, b, m.index))) no_beacon i (omega (arith, a)) b;
        },
        refl,
      )

  pub unseen_still : (es : List PlainEvent) (lost : ℕ) → Same y (history y es) (spot_next y (history y es)) → opens_round (entry_at y (spot_next y (history y es))).action ≡ false → Unseen y (history y es) → Unseen y (history y (advance lost ∷ es))
  unseen_still es lost m no_beacon h i b =
      let ds = history y es in
      let s = spot_next y ds in
      quiet_more y (step_of y (advance lost) ds ∷ ds) s.index 0 (λ i a b. ap (λ (z : ℕ). opens_round (get_or (entries y z) i none).action) m.alike.mode ∙ h i (omega (arith, b, m.index))) no_beacon i (omega arith) b

  -- it is none, and begins a hyperperiod
  pub unseen_anew : (es : List PlainEvent) (lost : ℕ) → (spot_next y (history y es)).index ≡ 0 → opens_round (entry_at y (spot_next y (history y es))).action ≡ false → Unseen y (history y (advance lost ∷ es))
  unseen_anew es lost begin no_beacon i b =
      let ds = history y es in
      let s = spot_next y ds in
      quiet_more y (step_of y (advance lost) ds ∷ ds) s.index 0 (λ i a b. absurd (omega (arith, b, begin))) no_beacon i (omega arith) b

  -- whether the entry is the first beacon does not depend on what the timeline sees of it
  pub first_value : (es : List PlainEvent) → is_first_beacon (entry_at y (arrival y (history y es))).action ≡ is_first_beacon (entry_at y (spot_next y (history y es))).action
  first_value es =
      let ds = history y es in
      let s = spot_next y ds in
      ap (λ (z : ℕ). is_first_beacon (get_or (entries y z) s.index none).action) (sym (arrival_mode y ds (is_first_beacon (entry_at y (arrival y ds)).action) (turns y ds)))

  pub count_now : (es : List PlainEvent) → rounds_in (schedule_counts y) (timeline_of (marks_of (history y es))).last.mode ≡ length (plan_at y (last_spot (history y es)).hyper.mode).schedule.starts
  count_now es = counts_at y.plans (timeline_of (marks_of (history y es))).last.mode ∙ ap (λ z. length (plan_at y z).schedule.starts) (stands y es).alike.mode

  -- where no entry of the hyperperiod is left, the host is in the last round
  pub over_is_last : (es : List PlainEvent) (rf : RequestsFit y es) (s : CallState) → length (entries y (last_spot (history y es)).hyper.mode) ≤ next_place (history y es) → Where y (history y es) s (marks_of (history y es)) →
      (r : ℕ) × (r ≡ rounds_in (schedule_counts y) (timeline_of (marks_of (history y es))).last.mode) × Comes s (marks_of (history y es)) r true
  over_is_last es rf s over at =
      let md = (last_spot (history y es)).hyper.mode in
      let r = length (plan_at y md).schedule.starts in
      let some_rounds = some_round y right es rf in
      let last = beacon_place_of md (r - 1) (right es rf) (omega (arith, some_rounds)) in
      ⊎_elim
      (λ (q : (h : Seen y (history y es)) × (j : ℕ) × Is y md h.done.spot.index (natural (round_start (plan_at y md).schedule j)) (beacon j) × (beacon_place y h.done h.done.out ≡ j) × Comes s (marks_of (history y es)) (suc j) true).
      let low = not_lower y right es rf q.0 q.1 (r - 1) last.0 q.2 last.1 (omega (arith, last.1.0, over)) in
      let here = (subst (λ (x : Entry). RightAt (plan_at y md) x.tick x.action) q.2.1 (entry_right y.nodes (plan_at y md) q.0.done.spot.index q.2.0).1) in
      (suc q.1, omega (arith, low, here.0, some_rounds, count_now es), q.4))
      (λ (q : Unseen y (history y es) × Comes s (marks_of (history y es)) 1 false). absurd (not_unseen y right es rf q.0 last.0 (r - 1) (natural (round_start (plan_at y md).schedule (r - 1))) last.1 (omega (arith, last.1.0, over))))
      at
    where
      beacon_place_of : (md j : ℕ) → Rattle.runtime_model.specs.Plans.RightPlan y.nodes (plan_at y md) → j < length (plan_at y md).schedule.starts → (i : ℕ) × Is y md i (natural (round_start (plan_at y md).schedule j)) (beacon j)
      beacon_place_of md j ok l = Rattle.runtime_model.proofs.Beacons.beacon_place y md ok j l

  -- the beacon of the round at place j, just heard or missed
  abbrev pub SeenAt : List Step → ℕ → Type 0
  SeenAt ds j = (h : Seen y ds) × Is y (last_spot ds).hyper.mode h.done.spot.index (natural (round_start (plan_at y (last_spot ds).hyper.mode).schedule j)) (beacon j) × (beacon_place y h.done h.done.out ≡ j)

  pub seen_at : (es : List PlainEvent) (rf : RequestsFit y es) (lost j : ℕ) → (entry_at y (spot_next y (history y es))).action ≡ beacon j → SeenAt (history y (advance lost ∷ es)) j
  seen_at es rf lost j act =
      let ds = history y es in
      let s = spot_next y ds in
      let e = entry_at y s in
      let p = plan_at y s.hyper.mode in
      let d = step_of y (advance lost) ds in
      let g = seen_now es rf lost (ap opens_round act) in
      let is : Is y s.hyper.mode s.index e.tick (beacon j) = (index_now y right es rf lost, ap (λ (z : Action). record { tick = e.tick; action = z }) act) in
      let at = (subst (λ (x : Entry). RightAt p x.tick x.action) is.1 (entry_right y.nodes p s.index is.0).1) in
      let is' = subst (λ t. Is y s.hyper.mode s.index t (beacon j)) (sym at.1) is in
      let place = ap (λ (w : Action). beacon_place y d (performed y p s lost ds e.tick w)) act ∙ minus (first_round y.plans s.hyper.mode) j in
      (g.0, subst (λ (q : Step). Is y s.hyper.mode q.spot.index (natural (round_start p.schedule j)) (beacon j)) (sym g.1) is', ap (λ (q : Step). beacon_place y q q.out) g.1 ∙ place)
    where
      minus : (n j : ℕ) → n + j - n ≡ j
      minus n j = omega arith

  pub still_at : (es : List PlainEvent) (lost j : ℕ) → Same y (history y es) (spot_next y (history y es)) → opens_round (entry_at y (spot_next y (history y es))).action ≡ false → SeenAt (history y es) j → SeenAt (history y (advance lost ∷ es)) j
  still_at es lost j m no_beacon h =
      let g = seen_still es lost m no_beacon h.0 in
      let is = subst (λ (z : ℕ). Is y z h.0.done.spot.index (natural (round_start (plan_at y z).schedule j)) (beacon j)) (sym m.alike.mode) h.1 in (
        g.0,
        subst (λ (q : Step). Is y (spot_next y (history y es)).hyper.mode q.spot.index (natural (round_start (plan_at y (spot_next y (history y es)).hyper.mode).schedule j)) (beacon j)) (sym g.1) is,
        ap (λ (q : Step). beacon_place y q q.out) g.1 ∙ h.2,
      )

  -- the calls and the marks of one more Advance
  step_lists : (es : List PlainEvent) (lost : ℕ) (own : List HostCall) (f t : Bool) → let ds = history y es in let d = step_of y (advance lost) ds in
      own_calls y d d.out ≡ own → is_first_beacon (entry_at y (spot_next y ds)).action ≡ f → turns y ds ≡ t →
      After y (d ∷ ds) (own ++ (cond t (end_round_call ∷ []) [] ++ calls_of y ds)) ((cond f (begins ∷ []) [] ++ cond t (ended ∷ []) []) ++ marks_of ds) → After y (d ∷ ds) (calls_of y (d ∷ ds)) (marks_of (d ∷ ds))
  step_lists es lost own f t own_is f_is t_is w =
      let ds = history y es in
      let d = step_of y (advance lost) ds in
      let first = is_first_beacon (entry_at y (arrival y ds)).action in
      settle y (d ∷ ds) (calls_of y (d ∷ ds)) (own ++ (cond t (end_round_call ∷ []) [] ++ calls_of y ds)) (marks_of (d ∷ ds)) ((cond f (begins ∷ []) [] ++ cond t (ended ∷ []) []) ++ marks_of ds)
      (ap (λ (o : List HostCall). o ++ (cond (has_ended d.marks) (end_round_call ∷ []) [] ++ calls_of y ds)) own_is ∙ ap (λ (b : Bool). own ++ (cond b (end_round_call ∷ []) [] ++ calls_of y ds)) (ended_in first (turns y ds) ∙ t_is))
      (ap (λ (b : Bool). (cond b (begins ∷ []) [] ++ cond (turns y ds) (ended ∷ []) []) ++ marks_of ds) (first_value es ∙ f_is) ∙ ap (λ (b : Bool). (cond f (begins ∷ []) [] ++ cond b (ended ∷ []) []) ++ marks_of ds) t_is)
      w

  goes_on : (m n : ℕ) → m < n → not (nat_lt m n) ≡ false
  goes_on m n l = grind (arith, l)

  is_over : (m n : ℕ) → n ≤ m → not (nat_lt m n) ≡ true
  is_over m n l = grind (arith, l)

  -- an entry that is no beacon
  quiet_step : (es : List PlainEvent) (rf : RequestsFit y es) (lost : ℕ) → opens_round (entry_at y (spot_next y (history y es))).action ≡ false → After y (history y es) (calls_of y (history y es)) (marks_of (history y es)) →
      After y (history y (advance lost ∷ es)) (calls_of y (history y (advance lost ∷ es))) (marks_of (history y (advance lost ∷ es)))
  quiet_step es rf lost no_beacon w =
      let ds = history y es in
      let s = spot_next y ds in
      let e = entry_at y s in
      let d = step_of y (advance lost) ds in
      let st = call_state (schedule_counts y) (calls_of y ds) in
      let own = quiet_calls y d (plan_at y s.hyper.mode) s lost ds e.tick e.action no_beacon in
      let first = first_is e.action no_beacon in
      let turn = λ (over : length (entries y (last_spot ds).hyper.mode) ≤ next_place ds) (index : s.index ≡ 0).
      let o = over_is_last es rf st over w.1 in
      let c = end_last (schedule_counts y) st (marks_of ds) o.0 o.2 o.1 in
      step_lists es lost [] false true own first (is_over (next_place ds) (length (entries y (last_spot ds).hyper.mode)) over)
      ((o.2.inside, w.0), inr (unseen_anew es lost index no_beacon, c)) in
      ⊎_elim
      (λ (m : Same y ds s). step_lists es lost [] false false own first (goes_on (next_place ds) (length (entries y (last_spot ds).hyper.mode)) m.inside) (
        w.0,
        ⊎_elim
            (λ (q : (h : Seen y ds) × (j : ℕ) × Is y (last_spot ds).hyper.mode h.done.spot.index (natural (round_start (plan_at y (last_spot ds).hyper.mode).schedule j)) (beacon j) × (beacon_place y h.done h.done.out ≡ j) × Comes st (marks_of ds) (suc j) true).
            let g = still_at es lost q.1 m no_beacon (q.0, q.2, q.3) in inl (g.0, q.1, g.1, g.2, q.4))
            (λ (q : Unseen y ds × Comes st (marks_of ds) 1 false). inr (unseen_still es lost m no_beacon q.0, q.1))
            w.1,
      ))
      (λ r. ⊎_elim (λ (m : Within y ds s). turn m.over m.index) (λ (m : Opens y ds s). turn m.over m.index) r)
      (moves y ds (stands y es))

  -- the calls of a beacon: that of the first round, and that of a later one
  own_first : (es : List PlainEvent) (lost j : ℕ) → (entry_at y (spot_next y (history y es))).action ≡ beacon j → j ≡ 0 → own_calls y (step_of y (advance lost) (history y es)) (step_of y (advance lost) (history y es)).out ≡ next_beacon_call ∷ []
  own_first es lost j act e =
      let ds = history y es in
      let s = spot_next y ds in
      let n = first_round y.plans s.hyper.mode in
      ap (λ (w : Action). own_calls y (step_of y (advance lost) ds) (performed y (plan_at y s.hyper.mode) s lost ds (entry_at y s).tick w)) act
      ∙ ap (λ (b : Bool). next_beacon_call ∷ cond b [] (end_round_call ∷ [])) (eq-eqb (n + j) n (omega (arith, e)))

  own_later : (es : List PlainEvent) (lost j i : ℕ) → (entry_at y (spot_next y (history y es))).action ≡ beacon j → j ≡ suc i → own_calls y (step_of y (advance lost) (history y es)) (step_of y (advance lost) (history y es)).out ≡ next_beacon_call ∷ end_round_call ∷ []
  own_later es lost j i act e =
      let ds = history y es in
      let s = spot_next y ds in
      let n = first_round y.plans s.hyper.mode in
      ap (λ (w : Action). own_calls y (step_of y (advance lost) ds) (performed y (plan_at y s.hyper.mode) s lost ds (entry_at y s).tick w)) act
      ∙ ap (λ (b : Bool). next_beacon_call ∷ cond b [] (end_round_call ∷ [])) (apart n j i e)
    where
      apart : (n j i : ℕ) → j ≡ suc i → nat_eq (n + j) n ≡ false
      apart n j i e = grind (arith, e)

  -- each round's beacon stands in the cycle
  pub beacon_place_in : (md j : ℕ) → Rattle.runtime_model.specs.Plans.RightPlan y.nodes (plan_at y md) → j < length (plan_at y md).schedule.starts → (i : ℕ) × Is y md i (natural (round_start (plan_at y md).schedule j)) (beacon j)
  beacon_place_in md j ok l = Rattle.runtime_model.proofs.Beacons.beacon_place y md ok j l

  -- the next beacon of a hyperperiod is that of the next round
  pub follows_seen : (es : List PlainEvent) (rf : RequestsFit y es) → Rattle.runtime_model.specs.Plans.RightPlan y.nodes (plan_at y (last_spot (history y es)).hyper.mode) → (h : Seen y (history y es)) (k : ℕ) →
      Is y (last_spot (history y es)).hyper.mode h.done.spot.index (natural (round_start (plan_at y (last_spot (history y es)).hyper.mode).schedule k)) (beacon k) →
      (i t j : ℕ) → Is y (last_spot (history y es)).hyper.mode i t (beacon j) → i ≡ next_place (history y es) → suc k ≡ j
  follows_seen es rf ok h k at i t j is now =
      let md = (last_spot (history y es)).hyper.mode in
      let p = plan_at y md in
      let here = (subst (λ (x : Entry). RightAt p x.tick x.action) is.1 (entry_right y.nodes p i is.0).1) in
      ⊎_elim
      (λ (less : k < j).
      let before = beacon_place_in md (j - 1) ok (omega (arith, here.0)) in
      let sooner = beacon_order y md ok before.0 (j - 1) i j (natural (round_start p.schedule (j - 1))) t before.1 is (omega (arith, less)) in
      let low = not_lower y right es rf h k (j - 1) before.0 at before.1 (omega (arith, sooner, now)) in
      omega (arith, less, low))
      (λ (le : j ≤ k). ⊎_elim
      (λ (less : j < k). absurd (omega (arith, beacon_order y md ok i j h.done.spot.index k t (natural (round_start p.schedule k)) is at less, h.past, now)))
      (λ (ge : k ≤ j).
      let same : k ≡ j = omega (arith, le, ge) in
      let at' = subst (λ z. Is y md h.done.spot.index (natural (round_start p.schedule z)) (beacon z)) same at in
      let is' = subst (λ z. Is y md i z (beacon j)) (sym here.1) is in
      absurd (omega (arith, beacon_once y.nodes p (natural (round_start p.schedule j)) j h.done.spot.index i at'.0 is'.0 at'.1 is'.1, h.past, now)))
      (cases_lt j k))
      (cases_lt k j)

  -- an entry that is a beacon
  beacon_step : (es : List PlainEvent) (rf : RequestsFit y es) (lost j : ℕ) → (entry_at y (spot_next y (history y es))).action ≡ beacon j → After y (history y es) (calls_of y (history y es)) (marks_of (history y es)) →
      After y (history y (advance lost ∷ es)) (calls_of y (history y (advance lost ∷ es))) (marks_of (history y (advance lost ∷ es)))
  beacon_step es rf lost j act w =
      let ds = history y es in
      let s = spot_next y ds in
      let md = s.hyper.mode in
      let p = plan_at y md in
      let e = entry_at y s in
      let rounds = schedule_counts y in
      let st = call_state rounds (calls_of y ds) in
      let ok = right (advance lost ∷ es) rf in
      let len = length (entries y (last_spot ds).hyper.mode) in
      let g = seen_at es rf lost j act in
      let is : Is y md s.index e.tick (beacon j) = (index_now y right es rf lost, ap (λ (z : Action). record { tick = e.tick; action = z }) act) in
      let at = (subst (λ (x : Entry). RightAt p x.tick x.action) is.1 (entry_right y.nodes p s.index is.0).1) in
      let origin = beacon_place_in md 0 ok (omega (arith, at.0)) in
      let first = λ (z : j ≡ 0). ap is_first_beacon act ∙ ap (λ (k : ℕ). is_first_beacon (beacon k)) z in
      let seen_first = λ (z : j ≡ 0) (c : CallState) (ms : List Mark) (come : Comes c ms 1 true). let come' = subst (λ (k : ℕ). Comes c ms k true) (let q : 1 ≡ suc j = omega (arith, z) in q) come in come' in
      let turn = λ (over : len ≤ next_place ds) (index : s.index ≡ 0).
      let z : j ≡ 0 = not_after origin.0 s.index j (beacon_order y md ok origin.0 0 s.index j (natural (round_start p.schedule 0)) e.tick origin.1 is) (omega (arith, index)) in
      let o = over_is_last es rf st over w.1 in
      let c = end_last rounds st (marks_of ds) o.0 o.2 o.1 in
      let b = first_beacon rounds (call_step rounds end_round_call st) (ended ∷ marks_of ds) c in
      step_lists es lost (next_beacon_call ∷ []) true true (own_first es lost j act z) (first z) (is_over (next_place ds) len over)
      ((c.inside, (o.2.inside, w.0)), inl (g.0, j, g.1, g.2, seen_first z (call_step rounds next_beacon_call (call_step rounds end_round_call st)) (begins ∷ ended ∷ marks_of ds) b)) in
      ⊎_elim
      (λ (m : Same y ds s).
      let mode = m.alike.mode in
      let is' : Is y (last_spot ds).hyper.mode s.index e.tick (beacon j) = subst (λ (z : ℕ). Is y z s.index e.tick (beacon j)) mode is in
      ⊎_elim
      (λ (q : (h : Seen y ds) × (k : ℕ) × Is y (last_spot ds).hyper.mode h.done.spot.index (natural (round_start (plan_at y (last_spot ds).hyper.mode).schedule k)) (beacon k) × (beacon_place y h.done h.done.out ≡ k) × Comes st (marks_of ds) (suc k) true).
      let next = follows_seen es rf (right es rf) q.0 q.1 q.2 s.index e.tick j is' m.index in
      let later : j ≡ suc q.1 = sym next in
      let room : suc q.1 < rounds_in rounds (timeline_of (marks_of ds)).last.mode = omega (arith, next, at.0, count_now es, ap (λ z. length (plan_at y z).schedule.starts) mode) in
      let c = end_other rounds st (marks_of ds) (suc q.1) q.4 room in
      let b = later_beacon rounds (call_step rounds end_round_call st) (marks_of ds) q.1 c in
      let b' = subst (λ (k : ℕ). Comes (call_step rounds next_beacon_call (call_step rounds end_round_call st)) (marks_of ds) (suc k) true) next b in
      step_lists es lost (next_beacon_call ∷ end_round_call ∷ []) false false (own_later es lost j q.1 act later) (ap is_first_beacon act ∙ ap (λ (k : ℕ). is_first_beacon (beacon k)) later) (goes_on (next_place ds) len m.inside)
      ((c.inside, (q.4.inside, w.0)), inl (g.0, j, g.1, g.2, b')))
      (λ (q : Unseen y ds × Comes st (marks_of ds) 1 false).
      let origin' = subst (λ (z : ℕ). Is y z origin.0 (natural (round_start p.schedule 0)) (beacon 0)) mode origin.1 in
      let z : j ≡ 0 = not_later j (λ later. not_unseen y right es rf q.0 origin.0 0 (natural (round_start p.schedule 0)) origin' (omega (arith, beacon_order y md ok origin.0 0 s.index j (natural (round_start p.schedule 0)) e.tick origin.1 is later, m.index))) in
      let b = first_beacon rounds st (marks_of ds) q.1 in
      step_lists es lost (next_beacon_call ∷ []) true false (own_first es lost j act z) (first z) (goes_on (next_place ds) len m.inside)
      ((q.1.inside, w.0), inl (g.0, j, g.1, g.2, seen_first z (call_step rounds next_beacon_call st) (begins ∷ marks_of ds) b)))
      w.1)
      (λ r. ⊎_elim (λ (m : Within y ds s). turn m.over m.index) (λ (m : Opens y ds s). turn m.over m.index) r)
      (moves y ds (stands y es))
    where
      not_after : (a b j : ℕ) → (0 < j → a < b) → b ≤ 0 → j ≡ 0
      not_after a b j f l = ⊎_elim (λ (later : 0 < j). absurd (omega (arith, f later, l))) (λ (z : j ≤ 0). omega (arith, z)) (cases_lt 0 j)

      not_later : (j : ℕ) → (0 < j → ⊥) → j ≡ 0
      not_later j f = ⊎_elim (λ (later : 0 < j). absurd (f later)) (λ (z : j ≤ 0). omega (arith, z)) (cases_lt 0 j)

  -- ---- every list of events
  pub after : (es : List PlainEvent) → RequestsFit y es → After y (history y es) (calls_of y (history y es)) (marks_of (history y es))
  after [] f = (tt, inr ((λ i l. absurd (omega (arith, l))), record { marks = refl; round = refl; inside = refl }))
  after (request m ∷ es) f =
      let w = after es f.1 in
      let st = call_state (schedule_counts y) (calls_of y (history y es)) in
      let asks = λ (r : ℕ) (i : Bool) (c : Comes st (marks_of (history y es)) r i).
      let n : Comes (call_step (schedule_counts y) (request_call m) st) (asked m ∷ marks_of (history y es)) r i = record { marks = ap (λ (ms : List Mark). asked m ∷ ms) c.marks; round = c.round; inside = c.inside } in n in (
        (in_range m f.0, w.0),
        ⊎_elim
            (λ (q : (h : Seen y (history y es)) × (j : ℕ) × Is y (last_spot (history y es)).hyper.mode h.done.spot.index (natural (round_start (plan_at y (last_spot (history y es)).hyper.mode).schedule j)) (beacon j) × (beacon_place y h.done h.done.out ≡ j) × Comes st (marks_of (history y es)) (suc j) true).
            let h = q.0 in inl (record { done = h.done; is_last = h.is_last; stay = h.stay; turn = h.turn; mode = h.mode; begin = h.begin; past = h.past; inside = h.inside; is_beacon = h.is_beacon; quiet = h.quiet }, q.1, q.2, q.3, asks (suc q.1) true q.4))
            (λ (q : Unseen y (history y es) × Comes st (marks_of (history y es)) 1 false). inr (q.0, asks 1 false q.1))
            w.1,
      )
    where
      in_range : (m : ℕ) → m < length y.plans → m < length (schedule_counts y)
      in_range m l = omega (arith, l, length-map (map (λ (p : Plan). p.schedule) y.plans) (λ (s : Schedule). length s.starts), length-map y.plans (λ (p : Plan). p.schedule))
  after (restart v ∷ es) f =
      let w = after es f in
      let st = call_state (schedule_counts y) (calls_of y (history y es)) in (
        w.0,
        ⊎_elim
            (λ (q : (h : Seen y (history y es)) × (j : ℕ) × Is y (last_spot (history y es)).hyper.mode h.done.spot.index (natural (round_start (plan_at y (last_spot (history y es)).hyper.mode).schedule j)) (beacon j) × (beacon_place y h.done h.done.out ≡ j) × Comes st (marks_of (history y es)) (suc j) true).
            let h = q.0 in inl (record { done = h.done; is_last = h.is_last; stay = h.stay; turn = h.turn; mode = h.mode; begin = h.begin; past = h.past; inside = h.inside; is_beacon = h.is_beacon; quiet = h.quiet }, q.1, q.2, q.3, q.4))
            (λ (q : Unseen y (history y es) × Comes st (marks_of (history y es)) 1 false). inr (q.0, q.1))
            w.1,
      )
  after (advance lost ∷ es) f =
      let e = entry_at y (spot_next y (history y es)) in
      ⊎_elim
      (λ (rings : opens_round e.action ≡ true). let q = seen_entry e.action rings in beacon_step es f lost q.0 q.1 (after es f))
      (λ (quiet : opens_round e.action ≡ false). quiet_step es f lost quiet (after es f))
      (cases_Bool (opens_round e.action))

pub hosts_follow_events : HostsFollowEvents
hosts_follow_events y right es f =
    let ds = history y es in
    let st = call_state (schedule_counts y) (calls_of y ds) in
    let w = after y (all_right y right) es f in
    ⊎_elim
    (λ (q : (h : Seen y ds) × (j : ℕ) × Is y (last_spot ds).hyper.mode h.done.spot.index (natural (round_start (plan_at y (last_spot ds).hyper.mode).schedule j)) (beacon j) × (beacon_place y h.done h.done.out ≡ j) × Comes st (marks_of ds) (suc j) true).
    record {
      each_may = w.0;
      marks = q.4.marks;
      inside = λ i. (q.0.done, q.0.is_last, q.4.round ∙ ap suc (sym q.3));
      outside = λ o. absurd (let z : true ≡ false = sym q.4.inside ∙ o in cc);
    })
    (λ (q : Unseen y ds × Comes st (marks_of ds) 1 false).
    record {
      each_may = w.0;
      marks = q.1.marks;
      inside = λ i. absurd (let z : true ≡ false = sym i ∙ q.1.inside in cc);
      outside = λ o. q.1.round;
    })
    w.1
