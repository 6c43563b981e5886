-- A world that comes to its next entry
use Rattle.std.proofs.Common.{◌≡◌, ℕ, suc, ◌+◌, ◌<◌, ◌≤◌, Bool, true, false, cond, not, List, [], ◌∷◌, ◌++◌, length, map, refl, sym, ◌∙◌, ap, subst, arith, ⊎_elim, pos, ℤ, ◌+ℤ◌, ◌-ℤ◌}
use Rattle.std.specs.Prelude.{nat_lt, slice_index_or}
use Rattle.std.proofs.lemmas.Bool.{cond-true, cond-false}
use Rattle.std.proofs.lemmas.List.{get_or-map, length-map}
use Rattle.sched_model.specs.PlainMode.{hyper}
use Rattle.runtime_model.specs.Timeline.{Mark, ended, begins, timeline_of}
use Rattle.runtime_model.specs.HostCalls.{HostCall, end_round_call, CallState, PlainHost, AllMay, call_state, rounds_in, host_after}
use Rattle.runtime_model.specs.Entries as plain
use Rattle.runtime_model.specs.Laws.{RequestsFit}
use Rattle.runtime_model.specs.Outcomes.{PlainEvent, advance, Step, Spot}
use Rattle.runtime_model.specs.Plans.{Plan}
use Rattle.runtime_model.specs.HostOfEvents.{schedule_counts, calls_of, own_calls, has_ended}
use Rattle.runtime_model.specs.System.{System, plan_at, no_plan}
use Rattle.runtime_model.specs.History.{history, step_of, last_spot, spot_next, entry_at, entries, no_entry as no_plain_entry, next_place, marks_of, turns, arrival, is_first_beacon, turned as turned_spot}
use Rattle.runtime_model.proofs.Beacons.{index_now}
use Rattle.runtime_model.proofs.FirstTicks.{Stays, Turns, onward}
use Rattle.runtime_model.proofs.HostEvents.{hosts_follow_events, over_is_last, after}
use Rattle.runtime_model.proofs.Knowing.{arrival_mode}
use Rattle.runtime_model.proofs.Spots.{stands}
use Rattle.mode_change.specs.HostSeen.{HostSeen}
use Rattle.world_core.specs.declared.cycle.Entry.{Entry}
use Rattle.world_core.specs.Cycle.{kept_entry}
use Rattle.world_core.specs.Nodes.{all_after}
use Rattle.world_core.specs.Standing.{Stands}
use Rattle.world_core.specs.Worlds.{WorldSeen, cycle_at}
use Rattle.world_core.specs.WorldSteps.{mode_of, is_over, next_begin, turned, arrived, next_entry, no_entry, moved, at_entry}
use Rattle.world_core.proofs.HostSteps.{host_by_calls, hosts_agree, host_with, calls_follow}
use Rattle.world_core.proofs.WorldRight.{RightWorld, all, is_mode}

ended_in : (f t : Bool) → has_ended (cond f (begins ∷ []) [] ++ cond t (ended ∷ []) []) ≡ t
ended_in true true = refl
ended_in true false = refl
ended_in false true = refl
ended_in false false = refl

may_tail : (rounds : List ℕ) (xs ys : List HostCall) → AllMay rounds (xs ++ ys) → AllMay rounds ys
may_tail rounds [] ys h = h
may_tail rounds (x ∷ xs) ys h = may_tail rounds xs ys h.1

not_over : (m n : ℕ) → m < n → not (nat_lt m n) ≡ false
not_over m n l = grind (arith, l)

is_past : (m n : ℕ) → n ≤ m → not (nat_lt m n) ≡ true
is_past m n l = grind (arith, l)

not_before : (m n : ℕ) → not (nat_lt m n) ≡ true → n ≤ m
not_before m n e = grind (arith, e)

not_less : (m n : ℕ) → m ≡ n → nat_lt m n ≡ false
not_less m n e = grind (arith, e)

-- the calls that end the old hyperperiod, where there are any
abbrev pub end_calls : Bool → List HostCall
end_calls t = cond t (end_round_call ∷ []) []

module _ (y : System) (w : RightWorld y) (es : List PlainEvent) (rf : RequestsFit y es) (lost : ℕ) where
  abbrev ds : List Step
  ds = history y es

  abbrev l : Spot
  l = last_spot ds

  abbrev s : Spot
  s = spot_next y ds

  abbrev d' : Step
  d' = step_of y (advance lost) ds

  abbrev p : Plan
  p = plan_at y s.hyper.mode

  pub some_mode : s.hyper.mode < length y.plans
  some_mode = is_mode y s.hyper.mode (all y w (advance lost ∷ es) rf)

  pub last_mode : l.hyper.mode < length y.plans
  last_mode = is_mode y l.hyper.mode (all y w es rf)

  -- the calls of the next Advance
  pub next_calls : calls_of y (d' ∷ ds) ≡ own_calls y d' d'.out ++ (end_calls (turns y ds) ++ calls_of y ds)
  next_calls =
      ap (λ (b : Bool). own_calls y d' d'.out ++ (cond b (end_round_call ∷ []) [] ++ calls_of y ds))
      (ended_in (is_first_beacon (entry_at y (arrival y ds)).action) (turns y ds))

  pub next_may : AllMay (schedule_counts y) (own_calls y d' d'.out ++ (end_calls (turns y ds) ++ calls_of y ds))
  next_may = subst (AllMay (schedule_counts y)) next_calls (hosts_follow_events y w.plans (advance lost ∷ es) rf).each_may

  pub end_may : AllMay (schedule_counts y) (end_calls (turns y ds) ++ calls_of y ds)
  end_may = may_tail (schedule_counts y) (own_calls y d' d'.out) (end_calls (turns y ds) ++ calls_of y ds) next_may

  abbrev stayed : Spot
  stayed = record { hyper = (timeline_of (marks_of ds)).last; stay = l.stay; turn = l.turn; begin = l.begin; index = next_place ds }

  is_turn : turns y ds ≡ true → length (entries y l.hyper.mode) ≤ next_place ds
  is_turn t = not_before (next_place ds) (length (entries y l.hyper.mode)) t

  -- the mode of the host after the end of the last round
  ended_mode : length (entries y l.hyper.mode) ≤ next_place ds → (host_after (schedule_counts y) (end_round_call ∷ calls_of y ds)).mode ≡ (timeline_of (ended ∷ marks_of ds)).last.mode
  ended_mode over =
      let rounds = schedule_counts y in
      let c = call_state rounds (calls_of y ds) in
      let at = after y (all y w) es rf in
      let last = over_is_last y (all y w) es rf c over at.1 in
      let marks = last.2.marks in
      let on : CallState = record { marks = c.marks; round = suc c.round; inside = false } in
      let off : CallState = record { marks = ended ∷ c.marks; round = 1; inside = false } in
      let no : nat_lt c.round (rounds_in rounds (timeline_of c.marks).last.mode) ≡ false =
      not_less c.round (rounds_in rounds (timeline_of c.marks).last.mode) (last.2.round ∙ last.1 ∙ sym (ap (λ (m : List Mark). rounds_in rounds (timeline_of m).last.mode) marks)) in
      ap (λ (z : CallState). (timeline_of z.marks).last.mode) (cond-false (nat_lt c.round (rounds_in rounds (timeline_of c.marks).last.mode)) on off no)
      ∙ ap (λ (m : List Mark). (timeline_of (ended ∷ m)).last.mode) marks

  module _ (x : WorldSeen) (st : Stands y x (history y es)) where
    pub host_is : x.host.host ≡ host_by_calls y ds
    host_is = st.host ∙ sym (hosts_agree y w.plans es rf)

    pub mode_is : mode_of x ≡ l.hyper.mode
    mode_is = ap (λ (h : PlainHost). h.mode) st.host ∙ (stands y es).alike.mode

    -- the cycle of a mode
    pub cycle_is : (m : ℕ) → m < length y.plans → cycle_at x m ≡ map (kept_entry (plan_at y m)) (entries y m)
    cycle_is m i =
        ap (λ (c : List (List Entry)). slice_index_or c m []) st.plans.cycles
        ∙ get_or-map (λ (q : Plan). map (kept_entry q) (plain.cycle y.nodes q)) y.plans m no_plan [] i

    pub cycle_length : (m : ℕ) → m < length y.plans → length (cycle_at x m) ≡ length (entries y m)
    cycle_length m i = ap length (cycle_is m i) ∙ length-map (entries y m) (kept_entry (plan_at y m))

    pub over_is : is_over x ≡ turns y ds
    over_is =
        ap (λ (m : ℕ). not (nat_lt x.place (length (cycle_at x m)))) mode_is
        ∙ ap (λ (n : ℕ). not (nat_lt x.place n)) (cycle_length l.hyper.mode last_mode)
        ∙ ap (λ (n : ℕ). not (nat_lt n (length (entries y l.hyper.mode)))) st.time.place

    -- the host at the hyperperiod of the next entry
    abbrev pub host_there : HostSeen
    host_there = host_with x.host (end_calls (turns y ds))

    pub there_is : host_there.host ≡ host_after (schedule_counts y) (end_calls (turns y ds) ++ calls_of y ds)
    there_is = calls_follow (schedule_counts y) x.host (end_calls (turns y ds)) (calls_of y ds) st.plans.rounds host_is end_may

    -- the world at that hyperperiod
    abbrev pub there : WorldSeen
    there = record x { host = host_there; place = s.index; begin = pos s.begin }

    pub length_there : slice_index_or x.hypers (mode_of x) (pos 0) ≡ pos (hyper (plan_at y l.hyper.mode).mode)
    length_there =
        ap (λ (m : ℕ). slice_index_or x.hypers m (pos 0)) mode_is
        ∙ ap (λ (h : List ℤ). slice_index_or h l.hyper.mode (pos 0)) st.plans.hypers
        ∙ get_or-map (λ (q : Plan). pos (hyper q.mode)) y.plans l.hyper.mode no_plan (pos 0) last_mode

    pub begins_at : next_begin x ≡ pos (l.begin + hyper (plan_at y l.hyper.mode).mode)
    begins_at =
        ap (λ (b : ℤ). b +ℤ slice_index_or x.hypers (mode_of x) (pos 0)) st.time.begin
        ∙ ap (λ (h : ℤ). pos l.begin +ℤ h) length_there

    abbrev world_with : HostSeen → ℕ → ℤ → WorldSeen
    world_with h place begin = record x { host = h; place = place; begin = begin }

    stays : Stays y ds → arrived x ≡ there
    stays q =
        let t : turns y ds ≡ false = not_over (next_place ds) (length (entries y l.hyper.mode)) q.same.inside in
        cond-false (is_over x) (turned x) x (over_is ∙ t)
        ∙ ap (λ (b : Bool). world_with (host_with x.host (end_calls b)) x.place x.begin) (sym t)
        ∙ ap (λ (n : ℕ). world_with host_there n x.begin) (st.time.place ∙ sym q.same.index)
        ∙ ap (λ (b : ℤ). world_with host_there s.index b) (st.time.begin ∙ ap pos (sym q.same.begin))

    turns_on : Turns y ds → arrived x ≡ there
    turns_on q =
        let t : turns y ds ≡ true = is_past (next_place ds) (length (entries y l.hyper.mode)) q.over in
        cond-true (is_over x) (turned x) x (over_is ∙ t)
        ∙ ap (λ (b : Bool). world_with (host_with x.host (end_calls b)) 0 (next_begin x)) (sym t)
        ∙ ap (λ (n : ℕ). world_with host_there n (next_begin x)) (sym q.index)
        ∙ ap (λ (b : ℤ). world_with host_there s.index b) (begins_at ∙ ap pos (sym q.begin))

    pub arrives : arrived x ≡ there
    arrives = ⊎_elim stays turns_on (onward y (all y w) es rf)

    -- the mode that runs there
    next_mode : (b : Bool) → turns y ds ≡ b → s.hyper.mode ≡ (cond b (turned_spot y l (ended ∷ marks_of ds)) stayed).hyper.mode
    next_mode b t = arrival_mode y ds (is_first_beacon (entry_at y (arrival y ds)).action) (turns y ds) ∙ ap (λ (c : Bool). (cond c (turned_spot y l (ended ∷ marks_of ds)) stayed).hyper.mode) t

    mode_stays : (b : Bool) → turns y ds ≡ b → host_there.host.mode ≡ s.hyper.mode
    mode_stays false t =
        ap (λ (b : Bool). (host_with x.host (end_calls b)).host.mode) t ∙ ap (λ (h : PlainHost). h.mode) st.host ∙ sym (next_mode false t)
    mode_stays true t =
        ap (λ (h : PlainHost). h.mode) there_is
        ∙ ap (λ (b : Bool). (host_after (schedule_counts y) (end_calls b ++ calls_of y ds)).mode) t
        ∙ ended_mode (is_turn t)
        ∙ sym (next_mode true t)

    pub mode_there : mode_of there ≡ s.hyper.mode
    mode_there = mode_stays (turns y ds) refl

    -- the entry that is next there
    pub entry_there : next_entry there ≡ kept_entry p (entry_at y s)
    entry_there =
        ap (λ (m : ℕ). slice_index_or (cycle_at x m) s.index no_entry) mode_there
        ∙ ap (λ (c : List Entry). slice_index_or c s.index no_entry) (cycle_is s.hyper.mode some_mode)
        ∙ get_or-map (kept_entry p) (entries y s.hyper.mode) s.index no_plain_entry no_entry (index_now y (all y w) es rf lost)

    -- the moment of the entry
    abbrev pub moment_there : ℕ
    moment_there = s.begin + (entry_at y s).tick

    -- the world at its entry, with the ticks passed
    abbrev pub entered : WorldSeen
    entered = record x { nodes = all_after x.nodes (pos moment_there -ℤ x.moment); host = host_there; place = suc s.index; begin = pos s.begin; moment = pos moment_there }

    pub enters : at_entry x ≡ entered
    enters =
        ap (λ (z : WorldSeen). moved z (z.begin +ℤ (next_entry z).tick)) arrives
        ∙ ap (λ (e : Entry). moved there (pos s.begin +ℤ e.tick)) entry_there
