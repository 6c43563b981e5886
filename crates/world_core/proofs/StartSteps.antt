-- A start of a task in the world: whether it is performed, and the registers of runs after it
use Rattle.std.proofs.Common.{◌≡◌, ℕ, ◌%◌, ◌<◌, ◌≤◌, Bool, true, false, cond, not, ◌&&◌, ◌||◌, List, [], ◌∷◌, length, get_or, refl, sym, ◌∙◌, ap, subst, arith, ◌⊎◌, inl, inr, ⊎_elim, ℤ, pos}
use Rattle.std.specs.Prelude.{nat_eq, nat_lt, int_le, Option, Some, None}
use Rattle.std.proofs.lemmas.Bool.{cond-true, cond-false, eqb-true, eq-eqb, and_parts}
use Rattle.std.proofs.lemmas.Bool.Decides.{nat_tests}
use Rattle.std.proofs.lemmas.Int.{ints}
use Rattle.std.proofs.lemmas.Option.{same_Some}
use Rattle.sched_model.specs.PlainMode.{task_at}
use Rattle.sched_model.proofs.Hyperperiods.{hyper_some}
use Rattle.runtime_model.specs.Timeline.{PlainPhase, steady, drain, drains}
use Rattle.runtime_model.specs.Plans.{Plan, RightPlan, node_of, offset}
use Rattle.runtime_model.specs.Entries.{Action, beacon, task_starts, due_start}
use Rattle.runtime_model.specs.Outcomes.{PlainEvent, advance, request, restart, Spot, Step, is_beacon}
use Rattle.runtime_model.specs.LookingBack.{recall, runs, synced, settled, coasts, last_beacon}
use Rattle.runtime_model.specs.NodeTables.{part_of}
use Rattle.runtime_model.specs.Inputs.{inputs}
use Rattle.runtime_model.specs.Placement.{placed, own_start, run_at}
use Rattle.runtime_model.specs.Registers.{RunSeen, value_of, last_end, last_run, flat, running}
use Rattle.runtime_model.specs.System.{System, plan_at}
use Rattle.runtime_model.specs.History.{history, step_of, spot_next, entry_at, performed, start_or_not, last_spot}
use Rattle.runtime_model.specs.Laws.{PlansAreRight, RequestsFit}
use Rattle.runtime_model.specs.NodeKinds.{listening, in_sync, coasting, kind_by}
use Rattle.runtime_model.proofs.Beacons.{index_now, not_unseen}
use Rattle.runtime_model.proofs.Cycles.{entry_right, RightAt, key, key_order}
use Rattle.runtime_model.proofs.FirstTicks.{first_start}
use Rattle.runtime_model.proofs.HostEvents.{beacon_place_in}
use Rattle.runtime_model.proofs.Modes.{AllRight, all_right}
use Rattle.runtime_model.proofs.NextRound.{Still, Turning, Anew, round_tick, last_stands, next_stands}
use Rattle.runtime_model.proofs.OneRun.{one_run_at_a_time}
use Rattle.runtime_model.proofs.OutRegisters.{Is}
use Rattle.runtime_model.proofs.Spots.{Alike, alike_refl, alike_both, Moves, moves, stands}
use Rattle.node_tables.specs.Parts.{typed_table}
use Rattle.node_core.specs.Conditions.{IsOwnAndDue, MayStart}
use Rattle.node_core.specs.Lookup.{mode_at, own_task}
use Rattle.node_core.specs.PartLookups.{PartLooksUp, kept_task}
use Rattle.node_core.specs.Registers.{RegistersSeen, begun, out_of}
use Rattle.node_core.specs.Rules.{announced, phase_known, start_placed, starts}
use Rattle.node_core.specs.Running.{RunningNode, mode_of}
use Rattle.world_core.specs.declared.happened.Happened.TheVariants.{Started, Off}
use Rattle.world_core.specs.declared.state.State.{State}
use Rattle.world_core.specs.declared.state.State.TheVariants.{Listens, Syncs, Coasts}
use Rattle.world_core.specs.Happened.{told_at}
use Rattle.world_core.specs.NodeStates.{registers_of, starts_now, after_start, MayStartNow}
use Rattle.world_core.specs.Standing.{IsOn, by_number}
use Rattle.world_core.proofs.EntryNodes.{EntryNode, IsAtEntry}
use Rattle.world_core.proofs.RunSteps.{KeepsRuns, runs_kept, IsCalm, IsQuiet, quiet_runs, out_past, recall_now}

-- ---- the hyperperiod of the last beacon

-- a spot stands in the hyperperiod of a beacon or in a later one; in that one it opens and drains as the beacon says
abbrev Follows : Spot → Spot → Type 0
Follows s b = (b.begin ≤ s.begin) × (s.begin ≡ b.begin → Alike s.hyper b.hyper)

follows_next : (y : System) (ds : List Step) (s b : Spot) → Moves y ds s → Follows (last_spot ds) b → Follows s b
follows_next y ds s b (inl m) f = (omega (arith, m.begin, f.0), λ e. alike_both s.hyper (last_spot ds).hyper b.hyper m.alike (f.1 (sym m.begin ∙ e)))
follows_next y ds s b (inr (inl m)) f =
    let some = hyper_some (plan_at y (last_spot ds).hyper.mode).mode in
    (omega (arith, m.begin, f.0), λ e. absurd (omega (arith, e, m.begin, f.0, some)))
follows_next y ds s b (inr (inr m)) f =
    let some = hyper_some (plan_at y (last_spot ds).hyper.mode).mode in
    (omega (arith, m.begin, f.0), λ e. absurd (omega (arith, e, m.begin, f.0, some)))

follows_last : (y : System) (es : List PlainEvent) (d : Step) → last_beacon (history y es) ≡ Some d → Follows (last_spot (history y es)) d.spot
follows_last y [] d e = absurd (grind (arith, e))
follows_last y (request m ∷ es) d e = follows_last y es d e
follows_last y (restart w ∷ es) d e = follows_last y es d e
follows_last y (advance lost ∷ es) d e = by_test (is_beacon now.out) e (follows_last y es d)
  where
    ds : List Step
    ds = history y es

    now : Step
    now = step_of y (advance lost) ds

    by_test : (b : Bool) → cond b (Some now) (last_beacon ds) ≡ Some d → (last_beacon ds ≡ Some d → Follows (last_spot ds) d.spot) → Follows now.spot d.spot
    by_test true e f = subst (λ (x : Step). Follows now.spot x.spot) (same_Some now d e) (omega arith, λ q. alike_refl now.spot.hyper)
    by_test false e f = follows_next y ds now.spot d.spot (moves y ds (stands y es)) (f e)

-- the next entry in the hyperperiod of the last beacon opens and drains as that one
pub alike_beacon : (y : System) (es : List PlainEvent) (d : Step) → last_beacon (history y es) ≡ Some d → (spot_next y (history y es)).begin ≡ d.spot.begin → Alike (spot_next y (history y es)).hyper d.spot.hyper
alike_beacon y es d e = (follows_next y (history y es) (spot_next y (history y es)) d.spot (moves y (history y es) (stands y es)) (follows_last y es d e)).1

-- ---- kinds

-- a node runs exactly where it is not Listening
listens_off : (a b c : Bool) → listening ≡ kind_by a b c → (a || c) ≡ false
listens_off true b c e = absurd (grind (arith, e))
listens_off false b true e = absurd (grind (arith, e))
listens_off false b false e = refl

synced_runs : (x a b c : Bool) → in_sync x ≡ kind_by a b c → (a || c) ≡ true
synced_runs x true b c e = refl
synced_runs x false b true e = refl
synced_runs x false b false e = absurd (grind (arith, e))

coasting_runs : (a b c : Bool) → coasting ≡ kind_by a b c → (a || c) ≡ true
coasting_runs true b c e = refl
coasting_runs false b true e = refl
coasting_runs false b false e = absurd (grind (arith, e))

-- ---- placement

-- whether an entry is placed goes by whether the hyperperiod opens and drains
pub placed_alike : (o x : Bool) (g h : PlainPhase) (own mine : Bool) → o ≡ x → drains g ≡ drains h → own ≡ mine → placed o g own ≡ placed x h mine
placed_alike o x g h own mine opens drained same =
    ap (λ b. cond b own (cond (drains g) (not own) true)) opens ∙ ap (λ b. cond x own (cond b (not own) true)) drained ∙ ap (placed x h) same

pub known_drains : (n : RunningNode) → drains (phase_known n) ≡ n.draining
known_drains n = by_test n.draining
  where
    by_test : (b : Bool) → drains (cond b (drain n.heard.mode) steady) ≡ b
    by_test true = refl
    by_test false = refl

not_before : (o u : ℕ) → int_le (pos o) (pos u) ≡ not (nat_lt u o)
not_before o u = grind (arith, ints, nat_tests)

-- ---- what a start does to the registers of runs

started_runs : (n : State) (number : ℕ) (x : ℤ) → let new = registers_of (after_start n number x) in
    (new.outs ≡ (registers_of n).outs) × (new.run ≡ cond (starts_now n number) (Some (record { task = number; value = x })) (registers_of n).run)
started_runs (Listens t) number x = (refl, refl)
started_runs (Syncs n) number x = by_test (starts n number)
  where
    by_test : (b : Bool) → let new = (cond b (record n { registers = begun number x (mode_of n).messages n.registers }) n).registers in
        (new.outs ≡ n.registers.outs) × (new.run ≡ cond b (Some (record { task = number; value = x })) n.registers.run)
    by_test true = (refl, refl)
    by_test false = (refl, refl)
started_runs (Coasts n) number x = by_test (starts n number)
  where
    by_test : (b : Bool) → let new = (cond b (record n { registers = begun number x (mode_of n).messages n.registers }) n).registers in
        (new.outs ≡ n.registers.outs) × (new.run ≡ cond b (Some (record { task = number; value = x })) n.registers.run)
    by_test true = (refl, refl)
    by_test false = (refl, refl)

-- ---- at a start

module _ (y : System) (right : PlansAreRight y) (es : List PlainEvent) (rf : RequestsFit y es) (a : ℕ) (act : (entry_at y (spot_next y (history y es))).action ≡ task_starts a) where
  abbrev ds : List Step
  ds = history y es

  abbrev s : Spot
  s = spot_next y ds

  abbrev p : Plan
  p = plan_at y s.hyper.mode

  abbrev u : ℕ
  u = (entry_at y s).tick

  abbrev v : ℕ
  v = node_of p a

  abbrev number : ℕ
  number = (task_at p.mode a).number

  -- the run that starts
  abbrev k : ℕ
  k = run_at p s.turn u a

  each : AllRight y
  each = all_right y right

  ok : RightPlan y.nodes p
  ok = each (advance 0 ∷ es) rf

  here : Is y s.hyper.mode s.index u (task_starts a)
  here = (index_now y each es rf 0, ap (λ (w : Action). record { tick = u; action = w }) act)

  due : (a < length p.mode.tasks) × (due_start p u a ≡ true)
  due = subst (λ (w : Action). RightAt p u w) act (entry_right y.nodes p s.index here.0).1

  pub start_on : IsOn p v a
  start_on = (due.0, refl)

  -- the first beacon stands before it
  origin : (i : ℕ) × Is y s.hyper.mode i (round_tick y s.hyper.mode 0) (beacon 0)
  origin = beacon_place_in y each s.hyper.mode 0 ok (omega (arith, ok.right.shape.some, ok.right.shape.starts))

  sooner : origin.0 < s.index
  sooner = key_order y.nodes p origin.0 s.index origin.1.0 here.0 (omega (arith, ap key origin.1.1, ap key here.1, first_start y s.hyper.mode ok))

  -- so the last beacon is of its hyperperiod
  pub start_follows : (d : Step) → last_beacon ds ≡ Some d → (s.begin ≡ d.spot.begin) × (s.hyper.mode ≡ d.spot.hyper.mode)
  start_follows d e =
      let w = last_stands y each es rf d e in
      ⊎_elim
      (λ (x : Still y ds d w.0). (x.begin, x.mode))
      (λ (r : Turning y ds d w.0 ⊎ Anew y ds d w.0). ⊎_elim
      (λ (x : Turning y ds d w.0). absurd (omega (arith, sooner, x.turns.index)))
      (λ (x : Anew y ds d w.0).
      let m = x.stays.same in
      let is = subst (λ (z : ℕ). Is y z origin.0 (round_tick y s.hyper.mode 0) (beacon 0)) m.alike.mode origin.1 in
      absurd (not_unseen y each es rf x.gone.unseen origin.0 0 (round_tick y s.hyper.mode 0) is (omega (arith, sooner, m.index))))
      r)
      (next_stands y each es rf d w.0 w.1 w.2)

  -- the start is performed where it is placed and the node runs
  abbrev pub is_performed : Bool
  is_performed = placed s.hyper.opening s.hyper.phase (own_start p u a) && runs v ds

  pub start_out : (lost : ℕ) → (step_of y (advance lost) ds).out ≡ start_or_not y p s ds a u is_performed
  start_out lost = ap (λ (w : Action). performed y p s lost ds u w) act

  module _ (part : PartLooksUp y.plans v s.hyper.mode p (typed_table (part_of y.plans v))) where
    -- what a running node knows of the start
    record Knows (r : RunningNode) : Type 0 where
      task : own_task (mode_of r).tasks number ≡ Some (kept_task p a)
      tick : r.tick ≡ pos u
      placed : start_placed r (own_task (mode_of r).tasks number) ≡ placed s.hyper.opening s.hyper.phase (own_start p u a)

    knows : (r : RunningNode) → r.table ≡ typed_table (part_of y.plans v) → (d : Step) × (last_beacon ds ≡ Some d) × IsAtEntry y ds d r → Knows r
    knows r table w =
        let d = w.0 in
        let at = w.2 in
        let f = start_follows d w.1 in
        let like = alike_beacon y es d w.1 f.0 in
        let same = at.same f.0 in
        let own = ap (λ t. own_task (mode_at t r.mode).tasks number) table ∙ ap (λ m. own_task (mode_at (typed_table (part_of y.plans v)) m).tasks number) (at.mode ∙ sym f.1) ∙ part.task a due.0 refl in
        record {
          task = own;
          tick = at.tick;
          placed = ap (start_placed r) own
              ∙ placed_alike r.opening s.hyper.opening (phase_known r) s.hyper.phase (int_le (pos (offset p a)) r.tick) (own_start p u a) (same.0 ∙ sym like.opening) (known_drains r ∙ same.1 ∙ sym like.drains)
              (ap (int_le (pos (offset p a))) at.tick ∙ not_before (offset p a) u);
        }

    running_starts : (r : RunningNode) → Knows r → runs v ds ≡ true → starts r number ≡ is_performed
    running_starts r x run = x.placed ∙ on (placed s.hyper.opening s.hyper.phase (own_start p u a)) (runs v ds) run
      where
        on : (b c : Bool) → c ≡ true → b ≡ (b && c)
        on true c e = sym e
        on false c e = refl

    -- the node performs the start exactly where that is what happens
    pub starts_is : (n : State) → EntryNode y v ds n → starts_now n number ≡ is_performed
    starts_is (Listens t) at = sym (off (placed s.hyper.opening s.hyper.phase (own_start p u a)) (runs v ds) (listens_off (synced v ds) (settled v ds) (coasts v ds) at.kind))
      where
        off : (b c : Bool) → c ≡ false → (b && c) ≡ false
        off true c e = e
        off false c e = refl
    starts_is (Syncs r) at = running_starts r (knows r at.table (at.place r refl)) (synced_runs (announced r) (synced v ds) (settled v ds) (coasts v ds) at.kind)
    starts_is (Coasts r) at = running_starts r (knows r at.table (at.place r refl)) (coasting_runs (synced v ds) (settled v ds) (coasts v ds) at.kind)

    pub start_answers : (n : State) (lost : ℕ) → EntryNode y v ds n → (step_of y (advance lost) ds).out ≡ start_or_not y p s ds a u (starts_now n number)
    start_answers n lost at = start_out lost ∙ ap (start_or_not y p s ds a u) (sym (starts_is n at))

    -- the inputs of the run that starts, and what its end will answer
    abbrev pub ins_here : List (Option ℤ)
    ins_here = inputs p s.stay a k ds

    abbrev pub value_here : ℤ
    value_here = y.answers ds number ins_here

    pub start_happened : (n : State) (lost : ℕ) (now : ℤ) (ins : List (Option ℤ)) → EntryNode y v ds n → (starts_now n number ≡ true → ins ≡ ins_here) →
        cond (starts_now n number) (Started now v number ins) (Off now v number) ≡ told_at now p (step_of y (advance lost) ds).out
    start_happened n lost now ins at same = by_test (starts_now n number) same ∙ ap (told_at now p) (sym (start_answers n lost at))
      where
        by_test : (b : Bool) → (b ≡ true → ins ≡ ins_here) → cond b (Started now v number ins) (Off now v number) ≡ told_at now p (start_or_not y p s ds a u b)
        by_test true same = ap (Started now v number) (same refl)
        by_test false same = refl

    -- ---- a start may be performed

    -- where it is, no run is in progress
    free_here : is_performed ≡ true → running v s.stay ds ≡ None
    free_here e = one_run_at_a_time y es 0 v a k ins_here value_here ok (start_out 0 ∙ ap (start_or_not y p s ds a u) e)

    may_run : (r : RunningNode) → Knows r → starts r number ≡ is_performed → r.registers.run ≡ by_number p (running v s.stay ds) → MayStart r number
    may_run r x same run = record {
      due = subst (IsOwnAndDue r.tick) (sym x.task) (subst (λ (z : ℤ). IsOwnAndDue z (Some (kept_task p a))) (sym x.tick) (eqb-true (offset p a % (task_at p.mode a).period) (u % (task_at p.mode a).period) due.1));
      free = λ e. run ∙ ap (by_number p) (free_here (sym same ∙ e));
    }

    pub may_start : (n : State) → EntryNode y v ds n → MayStartNow n number
    may_start (Listens t) at = tt
    may_start (Syncs r) at = may_run r (knows r at.table (at.place r refl)) (starts_is (Syncs r) at) at.registers.run
    may_start (Coasts r) at = may_run r (knows r at.table (at.place r refl)) (starts_is (Coasts r) at) at.registers.run

    -- ---- the registers after the start

    off_quiet : (w : ℕ) → IsQuiet p w (start_or_not y p s ds a u false)
    off_quiet w = record { calm = record { beacon = refl; restart = refl }; outs = λ b on. refl; run = refl }

    -- of another node the start says nothing
    other_quiet : (w : ℕ) (b : Bool) → nat_eq v w ≡ false → IsQuiet p w (start_or_not y p s ds a u b)
    other_quiet w false e = off_quiet w
    other_quiet w true e = record {
      calm = record { beacon = refl; restart = refl };
      outs = λ b on. refl;
      run = cond-false (nat_eq v w) (Some (Some (record { task = a; run = k; value = value_here }))) None e;
    }

    -- the node of the start has the run in progress, with the value that its body answers
    own_runs : (lost : ℕ) (g new : RegistersSeen) (x : ℤ) (b : Bool) → let d = step_of y (advance lost) ds in
        is_performed ≡ b → d.out ≡ start_or_not y p s ds a u b → (b ≡ true → x ≡ value_here) → new.outs ≡ g.outs → new.run ≡ cond b (Some (record { task = number; value = x })) g.run →
        KeepsRuns p v s.stay ds g → KeepsRuns p v s.stay (d ∷ ds) new
    own_runs lost g new x false is out same outs run keeps =
        quiet_runs p v (step_of y (advance lost) ds) ds g new (subst (IsQuiet p v) (sym out) (off_quiet v)) outs run keeps
    own_runs lost g new x true is out same outs run keeps =
        record {
          outs = λ b on. read (task_at p.mode b).number ∙ keeps.outs b on ∙ ap value_of (sym (out_past p v b d ds calm on (ap (last_end b) out)));
          other_outs = λ m none. read m ∙ keeps.other_outs m none;
          run = run ∙ ap (λ z. Some (record { task = number; value = z })) (same refl) ∙ ap (λ o. by_number p (flat o)) (sym found);
        }
      where
        d : Step
        d = step_of y (advance lost) ds

        seen : RunSeen
        seen = record { task = a; run = k; value = value_here }

        calm : IsCalm v d.out
        calm = subst (IsCalm v) (sym out) (record { beacon = refl; restart = refl })

        read : (m : ℕ) → out_of new m ≡ out_of g m
        read m = ap (λ (xs : List (Option ℤ)). get_or xs m None) outs

        found : recall v s.stay (last_run v) (d ∷ ds) ≡ Some (Some seen)
        found = recall_now v (last_run v) d ds (Some seen) calm (ap (last_run v) out ∙ cond-true (nat_eq v v) (Some (Some seen)) None (eq-eqb v v refl))
            (and_parts (placed s.hyper.opening s.hyper.phase (own_start p u a)) (runs v ds) is).1

    -- the registers of runs of node w after the start
    pub start_runs : (w : ℕ) (n : State) (lost : ℕ) (x : ℤ) → EntryNode y w ds n → (v ≡ w → starts_now n number ≡ true → x ≡ value_here) →
        KeepsRuns p w s.stay (step_of y (advance lost) ds ∷ ds) (registers_of (cond (nat_eq v w) (after_start n number x) n))
    start_runs w n lost x at same = by_test (nat_eq v w) refl
      where
        d : Step
        d = step_of y (advance lost) ds

        by_test : (b : Bool) → nat_eq v w ≡ b → KeepsRuns p w s.stay (d ∷ ds) (registers_of (cond b (after_start n number x) n))
        by_test false e =
            quiet_runs p w d ds (registers_of n) (registers_of n) (subst (IsQuiet p w) (sym (start_out lost)) (other_quiet w is_performed e)) refl refl (runs_kept p w s.stay ds (registers_of n) at.registers)
        by_test true e =
            let on = eqb-true v w e in
            let here = subst (λ z. EntryNode y z ds n) (sym on) at in
            let new = started_runs n number x in
            subst (λ z. KeepsRuns p z s.stay (d ∷ ds) (registers_of (after_start n number x))) on
            (own_runs lost (registers_of n) (registers_of (after_start n number x)) x (starts_now n number) (sym (starts_is n here)) (start_answers n lost here) (same on) new.0 new.1
            (runs_kept p v s.stay ds (registers_of n) here.registers))
