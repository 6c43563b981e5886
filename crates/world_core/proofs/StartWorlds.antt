-- A world after the start of a task
use Rattle.std.proofs.Common.{◌≡◌, ℕ, ◌<◌, true, false, cond, List, ◌∷◌, sym, ◌∙◌, ap, subst, arith, ℤ}
use Rattle.std.specs.Prelude.{nat_eq, Option, slice_set}
use Rattle.std.proofs.lemmas.List.{length-set}
use Rattle.sched_model.specs.PlainMode.{task_at}
use Rattle.task_body.specs.Body.{BodySeen}
use Rattle.runtime_model.specs.Entries.{task_starts}
use Rattle.runtime_model.specs.Inputs.{inputs}
use Rattle.runtime_model.specs.Laws.{RequestsFit}
use Rattle.runtime_model.specs.Outcomes.{PlainEvent, advance, Step, Spot}
use Rattle.runtime_model.specs.Placement.{run_at}
use Rattle.runtime_model.specs.Plans.{Plan, RightPlan, node_of}
use Rattle.runtime_model.specs.Script.{opens_round}
use Rattle.runtime_model.specs.System.{System, plan_at}
use Rattle.runtime_model.specs.History.{history, step_of, spot_next, entry_at}
use Rattle.world_core.specs.Happened.{happened}
use Rattle.world_core.specs.NodeStates.{StateFits, MayStartNow, after_start, inputs_at_start, registers_of, starts_now}
use Rattle.world_core.specs.Nodes.{at}
use Rattle.world_core.specs.Standing.{Stands, NodeStands}
use Rattle.world_core.specs.Worlds.{WorldSeen}
use Rattle.world_core.specs.WorldSteps.{answer_at, body_of, performed, told}
use Rattle.world_core.specs.declared.cycle.Action.TheVariants.{Start}
use Rattle.world_core.proofs.Arriving.{entered}
use Rattle.world_core.proofs.EndWorlds.{both_kept, fits_where}
use Rattle.world_core.proofs.EntryNodes.{EntryNode}
use Rattle.world_core.proofs.EntryWorlds.{at_changed, same_node, nodes_there, entry_node, entry_fits, finds, quiet_stands}
use Rattle.world_core.proofs.InputSteps.{start_ins, inputs_is}
use Rattle.world_core.proofs.KeptPlaces.{kept_place, with_registers, same_start, same_where}
use Rattle.world_core.proofs.NodeLimits.{running_fits, start_fits}
use Rattle.world_core.proofs.StartSteps.{start_on, start_happened, start_runs, may_start}
use Rattle.world_core.proofs.WorldRight.{RightWorld, all}

module _ (y : System) (w : RightWorld y) (es : List PlainEvent) (rf : RequestsFit y es) (lost : ℕ) (x : WorldSeen) (st : Stands y x (history y es)) where
  abbrev ds : List Step
  ds = history y es

  abbrev s : Spot
  s = spot_next y ds

  abbrev p : Plan
  p = plan_at y s.hyper.mode

  abbrev d' : Step
  d' = step_of y (advance lost) ds

  abbrev here : WorldSeen
  here = entered y w es rf lost x st

  ok : RightPlan y.nodes p
  ok = all y w (advance lost ∷ es) rf

  -- ---- the start of task a

  module _ (a : ℕ) (act : (entry_at y (spot_next y (history y es))).action ≡ task_starts a) where
    abbrev v : ℕ
    v = node_of p a

    abbrev number : ℕ
    number = (task_at p.mode a).number

    abbrev ins : List (Option ℤ)
    ins = inputs p s.stay a (run_at p s.turn (entry_at y s).tick a) ds

    quiet : opens_round (entry_at y s).action ≡ false
    quiet = ap opens_round act

    pub start_node : v < y.nodes
    start_node = ok.node a (start_on y w.plans es rf a act).0

    entry_here : EntryNode y v ds (at here.nodes v)
    entry_here = entry_node y w es rf lost x st v start_node

    pub may_start_there : MayStartNow (at here.nodes v) number
    may_start_there = may_start y w.plans es rf a act (finds y w es rf lost x st v) (at here.nodes v) entry_here

    pub ins_are : starts_now (at here.nodes v) number ≡ true → inputs_at_start (at here.nodes v) number ≡ ins
    ins_are e = inputs_is y w.plans es rf a act (finds y w es rf lost x st v) (at here.nodes v) entry_here e

    node_starts : (u : ℕ) → u < y.nodes → (z : ℤ) → (v ≡ u → starts_now (at here.nodes u) number ≡ true → z ≡ y.answers ds number ins) →
        NodeStands y u (d' ∷ ds) (cond (nat_eq v u) (after_start (at here.nodes u) number z) (at here.nodes u))
    node_starts u l z same =
        let n = at here.nodes u in
        let e = entry_node y w es rf lost x st u l in
        let m = cond (nat_eq v u) (after_start n number z) n in
        with_registers y u (d' ∷ ds) m
        (kept_place y w u es rf lost quiet n m e (same_where (nat_eq v u) n (after_start n number z) (same_start n number z)))
        (both_kept p u s.stay (d' ∷ ds) (registers_of m)
        (start_runs y w.plans es rf a act (finds y w es rf lost x st v) u n lost z e same)
        (start_ins y w.plans es rf a act (finds y w es rf lost x st v) u n lost z e (running_fits n (entry_fits y w es rf lost x st u l))))

    changed_start : (z : ℤ) (u : ℕ) → at (slice_set here.nodes v (after_start (at here.nodes v) number z)) u ≡ cond (nat_eq v u) (after_start (at here.nodes u) number z) (at here.nodes u)
    changed_start z u = at_changed here.nodes v u (after_start (at here.nodes v) number z) (omega (arith, start_node, nodes_there y w es rf lost x st)) ∙ same_node v u (λ n. after_start n number z) here.nodes

    -- the value that the body answers is the system's
    pub start_stands : (bodies : List BodySeen) → ((ins' : List (Option ℤ)) → answer_at bodies (body_of x number) number ins' ≡ y.answers ds number ins') →
        Stands y (performed here bodies lost (Start v number)) (d' ∷ ds)
    start_stands bodies answers =
        let z = answer_at bodies (body_of x number) number (inputs_at_start (at here.nodes v) number) in
        let same : (u : ℕ) → v ≡ u → starts_now (at here.nodes u) number ≡ true → z ≡ y.answers ds number ins =
        λ u e starts. answers (inputs_at_start (at here.nodes v) number) ∙ ap (y.answers ds number) (ins_are (subst (λ (k : ℕ). starts_now (at here.nodes k) number ≡ true) (sym e) starts)) in
        let fits : (u : ℕ) → u < y.nodes → StateFits (cond (nat_eq v u) (after_start (at here.nodes u) number z) (at here.nodes u)) = λ u l. start_fits_at u z l in
        quiet_stands y w es rf lost x st quiet (slice_set here.nodes v (after_start (at here.nodes v) number z))
        (length-set here.nodes v (after_start (at here.nodes v) number z) ∙ nodes_there y w es rf lost x st)
        (λ u l. subst (NodeStands y u (d' ∷ ds)) (sym (changed_start z u)) (node_starts u l z (same u)))
        (λ u l. subst StateFits (sym (changed_start z u)) (fits u l))
      where
        start_fits_at : (u : ℕ) (z : ℤ) → u < y.nodes → StateFits (cond (nat_eq v u) (after_start (at here.nodes u) number z) (at here.nodes u))
        start_fits_at u z l =
            subst StateFits (same_node v u (λ n. after_start n number z) here.nodes)
            (fits_where (nat_eq v u) (at here.nodes u) (after_start (at here.nodes v) number z) (entry_fits y w es rf lost x st u l)
            (start_fits (at here.nodes v) number z (entry_fits y w es rf lost x st v start_node) may_start_there))

    pub start_told_is : told here lost (Start v number) ≡ happened y d'
    start_told_is = start_happened y w.plans es rf a act (finds y w es rf lost x st v) (at here.nodes v) lost here.moment (inputs_at_start (at here.nodes v) number) entry_here ins_are
