-- A world after the end of a task
use Rattle.std.proofs.Common.{◌≡◌, ℕ, ◌<◌, Bool, true, false, cond, List, ◌∷◌, sym, ◌∙◌, ap, subst, arith}
use Rattle.std.specs.Prelude.{nat_eq, slice_set}
use Rattle.std.proofs.lemmas.List.{length-set}
use Rattle.sched_model.specs.PlainMode.{task_at}
use Rattle.task_body.specs.Body.{BodySeen}
use Rattle.runtime_model.specs.Entries.{task_ends}
use Rattle.runtime_model.specs.Laws.{RequestsFit}
use Rattle.runtime_model.specs.Outcomes.{PlainEvent, advance, Step, Spot}
use Rattle.runtime_model.specs.Plans.{Plan, RightPlan, node_of}
use Rattle.runtime_model.specs.Script.{opens_round}
use Rattle.runtime_model.specs.System.{System, plan_at}
use Rattle.runtime_model.specs.History.{history, step_of, spot_next, entry_at}
use Rattle.node_core.specs.Registers.{RegistersSeen}
use Rattle.world_core.specs.declared.state.State.{State}
use Rattle.world_core.specs.Happened.{happened}
use Rattle.world_core.specs.NodeStates.{StateFits, after_end, registers_of}
use Rattle.world_core.specs.Nodes.{at}
use Rattle.world_core.specs.Standing.{Stands, NodeStands, KeepsRegisters}
use Rattle.world_core.specs.Worlds.{WorldSeen}
use Rattle.world_core.specs.WorldSteps.{MayPerform, performed, told}
use Rattle.world_core.specs.declared.cycle.Action.TheVariants.{End}
use Rattle.world_core.proofs.Arriving.{entered}
use Rattle.world_core.proofs.EndSteps.{end_on, end_happened, end_runs}
use Rattle.world_core.proofs.EntryWorlds.{at_changed, same_node, nodes_there, entry_node, entry_fits, part_fits, finds, quiet_stands}
use Rattle.world_core.proofs.InputSteps.{end_ins}
use Rattle.world_core.proofs.KeptPlaces.{kept_place, with_registers, same_end, same_where}
use Rattle.world_core.proofs.NodeLimits.{has_room, end_fits, number_small}
use Rattle.world_core.proofs.PacketSteps.{KeepsIns}
use Rattle.world_core.proofs.RunSteps.{KeepsRuns}
use Rattle.world_core.proofs.WorldRight.{RightWorld, all}

-- registers by what is said of runs and of packets
pub both_kept : (p : Plan) (v stay : ℕ) (ds : List Step) (g : RegistersSeen) → KeepsRuns p v stay ds g → KeepsIns p v stay ds g.ins → KeepsRegisters p v stay ds g
both_kept p v stay ds g r i = record { outs = r.outs; other_outs = r.other_outs; ins = i.ins; other_ins = i.other_ins; run = r.run }

-- a change of one node, or none
pub fits_where : (b : Bool) (n m : State) → StateFits n → StateFits m → StateFits (cond b m n)
fits_where true n m f g = g
fits_where false n m f g = f

module _ (y : System) (w : RightWorld y) (es : List PlainEvent) (rf : RequestsFit y es) (lost : ℕ) (x : WorldSeen) (st : Stands y x (history y es)) where
  abbrev ds : List Step
  ds = history y es

  abbrev s : Spot
  s = spot_next y ds

  abbrev p : Plan
  p = plan_at y s.hyper.mode

  abbrev d' : Step
  d' = step_of y (advance lost) ds

  abbrev here : WorldSeen
  here = entered y w es rf lost x st

  ok : RightPlan y.nodes p
  ok = all y w (advance lost ∷ es) rf

  -- ---- the end of task a

  module _ (a : ℕ) (act : (entry_at y (spot_next y (history y es))).action ≡ task_ends a) where
    abbrev v : ℕ
    v = node_of p a

    abbrev number : ℕ
    number = (task_at p.mode a).number

    quiet : opens_round (entry_at y s).action ≡ false
    quiet = ap opens_round act

    on_node : v < y.nodes
    on_node = ok.node a (end_on y es a ok act).0

    small : number < 1024
    small = number_small y v s.hyper.mode a p _ ok (finds y w es rf lost x st v) (part_fits y w es rf lost x st v on_node) (end_on y es a ok act)

    node_ends : (u : ℕ) → u < y.nodes → NodeStands y u (d' ∷ ds) (cond (nat_eq v u) (after_end (at here.nodes u) number) (at here.nodes u))
    node_ends u l =
        let n = at here.nodes u in
        let e = entry_node y w es rf lost x st u l in
        let m = cond (nat_eq v u) (after_end n number) n in
        with_registers y u (d' ∷ ds) m
        (kept_place y w u es rf lost quiet n m e (same_where (nat_eq v u) n (after_end n number) (same_end n number)))
        (both_kept p u s.stay (d' ∷ ds) (registers_of m)
        (end_runs y es a ok act (finds y w es rf lost x st v) u n lost e (has_room n (entry_fits y w es rf lost x st u l)) small)
        (end_ins y es a ok act u n lost (nat_eq v u) e))

    changed_end : (u : ℕ) → at (slice_set here.nodes v (after_end (at here.nodes v) number)) u ≡ cond (nat_eq v u) (after_end (at here.nodes u) number) (at here.nodes u)
    changed_end u = at_changed here.nodes v u (after_end (at here.nodes v) number) (omega (arith, on_node, nodes_there y w es rf lost x st)) ∙ same_node v u (λ n. after_end n number) here.nodes

    pub end_stands : (bodies : List BodySeen) → Stands y (performed here bodies lost (End v number)) (d' ∷ ds)
    end_stands bodies =
        quiet_stands y w es rf lost x st quiet (slice_set here.nodes v (after_end (at here.nodes v) number))
        (length-set here.nodes v (after_end (at here.nodes v) number) ∙ nodes_there y w es rf lost x st)
        (λ u l. subst (NodeStands y u (d' ∷ ds)) (sym (changed_end u)) (node_ends u l))
        (λ u l. subst StateFits (sym (changed_end u)) (fits_where (nat_eq v u) (at here.nodes u) (after_end (at here.nodes u) number) (entry_fits y w es rf lost x st u l) (end_fits (at here.nodes u) number (entry_fits y w es rf lost x st u l))))

    pub end_told_is : told here lost (End v number) ≡ happened y d'
    end_told_is = end_happened y es a ok act (finds y w es rf lost x st v) (at here.nodes v) lost here.moment (entry_node y w es rf lost x st v on_node)

    pub may_end : (bodies : ℕ) → MayPerform here bodies lost (End v number)
    may_end bodies = (omega (arith, on_node, nodes_there y w es rf lost x st), small)
