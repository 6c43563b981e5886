-- A world at its next entry: its nodes and its host
use Rattle.std.proofs.Common.{◌≡◌, ℕ, ◌<◌, Bool, true, false, cond, ◌&&◌, List, [], ◌∷◌, ◌++◌, length, refl, sym, ◌∙◌, ap, subst, arith, pos, ℤ, ◌-ℤ◌}
use Rattle.std.specs.Prelude.{nat_eq, Option, Some, None, slice_set}
use Rattle.std.proofs.lemmas.Bool.{eqb-true}
use Rattle.std.proofs.lemmas.List.{get_or-map, length-map, get_or-set_same, get_or-set_other}
use Rattle.runtime_model.specs.HostCalls.{HostCall, host_after}
use Rattle.runtime_model.specs.Entries.{Action, task_ends, beacon, slot, task_starts}
use Rattle.runtime_model.specs.Laws.{RequestsFit}
use Rattle.runtime_model.specs.Outcomes.{PlainEvent, advance, Step, Spot}
use Rattle.runtime_model.specs.Packets.{packet}
use Rattle.runtime_model.specs.Placement.{placed, own_start, ends_run, ending_run_at}
use Rattle.runtime_model.specs.Plans.{Plan, node_of}
use Rattle.runtime_model.specs.LookingBack.{recall, runs}
use Rattle.runtime_model.specs.Outcomes.{begun_run}
use Rattle.runtime_model.specs.HostOfEvents.{schedule_counts, calls_of, own_calls}
use Rattle.runtime_model.specs.NodeTables.{part_of}
use Rattle.runtime_model.specs.Script.{opens_round}
use Rattle.runtime_model.specs.System.{System, plan_at}
use Rattle.runtime_model.specs.History.{history, step_of, spot_next, entry_at, performed, turns, finished_or_not, sent_or_not, start_or_not}
use Rattle.mode_change.specs.HostSeen.{HostSeen}
use Rattle.node_tables.specs.Parts.{typed_table}
use Rattle.node_core.specs.Fits.{TableFits}
use Rattle.node_core.specs.PartLookups.{PartLooksUp}
use Rattle.world_core.specs.declared.state.State.{State}
use Rattle.world_core.specs.declared.state.State.TheVariants.{Listens, Syncs, Coasts}
use Rattle.world_core.specs.NodeStates.{StateFits, MayPassNow, after_ticks, table_of, no_state}
use Rattle.world_core.specs.Nodes.{at, AllMayPass}
use Rattle.world_core.specs.Standing.{Stands, NodeStands}
use Rattle.world_core.specs.Worlds.{WorldSeen, node_at}
use Rattle.world_core.proofs.Arriving.{end_calls, there_is, entered, moment_there, next_calls, some_mode}
use Rattle.world_core.proofs.Entering.{ticks_to, entering}
use Rattle.world_core.proofs.EntryNodes.{EntryNode}
use Rattle.world_core.proofs.HostSteps.{host_by_calls, hosts_agree, same_counts, same_firsts}
use Rattle.world_core.proofs.NodeLimits.{ticks_fit}
use Rattle.world_core.proofs.WorldRight.{RightWorld}

-- ---- lists of nodes

-- the nodes after node v has changed
pub at_changed : (nodes : List State) (v u : ℕ) (n : State) → v < length nodes → at (slice_set nodes v n) u ≡ cond (nat_eq v u) n (at nodes u)
at_changed nodes v u n l = by_test (nat_eq v u) refl
  where
    by_test : (b : Bool) → nat_eq v u ≡ b → at (slice_set nodes v n) u ≡ cond b n (at nodes u)
    by_test true e = subst (λ (k : ℕ). at (slice_set nodes v n) k ≡ n) (eqb-true v u e) (get_or-set_same nodes v n no_state l)
    by_test false e = get_or-set_other nodes v u n no_state (λ same. absurd (grind (arith, e, same)))

-- a change that depends on the node alone
pub same_node : (v u : ℕ) (f : State → State) (nodes : List State) → cond (nat_eq v u) (f (at nodes v)) (at nodes u) ≡ cond (nat_eq v u) (f (at nodes u)) (at nodes u)
same_node v u f nodes = by_test (nat_eq v u) refl
  where
    by_test : (b : Bool) → nat_eq v u ≡ b → cond b (f (at nodes v)) (at nodes u) ≡ cond b (f (at nodes u)) (at nodes u)
    by_test true e = ap (λ (k : ℕ). f (at nodes k)) (eqb-true v u e)
    by_test false e = refl

-- ---- the calls of an entry that is no beacon
no_call : (y : System) (d : Step) (p : Plan) (s : Spot) (lost : ℕ) (ds : List Step) (u : ℕ) (w : Action) → opens_round w ≡ false → own_calls y d (performed y p s lost ds u w) ≡ []
no_call y d p s lost ds u (task_ends a) e = of_end (cond (ends_run p s.turn u a) (recall (node_of p a) s.stay (begun_run a (ending_run_at p s.turn u a)) ds) None)
  where
    of_end : (o : Option ℤ) → own_calls y d (finished_or_not (node_of p a) a (ending_run_at p s.turn u a) o) ≡ []
    of_end None = refl
    of_end (Some x) = refl
no_call y d p s lost ds u (beacon j) e = absurd cc
no_call y d p s lost ds u (slot j i) e = of_slot (packet p s j i ds)
  where
    of_slot : (o : Option (List ℤ)) → own_calls y d (sent_or_not p y.nodes s j i ds o lost) ≡ []
    of_slot None = refl
    of_slot (Some x) = refl
no_call y d p s lost ds u (task_starts a) e = of_start (placed s.hyper.opening s.hyper.phase (own_start p u a) && runs (node_of p a) ds)
  where
    of_start : (o : Bool) → own_calls y d (start_or_not y p s ds a u o) ≡ []
    of_start true = refl
    of_start false = refl

module _ (y : System) (w : RightWorld y) (es : List PlainEvent) (rf : RequestsFit y es) (lost : ℕ) (x : WorldSeen) (st : Stands y x (history y es)) where
  abbrev ds : List Step
  ds = history y es

  abbrev s : Spot
  s = spot_next y ds

  abbrev d' : Step
  d' = step_of y (advance lost) ds

  abbrev here : WorldSeen
  here = entered y w es rf lost x st

  -- ---- nodes
  ticks_same : pos (moment_there y w es rf lost x st) -ℤ x.moment ≡ ticks_to y ds
  ticks_same = ap (λ (m : ℤ). pos (moment_there y w es rf lost x st) -ℤ m) st.time.moment

  node_there : (v : ℕ) → v < y.nodes → at here.nodes v ≡ after_ticks (node_at x v) (ticks_to y ds)
  node_there v l =
      get_or-map (λ n. after_ticks n (pos (moment_there y w es rf lost x st) -ℤ x.moment)) x.nodes v no_state no_state (omega (arith, l, st.plans.nodes))
      ∙ ap (λ (t : ℤ). after_ticks (node_at x v) t) ticks_same

  pub nodes_there : length here.nodes ≡ y.nodes
  nodes_there = length-map x.nodes (λ n. after_ticks n (pos (moment_there y w es rf lost x st) -ℤ x.moment)) ∙ st.plans.nodes

  pub may_pass : AllMayPass x.nodes (pos (moment_there y w es rf lost x st) -ℤ x.moment)
  may_pass v l =
      let l' : v < y.nodes = omega (arith, l, st.plans.nodes) in
      subst (λ (t : ℤ). MayPassNow (node_at x v) t) (sym ticks_same) (entering y w v es rf (node_at x v) (st.each v l')).0

  -- each node at the entry
  pub entry_node : (v : ℕ) → v < y.nodes → EntryNode y v ds (at here.nodes v)
  entry_node v l = subst (EntryNode y v ds) (sym (node_there v l)) (entering y w v es rf (node_at x v) (st.each v l)).1

  pub entry_fits : (v : ℕ) → v < y.nodes → StateFits (at here.nodes v)
  entry_fits v l = subst StateFits (sym (node_there v l)) (ticks_fit (node_at x v) (ticks_to y ds) (st.fits v l) (entering y w v es rf (node_at x v) (st.each v l)).0)

  table_fits : (n : State) → StateFits n → TableFits (table_of n)
  table_fits (Listens t) f = f
  table_fits (Syncs n) f = f.table
  table_fits (Coasts n) f = f.table

  pub part_fits : (v : ℕ) → v < y.nodes → TableFits (typed_table (part_of y.plans v))
  part_fits v l = subst TableFits (entry_node v l).table (table_fits (at here.nodes v) (entry_fits v l))

  -- what node v finds in its part of the running mode
  pub finds : (v : ℕ) → PartLooksUp y.plans v s.hyper.mode (plan_at y s.hyper.mode) (typed_table (part_of y.plans v))
  finds v = w.finds v s.hyper.mode (some_mode y w es rf lost)

  -- ---- a world after its entry stands for the events with it

  -- the world after the entry, with these nodes and this host
  abbrev pub world_after : List State → HostSeen → WorldSeen
  world_after nodes host = record here { nodes = nodes; host = host }

  pub stands_after : (nodes : List State) (host : HostSeen) → length nodes ≡ y.nodes → host.rounds ≡ x.host.rounds → host.firsts ≡ x.host.firsts → host.host ≡ host_by_calls y (d' ∷ ds) →
      ((v : ℕ) → v < y.nodes → NodeStands y v (d' ∷ ds) (at nodes v)) → ((v : ℕ) → v < y.nodes → StateFits (at nodes v)) → Stands y (world_after nodes host) (d' ∷ ds)
  stands_after nodes host many rounds firsts is each fits = record {
    plans = record {
      nodes = many;
      host_node = st.plans.host_node;
      cycles = st.plans.cycles;
      hypers = st.plans.hypers;
      owners = st.plans.owners;
      rounds = rounds ∙ st.plans.rounds;
      firsts = firsts ∙ st.plans.firsts;
    };
    time = record { place = refl; begin = refl; moment = refl };
    host = is ∙ hosts_agree y w.plans (advance lost ∷ es) rf;
    each = each;
    fits = fits;
  }

  -- the host at an entry that is no beacon
  pub quiet_host : opens_round (entry_at y s).action ≡ false → here.host.host ≡ host_by_calls y (d' ∷ ds)
  quiet_host quiet =
      there_is y w es rf lost x st
      ∙ ap (λ (cs : List HostCall). host_after (schedule_counts y) (cs ++ (end_calls (turns y ds) ++ calls_of y ds))) (sym (no_call y d' (plan_at y s.hyper.mode) s lost ds (entry_at y s).tick (entry_at y s).action quiet))
      ∙ ap (host_after (schedule_counts y)) (sym (next_calls y w es rf lost))

  pub quiet_stands : opens_round (entry_at y s).action ≡ false → (nodes : List State) → length nodes ≡ y.nodes →
      ((v : ℕ) → v < y.nodes → NodeStands y v (d' ∷ ds) (at nodes v)) → ((v : ℕ) → v < y.nodes → StateFits (at nodes v)) → Stands y (record here { nodes = nodes }) (d' ∷ ds)
  quiet_stands quiet nodes many each fits =
      stands_after nodes here.host many (same_counts x.host (end_calls (turns y ds))) (same_firsts x.host (end_calls (turns y ds))) (quiet_host quiet) each fits
