-- A restart of a node of a world: it goes on to stand for the events with it
use Rattle.std.proofs.Common.{◌≡◌, ℕ, ◌<◌, Bool, true, false, cond, List, ◌∷◌, length, refl, sym, ◌∙◌, ap, subst, arith, ⊎_elim, pos, ℤ}
use Rattle.std.specs.Prelude.{nat_eq, slice_index_or, slice_set}
use Rattle.std.proofs.lemmas.Bool.{cases_Bool, eqb-true, eqb-false, cond-true, cond-false}
use Rattle.std.proofs.lemmas.List.{get_or-set_same, get_or-set_other, length-set}
use Rattle.runtime_model.specs.Laws.{RequestsFit}
use Rattle.runtime_model.specs.Outcomes.{PlainEvent, restart}
use Rattle.runtime_model.specs.System.{System}
use Rattle.runtime_model.specs.History.{history, step_of}
use Rattle.runtime_model.proofs.FirstTicks.{now_is, restart_now}
use Rattle.world_core.specs.declared.happened.Happened.TheVariants.{Restarted}
use Rattle.world_core.specs.declared.state.State.{State}
use Rattle.world_core.specs.Happened.{happened}
use Rattle.world_core.specs.NodeStates.{StateFits, after_restart, no_state}
use Rattle.world_core.specs.Standing.{KeepsPlans, KeepsTime, NodeStands, Stands}
use Rattle.world_core.specs.Worlds.{WorldSeen, node_at}
use Rattle.world_core.specs.WorldSteps.{node_restarted}
use Rattle.world_core.proofs.NodeLimits.{restart_fits}
use Rattle.world_core.proofs.OtherEvents.{restart_stands}
use Rattle.world_core.proofs.WorldRight.{RightWorld, all}

-- the nodes where one is replaced
pub node_replaced : (nodes : List State) (u : ℕ) (n : State) → u < length nodes → (v : ℕ) → slice_index_or (slice_set nodes u n) v no_state ≡ cond (nat_eq u v) n (slice_index_or nodes v no_state)
node_replaced nodes u n l v =
    ⊎_elim
    (λ (h : nat_eq u v ≡ true).
    subst (λ (k : ℕ). slice_index_or (slice_set nodes u n) k no_state ≡ n) (eqb-true u v h) (get_or-set_same nodes u n no_state l)
    ∙ sym (cond-true (nat_eq u v) n (slice_index_or nodes v no_state) h))
    (λ (h : nat_eq u v ≡ false).
    get_or-set_other nodes u v n no_state (λ e. eqb-false u v h (sym e))
    ∙ sym (cond-false (nat_eq u v) n (slice_index_or nodes v no_state) h))
    (cases_Bool (nat_eq u v))

module _ (y : System) (w : RightWorld y) (es : List PlainEvent) (rf : RequestsFit y es) (u : ℕ) (l : u < y.nodes) (x : WorldSeen) (st : Stands y x (history y es)) where
  restarted_node : (v : ℕ) → node_at (node_restarted x u) v ≡ cond (nat_eq u v) (after_restart (node_at x v)) (node_at x v)
  restarted_node v =
      node_replaced x.nodes u (after_restart (node_at x u)) (omega (arith, l, st.plans.nodes)) v
      ∙ same (nat_eq u v) refl
    where
      same : (b : Bool) → nat_eq u v ≡ b → cond b (after_restart (node_at x u)) (node_at x v) ≡ cond b (after_restart (node_at x v)) (node_at x v)
      same true e = ap (λ (k : ℕ). after_restart (node_at x k)) (eqb-true u v e)
      same false e = refl

  restarted_fits : (v : ℕ) → v < y.nodes → StateFits (cond (nat_eq u v) (after_restart (node_at x v)) (node_at x v))
  restarted_fits v h = by_test (nat_eq u v)
    where
      by_test : (b : Bool) → StateFits (cond b (after_restart (node_at x v)) (node_at x v))
      by_test true = restart_fits (node_at x v) (st.fits v h)
      by_test false = st.fits v h

  pub node_restarted_stands : Stands y (node_restarted x u) (history y (restart u ∷ es))
  node_restarted_stands =
      let ds' = history y (restart u ∷ es) in
      let plans : KeepsPlans y (node_restarted x u) = record {
        nodes = length-set x.nodes u (after_restart (node_at x u)) ∙ st.plans.nodes;
        host_node = st.plans.host_node;
        cycles = st.plans.cycles;
        hypers = st.plans.hypers;
        owners = st.plans.owners;
        rounds = st.plans.rounds;
        firsts = st.plans.firsts;
      } in
      let time : KeepsTime y (node_restarted x u) ds' = record {
        place = st.time.place;
        begin = st.time.begin;
        moment = st.time.moment ∙ ap pos (sym (restart_now y (all y w) es u rf));
      } in
      record {
        plans = plans;
        time = time;
        host = st.host;
        each = λ v h. subst (NodeStands y v ds') (sym (restarted_node v)) (restart_stands y w v es rf u (node_at x v) (st.each v h));
        fits = λ v h. subst StateFits (sym (restarted_node v)) (restarted_fits v h);
      }

  -- it answers what happened
  pub restart_told : Restarted x.moment u ≡ happened y (step_of y (restart u) (history y es))
  restart_told = ap (λ (t : ℤ). Restarted t u) (st.time.moment ∙ ap pos (now_is y (all y w) es rf))
