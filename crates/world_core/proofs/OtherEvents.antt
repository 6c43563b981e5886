-- A request and a restart: each other node stands for the steps with it as it is, and the restarted one Listens
use Rattle.std.proofs.Common.{◌≡◌, ℕ, ◌-◌, Bool, true, false, cond, List, ◌∷◌, refl, sym, ◌∙◌, ap, subst, ⊎_elim, pos}
use Rattle.std.specs.Prelude.{nat_eq, None}
use Rattle.std.proofs.lemmas.Bool.{cases_Bool, cond-true}
use Rattle.runtime_model.specs.Timeline.{Mark}
use Rattle.runtime_model.specs.Outcomes.{Outcome, PlainEvent, request, restart, Step, is_beacon, hears, announces}
use Rattle.runtime_model.specs.Laws.{RequestsFit}
use Rattle.runtime_model.specs.LookingBack.{synced, settled, coasts}
use Rattle.runtime_model.specs.NodeKinds.{listening, in_sync, missed, kind_by}
use Rattle.runtime_model.specs.Registers.{last_end, last_in, last_run}
use Rattle.runtime_model.specs.System.{System, plan_at}
use Rattle.runtime_model.specs.History.{history, step_of, last_spot, next_place, moment, now_after}
use Rattle.runtime_model.proofs.FirstTicks.{now_is}
use Rattle.node_core.specs.Running.{RunningNode}
use Rattle.world_core.specs.declared.state.State.{State}
use Rattle.world_core.specs.NodeStates.{after_restart, registers_of, table_of}
use Rattle.world_core.specs.Standing.{Knows, KnowsPlace, NodeStands}
use Rattle.world_core.proofs.Beaconed.{listens_stand}
use Rattle.world_core.proofs.QuietSteps.{Quiet, kind_next, quiet_heard, quiet_kind, quiet_last, recall_quiet, registers_stand}
use Rattle.world_core.proofs.WorldRight.{RightWorld, all}

-- a step of the last event's hyperperiod, at its entry
abbrev step_here : List Step → List Mark → Outcome → Step
step_here ds marks out = record { spot = last_spot ds; next = next_place ds; marks = marks; out = out }

module _ (y : System) (w : RightWorld y) (v : ℕ) (es : List PlainEvent) (rf : RequestsFit y es) (marks : List Mark) (out : Outcome) where
  abbrev ds : List Step
  ds = history y es

  abbrev e' : Step
  e' = step_here ds marks out

  now_same : now_after y ds ≡ now_after y (e' ∷ ds)
  now_same = now_is y (all y w) es rf

  knows_here : (r : RunningNode) → Quiet v out → Knows y v ds r → Knows y v (e' ∷ ds) r
  knows_here r q k =
      let d = k.place.0 in
      let old = k.place.2 in
      let l = last_spot ds in
      let place : KnowsPlace y (e' ∷ ds) d r = record {
        mode = old.mode;
        round = old.round;
        at_beacon = old.at_beacon ∙ ap (λ t. nat_eq t (moment y d)) now_same;
        begun = λ b. let z = old.begun b in (z.0 ∙ ap (λ t. pos (t - l.begin)) now_same, z.1, z.2);
        turned = old.turned;
      } in
      record { heard = quiet_heard v e' ds q.no_beacon ∙ k.heard; place = (d, quiet_last e' ds q.no_beacon ∙ k.place.1, place) }

  quiet_stands : (n : State) → Quiet v out → ((a : ℕ) → last_end a out ≡ None) → ((b i : ℕ) → last_in v b i out ≡ None) → last_run v out ≡ None → NodeStands y v ds n → NodeStands y v (e' ∷ ds) n
  quiet_stands n q ends ins run st =
      let l = last_spot ds in
      record {
        table = st.table;
        kind = st.kind ∙ sym (quiet_kind v e' ds q);
        knows = λ r h. knows_here r q (st.knows r h);
        registers = registers_stand (plan_at y l.hyper.mode) v l.stay ds (e' ∷ ds) (registers_of n)
            (λ a. recall_quiet v l.stay (last_end a) e' ds q refl (ends a))
            (λ b i. recall_quiet v l.stay (last_in v b i) e' ds q refl (ins b i))
            (recall_quiet v l.stay (last_run v) e' ds q refl run)
            st.registers;
      }

-- a request leaves each node
pub request_stands : (y : System) (w : RightWorld y) (v : ℕ) (es : List PlainEvent) (rf : RequestsFit y es) (m : ℕ) (n : State) → NodeStands y v (history y es) n →
    NodeStands y v (step_of y (request m) (history y es) ∷ history y es) n
request_stands y w v es rf m n st =
    let d = step_of y (request m) (history y es) in
    quiet_stands y w v es rf d.marks d.out n (record { no_beacon = refl; up = refl }) (λ a. refl) (λ b i. refl) refl st

-- a restart of node u leaves each other node
pub restart_stands : (y : System) (w : RightWorld y) (v : ℕ) (es : List PlainEvent) (rf : RequestsFit y es) (u : ℕ) (n : State) → NodeStands y v (history y es) n →
    NodeStands y v (step_of y (restart u) (history y es) ∷ history y es) (cond (nat_eq u v) (after_restart n) n)
restart_stands y w v es rf u n st =
    let ds = history y es in
    let d = step_of y (restart u) ds in
    ⊎_elim
    (λ (h : nat_eq u v ≡ true).
    let k = kind_by (synced v ds) (settled v ds) (coasts v ds) in
    let kind = kind_next v d ds ∙ cond-true (nat_eq u v) listening (cond (is_beacon d.out) (cond (hears v d.out) (in_sync (announces d)) (missed k)) k) h in
    subst (λ (b : Bool). NodeStands y v (d ∷ ds) (cond b (after_restart n) n)) (sym h) (listens_stand y v (d ∷ ds) (table_of n) st.table (sym kind)))
    (λ (h : nat_eq u v ≡ false).
    subst (λ (b : Bool). NodeStands y v (d ∷ ds) (cond b (after_restart n) n)) (sym h)
    (quiet_stands y w v es rf d.marks d.out n (record { no_beacon = refl; up = h }) (λ a. refl) (λ b i. refl) refl st))
    (cases_Bool (nat_eq u v))
