-- A system whose bodies answer otherwise after the steps of a list of events: up to there nothing differs
use Rattle.std.proofs.Common.{◌≡◌, ℕ, suc, ◌-◌, ◌≤◌, Bool, true, false, cond, ◌&&◌, List, [], ◌∷◌, length, refl, sym, ◌∙◌, ap, subst, arith, pos, ℤ}
use Rattle.std.specs.Prelude.{nat_eq, Option, Some, None}
use Rattle.std.proofs.lemmas.Bool.{cond-true, cond-false, eq-eqb, ne_eqb}
use Rattle.sched_model.specs.PlainMode.{task_at}
use Rattle.runtime_model.specs.Entries.{Action, task_ends, beacon, slot, task_starts}
use Rattle.runtime_model.specs.Inputs.{inputs}
use Rattle.runtime_model.specs.Laws.{RequestsFit}
use Rattle.runtime_model.specs.LookingBack.{last_beacon, runs}
use Rattle.runtime_model.specs.HostOfEvents.{beacon_place}
use Rattle.runtime_model.specs.HostCalls.{host_of}
use Rattle.runtime_model.specs.Timeline.{timeline_of}
use Rattle.runtime_model.specs.Outcomes.{PlainEvent, advance, request, restart, Outcome, beaconed, sent, silent, started, off, finished, void, requested, restarted, Spot, Step}
use Rattle.runtime_model.specs.Placement.{placed, own_start, run_at}
use Rattle.runtime_model.specs.Plans.{Plan, node_of}
use Rattle.runtime_model.specs.System.{System, plan_at, system_of}
use Rattle.runtime_model.specs.History.{history, step_of, spot_next, entry_at, performed, start_or_not, last_spot, marks_next, marks_of, moment, now_after}
use Rattle.node_core.specs.Running.{RunningNode}
use Rattle.world_core.specs.declared.state.State.{State}
use Rattle.world_core.specs.KeptWorlds.{IsWorld}
use Rattle.world_core.specs.Standing.{HostStands, KeepsPlans, KeepsTime, Knows, KnowsPlace, NodeStands, Stands, place_of_round}
use Rattle.world_core.specs.Worlds.{WorldSeen, node_at}

-- the history of events has a step for each
pub history_length : (y : System) (es : List PlainEvent) → length (history y es) ≡ length es
history_length y [] = refl
history_length y (e ∷ es) = ap suc (history_length y es)

-- the system with these answers after n steps
abbrev pub answers_at : System → ℕ → (ℕ → List (Option ℤ) → ℤ) → System
answers_at y n value = record y { answers = λ ds number ins. cond (nat_eq (length ds) n) (value number ins) (y.answers ds number ins) }

module _ (y : System) (n : ℕ) (value : ℕ → List (Option ℤ) → ℤ) where
  abbrev y' : System
  y' = answers_at y n value

  performed_same : (p : Plan) (s : Spot) (lost : ℕ) (ds : List Step) (u : ℕ) (w : Action) → nat_eq (length ds) n ≡ false → performed y' p s lost ds u w ≡ performed y p s lost ds u w
  performed_same p s lost ds u (task_ends a) e = refl
  performed_same p s lost ds u (beacon j) e = refl
  performed_same p s lost ds u (slot j i) e = refl
  performed_same p s lost ds u (task_starts a) e = by_test (placed s.hyper.opening s.hyper.phase (own_start p u a) && runs (node_of p a) ds)
    where
      by_test : (b : Bool) → start_or_not y' p s ds a u b ≡ start_or_not y p s ds a u b
      by_test false = refl
      by_test true =
          let number = (task_at p.mode a).number in
          let k = run_at p s.turn u a in
          let ins = inputs p s.stay a k ds in
          ap (λ (z : ℤ). started (node_of p a) a k ins z) (cond-false (nat_eq (length ds) n) (value number ins) (y.answers ds number ins) e)

  step_same : (e : PlainEvent) (ds : List Step) → nat_eq (length ds) n ≡ false → step_of y' e ds ≡ step_of y e ds
  step_same (advance lost) ds e =
      let s = spot_next y ds in
      let entry = entry_at y s in
      ap (λ (o : Outcome). let d : Step = record { spot = s; next = suc s.index; marks = marks_next y ds; out = o } in d) (performed_same (plan_at y s.hyper.mode) s lost ds entry.tick entry.action e)
  step_same (request m) ds e = refl
  step_same (restart v) ds e = refl

  -- up to n events the histories are the same
  pub same_history : (es : List PlainEvent) → length es ≤ n → history y' es ≡ history y es
  same_history [] l = refl
  same_history (e ∷ es) l =
      let ds = history y es in
      let far : nat_eq (length ds) n ≡ false = ne_eqb (length ds) n (λ q. omega (arith, q, l, history_length y es)) in
      ap (λ (xs : List Step). step_of y' e xs ∷ xs) (same_history es (omega (arith, l)))
      ∙ ap (λ (d : Step). d ∷ ds) (step_same e ds far)

  -- after n steps the bodies answer the values
  pub answers_there : (ds : List Step) → length ds ≡ n → (number : ℕ) (ins : List (Option ℤ)) → y'.answers ds number ins ≡ value number ins
  answers_there ds l number ins = cond-true (nat_eq (length ds) n) (value number ins) (y.answers ds number ins) (eq-eqb (length ds) n l)

  pub requests_fit : (es : List PlainEvent) → RequestsFit y es → RequestsFit y' es
  requests_fit [] f = f
  requests_fit (advance lost ∷ es) f = requests_fit es f
  requests_fit (request m ∷ es) f = (f.0, requests_fit es f.1)
  requests_fit (restart v ∷ es) f = requests_fit es f

  -- ---- what stands for steps does not depend on answers

  now_same : (ds : List Step) → now_after y ds ≡ now_after y' ds
  now_same [] = refl
  now_same (d ∷ ds) = refl

  place_same : (d : Step) (o : Outcome) → beacon_place y d o ≡ beacon_place y' d o
  place_same d (beaconed b hs) = refl
  place_same d (sent w i k xs ts) = refl
  place_same d (silent i) = refl
  place_same d (started w a k ins x) = refl
  place_same d (off w a) = refl
  place_same d (finished w a k x) = refl
  place_same d (void w a) = refl
  place_same d (requested m) = refl
  place_same d (restarted w) = refl

  round_same : (o : Option Step) → place_of_round y o ≡ place_of_round y' o
  round_same None = refl
  round_same (Some d) = place_same d d.out

  knows_same : (v : ℕ) (ds : List Step) (r : RunningNode) → Knows y v ds r → Knows y' v ds r
  knows_same v ds r k =
      let d = k.place.0 in
      let old = k.place.2 in
      let begin = (last_spot ds).begin in
      let place : KnowsPlace y' ds d r = record {
        mode = old.mode;
        round = old.round ∙ place_same d d.out;
        at_beacon = old.at_beacon ∙ ap (λ (t : ℕ). nat_eq t (moment y d)) (now_same ds);
        begun = λ b. let z = old.begun b in (z.0 ∙ ap (λ (t : ℕ). pos (t - begin)) (now_same ds), z.1, z.2);
        turned = old.turned;
      } in
      record { heard = k.heard; place = (d, k.place.1, place) }

  node_same : (v : ℕ) (ds : List Step) (s : State) → NodeStands y v ds s → NodeStands y' v ds s
  node_same v ds s st = record { table = st.table; kind = st.kind; knows = λ r h. knows_same v ds r (st.knows r h); registers = st.registers }

  stands_same : (x : WorldSeen) (ds : List Step) → Stands y x ds → Stands y' x ds
  stands_same x ds st =
      let plans : KeepsPlans y' x = record {
        nodes = st.plans.nodes;
        host_node = st.plans.host_node;
        cycles = st.plans.cycles;
        hypers = st.plans.hypers;
        owners = st.plans.owners;
        rounds = st.plans.rounds;
        firsts = st.plans.firsts;
      } in
      let time : KeepsTime y' x ds = record { place = st.time.place; begin = st.time.begin; moment = st.time.moment ∙ ap pos (now_same ds) } in
      let begun = (last_spot ds).hyper.begun in
      let host : HostStands y' x ds = st.host ∙ ap (λ (r : ℕ). host_of (timeline_of (marks_of ds)) (cond begun (suc r) 1) begun) (round_same (last_beacon ds)) in
      record { plans = plans; time = time; host = host; each = λ v h. node_same v ds (node_at x v) (st.each v h); fits = st.fits }

  -- a world that stands for at most n events stands for them where the bodies answer otherwise after n
  pub stands_too : (es : List PlainEvent) → length es ≤ n → (x : WorldSeen) → Stands y x (history y es) → Stands y' x (history y' es)
  stands_too es l x st = subst (Stands y' x) (sym (same_history es l)) (stands_same x (history y es) st)

  -- and so the bodies answer the values after n events
  pub answers_after : (es : List PlainEvent) → length es ≡ n → (number : ℕ) (ins : List (Option ℤ)) → y'.answers (history y' es) number ins ≡ value number ins
  answers_after es l = answers_there (history y' es) (history_length y' es ∙ l)

-- ---- every world

-- a world is one whose bodies answer whatever values come next
abbrev pub answering : (w : WorldSeen) → IsWorld w → (ℕ → List (Option ℤ) → ℤ) → IsWorld w
answering w k value =
    let y = system_of k.set k.schedules k.answers in
    let n = length k.events in
    record {
      set = k.set;
      schedules = k.schedules;
      answers = (answers_at y n value).answers;
      events = k.events;
      rules = k.rules;
      right = k.right;
      requests = requests_fit y n value k.events k.requests;
      stands = stands_too y n value k.events (omega arith) w k.stands;
      one_each = k.one_each;
    }

pub answering_gives : (w : WorldSeen) (k : IsWorld w) (value : ℕ → List (Option ℤ) → ℤ) (number : ℕ) (ins : List (Option ℤ)) →
    let k' = answering w k value in
    k'.answers (history (system_of k'.set k'.schedules k'.answers) k'.events) number ins ≡ value number ins
answering_gives w k value number ins = answers_after (system_of k.set k.schedules k.answers) (length k.events) value k.events refl number ins
