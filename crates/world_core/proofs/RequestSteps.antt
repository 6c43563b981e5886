-- A request of a world: it goes on to stand for the events with it
use Rattle.std.proofs.Common.{◌≡◌, ℕ, ◌<◌, List, [], ◌∷◌, length, sym, ◌∙◌, ap, pos, ℤ}
use Rattle.runtime_model.specs.HostCalls.{request_call}
use Rattle.runtime_model.specs.Laws.{RequestsFit}
use Rattle.runtime_model.specs.Outcomes.{PlainEvent, request}
use Rattle.runtime_model.specs.HostOfEvents.{schedule_counts, calls_of}
use Rattle.runtime_model.specs.System.{System}
use Rattle.runtime_model.specs.History.{history, step_of}
use Rattle.runtime_model.proofs.FirstTicks.{now_is, request_now}
use Rattle.runtime_model.proofs.HostEvents.{hosts_follow_events}
use Rattle.world_core.specs.declared.happened.Happened.TheVariants.{Requested}
use Rattle.world_core.specs.Happened.{happened}
use Rattle.world_core.specs.Standing.{KeepsPlans, KeepsTime, HostStands, Stands}
use Rattle.world_core.specs.Worlds.{WorldSeen, node_at}
use Rattle.world_core.specs.WorldSteps.{after_request}
use Rattle.world_core.proofs.HostSteps.{calls_follow, hosts_agree}
use Rattle.world_core.proofs.OtherEvents.{request_stands}
use Rattle.world_core.proofs.WorldRight.{RightWorld, all}

module _ (y : System) (w : RightWorld y) (es : List PlainEvent) (rf : RequestsFit y es) (m : ℕ) (l : m < length y.plans) (x : WorldSeen) (st : Stands y x (history y es)) where
  -- the host keeps the request
  request_host : HostStands y (after_request x m) (history y (request m ∷ es))
  request_host =
      let ds = history y es in
      calls_follow (schedule_counts y) x.host (request_call m ∷ []) (calls_of y ds) st.plans.rounds (st.host ∙ sym (hosts_agree y w.plans es rf))
      (hosts_follow_events y w.plans (request m ∷ es) (l, rf)).each_may
      ∙ hosts_agree y w.plans (request m ∷ es) (l, rf)

  pub after_request_stands : Stands y (after_request x m) (history y (request m ∷ es))
  after_request_stands =
      let plans : KeepsPlans y (after_request x m) = record {
        nodes = st.plans.nodes;
        host_node = st.plans.host_node;
        cycles = st.plans.cycles;
        hypers = st.plans.hypers;
        owners = st.plans.owners;
        rounds = st.plans.rounds;
        firsts = st.plans.firsts;
      } in
      let time : KeepsTime y (after_request x m) (history y (request m ∷ es)) = record {
        place = st.time.place;
        begin = st.time.begin;
        moment = st.time.moment ∙ ap pos (sym (request_now y (all y w) es m (l, rf)));
      } in
      record { plans = plans; time = time; host = request_host; each = λ v h. request_stands y w v es rf m (node_at x v) (st.each v h); fits = st.fits }

  -- it answers what happened
  pub request_told : Requested x.moment m ≡ happened y (step_of y (request m) (history y es))
  request_told = ap (λ (t : ℤ). Requested t m) (st.time.moment ∙ ap pos (now_is y (all y w) es rf))
