-- A world after a beacon
use Rattle.std.proofs.Common.{◌≡◌, ℕ, suc, ◌+◌, ◌<◌, Bool, true, false, cond, List, [], ◌∷◌, ◌++◌, length, sym, ◌∙◌, ap, subst, arith}
use Rattle.std.specs.Prelude.{nat_eq, Option, slice_index_or}
use Rattle.std.proofs.lemmas.Bool.{cond-true, cond-false}
use Rattle.std.proofs.lemmas.List.{length-map}
use Rattle.sched_model.specs.Numbers.{below}
use Rattle.sched_model.proofs.Lists.{get_or-map_below, length-below}
use Rattle.beacon_codec.specs.declared.packet.Beacon.{Beacon}
use Rattle.task_body.specs.Body.{BodySeen}
use Rattle.runtime_model.specs.HostCalls.{HostCall, PlainHost, next_beacon_call, end_round_call, AllMay, host_after}
use Rattle.runtime_model.specs.Entries.{beacon}
use Rattle.runtime_model.specs.Laws.{RequestsFit}
use Rattle.runtime_model.specs.LookingBack.{last_beacon}
use Rattle.runtime_model.specs.Outcomes.{PlainBeacon, beacon_of, PlainEvent, advance, Step, Spot}
use Rattle.runtime_model.specs.Packets.{reached}
use Rattle.runtime_model.specs.Plans.{first_round, first_rounds}
use Rattle.runtime_model.specs.HostOfEvents.{schedule_counts, calls_of, own_calls}
use Rattle.runtime_model.specs.System.{System, plan_at}
use Rattle.runtime_model.specs.History.{history, step_of, spot_next, entry_at, turns, beacon_at}
use Rattle.runtime_model.proofs.HostRounds.{first_rounds_are}
use Rattle.mode_change.specs.HostSeen.{HostSeen, with_call, round_number}
use Rattle.world_core.specs.declared.cycle.Action.TheVariants.{Beacon as Opens}
use Rattle.world_core.specs.declared.happened.Happened.TheVariants.{Beacon as Beaconed}
use Rattle.world_core.specs.declared.state.State.{State}
use Rattle.world_core.specs.Happened.{bits_of, happened, told_at, typed_beacon}
use Rattle.world_core.specs.NodeStates.{StateFits, no_state}
use Rattle.world_core.specs.Nodes.{at, all_told, hearers, heard_or_missed, AllMayBeTold, MayHearOrMiss}
use Rattle.world_core.specs.Standing.{Stands, NodeStands, place_of_round}
use Rattle.world_core.specs.Worlds.{WorldSeen}
use Rattle.world_core.specs.WorldSteps.{beacon_now, host_at_beacon, performed, told}
use Rattle.world_core.proofs.Arriving.{end_calls, entered, there_is, next_calls, next_may, some_mode}
use Rattle.world_core.proofs.Beaconed.{begun_now, last_now}
use Rattle.world_core.proofs.BeaconEntries.{may_hear_or_miss, out_is, place_now}
use Rattle.world_core.proofs.EntryWorlds.{nodes_there, entry_node, entry_fits, stands_after}
use Rattle.world_core.proofs.HostSteps.{host_by_calls, host_by_time, hosts_agree, host_with, same_counts, same_firsts, calls_follow}
use Rattle.world_core.proofs.MissedBeacons.{beacon_stands}
use Rattle.world_core.proofs.NodeLimits.{told_fits}
use Rattle.world_core.proofs.WorldRight.{RightWorld}

-- the calls of a beacon: the host first ends the round that it is in
abbrev beacon_calls : Bool → List HostCall
beacon_calls first = next_beacon_call ∷ cond first [] (end_round_call ∷ [])

-- what the host does at a beacon are these calls, where their conditions hold
does_calls : (rounds : List ℕ) (h : HostSeen) (older : List HostCall) (first : Bool) → h.host ≡ host_after rounds older → AllMay rounds (beacon_calls first ++ older) → host_at_beacon h ≡ host_with h (beacon_calls first)
does_calls rounds h older true e may =
    ap (λ (z : HostSeen). with_call z next_beacon_call) (cond-false h.host.inside (with_call h end_round_call) h (ap (λ (z : PlainHost). z.inside) e ∙ may.0))
does_calls rounds h older false e may =
    ap (λ (z : HostSeen). with_call z next_beacon_call) (cond-true h.host.inside (with_call h end_round_call) h (ap (λ (z : PlainHost). z.inside) e ∙ may.1.0))

module _ (y : System) (w : RightWorld y) (some : 0 < y.nodes) (es : List PlainEvent) (rf : RequestsFit y es) (lost : ℕ) (x : WorldSeen) (st : Stands y x (history y es))
    (j : ℕ) (act : (entry_at y (spot_next y (history y es))).action ≡ beacon j) where
  abbrev ds : List Step
  ds = history y es

  abbrev s : Spot
  s = spot_next y ds

  abbrev d' : Step
  d' = step_of y (advance lost) ds

  abbrev here : WorldSeen
  here = entered y w es rf lost x st

  abbrev rounds : List ℕ
  rounds = schedule_counts y

  abbrev older : List HostCall
  older = end_calls (turns y ds) ++ calls_of y ds

  -- the beacon that is sent
  abbrev sent : PlainBeacon
  sent = beacon_at y s.hyper j

  -- its round is the first one of its mode
  abbrev first : Bool
  first = nat_eq sent.round (first_round y.plans s.hyper.mode)

  -- ---- the host

  own_are : own_calls y d' d'.out ≡ beacon_calls first
  own_are = ap (own_calls y d') (out_is y w 0 some es rf lost j act)

  may : AllMay rounds (beacon_calls first ++ older)
  may = subst (λ (cs : List HostCall). AllMay rounds (cs ++ older)) own_are (next_may y w es rf lost)

  abbrev host_now : HostSeen
  host_now = host_at_beacon here.host

  host_does : host_now ≡ host_with here.host (beacon_calls first)
  host_does = does_calls rounds here.host older first (there_is y w es rf lost x st) may

  pub host_is : host_now.host ≡ host_by_calls y (d' ∷ ds)
  host_is =
      ap (λ (z : HostSeen). z.host) host_does
      ∙ calls_follow rounds here.host (beacon_calls first) older (same_counts x.host (end_calls (turns y ds)) ∙ st.plans.rounds) (there_is y w es rf lost x st) may
      ∙ ap (λ (cs : List HostCall). host_after rounds (cs ++ older)) (sym own_are)
      ∙ ap (host_after rounds) (sym (next_calls y w es rf lost))

  pub counts_stay : host_now.rounds ≡ x.host.rounds
  counts_stay = ap (λ (z : HostSeen). z.rounds) host_does ∙ same_counts here.host (beacon_calls first) ∙ same_counts x.host (end_calls (turns y ds))

  pub firsts_stay : host_now.firsts ≡ x.host.firsts
  firsts_stay = ap (λ (z : HostSeen). z.firsts) host_does ∙ same_firsts here.host (beacon_calls first) ∙ same_firsts x.host (end_calls (turns y ds))

  -- ---- the beacon

  by_time : host_now.host ≡ host_by_time y (d' ∷ ds)
  by_time = host_is ∙ hosts_agree y w.plans (advance lost ∷ es) rf

  round_is : host_now.host.round ≡ suc j
  round_is =
      ap (λ (z : PlainHost). z.round) by_time
      ∙ cond-true s.hyper.begun (suc (place_of_round y (last_beacon (d' ∷ ds)))) 1 (begun_now y w 0 some es rf lost j act)
      ∙ ap (λ (o : Option Step). suc (place_of_round y o)) (last_now y w 0 some es rf lost j act)
      ∙ ap suc (place_now y w 0 some es rf lost j act)

  number_is : round_number host_now ≡ first_round y.plans s.hyper.mode + j
  number_is =
      let at_first : slice_index_or host_now.firsts host_now.host.mode 0 ≡ first_round y.plans s.hyper.mode =
      ap (λ (f : List ℕ). slice_index_or f host_now.host.mode 0) (firsts_stay ∙ st.plans.firsts)
      ∙ ap (λ (m : ℕ). slice_index_or (first_rounds 1 rounds) m 0) (ap (λ (z : PlainHost). z.mode) by_time)
      ∙ first_rounds_are y s.hyper.mode (some_mode y w es rf lost) in
      omega (arith, at_first, round_is)

  pub beacon_is : beacon_now here ≡ typed_beacon sent
  beacon_is =
      ap (λ (n : ℕ). typed_beacon (beacon_of n host_now.host.mode host_now.host.phase host_now.host.opening)) number_is
      ∙ ap (λ (z : PlainHost). typed_beacon (beacon_of (first_round y.plans s.hyper.mode + j) z.mode z.phase z.opening)) by_time

  -- ---- the nodes

  abbrev told_nodes : List State
  told_nodes = all_told here.nodes (beacon_now here) lost here.host_node

  told_at_node : (v : ℕ) → v < y.nodes → at told_nodes v ≡ heard_or_missed (reached lost y.host v) (typed_beacon sent) (at here.nodes v)
  told_at_node v l =
      get_or-map_below (λ v. heard_or_missed (reached lost here.host_node v) (beacon_now here) (at here.nodes v)) (length here.nodes) v no_state (omega (arith, l, nodes_there y w es rf lost x st))
      ∙ ap (λ (h : ℕ). heard_or_missed (reached lost h v) (beacon_now here) (at here.nodes v)) st.plans.host_node
      ∙ ap (λ (b : Beacon). heard_or_missed (reached lost y.host v) b (at here.nodes v)) beacon_is

  may_hear : (v : ℕ) (l : v < y.nodes) → MayHearOrMiss (reached lost y.host v) (typed_beacon sent) (at here.nodes v)
  may_hear v l = may_hear_or_miss y w v l es rf lost j act (at here.nodes v) (entry_node y w es rf lost x st v l)

  pub may_tell : AllMayBeTold here.nodes (beacon_now here) lost here.host_node
  may_tell v l =
      let l' : v < y.nodes = omega (arith, l, nodes_there y w es rf lost x st) in
      subst (λ (h : ℕ). MayHearOrMiss (reached lost h v) (beacon_now here) (at here.nodes v)) (sym st.plans.host_node)
      (subst (λ (b : Beacon). MayHearOrMiss (reached lost y.host v) b (at here.nodes v)) (sym beacon_is) (may_hear v l'))

  -- ---- the world

  pub opens_stands : (bodies : List BodySeen) → Stands y (performed here bodies lost (Opens j)) (d' ∷ ds)
  opens_stands bodies =
      stands_after y w es rf lost x st told_nodes host_now
      (length-map (below (length here.nodes)) (λ v. heard_or_missed (reached lost here.host_node v) (beacon_now here) (at here.nodes v)) ∙ length-below (length here.nodes) ∙ nodes_there y w es rf lost x st)
      counts_stay firsts_stay host_is
      (λ v l. subst (NodeStands y v (d' ∷ ds)) (sym (told_at_node v l)) (beacon_stands y w v l es rf lost j act (at here.nodes v) (entry_node y w es rf lost x st v l)))
      (λ v l. subst StateFits (sym (told_at_node v l)) (told_fits (at here.nodes v) (reached lost y.host v) (typed_beacon sent) (entry_fits y w es rf lost x st v l) (may_hear v l)))

  pub opens_told_is : told here lost (Opens j) ≡ happened y d'
  opens_told_is =
      ap (λ (b : Beacon). Beaconed here.moment b (bits_of (hearers (length here.nodes) lost here.host_node))) beacon_is
      ∙ ap (λ (n : ℕ). Beaconed here.moment (typed_beacon sent) (bits_of (hearers n lost here.host_node))) (nodes_there y w es rf lost x st)
      ∙ ap (λ (h : ℕ). Beaconed here.moment (typed_beacon sent) (bits_of (hearers y.nodes lost h))) st.plans.host_node
      ∙ sym (ap (told_at here.moment (plan_at y s.hyper.mode)) (out_is y w 0 some es rf lost j act))
