-- A step of a world keeps what is kept of every world, and the world goes on to stand
use Rattle.std.proofs.Common.{◌≡◌, ℕ, ◌<◌, ◌≤◌, List, ◌∷◌, length, map, All, sym, ◌∙◌, ap, subst, arith, pos, ◌≤ℤ◌}
use Rattle.std.proofs.lemmas.List.{length-map}
use Rattle.app_graph.specs.declared.mode_set.ModeSet.{ModeSet}
use Rattle.sched_model.specs.PlainMode.{PlainTask, plain_at}
use Rattle.sched_model.proofs.LimitedModes.{mode_at_limited}
use Rattle.sched_model.proofs.TaskNumbers.{few_modes}
use Rattle.task_body.specs.Body.{BodySeen}
use Rattle.sched_model.specs.declared.schedule.Schedule.{Schedule}
use Rattle.runtime_model.specs.Outcomes.{PlainEvent, advance, request, restart}
use Rattle.runtime_model.specs.History.{history, step_of}
use Rattle.world_core.specs.Happened.{happened}
use Rattle.world_core.specs.declared.happened.Event.{Event}
use Rattle.world_core.specs.declared.happened.Event.TheVariants.{Advance, Request, Restart}
use Rattle.world_core.specs.declared.happened.Happened.{Happened}
use Rattle.world_core.specs.declared.happened.Happened.TheVariants.{Requested, Restarted}
use Rattle.world_core.specs.KeptWorlds.{IsWorld, MayHappen}
use Rattle.world_core.specs.StandsFor.{StandsFor, plain_event, system_with}
use Rattle.world_core.specs.WorldGoesOn.{GoesOn}
use Rattle.world_core.specs.Worlds.{WorldSeen}
use Rattle.world_core.specs.WorldSteps.{MayAdvance, advance_told, advanced, after_request, bodies_advanced, bodies_reset, node_restarted}
use Rattle.world_core.proofs.AdvancedWorlds.{advance_stands_for, advance_tells, world_may}
use Rattle.world_core.proofs.CycleLengths.{length_flat}
use Rattle.world_core.proofs.OtherSteps.{cycle_count, request_stands_for, request_tells, restart_stands_for, restart_tells}
use Rattle.world_core.proofs.OwnerLemmas.{owners_same}
use Rattle.world_core.proofs.TaskNumbers.{owners_of_plans}

-- ---- conditions

pub may_advance : (x x0 : WorldSeen) (k : IsWorld x) (bodies lost : ℕ) → x ≡ x0 → x0.moment ≤ℤ pos 9000000000000000000 → All (λ b. b < bodies) x0.places → MayAdvance x bodies lost
may_advance x x0 k bodies lost e now each =
    world_may x k bodies lost
    (λ number l. subst (λ (z : WorldSeen). All (λ b. b < bodies) z.places) (sym e) each number 0 l)
    (subst (λ (z : WorldSeen). z.moment ≤ℤ pos 9000000000000000000) (sym e) now)

-- a world has at most 1,024 tasks
pub few_owners : (x : WorldSeen) → IsWorld x → length x.owners ≤ 1024
few_owners x k =
    let set = k.set in
    let each = length_flat (λ i. map (λ (t : PlainTask). t.node) (plain_at set i).tasks) (length set.modes) 128
    (λ i l. let t = (mode_at_limited set k.rules i l).tasks in let e = length-map (plain_at set i).tasks (λ (t : PlainTask). t.node) in omega (arith, t, e)) in
    let whole = ap length (k.stands.plans.owners ∙ owners_of_plans set k.schedules ∙ owners_same set) in
    let modes = few_modes set k.rules in
    omega (arith, each, whole, modes)

pub mode_named : (x x0 : WorldSeen) (m : ℕ) (e : Event) → x ≡ x0 → e ≡ Request m → MayHappen x0 e → m < length x.cycles
mode_named x x0 m e same is may = subst (λ (z : WorldSeen). m < length z.cycles) (sym same) (subst (MayHappen x0) is may)

pub node_named : (x x0 : WorldSeen) (v : ℕ) (e : Event) → x ≡ x0 → e ≡ Restart v → MayHappen x0 e → v < length x.nodes
node_named x x0 v e same is may = subst (λ (z : WorldSeen). v < length z.nodes) (sym same) ((subst (MayHappen x0) is may).0)

-- ---- the world goes on

-- what GoesOn promises of one set, schedules, bodies and events
abbrev Promised : WorldSeen → List BodySeen → Event → Happened → ModeSet → List Schedule → List BodySeen → List PlainEvent → Type 0
Promised new after event answer set schedules made es =
    StandsFor set schedules made new after (plain_event event ∷ es)
    × (answer ≡ happened (system_with set schedules made) (step_of (system_with set schedules made) (plain_event event) (history (system_with set schedules made) es)))

pub advance_goes_on : (x x0 z : WorldSeen) (now after : List BodySeen) (lost : ℕ) (e : Event) (h : Happened) →
    x ≡ x0 → e ≡ Advance lost → z ≡ advanced x now lost → after ≡ bodies_advanced x now → h ≡ advance_told x lost → GoesOn x0 now z after e h
advance_goes_on x x0 z now after lost e h same is state bodies told set schedules made es keeps are have rf st0 =
    let st = subst (λ (w : WorldSeen). StandsFor set schedules made w now es) (sym same) st0 in
    subst (λ (v : Event). Promised z after v h set schedules made es) (sym is) (
      subst (λ (w : WorldSeen). StandsFor set schedules made w after (advance lost ∷ es)) (sym state)
          (subst (λ (b : List BodySeen). StandsFor set schedules made (advanced x now lost) b (advance lost ∷ es)) (sym bodies) (advance_stands_for set schedules made keeps are have x now es rf st lost)),
      told ∙ advance_tells set schedules made keeps are have x now es rf st lost,
    )

pub request_goes_on : (x x0 z : WorldSeen) (now after : List BodySeen) (m : ℕ) (e : Event) (h : Happened) → m < length x.cycles →
    x ≡ x0 → e ≡ Request m → z ≡ after_request x m → after ≡ now → h ≡ Requested x.moment m → GoesOn x0 now z after e h
request_goes_on x x0 z now after m e h inside same is state bodies told set schedules made es keeps are have rf st0 =
    let st = subst (λ (w : WorldSeen). StandsFor set schedules made w now es) (sym same) st0 in
    let y = system_with set schedules made in
    let l : m < length y.plans = omega (arith, inside, cycle_count y x st.world.plans) in
    subst (λ (v : Event). Promised z after v h set schedules made es) (sym is) (
      subst (λ (w : WorldSeen). StandsFor set schedules made w after (request m ∷ es)) (sym state)
          (subst (λ (b : List BodySeen). StandsFor set schedules made (after_request x m) b (request m ∷ es)) (sym bodies) (request_stands_for set schedules made keeps are x now es rf st m l)),
      told ∙ request_tells set schedules made keeps are x now es rf st m l,
    )

pub restart_goes_on : (x x0 z : WorldSeen) (now after : List BodySeen) (v : ℕ) (e : Event) (h : Happened) → v < length x.nodes →
    x ≡ x0 → e ≡ Restart v → z ≡ node_restarted x v → after ≡ bodies_reset x v now → h ≡ Restarted x.moment v → GoesOn x0 now z after e h
restart_goes_on x x0 z now after v e h inside same is state bodies told set schedules made es keeps are have rf st0 =
    let st = subst (λ (w : WorldSeen). StandsFor set schedules made w now es) (sym same) st0 in
    let y = system_with set schedules made in
    let l : v < y.nodes = omega (arith, inside, st.world.plans.nodes) in
    subst (λ (w : Event). Promised z after w h set schedules made es) (sym is) (
      subst (λ (w : WorldSeen). StandsFor set schedules made w after (restart v ∷ es)) (sym state)
          (subst (λ (b : List BodySeen). StandsFor set schedules made (node_restarted x v) b (restart v ∷ es)) (sym bodies) (restart_stands_for set schedules made keeps are x now es rf st v l)),
      told ∙ restart_tells set schedules made keeps are x now es rf st v l,
    )
