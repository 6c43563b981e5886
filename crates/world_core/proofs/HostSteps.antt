-- The host of a world: it stands for the calls that the events make of it
use Rattle.std.proofs.Common.{◌≡◌, ℕ, suc, Bool, true, false, List, [], ◌∷◌, ◌++◌, refl, sym, ◌∙◌, ap, ⊎_elim}
use Rattle.std.specs.Prelude.{Option}
use Rattle.std.proofs.lemmas.Bool.{cases_Bool, cond-true, cond-false}
use Rattle.runtime_model.specs.Timeline.{Mark, timeline_of}
use Rattle.runtime_model.specs.HostCalls.{HostCall, PlainHost, AllMay, call_state, host_of, host_after, after_call}
use Rattle.runtime_model.specs.Laws.{PlansAreRight, RequestsFit}
use Rattle.runtime_model.specs.Outcomes.{PlainEvent, Step}
use Rattle.runtime_model.specs.LookingBack.{last_beacon}
use Rattle.runtime_model.specs.HostOfEvents.{schedule_counts, calls_of}
use Rattle.runtime_model.specs.System.{System}
use Rattle.runtime_model.specs.History.{history, last_spot, marks_of}
use Rattle.runtime_model.proofs.HostEvents.{hosts_follow_events}
use Rattle.runtime_model.proofs.HostRounds.{rounds_are_begun}
use Rattle.runtime_model.proofs.Hosts.{hosts_keep_time}
use Rattle.mode_change.specs.HostSeen.{HostSeen, with_call}
use Rattle.world_core.specs.Standing.{place_of_round, round_after}

-- ---- a host by its calls is a host by its timeline

-- the host after the calls that these steps make of it
abbrev pub host_by_calls : System → List Step → PlainHost
host_by_calls y ds = host_after (schedule_counts y) (calls_of y ds)

-- the host of the timeline of these steps
abbrev pub host_by_time : System → List Step → PlainHost
host_by_time y ds = host_of (timeline_of (marks_of ds)) (round_after y ds) (last_spot ds).hyper.begun

pub hosts_agree : (y : System) (right : PlansAreRight y) (es : List PlainEvent) → RequestsFit y es → host_by_calls y (history y es) ≡ host_by_time y (history y es)
hosts_agree y right es rf =
    let ds = history y es in
    let s = call_state (schedule_counts y) (calls_of y ds) in
    let follows = hosts_follow_events y right es rf in
    let begun : s.inside ≡ (last_spot ds).hyper.begun = rounds_are_begun y right es rf in
    let round : s.round ≡ round_after y ds =
    ⊎_elim
    (λ (h : s.inside ≡ true).
    let last = follows.inside h in
    last.2 ∙ ap (λ (o : Option Step). suc (place_of_round y o)) (sym last.1)
    ∙ sym (cond-true (last_spot ds).hyper.begun (suc (place_of_round y (last_beacon ds))) 1 (sym begun ∙ h)))
    (λ (h : s.inside ≡ false).
    follows.outside h ∙ sym (cond-false (last_spot ds).hyper.begun (suc (place_of_round y (last_beacon ds))) 1 (sym begun ∙ h)))
    (cases_Bool s.inside) in
    ap (λ (ms : List Mark). host_of (timeline_of ms) s.round s.inside) follows.marks
    ∙ ap (λ (n : ℕ). host_of (timeline_of (marks_of ds)) n s.inside) round
    ∙ ap (λ (b : Bool). host_of (timeline_of (marks_of ds)) (round_after y ds) b) begun

-- ---- further calls

-- a host after these calls, the latest first
abbrev pub host_with : HostSeen → List HostCall → HostSeen
host_with h [] = h
host_with h (c ∷ cs) = with_call (host_with h cs) c

pub same_counts : (h : HostSeen) (cs : List HostCall) → (host_with h cs).rounds ≡ h.rounds
same_counts h [] = refl
same_counts h (c ∷ cs) = same_counts h cs

pub same_firsts : (h : HostSeen) (cs : List HostCall) → (host_with h cs).firsts ≡ h.firsts
same_firsts h [] = refl
same_firsts h (c ∷ cs) = same_firsts h cs

-- after calls whose conditions hold the host stands for them behind the older ones
pub calls_follow : (rounds : List ℕ) (h : HostSeen) (cs older : List HostCall) → h.rounds ≡ rounds → h.host ≡ host_after rounds older → AllMay rounds (cs ++ older) →
    (host_with h cs).host ≡ host_after rounds (cs ++ older)
calls_follow rounds h [] older r e may = e
calls_follow rounds h (c ∷ cs) older r e may =
    let before = calls_follow rounds h cs older r e may.1 in
    ap (λ (k : List ℕ). after_call k (host_with h cs).host c) (same_counts h cs ∙ r)
    ∙ ap (λ (k : PlainHost). after_call rounds k c) before
    ∙ hosts_keep_time rounds (cs ++ older) c may
