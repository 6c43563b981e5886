-- A host goes on standing for its calls
use Rattle.std.proofs.Common.{◌≡◌, ℕ, ◌<◌, true, false, List, length, sym, ◌∙◌, ap, subst}
use Rattle.sched_model.specs.declared.schedule.Schedule.{Schedule}
use Rattle.runtime_model.specs.HostCalls.{HostCall, request_call, next_beacon_call, end_round_call, MayCall, call_state, after_call, PlainHost}
use Rattle.runtime_model.specs.Plans.{round_counts}
use Rattle.runtime_model.proofs.Hosts.{hosts_keep_time}
use Rattle.mode_change.specs.HostSeen.{HostSeen, with_call}
use Rattle.mode_change.specs.HostStands.{HostStands, GoesOn}

-- the condition of a call, on the host
abbrev pub HostMay : HostCall → HostSeen → Type 0
HostMay (request_call m) s = m < length s.rounds
HostMay next_beacon_call s = s.host.inside ≡ false
HostMay end_round_call s = s.host.inside ≡ true

may : (s : HostSeen) (c : HostCall) (schedules : List Schedule) (calls : List HostCall) → HostStands schedules s calls → HostMay c s → MayCall (round_counts schedules) c (call_state (round_counts schedules) calls)
may s (request_call m) schedules calls st h = subst (λ (rs : List ℕ). m < length rs) st.rounds h
may s next_beacon_call schedules calls st h = sym (ap (λ (x : PlainHost). x.inside) st.host) ∙ h
may s end_round_call schedules calls st h = sym (ap (λ (x : PlainHost). x.inside) st.host) ∙ h

-- a call whose condition holds is the timeline's next call
pub goes_on : (old new : HostSeen) (c : HostCall) → HostMay c old → new ≡ with_call old c → GoesOn old new c
goes_on old new c h e = subst (λ (n : HostSeen). GoesOn old n c) (sym e) (λ schedules calls st.
    let m = may old c schedules calls st h in
    record {
      host = ap (λ (rs : List ℕ). after_call rs old.host c) st.rounds ∙ ap (λ (x : PlainHost). after_call (round_counts schedules) x c) st.host ∙ hosts_keep_time (round_counts schedules) calls c (m, st.each_may);
      each_may = (m, st.each_may);
      rounds = st.rounds;
      firsts = st.firsts;
    })
