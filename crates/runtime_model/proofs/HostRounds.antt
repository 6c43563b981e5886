-- The host's round against the timeline, and the numbers of the modes' first rounds
use Rattle.std.proofs.Common.{◌≡◌, ℕ, zero, suc, ◌+◌, ◌<◌, Bool, true, false, cond, List, [], ◌∷◌, length, get_or, map, refl, sym, ◌∙◌, ap, arith, ◌⊎◌, inl, inr, ⊎_elim}
use Rattle.sched_model.specs.Numbers.{natural}
use Rattle.sched_model.specs.Rounds.{round_start}
use Rattle.runtime_model.specs.Entries.{beacon}
use Rattle.runtime_model.specs.Timeline.{Hyperperiod, timeline_of, request_in}
use Rattle.runtime_model.specs.HostCalls.{call_state}
use Rattle.runtime_model.specs.Plans.{Plan, round_counts, first_round, first_rounds}
use Rattle.runtime_model.specs.Outcomes.{PlainEvent, advance, request, restart}
use Rattle.runtime_model.specs.System.{System, plan_at}
use Rattle.runtime_model.specs.History.{history, last_spot, marks_of}
use Rattle.runtime_model.specs.HostOfEvents.{schedule_counts, calls_of, beacon_place}
use Rattle.runtime_model.specs.Laws.{RequestsFit, RoundsAreBegun}
use Rattle.runtime_model.proofs.Beacons.{Seen, Unseen}
use Rattle.runtime_model.proofs.Hosts.{fits, inside_fits, outside_fits}
use Rattle.runtime_model.proofs.HostEvents.{Comes, after}
use Rattle.runtime_model.proofs.Modes.{AllRight, all_right}
use Rattle.runtime_model.proofs.OutRegisters.{Is}

-- ---- the hyperperiod of the last event has begun exactly where the host is in a round

pub request_begun : (h : Hyperperiod) (m : ℕ) → (request_in h m).begun ≡ h.begun
request_begun h m = by_test h.begun
  where
    by_test : (b : Bool) → (cond b (record h { late = m ∷ h.late }) (record h { early = m ∷ h.early })).begun ≡ h.begun
    by_test true = refl
    by_test false = refl

-- a request leaves the last spot's hyperperiod begun or not
pub begun_stands : (y : System) (es : List PlainEvent) → (timeline_of (marks_of (history y es))).last.begun ≡ (last_spot (history y es)).hyper.begun
begun_stands y [] = refl
begun_stands y (request m ∷ es) = request_begun (timeline_of (marks_of (history y es))).last m ∙ begun_stands y es
begun_stands y (restart v ∷ es) = begun_stands y es
begun_stands y (advance lost ∷ es) = refl

-- where the last hyperperiod had a beacon the host is in that beacon's round, and the hyperperiod has begun; else neither
pub seen_or_unseen : (y : System) (right : AllRight y) (es : List PlainEvent) → RequestsFit y es → let ds = history y es in let s = call_state (schedule_counts y) (calls_of y ds) in
    (Seen y ds × (s.inside ≡ true) × ((last_spot ds).hyper.begun ≡ true)) ⊎ (Unseen y ds × (s.inside ≡ false) × ((last_spot ds).hyper.begun ≡ false))
seen_or_unseen y right es f =
    let ds = history y es in
    let cs = calls_of y ds in
    let s = call_state (schedule_counts y) cs in
    let w = after y right es f in
    let fit = fits (schedule_counts y) cs w.0 in
    ⊎_elim
    (λ (q : (h : Seen y ds) × (j : ℕ) × Is y (last_spot ds).hyper.mode h.done.spot.index (natural (round_start (plan_at y (last_spot ds).hyper.mode).schedule j)) (beacon j) × (beacon_place y h.done h.done.out ≡ j) × Comes s (marks_of ds) (suc j) true).
    inl (q.0, q.4.inside, sym (begun_stands y es) ∙ ap (λ ms. (timeline_of ms).last.begun) (sym q.4.marks) ∙ inside_fits s.round s.inside (timeline_of s.marks).last q.4.inside fit))
    (λ (q : Unseen y ds × Comes s (marks_of ds) 1 false).
    inr (q.0, q.1.inside, sym (begun_stands y es) ∙ ap (λ ms. (timeline_of ms).last.begun) (sym q.1.marks) ∙ (outside_fits s.round s.inside (timeline_of s.marks).last q.1.inside q.1.round fit).0))
    w.1

-- the host is in a round exactly where the hyperperiod of the last event has begun
pub rounds_are_begun : RoundsAreBegun
rounds_are_begun y right es f =
    let ds = history y es in
    let s = call_state (schedule_counts y) (calls_of y ds) in
    ⊎_elim
    (λ (q : Seen y ds × (s.inside ≡ true) × ((last_spot ds).hyper.begun ≡ true)). q.1 ∙ sym q.2)
    (λ (q : Unseen y ds × (s.inside ≡ false) × ((last_spot ds).hyper.begun ≡ false)). q.1 ∙ sym q.2)
    (seen_or_unseen y (all_right y right) es f)

-- ---- the first rounds of the modes

first_from : (n : ℕ) (ps : List Plan) (m : ℕ) → m < length ps → suc (get_or (first_rounds n (round_counts (map (λ p. p.schedule) ps))) m 0) ≡ n + first_round ps m
first_from n [] m l = absurd (omega (arith, l))
first_from n (p ∷ ps) zero l = omega arith
first_from n (p ∷ ps) (suc m) l = omega (arith, first_from (n + length p.schedule.starts) ps m (omega (arith, l)))

-- the numbers that the counts of rounds give are those of the plans
pub first_rounds_are : (y : System) (m : ℕ) → m < length y.plans → get_or (first_rounds 1 (schedule_counts y)) m 0 ≡ first_round y.plans m
first_rounds_are y m l = omega (arith, first_from 1 y.plans m l)
