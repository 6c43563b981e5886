-- What each event of a list does. Every list of events, and of steps, has the latest first
use Rattle.std.specs.Prelude.{ℕ, zero, suc, ◌+◌, Bool, true, false, cond, not, ◌&&◌, nat_lt, List, [], ◌∷◌, ◌++◌, length, filter, slice_index_or, Option, Some, None, ℤ}
use Rattle.std.specs.List.{flat_map}
use Rattle.sched_model.specs.Numbers.{below}
use Rattle.sched_model.specs.PlainMode.{hyper, task_at}
use Rattle.runtime_model.specs.Timeline.{steady, Hyperperiod, Mark, asked, begins, ended, timeline_of, fresh}
use Rattle.runtime_model.specs.Plans.{Plan, first_round, node_of, sender_of}
use Rattle.runtime_model.specs.Entries.{Entry, Action, task_ends, beacon, slot, task_starts, cycle}
use Rattle.runtime_model.specs.Placement.{placed, own_start, run_at, ends_run, ending_run_at, window_at}
use Rattle.runtime_model.specs.Outcomes.{PlainEvent, advance, request, restart, PlainBeacon, beacon_of, Spot, Outcome, beaconed, sent, silent, started, off, finished, void, requested, restarted, Step, begun_run}
use Rattle.runtime_model.specs.LookingBack.{runs, recall}
use Rattle.runtime_model.specs.System.{System, plan_at}
use Rattle.runtime_model.specs.Packets.{reached, packet, takes}
use Rattle.runtime_model.specs.Inputs.{inputs}

-- ---- what an entry does

-- the beacon of the round at place j of a hyperperiod
abbrev pub beacon_at : System → Hyperperiod → ℕ → PlainBeacon
beacon_at y h j = beacon_of (first_round y.plans h.mode + j) h.mode h.phase h.opening

-- a slot of the round at place j with message i, where this packet is sent or none
abbrev pub sent_or_not : Plan → ℕ → Spot → ℕ → ℕ → List Step → Option (List ℤ) → ℕ → Outcome
sent_or_not p nodes s j i ds None lost = silent i
sent_or_not p nodes s j i ds (Some xs) lost =
    let v = sender_of p i in
    let k = window_at p s.turn j i in
    sent v i k xs (filter (takes p s.stay lost v i k ds) (below nodes))

-- an end of task a on node v, where run k with this value ends or none
abbrev pub finished_or_not : ℕ → ℕ → ℕ → Option ℤ → Outcome
finished_or_not v a k None = void v a
finished_or_not v a k (Some x) = finished v a k x

-- a start of task a at tick u, where it is performed or not: its body answers to its inputs
abbrev pub start_or_not : System → Plan → Spot → List Step → ℕ → ℕ → Bool → Outcome
start_or_not y p s ds a u false = off (node_of p a) a
start_or_not y p s ds a u true =
    let number = (task_at p.mode a).number in
    let k = run_at p s.turn u a in
    let ins = inputs p s.stay a k ds in
    started (node_of p a) a k ins (y.answers ds number ins)

-- what an Advance with this lost set does by the entry at tick u: a start is performed where it is placed and its node runs,
-- and an end where that run's start was performed and the node is unbroken since
abbrev pub performed : System → Plan → Spot → ℕ → List Step → ℕ → Action → Outcome
performed y p s lost ds u (task_ends a) = let k = ending_run_at p s.turn u a in finished_or_not (node_of p a) a k (cond (ends_run p s.turn u a) (recall (node_of p a) s.stay (begun_run a k) ds) None)
performed y p s lost ds u (beacon j) = beaconed (beacon_at y s.hyper j) (filter (reached lost y.host) (below y.nodes))
performed y p s lost ds u (slot j i) = sent_or_not p y.nodes s j i ds (packet p s j i ds) lost
performed y p s lost ds u (task_starts a) = start_or_not y p s ds a u (placed s.hyper.opening s.hyper.phase (own_start p u a) && runs (node_of p a) ds)

-- ---- where the next Advance stands

-- the cycle of a mode
abbrev pub entries : System → ℕ → List Entry
entries y mode = cycle y.nodes (plan_at y mode)

-- what stands for an entry past the last one
abbrev pub no_entry : Entry
no_entry = record { tick = 0; action = beacon 0 }

-- the entry at a spot
abbrev pub entry_at : System → Spot → Entry
entry_at y s = slice_index_or (entries y s.hyper.mode) s.index no_entry

-- the beacon of the first round
abbrev pub is_first_beacon : Action → Bool
is_first_beacon (beacon zero) = true
is_first_beacon w = false

-- what the timeline sees of these steps
abbrev pub marks_of : List Step → List Mark
marks_of ds = flat_map (λ d. d.marks) ds

abbrev pub first_spot : Spot
first_spot = record { hyper = fresh 0 true steady; stay = 0; turn = 0; begin = 0; index = 0 }

-- where the last event stands; at first, where the first Advance will
abbrev pub last_spot : List Step → Spot
last_spot [] = first_spot
last_spot (d ∷ ds) = d.spot

-- the place of the next entry in the cycle of that hyperperiod
abbrev pub next_place : List Step → ℕ
next_place [] = 0
next_place (d ∷ ds) = d.next

-- the start of the next hyperperiod
abbrev pub turned : System → Spot → List Mark → Spot
turned y s ms =
    let h = (timeline_of ms).last in
    record { hyper = h; stay = cond h.opening (suc s.stay) s.stay; turn = cond h.opening 0 (suc s.turn); begin = s.begin + hyper (plan_at y s.hyper.mode).mode; index = 0 }

-- the spot with the hyperperiod that these marks come to
abbrev pub with_hyper : Spot → List Mark → Spot
with_hyper s ms = record s { hyper = (timeline_of ms).last }

-- no entry of the last hyperperiod is left: the next Advance stands in the next one
abbrev pub turns : System → List Step → Bool
turns y ds = not (nat_lt (next_place ds) (length (entries y (last_spot ds).hyper.mode)))

-- what the timeline sees of the next Advance before its entry
abbrev pub end_marks : System → List Step → List Mark
end_marks y ds = cond (turns y ds) (ended ∷ []) []

-- where the next Advance stands, before its entry
abbrev pub arrival : System → List Step → Spot
arrival y ds =
    let s = last_spot ds in
    cond (turns y ds) (turned y s (ended ∷ marks_of ds)) (record { hyper = (timeline_of (marks_of ds)).last; stay = s.stay; turn = s.turn; begin = s.begin; index = next_place ds })

-- what the timeline sees of the entry at a spot
abbrev pub beacon_marks : System → Spot → List Mark
beacon_marks y s = cond (is_first_beacon (entry_at y s).action) (begins ∷ []) []

-- what the timeline sees of the next Advance
abbrev pub marks_next : System → List Step → List Mark
marks_next y ds = beacon_marks y (arrival y ds) ++ end_marks y ds

-- where the next Advance stands
abbrev pub spot_next : System → List Step → Spot
spot_next y ds = with_hyper (arrival y ds) (marks_next y ds ++ marks_of ds)

-- ---- events

-- what event e does after these steps. A request or a restart belongs to the hyperperiod of the last Advance
abbrev pub step_of : System → PlainEvent → List Step → Step
step_of y (advance lost) ds =
    let s = spot_next y ds in
    let e = entry_at y s in
    record { spot = s; next = suc s.index; marks = marks_next y ds; out = performed y (plan_at y s.hyper.mode) s lost ds e.tick e.action }
step_of y (request m) ds = record { spot = last_spot ds; next = next_place ds; marks = asked m ∷ []; out = requested m }
step_of y (restart v) ds = record { spot = last_spot ds; next = next_place ds; marks = []; out = restarted v }

-- the steps of these events
abbrev pub history : System → List PlainEvent → List Step
history y [] = []
history y (e ∷ es) = let ds = history y es in step_of y e ds ∷ ds

-- the outcome of event e after the events es
abbrev pub outcome_of : System → List PlainEvent → PlainEvent → Outcome
outcome_of y es e = (step_of y e (history y es)).out

-- the tick of a step from the beginning of the world: that of the last Advance
abbrev pub moment : System → Step → ℕ
moment y d = d.spot.begin + (entry_at y d.spot).tick

-- the tick of the last Advance, 0 before the first
abbrev pub now_after : System → List Step → ℕ
now_after y [] = 0
now_after y (d ∷ ds) = moment y d
