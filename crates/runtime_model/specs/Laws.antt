-- Laws of the runtime, over every list of events
use Rattle.std.specs.Prelude.{◌≡◌, ℕ, suc, ◌+◌, ◌*◌, ◌<◌, ◌≤◌, ◌↔◌, ◌⊎◌, true, false, List, [], ◌∷◌, ◌++◌, length, take, Contains, Option, Some, None, ℤ, pos, ◌+ℤ◌, ◌-ℤ◌, ◌*ℤ◌, ◌≤ℤ◌}
use Rattle.app_graph.specs.declared.mode_set.ModeSet.{ModeSet}
use Rattle.app_graph.specs.Validation.{KeepsRules}
use Rattle.sched_model.specs.declared.schedule.Schedule.{Schedule}
use Rattle.sched_model.specs.PlainMode.{hyper, task_at, message_at}
use Rattle.sched_model.specs.Rounds.{round_start, opens}
use Rattle.runtime_model.specs.Timeline.{steady, drains, Hyperperiod, timeline_of}
use Rattle.runtime_model.specs.HostCalls.{HostCall, AllMay, call_state, host_after, after_call}
use Rattle.runtime_model.specs.Plans.{Plan, RightPlan, RightPlans, AreSchedules, FewRounds, Carried, node_of, offset}
use Rattle.runtime_model.specs.Entries.{Entry, slot, task_ends, task_starts}
use Rattle.runtime_model.specs.Placement.{release, IsRelease, placed, own_slot, own_start, window_at, run_at}
use Rattle.runtime_model.specs.Copies.{copy_at}
use Rattle.runtime_model.specs.Outcomes.{PlainEvent, advance, request, restart, Outcome, Step, is_beacon, took, sent, started, finished}
use Rattle.runtime_model.specs.LookingBack.{LookedBack, synced, settled, coasts, recall, last_beacon}
use Rattle.runtime_model.specs.System.{System, plan_at, system_of}
use Rattle.runtime_model.specs.Packets.{held}
use Rattle.runtime_model.specs.History.{history, outcome_of, step_of, spot_next, entries, entry_at, last_spot, next_place, marks_of, moment, now_after}
use Rattle.runtime_model.specs.NodeKinds.{kind, kind_by}
use Rattle.runtime_model.specs.HostOfEvents.{schedule_counts, calls_of, beacon_place}
use Rattle.runtime_model.specs.Registers.{registers, in_register, values_of, running}

-- a host that stands for a list of calls stands, after a further call whose condition holds, for the list with that call
abbrev pub HostsKeepTime : Type 0
HostsKeepTime = (rounds : List ℕ) (cs : List HostCall) (c : HostCall) → AllMay rounds (c ∷ cs) → after_call rounds (host_after rounds cs) c ≡ host_after rounds (c ∷ cs)

-- by the rules of hearing, missing and restarting a node is Synced exactly where it heard the last beacon and has not restarted since,
-- Coasting exactly where it runs otherwise, else Listening
abbrev pub KindsFollow : Type 0
KindsFollow = (v : ℕ) (ds : List Step) → kind v ds ≡ kind_by (synced v ds) (settled v ds) (coasts v ds)

-- at a placed slot the out registers of the message's producers are all full exactly where their runs of the slot's window are held, with the same values
abbrev pub RegistersHold : Type 0
RegistersHold = (y : System) (es : List PlainEvent) (j i : ℕ) →
    let ds = history y es in
    let s = spot_next y ds in
    let p = plan_at y s.hyper.mode in
    RightPlan y.nodes p → Carried p j i → (entry_at y s).action ≡ slot j i → placed s.hyper.opening s.hyper.phase (own_slot p j i) ≡ true →
    held p s.stay i (window_at p s.turn j i) ds ≡ registers p s.stay i ds

-- at a placed start of run k the in registers have what was taken in window k
abbrev pub InputsHold : Type 0
InputsHold = (y : System) (es : List PlainEvent) (b i : ℕ) →
    let ds = history y es in
    let s = spot_next y ds in
    let p = plan_at y s.hyper.mode in
    RightPlan y.nodes p → Contains (message_at p.mode i).to b → i < length p.mode.messages → (entry_at y s).action ≡ task_starts b →
    placed s.hyper.opening s.hyper.phase (own_start p (entry_at y s).tick b) ≡ true →
    recall (node_of p b) s.stay (took (node_of p b) i (run_at p s.turn (entry_at y s).tick b)) ds ≡ values_of (in_register p s.stay b i ds)

-- at a placed slot the in registers of the message's consumers have what was taken in its window: no other one filled them
abbrev pub InputsHoldAtSlots : Type 0
InputsHoldAtSlots = (y : System) (es : List PlainEvent) (j i b : ℕ) →
    let ds = history y es in
    let s = spot_next y ds in
    let p = plan_at y s.hyper.mode in
    RightPlan y.nodes p → Carried p j i → Contains (message_at p.mode i).to b → (entry_at y s).action ≡ slot j i →
    placed s.hyper.opening s.hyper.phase (own_slot p j i) ≡ true →
    recall (node_of p b) s.stay (took (node_of p b) i (window_at p s.turn j i)) ds ≡ values_of (in_register p s.stay b i ds)

-- before a slot with the first copy of a window no node has taken anything of that window
abbrev pub FirstCopiesAreFirst : Type 0
FirstCopiesAreFirst = (y : System) (es : List PlainEvent) (j i v : ℕ) →
    let ds = history y es in
    let s = spot_next y ds in
    let p = plan_at y s.hyper.mode in
    RightPlan y.nodes p → Carried p j i → (entry_at y s).action ≡ slot j i →
    placed s.hyper.opening s.hyper.phase (own_slot p j i) ≡ true → copy_at p j i ≡ 1 →
    recall v s.stay (took v i (window_at p s.turn j i)) ds ≡ None

-- a slot carries one of the copies of its message, counted from 1
abbrev pub CopiesAreNumbered : Type 0
CopiesAreNumbered = (nodes : ℕ) (p : Plan) (j i : ℕ) → RightPlan nodes p → Carried p j i →
    (1 ≤ copy_at p j i) × (copy_at p j i ≤ (message_at p.mode i).copies)

-- a round that starts in the window of a slot, at the slot's own start or before it, is of the slot's hyperperiod or of the one before:
-- in no other one are copies to be counted
abbrev pub CopiesAreNear : Type 0
CopiesAreNear = (nodes : ℕ) (p : Plan) (j i l : ℕ) (n : ℤ) → RightPlan nodes p → Carried p j i → l < length p.schedule.starts →
    let at = round_start p.schedule l +ℤ n *ℤ pos (hyper p.mode) in
    (opens p.schedule i +ℤ release p j i) ≤ℤ at → at ≤ℤ round_start p.schedule j → (n ≡ pos 0 -ℤ pos 1) ⊎ (n ≡ pos 0)

-- there is a mode, and each one has a right plan
abbrev pub PlansAreRight : System → Type 0
PlansAreRight y = (1 ≤ length y.plans) × ((mode : ℕ) → mode < length y.plans → RightPlan y.nodes (plan_at y mode))

-- What a set has with right schedules: right plans, its host among its nodes, few rounds, and right plans of the system that they make,
-- whatever the bodies answer
pub record HasRightPlans (set : ModeSet) (schedules : List Schedule) : Type 0 where
  pub plans : RightPlans set schedules
  pub host : set.host < length set.nodes
  pub few : FewRounds schedules
  pub system : (answers : List Step → ℕ → List (Option ℤ) → ℤ) → PlansAreRight (system_of set schedules answers)

-- a set that keeps the rules has right plans with each right schedule of its modes
abbrev pub KeptSetsHaveRightPlans : Type 0
KeptSetsHaveRightPlans = (set : ModeSet) (schedules : List Schedule) → KeepsRules set → AreSchedules set schedules → HasRightPlans set schedules

-- each request of these events names a mode of the system
abbrev pub RequestsFit : System → List PlainEvent → Type 0
RequestsFit y [] = Unit {0}
RequestsFit y (request m ∷ es) = (m < length y.plans) × RequestsFit y es
RequestsFit y (restart v ∷ es) = RequestsFit y es
RequestsFit y (advance lost ∷ es) = RequestsFit y es

-- the ticks of consecutive beacons differ by at most the greatest gap, across a switch too
abbrev pub BeaconGap : Type 0
BeaconGap = (y : System) → PlansAreRight y →
    (es : List PlainEvent) (lost : ℕ) (g : Step) → RequestsFit y es → is_beacon (step_of y (advance lost) (history y es)).out ≡ true → last_beacon (history y es) ≡ Some g →
    moment y (step_of y (advance lost) (history y es)) ≤ moment y g + (plan_at y g.spot.hyper.mode).mode.gap

-- A run that starts in a hyperperiod of a stay ends at the latest one tick before the end of each hyperperiod n of the stay that can be the draining one:
-- n is at least the number of this hyperperiod, and above it where this one does not drain. None of the runs is released in a draining hyperperiod
abbrev pub RunsEndBeforeSwitch : Type 0
RunsEndBeforeSwitch = (y : System) (es : List PlainEvent) (lost v b k : ℕ) (ins : List (Option ℤ)) (x : ℤ) →
    let s = spot_next y (history y es) in
    let p = plan_at y s.hyper.mode in
    RightPlan y.nodes p → (step_of y (advance lost) (history y es)).out ≡ started v b k ins x →
    (drains s.hyper.phase ≡ true → k * (task_at p.mode b).period < s.turn * hyper p.mode)
    × ((n : ℕ) → s.turn ≤ n → (drains s.hyper.phase ≡ false → s.turn < n) → suc (offset p b + (task_at p.mode b).wcet + k * (task_at p.mode b).period) ≤ suc n * hyper p.mode)

-- a slot's release is the multiple of the period that shifts the message's window round the slot's round
abbrev pub ReleasesFit : Type 0
ReleasesFit = (nodes : ℕ) (p : Plan) (j i : ℕ) → RightPlan nodes p → Carried p j i → IsRelease p j i (release p j i)

-- a packet is sent only by a node that heard the last beacon and has not restarted since, in a placed slot
abbrev pub SendersAreSynced : Type 0
SendersAreSynced = (y : System) (es : List PlainEvent) (e : PlainEvent) (v i k : ℕ) (xs : List ℤ) (ts : List ℕ) →
    outcome_of y es e ≡ sent v i k xs ts → synced v (history y es) ≡ true

-- The calls that events make of a host meet their conditions, and its timeline is that of the events.
-- While it is in a round, that is the round of the last beacon; else the next round is the first
pub record HostFollows (y : System) (ds : List Step) : Type 0 where
  pub each_may : AllMay (schedule_counts y) (calls_of y ds)
  pub marks : (call_state (schedule_counts y) (calls_of y ds)).marks ≡ marks_of ds
  pub inside : (call_state (schedule_counts y) (calls_of y ds)).inside ≡ true →
      (d : Step) × (last_beacon ds ≡ Some d) × ((call_state (schedule_counts y) (calls_of y ds)).round ≡ suc (beacon_place y d d.out))
  pub outside : (call_state (schedule_counts y) (calls_of y ds)).inside ≡ false → (call_state (schedule_counts y) (calls_of y ds)).round ≡ 1

abbrev pub HostsFollowEvents : Type 0
HostsFollowEvents = (y : System) → PlansAreRight y → (es : List PlainEvent) → RequestsFit y es → HostFollows y (history y es)

-- a look back finds x exactly where some step gave it, no later one gave anything, and the node is unbroken since
abbrev pub RecallLooksBack : Type 0 → Type 0
RecallLooksBack X = (v stay : ℕ) (f : Outcome → Option X) (ds : List Step) (x : X) → (recall v stay f ds ≡ Some x) ↔ LookedBack v stay f ds x

-- where a start is performed, no run is in progress on its node
abbrev pub OneRunAtATime : Type 0
OneRunAtATime = (y : System) (es : List PlainEvent) (lost v b k : ℕ) (ins : List (Option ℤ)) (x : ℤ) →
    let s = spot_next y (history y es) in
    RightPlan y.nodes (plan_at y s.hyper.mode) → (step_of y (advance lost) (history y es)).out ≡ started v b k ins x → running v s.stay (history y es) ≡ None

-- a node that heard the last beacon, which announced no change, is in a steady hyperperiod; the next Advance stands in the same stay and mode,
-- in the same hyperperiod or in one that does not open
abbrev pub SettledNodesKnow : Type 0
SettledNodesKnow = (y : System) (v : ℕ) (es : List PlainEvent) → settled v (history y es) ≡ true →
    let l = last_spot (history y es) in
    let s = spot_next y (history y es) in
    (l.hyper.phase ≡ steady) × (s.stay ≡ l.stay) × (s.hyper.mode ≡ l.hyper.mode) × ((s.turn ≡ l.turn) ⊎ (s.hyper.opening ≡ false))

-- nothing is lost and nobody restarts in these events
abbrev pub Lossless : List PlainEvent → Type 0
Lossless [] = Unit {0}
Lossless (advance lost ∷ es) = (lost ≡ 0) × Lossless es
Lossless (request m ∷ es) = Lossless es
Lossless (restart v ∷ es) = ⊥

-- where nothing is lost and nobody restarts, at each start of run k that is performed the packets of window k were taken of all messages
-- that the task consumes: by the definition of inputs, each of them is there
abbrev pub NothingIsMissing : Type 0
NothingIsMissing = (y : System) → PlansAreRight y → (es : List PlainEvent) (lost v b k : ℕ) (ins : List (Option ℤ)) (x : ℤ) → RequestsFit y es → Lossless (advance lost ∷ es) →
    (step_of y (advance lost) (history y es)).out ≡ started v b k ins x →
    let s = spot_next y (history y es) in
    let p = plan_at y s.hyper.mode in
    (i : ℕ) → i < length p.mode.messages → Contains (message_at p.mode i).to b → (xs : List ℤ) × (recall v s.stay (took v i k) (history y es) ≡ Some xs)

-- the host is in a round exactly where the first beacon of the last event's hyperperiod was sent
abbrev pub RoundsAreBegun : Type 0
RoundsAreBegun = (y : System) → PlansAreRight y → (es : List PlainEvent) → RequestsFit y es → (call_state (schedule_counts y) (calls_of y (history y es))).inside ≡ (last_spot (history y es)).hyper.begun

-- ticks never fall, and one Advance moves on by at most the hyperperiod of the mode of the last event
abbrev pub TicksRise : Type 0
TicksRise = (y : System) → PlansAreRight y → (es : List PlainEvent) (lost : ℕ) → RequestsFit y es →
    let ds = history y es in
    let d = step_of y (advance lost) ds in
    (now_after y ds ≤ moment y d) × (moment y d ≤ now_after y ds + hyper (plan_at y (last_spot ds).hyper.mode).mode)

-- the next beacon is that of the round after the last beacon's, in the same hyperperiod; or the last beacon's round was the last of its mode,
-- and the next one is the first round's, one hyperperiod of that mode after the start of that beacon's
abbrev pub BeaconsInOrder : Type 0
BeaconsInOrder = (y : System) → PlansAreRight y → (es : List PlainEvent) (lost : ℕ) (g : Step) → RequestsFit y es → last_beacon (history y es) ≡ Some g →
    let d = step_of y (advance lost) (history y es) in
    is_beacon d.out ≡ true →
    ((beacon_place y d d.out ≡ suc (beacon_place y g g.out)) × (d.spot.stay ≡ g.spot.stay) × (d.spot.turn ≡ g.spot.turn) × (d.spot.begin ≡ g.spot.begin))
    ⊎ ((suc (beacon_place y g g.out) ≡ length (plan_at y g.spot.hyper.mode).schedule.starts) × (beacon_place y d d.out ≡ 0) × (moment y d ≡ g.spot.begin + hyper (plan_at y g.spot.hyper.mode).mode))

-- at a slot the last beacon was that of the slot's round, in the same hyperperiod and at the same tick, and its table carries the slot's message
abbrev pub SlotsFollowBeacons : Type 0
SlotsFollowBeacons = (y : System) → PlansAreRight y → (es : List PlainEvent) (j i : ℕ) → RequestsFit y es →
    let ds = history y es in
    let s = spot_next y ds in
    (entry_at y s).action ≡ slot j i → Carried (plan_at y s.hyper.mode) j i
    × ((g : Step) × (last_beacon ds ≡ Some g) × (beacon_place y g g.out ≡ j) × (g.spot.hyper.mode ≡ s.hyper.mode) × (g.spot.stay ≡ s.stay) × (g.spot.turn ≡ s.turn) × (moment y g ≡ now_after y ds) × (moment y g ≡ s.begin + (entry_at y s).tick))

-- an end of task a is performed, of run k with value x, exactly where that is the run in progress on its node
abbrev pub EndsFollowRuns : Type 0
EndsFollowRuns = (y : System) (es : List PlainEvent) (lost a k : ℕ) (x : ℤ) →
    let ds = history y es in
    let s = spot_next y ds in
    let p = plan_at y s.hyper.mode in
    RightPlan y.nodes p → (entry_at y s).action ≡ task_ends a →
    ((step_of y (advance lost) ds).out ≡ finished (node_of p a) a k x) ↔ (running (node_of p a) s.stay ds ≡ Some (record { task = a; run = k; value = x }))

-- nothing of an earlier stay is found by looking back in another
abbrev pub StaysAreApart : Type 0 → Type 0
StaysAreApart X = (v stay : ℕ) (f : Outcome → Option X) (ds : List Step) → ((last_spot ds).stay ≡ stay → ⊥) → recall v stay f ds ≡ None

-- the entries of the Advances of these events, in order
abbrev pub entries_done : System → List PlainEvent → List Entry
entries_done y [] = []
entries_done y (advance lost ∷ es) = entries_done y es ++ entry_at y (spot_next y (history y es)) ∷ []
entries_done y (request m ∷ es) = entries_done y es
entries_done y (restart v ∷ es) = entries_done y es

-- the cycles of these hyperperiods in order, and how many ticks they last. The list has the latest first
abbrev pub cycles_of : System → List Hyperperiod → List Entry
cycles_of y [] = []
cycles_of y (h ∷ hs) = cycles_of y hs ++ entries y h.mode

abbrev pub ticks_of : System → List Hyperperiod → ℕ
ticks_of y [] = 0
ticks_of y (h ∷ hs) = ticks_of y hs + hyper (plan_at y h.mode).mode

-- the entries that were done are the cycles of the timeline's hyperperiods one after the other, up to the next entry of the last one,
-- which begins where the others are over
abbrev pub EntriesAreCycles : Type 0
EntriesAreCycles = (y : System) → PlansAreRight y → (es : List PlainEvent) → RequestsFit y es →
    let ds = history y es in
    let t = timeline_of (marks_of ds) in
    (entries_done y es ≡ cycles_of y t.before ++ take (next_place ds) (entries y t.last.mode)) × ((last_spot ds).begin ≡ ticks_of y t.before)

-- of a carried slot there is one release
abbrev pub OneRelease : Type 0
OneRelease = (nodes : ℕ) (p : Plan) (j i : ℕ) (r : ℤ) → RightPlan nodes p → Carried p j i → IsRelease p j i r → r ≡ release p j i

-- a start that is performed is that of the next entry, placed, on the task's node, and of the run of its tick
abbrev pub StartsArePlaced : Type 0
StartsArePlaced = (y : System) (es : List PlainEvent) (lost v b k : ℕ) (ins : List (Option ℤ)) (x : ℤ) →
    let s = spot_next y (history y es) in
    let p = plan_at y s.hyper.mode in
    let u = (entry_at y s).tick in
    (step_of y (advance lost) (history y es)).out ≡ started v b k ins x →
    ((entry_at y s).action ≡ task_starts b) × (placed s.hyper.opening s.hyper.phase (own_start p u b) ≡ true) × (k ≡ run_at p s.turn u b) × (node_of p b ≡ v)

-- What was taken in window k of message i are the values of run k of each of its producers: at one step they were sent and taken,
-- and just before it the producers' node held them
abbrev pub ValuesAreProduced : Type 0
ValuesAreProduced = (y : System) (es : List PlainEvent) (v i k : ℕ) (xs : List ℤ) →
    let ds = history y es in
    let s = spot_next y ds in
    recall v s.stay (took v i k) ds ≡ Some xs →
    (newer : List Step) × (sending : Step) × (older : List Step) × (ds ≡ newer ++ sending ∷ older)
    × (took v i k sending.out ≡ Some xs) × (held (plan_at y s.hyper.mode) s.stay i k older ≡ Some xs)
