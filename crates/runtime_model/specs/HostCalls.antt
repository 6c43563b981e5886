-- A host and the list of its calls, the latest first
use Rattle.std.specs.Prelude.{◌≡◌, ℕ, suc, ◌<◌, Bool, true, false, cond, nat_eq, nat_lt, List, [], ◌∷◌, ◌++◌, length, slice_index_or, Option, Some, None}
use Rattle.runtime_model.specs.Timeline.{PlainPhase, steady, warn, drain, drains, Hyperperiod, Timeline, Mark, asked, begins, ended, timeline_of, untaken}

-- a request of a mode, the beacon of the next round, the end of the round
pub data HostCall : Type 0 where
  request_call : ℕ → HostCall
  next_beacon_call : HostCall
  end_round_call : HostCall

-- what a list of calls comes to: what the timeline sees of it, the round, from 1, and whether the host is in it
pub record CallState : Type 0 where
  pub marks : List Mark
  pub round : ℕ
  pub inside : Bool

-- how many rounds a mode has, where the list has the counts of all modes
abbrev pub rounds_in : List ℕ → ℕ → ℕ
rounds_in rounds mode = slice_index_or rounds mode 0

-- one more call: the beacon of round 1 begins a hyperperiod, and the end of the last round ends it
abbrev pub call_step : List ℕ → HostCall → CallState → CallState
call_step rounds (request_call m) s = record { marks = asked m ∷ s.marks; round = s.round; inside = s.inside }
call_step rounds next_beacon_call s = record { marks = cond (nat_eq s.round 1) (begins ∷ s.marks) s.marks; round = s.round; inside = true }
call_step rounds end_round_call s =
    cond (nat_lt s.round (rounds_in rounds (timeline_of s.marks).last.mode))
    (record { marks = s.marks; round = suc s.round; inside = false })
    (record { marks = ended ∷ s.marks; round = 1; inside = false })

abbrev pub call_state : List ℕ → List HostCall → CallState
call_state rounds [] = record { marks = []; round = 1; inside = false }
call_state rounds (c ∷ cs) = call_step rounds c (call_state rounds cs)

-- the condition of a call: a request names a mode, a beacon comes outside a round, and an end inside one
abbrev pub MayCall : List ℕ → HostCall → CallState → Type 0
MayCall rounds (request_call m) s = m < length rounds
MayCall rounds next_beacon_call s = s.inside ≡ false
MayCall rounds end_round_call s = s.inside ≡ true

-- each call of the list met its condition
abbrev pub AllMay : List ℕ → List HostCall → Type 0
AllMay rounds [] = Unit {0}
AllMay rounds (c ∷ cs) = MayCall rounds c (call_state rounds cs) × AllMay rounds cs

-- the latest of these requests
abbrev pub latest_of : List ℕ → Option ℕ
latest_of [] = None
latest_of (x ∷ xs) = Some x

-- the requests that no beacon has taken yet
abbrev pub waiting_in : Hyperperiod → List Hyperperiod → List ℕ
waiting_in h hs = cond h.begun (untaken (h ∷ hs)) (h.early ++ untaken hs)

-- what contracts see of a host: its mode, the round of its last beacon or of the next one, its phase, whether the hyperperiod is an opening one,
-- the request that waits, and whether it is in a round
pub record PlainHost : Type 0 where
  pub mode : ℕ
  pub round : ℕ
  pub phase : PlainPhase
  pub opening : Bool
  pub waiting : Option ℕ
  pub inside : Bool

-- the host of a timeline
abbrev pub host_of : Timeline → ℕ → Bool → PlainHost
host_of t round inside = record { mode = t.last.mode; round = round; phase = t.last.phase; opening = t.last.opening; waiting = latest_of (waiting_in t.last t.before); inside = inside }

-- the host that stands for a list of calls
abbrev pub host_after : List ℕ → List HostCall → PlainHost
host_after rounds cs = let s = call_state rounds cs in host_of (timeline_of s.marks) s.round s.inside

-- ---- what the calls do to a host

-- the phase of a hyperperiod of this mode at its first beacon, where this request waits
abbrev pub phase_taken : ℕ → PlainPhase → Option ℕ → PlainPhase
phase_taken mode (drain m) w = drain m
phase_taken mode phase None = steady
phase_taken mode phase (Some m) = cond (nat_eq m mode) steady (warn m)

-- the host from the first beacon of a hyperperiod on: a draining hyperperiod leaves the request for the next
abbrev pub begun_host : PlainHost → PlainHost
begun_host h = record { mode = h.mode; round = h.round; phase = phase_taken h.mode h.phase h.waiting; opening = h.opening; waiting = cond (drains h.phase) h.waiting None; inside = true }

-- the host after the last round of a hyperperiod of this phase
abbrev pub turned_host : PlainHost → PlainPhase → PlainHost
turned_host h steady = record { mode = h.mode; round = 1; phase = steady; opening = false; waiting = h.waiting; inside = false }
turned_host h (warn m) = record { mode = h.mode; round = 1; phase = drain m; opening = false; waiting = h.waiting; inside = false }
turned_host h (drain m) = record { mode = m; round = 1; phase = steady; opening = true; waiting = h.waiting; inside = false }

-- the host after one more call
abbrev pub after_call : List ℕ → PlainHost → HostCall → PlainHost
after_call rounds h (request_call m) = record h { waiting = Some m }
after_call rounds h next_beacon_call = cond (nat_eq h.round 1) (begun_host h) (record h { inside = true })
after_call rounds h end_round_call = cond (nat_lt h.round (rounds_in rounds h.mode)) (record h { round = suc h.round; inside = false }) (turned_host h h.phase)
