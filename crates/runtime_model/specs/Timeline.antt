-- The timeline: a mode runs whole hyperperiods, and requests make it change. A stay is a run of hyperperiods of one mode from its opening one on
use Rattle.std.specs.Prelude.{ℕ, Bool, true, false, cond, nat_eq, List, [], ◌∷◌, ◌++◌}

-- what a hyperperiod's beacons announce: nothing, that the mode will change, or that it ends here. The last two name the new mode
pub data PlainPhase : Type 0 where
  steady : PlainPhase
  warn : ℕ → PlainPhase
  drain : ℕ → PlainPhase

-- A hyperperiod: its mode, whether it opens a stay, its phase, whether its first beacon was sent,
-- and the modes that were requested in it before and after that beacon, the latest first
pub record Hyperperiod : Type 0 where
  pub mode : ℕ
  pub opening : Bool
  pub phase : PlainPhase
  pub begun : Bool
  pub early : List ℕ
  pub late : List ℕ

-- the hyperperiods so far: the last one, and those before it, the latest first
pub record Timeline : Type 0 where
  pub last : Hyperperiod
  pub before : List Hyperperiod

-- what the timeline sees of the events: a request, the first beacon of a hyperperiod, the end of a hyperperiod
pub data Mark : Type 0 where
  asked : ℕ → Mark
  begins : Mark
  ended : Mark

-- a hyperperiod of this phase drains
abbrev pub drains : PlainPhase → Bool
drains steady = false
drains (warn m) = false
drains (drain m) = true

-- the mode that the beacons of a hyperperiod name
abbrev pub named : ℕ → PlainPhase → ℕ
named mode steady = mode
named mode (warn m) = m
named mode (drain m) = m

-- the requests that stand after the last taking, the latest first: a hyperperiod takes at its first beacon, unless it drains
abbrev pub untaken : List Hyperperiod → List ℕ
untaken [] = []
untaken (h ∷ hs) = h.late ++ cond (drains h.phase) (h.early ++ untaken hs) []

-- the phase of a hyperperiod in this mode that takes the latest of these requests
abbrev pub decided : ℕ → List ℕ → PlainPhase
decided mode [] = steady
decided mode (r ∷ rs) = cond (nat_eq r mode) steady (warn r)

-- a hyperperiod before its first beacon and its first request
abbrev pub fresh : ℕ → Bool → PlainPhase → Hyperperiod
fresh mode opening phase = record { mode = mode; opening = opening; phase = phase; begun = false; early = []; late = [] }

-- the hyperperiod after one with this mode and phase: a warning is followed by a draining, and a draining by the new mode's opening
abbrev pub follows : ℕ → PlainPhase → Hyperperiod
follows mode steady = fresh mode false steady
follows mode (warn m) = fresh mode false (drain m)
follows mode (drain m) = fresh m true steady

-- the phase from the first beacon on: a hyperperiod that does not drain takes the latest request
abbrev pub phase_at_beacon : Hyperperiod → List Hyperperiod → PlainPhase
phase_at_beacon h hs = cond (drains h.phase) h.phase (decided h.mode (h.early ++ untaken hs))

-- the hyperperiod with one more request
abbrev pub request_in : Hyperperiod → ℕ → Hyperperiod
request_in h m = cond h.begun (record h { late = m ∷ h.late }) (record h { early = m ∷ h.early })

-- the timeline of a list of marks, the latest first; the world begins in mode 0
abbrev pub timeline_of : List Mark → Timeline
timeline_of [] = record { last = fresh 0 true steady; before = [] }
timeline_of (asked m ∷ es) = let t = timeline_of es in record t { last = request_in t.last m }
timeline_of (begins ∷ es) = let t = timeline_of es in record t { last = record t.last { begun = true; phase = phase_at_beacon t.last t.before } }
timeline_of (ended ∷ es) = let t = timeline_of es in record { last = follows t.last.mode t.last.phase; before = t.last ∷ t.before }
