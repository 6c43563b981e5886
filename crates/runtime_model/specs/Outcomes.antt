-- What one event does. Tasks and messages go by their places in the mode, runs and windows by their numbers in the stay
use Rattle.std.specs.Prelude.{ℕ, Bool, true, false, cond, not, ◌&&◌, nat_eq, List, Option, Some, None, ℤ}
use Rattle.sched_model.specs.Numbers.{has}
use Rattle.runtime_model.specs.Timeline.{PlainPhase, Hyperperiod, Mark, drains, named}

-- an Advance that the nodes of the set lose, node v where bit v is set; a request of a mode; a restart of a node
pub data PlainEvent : Type 0 where
  advance : ℕ → PlainEvent
  request : ℕ → PlainEvent
  restart : ℕ → PlainEvent

-- a beacon: its round's number over the file, the mode that it names, whether the hyperperiod drains, whether it is the mode's opening one
pub record PlainBeacon : Type 0 where
  pub round : ℕ
  pub mode : ℕ
  pub trigger : Bool
  pub opening : Bool

-- the beacon of the round with this number, of a hyperperiod with this mode and phase
abbrev pub beacon_of : (round mode : ℕ) → PlainPhase → Bool → PlainBeacon
beacon_of round mode phase opening = record { round = round; mode = named mode phase; trigger = drains phase; opening = opening }

-- where an event stands: its hyperperiod, the number of its stay, the hyperperiods of the stay before it, its first tick,
-- and the place of the entry in its cycle
pub record Spot : Type 0 where
  pub hyper : Hyperperiod
  pub stay : ℕ
  pub turn : ℕ
  pub begin : ℕ
  pub index : ℕ

-- a beacon and the nodes that heard it; a packet that a node sent, with its values and the nodes that took it; a slot in which nobody sent;
-- a start that was performed, with its inputs and the value that it will answer, and one that was not; an end that was performed,
-- with its value, and one that was not; a request; a restart
pub data Outcome : Type 0 where
  beaconed : PlainBeacon → List ℕ → Outcome
  sent : (node message window : ℕ) → List ℤ → List ℕ → Outcome
  silent : (message : ℕ) → Outcome
  started : (node task run : ℕ) → List (Option ℤ) → ℤ → Outcome
  off : (node task : ℕ) → Outcome
  finished : (node task run : ℕ) → ℤ → Outcome
  void : (node task : ℕ) → Outcome
  requested : ℕ → Outcome
  restarted : ℕ → Outcome

-- an event that was performed: where it stands, the place of the next entry in that hyperperiod's cycle,
-- what the timeline sees of it, the latest first, and what it did
pub record Step : Type 0 where
  pub spot : Spot
  pub next : ℕ
  pub marks : List Mark
  pub out : Outcome

-- ---- tests of an outcome

abbrev pub is_beacon : Outcome → Bool
is_beacon (beaconed b hs) = true
is_beacon o = false

-- node v heard a beacon
abbrev pub hears : ℕ → Outcome → Bool
hears v (beaconed b hs) = has hs v
hears v o = false

-- node v restarted
abbrev pub restarts : ℕ → Outcome → Bool
restarts v (restarted w) = nat_eq w v
restarts v o = false

-- a beacon that names another mode than this one
abbrev pub names_other : ℕ → Outcome → Bool
names_other mode (beaconed b hs) = not (nat_eq b.mode mode)
names_other mode o = false

-- a beacon that announces a change: it names another mode than its round's
abbrev pub announces : Step → Bool
announces d = names_other d.spot.hyper.mode d.out

-- run k of task a began, and what it will answer
abbrev pub begun_run : ℕ → ℕ → Outcome → Option ℤ
begun_run a k (started v b l ins x) = cond (nat_eq b a && nat_eq l k) (Some x) None
begun_run a k o = None

-- run k of task a ended, and its value
abbrev pub ended_run : ℕ → ℕ → Outcome → Option ℤ
ended_run a k (finished v b l x) = cond (nat_eq b a && nat_eq l k) (Some x) None
ended_run a k o = None

-- node v took a packet of message i in window k, and its values
abbrev pub took : ℕ → ℕ → ℕ → Outcome → Option (List ℤ)
took v i k (sent w j l xs ts) = cond (nat_eq j i && (nat_eq l k && has ts v)) (Some xs) None
took v i k o = None
