-- The events of a script's lines, and what is told of events. Lists of events have the latest first
use Rattle.std.specs.Prelude.{◌≡◌, ℕ, ◌<◌, Bool, true, false, List, [], ◌∷◌, ◌++◌, map, replicate, reverse}
use Rattle.runtime_model.specs.Entries.{Action, task_ends, beacon, slot, task_starts}
use Rattle.runtime_model.specs.Outcomes.{PlainEvent, advance, request, restart, Outcome}
use Rattle.runtime_model.specs.System.{System}
use Rattle.runtime_model.specs.History.{history, spot_next, entry_at, moment}

-- a number of Advances without loss; Advances without loss until the next entry is a beacon; one Advance that nodes lose; a request; a restart
pub data ScriptLine : Type 0 where
  go : ℕ → ScriptLine
  until_beacon : ScriptLine
  lose : ℕ → ScriptLine
  asks : ℕ → ScriptLine
  restarts_node : ℕ → ScriptLine

-- the entry is a beacon
abbrev pub opens_round : Action → Bool
opens_round (task_ends a) = false
opens_round (beacon j) = true
opens_round (slot j i) = false
opens_round (task_starts a) = false

-- the next entry after these events is a beacon
abbrev pub beacon_next : System → List PlainEvent → Bool
beacon_next y es = opens_round (entry_at y (spot_next y (history y es))).action

-- n is the least number of Advances without loss after which the next entry is a beacon
pub record Until (y : System) (es : List PlainEvent) (n : ℕ) : Type 0 where
  pub comes : beacon_next y (replicate n (advance 0) ++ es) ≡ true
  pub not_before : (m : ℕ) → m < n → beacon_next y (replicate m (advance 0) ++ es) ≡ false

-- after the events es the line makes them the events fs
abbrev pub Makes : System → ScriptLine → List PlainEvent → List PlainEvent → Type 0
Makes y (go n) es fs = fs ≡ replicate n (advance 0) ++ es
Makes y until_beacon es fs = (n : ℕ) × Until y es n × (fs ≡ replicate n (advance 0) ++ es)
Makes y (lose bits) es fs = fs ≡ advance bits ∷ es
Makes y (asks m) es fs = fs ≡ request m ∷ es
Makes y (restarts_node v) es fs = fs ≡ restart v ∷ es

-- the lines, in order, lead from es to fs
abbrev pub LeadTo : System → List ScriptLine → List PlainEvent → List PlainEvent → Type 0
LeadTo y [] es fs = fs ≡ es
LeadTo y (l ∷ ls) es fs = (mid : List PlainEvent) × Makes y l es mid × LeadTo y ls mid fs

-- the lines spell these events
abbrev pub Spells : System → List ScriptLine → List PlainEvent → Type 0
Spells y ls es = LeadTo y ls [] es

-- what is told of an event: its tick, its mode and what it did
pub record Told : Type 0 where
  pub moment : ℕ
  pub mode : ℕ
  pub out : Outcome

-- what happened, in order: the trace is the text of these and the last line
abbrev pub told : System → List PlainEvent → List Told
told y es = reverse (map (λ d. record { moment = moment y d; mode = d.spot.hyper.mode; out = d.out }) (history y es))
