-- The state of a node by the rules of hearing, missing and restarting
use Rattle.std.specs.Prelude.{ℕ, Bool, true, false, cond, not, List, [], ◌∷◌}
use Rattle.runtime_model.specs.Outcomes.{Step, is_beacon, hears, restarts, announces}

-- Listening; Synced, with whether the last beacon that it heard announced a change; Coasting
pub data NodeKind : Type 0 where
  listening : NodeKind
  in_sync : (announced : Bool) → NodeKind
  coasting : NodeKind

-- the rule of a missed beacon
abbrev pub missed : NodeKind → NodeKind
missed listening = listening
missed (in_sync false) = coasting
missed (in_sync true) = listening
missed coasting = listening

-- the rules of node v at one event
abbrev pub next_kind : ℕ → Step → NodeKind → NodeKind
next_kind v d k = cond (restarts v d.out) listening (cond (is_beacon d.out) (cond (hears v d.out) (in_sync (announces d)) (missed k)) k)

-- the state of node v after these steps
abbrev pub kind : ℕ → List Step → NodeKind
kind v [] = listening
kind v (d ∷ ds) = next_kind v d (kind v ds)

-- the state of a node that heard the last beacon, heard it with no change announced, or missed it after such a one
abbrev pub kind_by : Bool → Bool → Bool → NodeKind
kind_by heard calm missed_one = cond heard (in_sync (not calm)) (cond missed_one coasting listening)
