-- What the past says of a node. The past is the list of the steps, the latest first
use Rattle.std.specs.Prelude.{◌≡◌, ℕ, Bool, true, false, cond, not, ◌&&◌, ◌||◌, nat_eq, List, [], ◌∷◌, ◌++◌, Option, Some, None}
use Rattle.runtime_model.specs.Outcomes.{Outcome, Step, PlainBeacon, beaconed, is_beacon, hears, restarts, announces}

-- node v heard the last beacon, and has not restarted since
abbrev pub synced : ℕ → List Step → Bool
synced v [] = false
synced v (d ∷ ds) = cond (restarts v d.out) false (cond (is_beacon d.out) (hears v d.out) (synced v ds))

-- node v heard the last beacon, which announced no change, and has not restarted since
abbrev pub settled : ℕ → List Step → Bool
settled v [] = false
settled v (d ∷ ds) = cond (restarts v d.out) false (cond (is_beacon d.out) (hears v d.out && not (announces d)) (settled v ds))

-- node v missed the last beacon, and was settled before it
abbrev pub coasts : ℕ → List Step → Bool
coasts v [] = false
coasts v (d ∷ ds) = cond (restarts v d.out) false (cond (is_beacon d.out) (not (hears v d.out) && settled v ds) (coasts v ds))

-- node v runs: it heard one of the last two beacons and has not restarted since; where that is not the last one, it announced no change
abbrev pub runs : ℕ → List Step → Bool
runs v ds = synced v ds || coasts v ds

-- the last beacon that node v heard
abbrev pub heard_by : ℕ → Outcome → Option PlainBeacon
heard_by v (beaconed b hs) = cond (hears v (beaconed b hs)) (Some b) None
heard_by v o = None

abbrev pub or_else : {X : Type 0} → Option X → Option X → Option X
or_else (Some x) y = Some x
or_else None y = y

abbrev pub last_heard : ℕ → List Step → Option PlainBeacon
last_heard v [] = None
last_heard v (d ∷ ds) = or_else (heard_by v d.out) (last_heard v ds)

-- the last beacon, heard or not
abbrev pub last_beacon : List Step → Option Step
last_beacon [] = None
last_beacon (d ∷ ds) = cond (is_beacon d.out) (Some d) (last_beacon ds)

-- after the first of these events and after each later one, node v runs, in this stay: it is unbroken from the older past on
abbrev pub Unbroken : ℕ → ℕ → List Step → List Step → Type 0
Unbroken v stay [] older = Unit {0}
Unbroken v stay (d ∷ ds) older = (runs v (d ∷ (ds ++ older)) ≡ true) × (d.spot.stay ≡ stay) × Unbroken v stay ds older

-- what the latest event gives that gives anything, since when node v is unbroken in this stay
abbrev pub recall : {X : Type 0} → ℕ → ℕ → (Outcome → Option X) → List Step → Option X
recall v stay f [] = None
recall v stay f (d ∷ ds) = cond (runs v (d ∷ ds) && nat_eq d.spot.stay stay) (or_else (f d.out) (recall v stay f ds)) None

-- none of these steps gives anything
abbrev pub GivesNothing : {X : Type 0} → (Outcome → Option X) → List Step → Type 0
GivesNothing f [] = Unit {0}
GivesNothing f (d ∷ ds) = (f d.out ≡ None) × GivesNothing f ds

-- some step gave x, no later one gave anything, and node v is unbroken in this stay from that step on
pub record LookedBack {X : Type 0} (v stay : ℕ) (f : Outcome → Option X) (ds : List Step) (x : X) : Type 0 where
  pub newer : List Step
  pub step : Step
  pub older : List Step
  pub split : ds ≡ newer ++ step ∷ older
  pub gives : f step.out ≡ Some x
  pub latest : GivesNothing f newer
  pub unbroken : Unbroken v stay (newer ++ step ∷ []) older
