-- The calls that events make of the host
use Rattle.std.specs.Prelude.{ℕ, ◌-◌, Bool, true, false, cond, nat_eq, List, [], ◌∷◌, ◌++◌, map}
use Rattle.runtime_model.specs.Timeline.{Mark, ended}
use Rattle.runtime_model.specs.HostCalls.{HostCall, request_call, next_beacon_call, end_round_call}
use Rattle.runtime_model.specs.Plans.{round_counts, first_round}
use Rattle.runtime_model.specs.Outcomes.{Outcome, beaconed, requested, Step}
use Rattle.runtime_model.specs.System.{System}

-- how many rounds each mode has
abbrev pub schedule_counts : System → List ℕ
schedule_counts y = round_counts (map (λ p. p.schedule) y.plans)

-- these marks end a hyperperiod
abbrev pub has_ended : List Mark → Bool
has_ended [] = false
has_ended (ended ∷ ms) = true
has_ended (m ∷ ms) = has_ended ms

-- a request is a call, and so is a beacon, which first ends the round before it in its hyperperiod
abbrev pub own_calls : System → Step → Outcome → List HostCall
own_calls y d (requested m) = request_call m ∷ []
own_calls y d (beaconed b hs) = next_beacon_call ∷ cond (nat_eq b.round (first_round y.plans d.spot.hyper.mode)) [] (end_round_call ∷ [])
own_calls y d o = []

-- the calls of the host that these steps make, the latest first: the last round of a hyperperiod ends with it
abbrev pub calls_of : System → List Step → List HostCall
calls_of y [] = []
calls_of y (d ∷ ds) = own_calls y d d.out ++ (cond (has_ended d.marks) (end_round_call ∷ []) [] ++ calls_of y ds)

-- the place of the round of a beacon
abbrev pub beacon_place : System → Step → Outcome → ℕ
beacon_place y d (beaconed b hs) = b.round - first_round y.plans d.spot.hyper.mode
beacon_place y d o = 0
