-- How often the choices name each round
use Rattle.std.specs.Prelude.{◌≡◌, ℕ, ◌+◌, ◌<◌, ◌≤◌, Bool, false, nat_eq, count_by, Option, Some, None, IfSome, List, [], ◌∷◌, ◌++◌, length, take, All, slice_index_or, ℤ}
use Rattle.round_service.specs.Serving.{round_named}
use Rattle.sched_model.specs.PlainMode.{PlainMode}
use Rattle.sched_model.specs.ConstraintProblem.{Decision, serve, order, decisions, load}

-- the round, from 1, that each choice names, out of so many; and how many choices there is room for
pub record Tally : Type 0 where
  pub rounds : ℕ
  pub room : ℕ
  pub named : List (Option ℕ)

-- whether it is round j
abbrev pub is_round : ℕ → Option ℕ → Bool
is_round j None = false
is_round j (Some i) = nat_eq i j

-- how many of these are round j
abbrev pub times : ℕ → List (Option ℕ) → ℕ
times j named = count_by (is_round j) named

-- it is one of the first n rounds, where there is one
abbrev pub Within : ℕ → Option ℕ → Type 0
Within n round = IfSome round (λ j. (1 ≤ j) × (j ≤ n))

-- with one choice more
abbrev pub with_one : Tally → Option ℕ → Tally
with_one t round = record t { named = t.named ++ round ∷ [] }

-- the first k choices alone
abbrev pub first : ℕ → Tally → Tally
first k t = record t { named = take k t.named }

-- each count says how often the round at its place is named, and no other round is named
pub record IsCounted (counts : List ℕ) (named : List (Option ℕ)) : Type 0 where
  pub within : All (Within (length counts)) named
  pub each : (q : ℕ) → q < length counts → slice_index_or counts q 0 ≡ times (q + 1) named

-- the round, from 1, that a choice v for the decision names, out of r; none for a pair of tasks
abbrev pub round_of : ℕ → Decision → ℤ → Option ℕ
round_of r (serve i k) v = Some (round_named r v)
round_of r (order a b) v = None

-- those that the choices name
abbrev pub rounds_of : ℕ → List Decision → List ℤ → List (Option ℕ)
rounds_of r [] vs = []
rounds_of r (d ∷ ds) [] = []
rounds_of r (d ∷ ds) (v ∷ vs) = round_of r d v ∷ rounds_of r ds vs

-- the tally of the choices p for a mode's decisions
abbrev pub tally_of : PlainMode → ℕ → List ℤ → Tally
tally_of m r p = record { rounds = r; room = length (decisions m); named = rounds_of r (decisions m) p }

-- the load of the round at place j is how often the choices name round j + 1
abbrev pub LoadsAreTallies : Type 0
LoadsAreTallies = (m : PlainMode) (r j : ℕ) (p : List ℤ) → load m r j p ≡ times (j + 1) (tally_of m r p).named
