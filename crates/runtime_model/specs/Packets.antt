-- What is held, sent and taken
use Rattle.std.specs.Prelude.{ℕ, ◌/◌, ◌%◌, ◌^◌, Bool, cond, not, ◌&&◌, ◌||◌, nat_eq, List, [], ◌∷◌, map, Option, Some, None, is_some, ℤ}
use Rattle.std.specs.List.{list_any}
use Rattle.sched_model.specs.PlainMode.{message_at}
use Rattle.runtime_model.specs.Plans.{Plan, node_of, sender_of}
use Rattle.runtime_model.specs.Placement.{placed, own_slot, window_at}
use Rattle.runtime_model.specs.Outcomes.{Spot, Step, ended_run, took}
use Rattle.runtime_model.specs.LookingBack.{synced, recall}

-- node v is in the set of these bits
abbrev pub in_set : ℕ → ℕ → Bool
in_set bits v = nat_eq (bits / 2 ^ v % 2) 1

-- node v hears a beacon, or gets a packet, that node w sent
abbrev pub reached : ℕ → ℕ → ℕ → Bool
reached lost w v = nat_eq v w || not (in_set lost v)

-- a value before others, where all are there
abbrev pub both : Option ℤ → Option (List ℤ) → Option (List ℤ)
both None ys = None
both (Some x) None = None
both (Some x) (Some ys) = Some (x ∷ ys)

-- all values, where each one is there
abbrev pub all_present : List (Option ℤ) → Option (List ℤ)
all_present [] = Some []
all_present (x ∷ xs) = both x (all_present xs)

-- a consumer of message i is on node v
abbrev pub takes_on : Plan → ℕ → ℕ → Bool
takes_on p i v = list_any (λ b. nat_eq (node_of p b) v) (message_at p.mode i).to

-- the values of run k of each producer of message i, where its node holds all of them: each run ended on it, and it is unbroken since
abbrev pub held : Plan → ℕ → ℕ → ℕ → List Step → Option (List ℤ)
held p stay i k ds = all_present (map (λ a. recall (node_of p a) stay (ended_run a k) ds) (message_at p.mode i).from)

-- what is sent at a slot of the round at place j with message i: the slot is placed, and the sender is synced and holds the values of its window
abbrev pub packet : Plan → Spot → ℕ → ℕ → List Step → Option (List ℤ)
packet p s j i ds =
    cond (placed s.hyper.opening s.hyper.phase (own_slot p j i) && synced (sender_of p i) ds) (held p s.stay i (window_at p s.turn j i) ds) None

-- node w took a copy of window k of message i in this stay, since which it is unbroken
abbrev pub has_copy : ℕ → ℕ → ℕ → List Step → ℕ → Bool
has_copy stay i k ds w = is_some (recall w stay (took w i k) ds)

-- node w takes a packet of window k of message i that node v sends: no earlier copy of that window is with it
abbrev pub takes : Plan → ℕ → ℕ → ℕ → ℕ → ℕ → List Step → ℕ → Bool
takes p stay lost v i k ds w = takes_on p i w && (synced w ds && (reached lost v w && not (has_copy stay i k ds w)))
