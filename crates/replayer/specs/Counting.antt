-- What is counted of a replay
use Rattle.std.specs.Prelude.{◌≡◌, ℕ, ◌*◌, ◌^◌, ◌<◌, ◌≤◌, Bool, true, false, List, [], ◌∷◌, ◌++◌, length, filter, ℤ, pos, neg_ℤ, ◌+ℤ◌, ◌≤ℤ◌}
use Rattle.std.specs.List.{flat_map, fold}
use Rattle.world_core.specs.declared.happened.Happened.{Happened}
use Rattle.world_core.specs.declared.happened.Happened.TheVariants.{Sent, Started}
use Rattle.replayer.specs.declared.counts.Counts.{Counts}

-- a node sent
abbrev pub is_send : Happened → Bool
is_send (Sent at node packet taken) = true
is_send _ = false

-- a task started
abbrev pub is_start : Happened → Bool
is_start (Started at node task inputs) = true
is_start _ = false

-- the values that were sent
abbrev pub sent_values : Happened → List ℤ
sent_values (Sent at node packet taken) = packet.values
sent_values _ = []

-- a number and values
abbrev pub sum_from : ℤ → List ℤ → ℤ
sum_from start xs = fold (λ sum x. sum +ℤ x) start xs

-- how many events there were, how many of them sent, how many started a task, and the sum of all values sent
abbrev pub counts_of : List Happened → Counts
counts_of hs = record { events = length hs; sent = length (filter is_send hs); started = length (filter is_start hs); values = sum_from (pos 0) (flat_map sent_values hs) }

-- what was counted of some events is now what is counted of them and one more
abbrev pub CountsOneMore : (before : Counts) → Happened → (now : Counts) → Type 0
CountsOneMore before h now = (hs : List Happened) → before ≡ counts_of hs → now ≡ counts_of (hs ++ h ∷ [])

-- a sum of four numbers of 64 bits for each event
pub record IsSumFor (events : ℕ) (sum : ℤ) : Type 0 where
  pub least : neg_ℤ (pos (events * 2 ^ 65)) ≤ℤ sum
  pub most : sum ≤ℤ pos (events * 2 ^ 65)

-- one event more can be counted: there were fewer than so many, and no more of a kind than in all
pub record HasRoom (c : Counts) : Type 0 where
  pub events : c.events < 2 ^ 61
  pub sent : c.sent ≤ c.events
  pub started : c.started ≤ c.events
  pub values : IsSumFor c.events c.values
