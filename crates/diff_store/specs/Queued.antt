-- Variables that wait in a queue, each once
use Rattle.std.specs.Prelude.{◌≡◌, ℕ, ◌<◌, Bool, true, List, length, Contains}
use Rattle.diff_store.specs.Causes.{beside}
use Rattle.diff_store.specs.Raising.{waits_in}

-- the queue has exactly the variables that wait, each of them once
pub record Queued (queue : List ℕ) (waits : List Bool) : Type 0 where
  pub marked : (i : ℕ) → i < length queue → waits_in waits (beside queue i) ≡ true
  pub once : (i j : ℕ) → i < j → j < length queue → beside queue i ≡ beside queue j → ⊥
  pub queued : (x : ℕ) → waits_in waits x ≡ true → Contains queue x
