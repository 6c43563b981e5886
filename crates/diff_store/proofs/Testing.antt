-- What the tests keep of a store
use Rattle.std.proofs.Common.{◌≡◌, ℕ, ℤ, length}
use Rattle.tick_num.specs.Differences.{MeetsAll}
use Rattle.diff_store.specs.Storing.{Storing}

-- with so many constraints the list is solvable
pub record Ready (n room count : ℕ) (s : Storing) : Type 0 where
  pub variables : s.variables ≡ n
  pub constraints : s.constraints ≡ room
  pub size : length s.list ≡ count
  pub solvable : (v : ℕ → ℤ) × MeetsAll v s.list
