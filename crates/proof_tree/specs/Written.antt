-- What a call adds to a text that is built.
use Rattle.std.specs.Prelude.{◌≡◌, ℕ, List, ◌++◌}

-- the call was to add `due`, and has added a front of it
pub record StoppedWithin (old now due : List ℕ) : Type 0 where
  pub front : List ℕ
  pub rest : List ℕ
  pub added : now ≡ old ++ front
  pub split : due ≡ front ++ rest
