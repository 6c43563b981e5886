-- What is left of an image.
use Rattle.std.specs.Prelude.{ℕ, List}

-- the place of its next byte, and the bytes from there on
pub record Left : Type 0 where
  pub at : ℕ
  pub bytes : List ℕ
