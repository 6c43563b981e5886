-- What contracts see of a body
use Rattle.std.specs.Prelude.{ℕ, List, [], Option, replicate, slice_index_or, slice_set, ℤ, pos}

-- Its name, by which mode files ask for it, and a number for each task. For such numbers, a task and the inputs of a fire:
-- what the fire answers, and the numbers after it
pub record BodySeen : Type 0 where
  pub name : List ℕ
  pub numbers : List ℤ
  pub answer : List ℤ → ℕ → List (Option ℤ) → ℤ
  pub after_fire : List ℤ → ℕ → List (Option ℤ) → List ℤ

-- the numbers of a new body
abbrev pub first_numbers : List ℤ
first_numbers = replicate 1024 (pos 0)

-- what a fire of the task answers to these inputs
abbrev pub answer_of : BodySeen → ℕ → List (Option ℤ) → ℤ
answer_of b task inputs = b.answer b.numbers task inputs

-- the body after such a fire: its name and its two functions stay
abbrev pub fired : BodySeen → ℕ → List (Option ℤ) → BodySeen
fired b task inputs = record b { numbers = b.after_fire b.numbers task inputs }

-- the body after a reset of the task, whose number is 0
abbrev pub reset_for : BodySeen → ℕ → BodySeen
reset_for b task = record b { numbers = slice_set b.numbers task (pos 0) }

-- what stands for a body past the last one
abbrev pub no_body : BodySeen
no_body = record { name = []; numbers = []; answer = λ numbers task inputs. pos 0; after_fire = λ numbers task inputs. numbers }

-- the body at a place of a list
abbrev pub body_at : List BodySeen → ℕ → BodySeen
body_at bodies b = slice_index_or bodies b no_body
