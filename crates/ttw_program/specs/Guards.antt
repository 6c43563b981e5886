-- What `guard` writes of a mode set
use Rattle.std.specs.Prelude.{◌≡◌, ℕ, codes, List, [], ◌∷◌, ◌++◌, Option, Some, None, unsigned_abs}
use Rattle.ttw_text.specs.Numbers.{spelled}
use Rattle.app_graph.specs.declared.mode_set.ModeSet.{ModeSet}
use Rattle.guard.specs.Guards.{IsGuard, round_of}
use Rattle.guard.specs.declared.guards.LeastGuard.{LeastGuard}
use Rattle.guard.specs.declared.guards.Guard.{Guard}
use Rattle.file_answers.specs.declared.status.Status.{Status}
use Rattle.file_answers.specs.declared.status.Status.TheVariants.{Done}

-- some words and a number, as a line
abbrev pub number_line : List ℕ → ℕ → List ℕ
number_line words n = words ++ (spelled n ++ 10 ∷ [])

-- the two parts that overlap under one tick less
abbrev pub break_line : LeastGuard → List ℕ
break_line guard = codes "break " ++ (spelled guard.first ++ number_line (codes " ") guard.second)

-- the least guard, or that there is none
abbrev pub guard_lines : Option LeastGuard → List ℕ
guard_lines None = codes "guard none\n"
guard_lines (Some guard) = number_line (codes "guard ") (unsigned_abs guard.ticks) ++ break_line guard

-- the part, the guard and the wake-up
abbrev pub guard_text : Guard → List ℕ
guard_text answer = number_line (codes "part ") (unsigned_abs answer.part) ++ (guard_lines answer.guard ++ number_line (codes "wake ") (unsigned_abs answer.wake))

-- the text of what drift of so many millionths asks of the set
abbrev pub GuardDue : ℕ → ModeSet → Status → List ℕ → Type 0
GuardDue ppm set status text = (answer : Guard) × IsGuard (round_of set ppm) (unsigned_abs set.gap) answer × (status ≡ Done) × (text ≡ guard_text answer)
