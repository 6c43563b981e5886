-- The line that sums up a drill
use Rattle.std.specs.Prelude.{ℕ, List, [], ◌∷◌, ◌++◌, codes}
use Rattle.ttw_text.specs.Numbers.{spelled, signed_spelled}
use Rattle.drill.specs.declared.summary.Summary.{Summary}

-- what it says of the mode set
unfoldable pub set_part : Summary → List ℕ
set_part s =
    codes "drill " ++ spelled s.seed ++ codes " modes " ++ spelled s.modes
    ++ codes " tasks " ++ spelled s.tasks ++ codes " messages " ++ spelled s.messages

-- what it says of the plan
unfoldable pub plan_part : Summary → List ℕ
plan_part s =
    codes " rounds " ++ spelled s.rounds ++ codes " visited " ++ spelled s.visited
    ++ codes " offsets " ++ spelled s.offsets

-- what it says of the run
unfoldable pub run_part : Summary → List ℕ
run_part s =
    codes " sent " ++ spelled s.sent ++ codes " started " ++ spelled s.started
    ++ codes " values " ++ signed_spelled s.values

abbrev pub summary_line : Summary → List ℕ
summary_line s = set_part s ++ plan_part s ++ run_part s ++ 10 ∷ []
