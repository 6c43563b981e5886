-- The lines that tell why a command is refused
use Rattle.std.specs.Prelude.{ℕ, codes, List, [], ◌∷◌, ◌++◌}
use Rattle.ttw_text.specs.Numbers.{spelled}

-- the words that are no command
abbrev pub usage_line : List ℕ
usage_line = codes "usage: plan FILE BUDGET, check FILE PLAN, tables FILE PLAN NODE, replay FILE PLAN SCRIPT, drill SEED, latency FILE BUDGET, guard FILE PPM\n"

-- a mode whose search exceeds the budget at r rounds
abbrev pub budget_line : List ℕ → ℕ → List ℕ
budget_line name r = codes "budget: mode " ++ name ++ codes " at " ++ spelled r ++ codes " rounds" ++ 10 ∷ []
