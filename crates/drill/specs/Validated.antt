-- What the validation of the generated file answers
use Rattle.std.specs.Prelude.{◌≡◌, ℕ, Result, Ok, Err}
use Rattle.app_graph.specs.declared.faults.GraphFault.{GraphFault}
use Rattle.app_graph.specs.declared.faults.GraphFault.TheVariants.{Memory}
use Rattle.app_graph.specs.declared.mode_set.ModeSet.{ModeSet}
use Rattle.drill.specs.Generated.{drill_set}

-- the generated mode set, unless memory ran out
abbrev pub Validated : ℕ → Result ModeSet GraphFault → Type 0
Validated seed (Ok set) = set ≡ drill_set seed
Validated seed (Err fault) = fault ≡ Memory
