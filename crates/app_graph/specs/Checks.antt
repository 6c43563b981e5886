-- What a test of a rule answers
use Rattle.std.specs.Prelude.{◌≡◌, ⊤, Some, None, Result, Ok, Err}
use Rattle.app_graph.specs.declared.faults.GraphFault.{GraphFault}
use Rattle.app_graph.specs.declared.faults.GraphFault.TheVariants.{Memory}
use Rattle.app_graph.specs.Rules.{Rule}

-- the rule is broken with this fault, unless memory ran out
abbrev pub Breaks : GraphFault → Rule GraphFault → Type 0
Breaks Memory rule = ⊤
Breaks fault rule = rule ≡ Some fault

-- nothing where the rule is kept, and else its fault
abbrev pub Checks : {X : Type 0} → Result X GraphFault → Rule GraphFault → Type 0
Checks (Ok x) rule = rule ≡ None
Checks (Err fault) rule = Breaks fault rule
