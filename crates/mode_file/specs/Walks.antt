-- What a step of reading answers, against its rule and the value that it is to give
use Rattle.std.specs.Prelude.{◌≡◌, ⊤, Some, None, Result, Ok, Err}
use Rattle.app_graph.specs.Rules.{Rule}
use Rattle.mode_file.specs.declared.faults.FileFault.{FileFault}
use Rattle.mode_file.specs.declared.faults.FileFault.TheVariants.{Memory}

-- the rule is broken with this fault, unless memory ran out
abbrev pub Breaks : FileFault → Rule FileFault → Type 0
Breaks Memory rule = ⊤
Breaks fault rule = rule ≡ Some fault

-- the value where the rule is kept, and else its fault
abbrev pub Walks : {X Y : Type 0} → (X → Y) → Result X FileFault → Rule FileFault → Y → Type 0
Walks view (Ok x) rule y = (rule ≡ None) × (view x ≡ y)
Walks view (Err fault) rule y = Breaks fault rule
