use Rattle.std.proofs.Common.{◌≡◌, ◌∷◌, ◌-◌}
use Rattle.replay_script.specs.declared.line.Line.TheVariants.{Go}
use Rattle.drill.specs.Script.{visits}
use Rattle.drill.proofs.script_lines.script.Given as goal

abbrev pub invariant-loop-mode : goal.invariant-loop-mode
invariant-loop-mode l = l.lines.items ≡ Go 336 ∷ visits (l.mode - 1)
