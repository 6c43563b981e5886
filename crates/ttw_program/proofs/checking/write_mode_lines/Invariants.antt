use Rattle.std.proofs.Common.{◌≡◌, ◌++◌, length, take}
use Rattle.std.specs.List.{flat_map, zip}
use Rattle.ttw_program.specs.Checks.{mode_line}
use Rattle.ttw_program.proofs.checking.write_mode_lines.Given as goal

abbrev pub invariant-loop-mode : goal.invariant-loop-mode
invariant-loop-mode l = l.out ≡ l.initial.out ++ flat_map mode_line (take (length l.yielded) (zip l.modes l.plans))
