use Rattle.std.proofs.Common.{◌*◌, ◌≤◌, take}
use Rattle.std.specs.List.{AllZip}
use Rattle.ttw_program.specs.Plans.{PlansMode, VisitsIn}
use Rattle.ttw_program.proofs.planning.plan_modes.Given as goal

abbrev pub invariant-loop-mode : goal.invariant-loop-mode
invariant-loop-mode l =
    AllZip (PlansMode l.set l.budget) (take l.mode l.set.modes) l.parts.items
    × VisitsIn l.set (take l.mode l.set.modes) l.visited
    × (l.visited ≤ l.mode * 100000)
