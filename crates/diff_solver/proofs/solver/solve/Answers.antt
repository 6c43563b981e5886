use Rattle.std.proofs.Common.{refl}
use Rattle.tick_num.proofs.Cycles.{cycles_exclude}
use Rattle.diff_solver.proofs.solver.solve.Goals as goal

pub returns-in-Some-clause-least : goal.returns-in-Some-clause-least
returns-in-Some-clause-least c = (λ e. cc, λ s. absurd (cycles_exclude c.args.list.now _ c.in-Some.ensures.cycle s.0 s.1))

pub returns-in-Some-clause-cycle : goal.returns-in-Some-clause-cycle
returns-in-Some-clause-cycle c = (λ e v m. cycles_exclude c.args.list.now _ c.in-Some.ensures.cycle v m, λ none. refl)
