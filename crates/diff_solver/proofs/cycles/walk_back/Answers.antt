use Rattle.std.proofs.Common.{◌<◌, ◌∙◌, sym, ap, subst, arith, length}
use Rattle.diff_solver.specs.Causes.{before}
use Rattle.diff_solver.proofs.Back.{back_start, back_next, back_low}
use Rattle.diff_solver.proofs.cycles.walk_back.Goals as goal

pub loop-step-init : goal.loop-step-init
loop-step-init c = back_start c.args.list.now c.args.causes.now c.args.from

pub loop-step-preserved : goal.loop-step-preserved
loop-step-preserved c = ap (before c.args.list.now c.args.causes.now) c.loop-step.invariant ∙ back_next c.args.list.now c.args.causes.now c.args.from c.loop-step._step

pub bounds-causes-variable : goal.bounds-causes-variable
bounds-causes-variable c = subst (λ v. v < length c.args.causes.now) (sym c.loop-step.invariant) (back_low c.args.list.now c.args.causes.now (length c.args.causes.now) c.args.from c.requires.range c.requires.from c.requires.back c.loop-step._step (omega arith))

pub returns-clause-range : goal.returns-clause-range
returns-clause-range c = subst (λ v. v < length c.args.causes.now) (sym c.loop-step.invariant) (back_low c.args.list.now c.args.causes.now (length c.args.causes.now) c.args.from c.requires.range c.requires.from c.requires.back c.loop-step._step (omega arith))
