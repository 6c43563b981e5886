use Rattle.std.proofs.Common.{◌-◌, arith}
use Rattle.diff_solver.proofs.Back.{writing_none, writing_cause, written_cycle, writing_more, writing_ends}
use Rattle.diff_solver.proofs.cycles.write_back.Goals as goal

pub loop-start-init : goal.loop-start-init
loop-start-init c = writing_none c.args.list.now c.args.causes.now c.args.cycle.now c.args.end c.requires.size c.requires.end c.requires.round

pub bounds-causes-variable : goal.bounds-causes-variable
bounds-causes-variable c = c.loop-start.invariant.low

pub bounds-list-position : goal.bounds-list-position
bounds-list-position c = (writing_cause c.args.list.now c.args.causes.now c.loop-start.cycle c.args.end c.loop-start.variable c.loop-start.start c.requires.range c.loop-start.invariant).within

pub returns-then-variable-end-clause-cycle : goal.returns-then-variable-end-clause-cycle
returns-then-variable-end-clause-cycle c = written_cycle c.args.list.now c.args.causes.now c.loop-start.cycle c.args.end c.loop-start.variable c.loop-start.start c.requires.range c.loop-start.invariant (c.loop-start.start - 1) (omega arith) c.if-variable-end.true

pub loop-start-preserved : goal.loop-start-preserved
loop-start-preserved c = writing_more c.args.list.now c.args.causes.now c.loop-start.cycle c.args.end c.loop-start.variable c.loop-start.start c.requires.range c.loop-start.invariant (c.loop-start.start - 1) (omega arith) c.if-variable-end.false

pub unreachable-requires : goal.unreachable-requires
unreachable-requires c = writing_ends c.args.list.now c.args.causes.now c.loop-start.cycle c.args.end c.loop-start.variable c.loop-start.start c.requires.range c.loop-start.invariant (omega arith)
