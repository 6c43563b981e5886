use Rattle.std.proofs.Common.{◌-◌, length, pos, arith}
use Rattle.tick_num.specs.Differences.{diff}
use Rattle.diff_store.proofs.Home.{writing_first, writing_done, writing_more, writing_low, place_low, place_left}
use Rattle.diff_store.proofs.cycles.close.Goals as goal

pub loop-variable-init : goal.loop-variable-init
loop-variable-init c =
    let l = (c.requires.range c.args.last (diff 0 0 (pos 0)) c.requires.home.within).1 in
    writing_first c.args.list.now c.args.causes.now c.args.cycle.now c.args.last (length c.args.cycle.now - 1) c.requires.size c.requires.range
    (let e = c.requires.size in omega (arith, l, e)) c.requires.home

pub bounds-causes-variable : goal.bounds-causes-variable
bounds-causes-variable c = writing_low c.args.list.now c.args.causes.now c.loop-variable.cycle c.args.last c.loop-variable.variable c.loop-variable.start c.loop-variable.invariant

pub overflow_sub-start-in-loop-variable : goal.overflow_sub-start-in-loop-variable
overflow_sub-start-in-loop-variable c = place_left c.args.list.now c.args.causes.now c.loop-variable.cycle c.args.last c.loop-variable.variable c.loop-variable.start c.loop-variable.invariant c.requires.range c.loop-variable-test.true

pub bounds-list-position : goal.bounds-list-position
bounds-list-position c = place_low c.args.list.now c.args.causes.now c.loop-variable.cycle c.args.last c.loop-variable.variable c.loop-variable.start c.loop-variable.invariant c.requires.range c.loop-variable-test.true

pub loop-variable-smaller : goal.loop-variable-smaller
loop-variable-smaller c = let l = place_left c.args.list.now c.args.causes.now c.loop-variable.cycle c.args.last c.loop-variable.variable c.loop-variable.start c.loop-variable.invariant c.requires.range c.loop-variable-test.true in omega (arith, l)

pub loop-variable-preserved : goal.loop-variable-preserved
loop-variable-preserved c =
    let l = place_left c.args.list.now c.args.causes.now c.loop-variable.cycle c.args.last c.loop-variable.variable c.loop-variable.start c.loop-variable.invariant c.requires.range c.loop-variable-test.true in
    writing_more c.args.list.now c.args.causes.now c.loop-variable.cycle c.args.last c.loop-variable.variable c.loop-variable.start c.loop-variable.invariant c.requires.range c.loop-variable-test.true (c.loop-variable.start - 1) (omega (arith, l))

pub returns-clause-cycle : goal.returns-clause-cycle
returns-clause-cycle c = writing_done c.args.list.now c.args.causes.now c.loop-variable.cycle c.args.last c.loop-variable.variable c.loop-variable.start c.loop-variable.invariant c.loop-variable-test.false
