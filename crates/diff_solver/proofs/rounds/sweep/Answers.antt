use Rattle.std.proofs.Common.{arith, length}
use Rattle.std.proofs.lemmas.Int.{ints}
use Rattle.diff_solver.proofs.Sweeps.{sweeping_init, sweeping_skips, sweeping_keeps, sweeping_raises, raises_state, swept_whole}
use Rattle.diff_solver.proofs.rounds.sweep.Goals as goal

pub loop-position-init : goal.loop-position-init
loop-position-init c = sweeping_init c.args.list.now c.args.round c.args.values.now c.args.rounds.now c.args.causes.now c.requires.state c.requires.within c.requires.pending

pub loop-position-preserved-then-rounds-d : goal.loop-position-preserved-then-rounds-d
loop-position-preserved-then-rounds-d c = sweeping_skips c.args.list.now c.args.round c.loop-position.values c.loop-position.rounds c.loop-position.causes c.loop-position.swept c.loop-position.position c.loop-position.invariant (omega arith) c.if-rounds-d.true

pub raise-requires-clause-from_zero : goal.raise-requires-clause-from_zero
raise-requires-clause-from_zero c = c.loop-position.invariant.state.from_zero

pub raise-requires-clause-within : goal.raise-requires-clause-within
raise-requires-clause-within c = c.loop-position.invariant.within

pub loop-position-preserved-then-not-raise : goal.loop-position-preserved-then-not-raise
loop-position-preserved-then-not-raise c = sweeping_keeps c.args.list.now c.args.round c.loop-position.values c.loop-position.rounds c.loop-position.causes c.loop-position.swept c.loop-position.position c.loop-position.invariant c.raise.new.values c.raise.new.rounds c.raise.new.causes c.if-not-raise.ensures.kept

pub returns-then-values-d-gt-LIMIT-clause-state : goal.returns-then-values-d-gt-LIMIT-clause-state
returns-then-values-d-gt-LIMIT-clause-state c = raises_state c.args.list.now c.args.round c.loop-position.values c.loop-position.rounds c.loop-position.causes c.loop-position.swept c.loop-position.position c.loop-position.invariant (length c.args.values.now) c.loop-position.auto.values c.requires.range (omega arith) c.if-rounds-d.false c.raise.new.values c.raise.new.rounds c.raise.new.causes c.if-not-raise.ensures.raised

pub loop-position-preserved : goal.loop-position-preserved
loop-position-preserved c = sweeping_raises c.args.list.now c.args.round c.loop-position.values c.loop-position.rounds c.loop-position.causes c.loop-position.swept c.loop-position.position c.loop-position.invariant (length c.args.values.now) c.loop-position.auto.values c.requires.range (omega arith) c.if-rounds-d.false c.raise.new.values c.raise.new.rounds c.raise.new.causes c.if-not-raise.ensures.raised (grind (arith, ints))

pub returns-clause-state : goal.returns-clause-state
returns-clause-state c = c.loop-position.invariant.state

pub returns-clause-swept : goal.returns-clause-swept
returns-clause-swept c = swept_whole c.args.list.now c.args.round c.loop-position.values c.loop-position.rounds c.loop-position.causes c.loop-position.swept c.loop-position.position (omega arith) c.loop-position.invariant
