use Rattle.std.proofs.Common.{refl, ◌∙◌, arith, map}
use Rattle.replayer.proofs.EventSteps.{later_rose}
use Rattle.replayer.proofs.WholeScripts.{all_written, end_cut, line_cut, line_more, may_line, starts}
use Rattle.replayer.proofs.replaying.replay.Goals as goal

pub loop-line-init : goal.loop-line-init
loop-line-init g c = (starts _, omega arith, refl)

pub perform_line-requires : goal.perform_line-requires
perform_line-requires g c =
    let made = map (λ b. (goal.TaskBody-dyn g (b.vtable, b.value)).seen b.value) c.args.bodies.now.items in
    may_line c.args.set.now made c.args.lines.now c.requires.rules c.requires.fits _ _ c.in_ok-tracer.tracer _ c.loop-line.line-index (c.in_ok-tracer.ensures.start, c.in_ok-tracer.ensures.room) c.requires.new c.loop-line-test.true c.loop-line.invariant.0

pub returns-in_err-perform_line-clause-cut : goal.returns-in_err-perform_line-clause-cut
returns-in_err-perform_line-clause-cut g c is =
    let made = map (λ b. (goal.TaskBody-dyn g (b.vtable, b.value)).seen b.value) c.args.bodies.now.items in
    line_cut c.args.set.now made c.args.lines.now c.requires.rules c.requires.fits _ _ _ c.in_ok-tracer.tracer _ c.loop-line.line-index (c.in_ok-tracer.ensures.start, c.in_ok-tracer.ensures.room) c.loop-line-test.true c.loop-line.invariant.0 c.in_err-perform_line.ensures.done.err

pub returns-in_err-perform_line-clause-fault : goal.returns-in_err-perform_line-clause-fault
returns-in_err-perform_line-clause-fault g c is = later_rose _ _ _ c.loop-line.invariant.1 c.in_err-perform_line.ensures.sink.failed

pub returns-in_err-perform_line-clause-counted : goal.returns-in_err-perform_line-clause-counted
returns-in_err-perform_line-clause-counted g c = omega (arith, c.loop-line.invariant.1, c.in_err-perform_line.ensures.sink.counted)

pub returns-in_err-perform_line-clause-same_flushes : goal.returns-in_err-perform_line-clause-same_flushes
returns-in_err-perform_line-clause-same_flushes g c = c.in_err-perform_line.ensures.sink.same_flushes ∙ c.loop-line.invariant.2

pub loop-line-preserved : goal.loop-line-preserved
loop-line-preserved g c =
    let made = map (λ b. (goal.TaskBody-dyn g (b.vtable, b.value)).seen b.value) c.args.bodies.now.items in (
      line_more c.args.set.now made c.args.lines.now c.requires.rules c.requires.fits _ _ _ c.loop-line.line-index c.loop-line-test.true c.loop-line.invariant.0 c.in_ok-perform_line.ensures.done.ok,
      omega (arith, c.loop-line.invariant.1, c.in_ok-perform_line.ensures.sink.counted),
      c.in_ok-perform_line.ensures.sink.same_flushes ∙ c.loop-line.invariant.2,
    )

pub returns-in_err-done-clause-cut : goal.returns-in_err-done-clause-cut
returns-in_err-done-clause-cut g c is =
    let made = map (λ b. (goal.TaskBody-dyn g (b.vtable, b.value)).seen b.value) c.args.bodies.now.items in
    end_cut c.args.set.now made c.args.lines.now c.requires.rules c.requires.fits _ _ _ _ _ _ c.in_ok-tracer.tracer c.loop-line.tracer c.loop-line.line-index (c.in_ok-tracer.ensures.start, c.in_ok-tracer.ensures.room) c.loop-line-test.false c.loop-line.invariant.0 c.in_err-done.ensures.err

pub returns-in_err-done-clause-fault : goal.returns-in_err-done-clause-fault
returns-in_err-done-clause-fault g c is = later_rose _ _ _ c.loop-line.invariant.1 c.in_err-done.ensures.sink.failed

pub returns-in_err-done-clause-counted : goal.returns-in_err-done-clause-counted
returns-in_err-done-clause-counted g c = omega (arith, c.loop-line.invariant.1, c.in_err-done.ensures.sink.counted)

pub returns-in_err-done-clause-same_flushes : goal.returns-in_err-done-clause-same_flushes
returns-in_err-done-clause-same_flushes g c = c.in_err-done.ensures.sink.same_flushes ∙ c.loop-line.invariant.2

pub returns-clause-whole : goal.returns-clause-whole
returns-clause-whole g c =
    let made = map (λ b. (goal.TaskBody-dyn g (b.vtable, b.value)).seen b.value) c.args.bodies.now.items in
    all_written c.args.set.now made c.args.lines.now c.requires.rules c.requires.fits _ _ _ _ _ _ c.in_ok-tracer.tracer c.loop-line.tracer _ c.loop-line.line-index (c.in_ok-tracer.ensures.start, c.in_ok-tracer.ensures.room) c.loop-line-test.false c.loop-line.invariant.0 c.in_ok-done.ensures.ok (c.counts.ensures ∙ c.in_ok-done.ensures.same_counts)

pub returns-clause-counted : goal.returns-clause-counted
returns-clause-counted g c = omega (arith, c.loop-line.invariant.1, c.in_ok-done.ensures.sink.counted)

pub returns-clause-same_flushes : goal.returns-clause-same_flushes
returns-clause-same_flushes g c = c.in_ok-done.ensures.sink.same_flushes ∙ c.loop-line.invariant.2
