use Rattle.std.proofs.Common.{ap, inl, inr, map, refl, subst, sym, Err, List}
use Rattle.replay_script.specs.declared.line.Line.{Line}
use Rattle.replayer.specs.Replaying.{SpelledBy}
use Rattle.ttw_program.proofs.EndingLemmas.{trace_flushed}
use Rattle.ttw_program.proofs.ending.finish_replay.Goals as goal

pub returns-in-Ok-clause-end : goal.returns-in-Ok-clause-end
returns-in-Ok-clause-end g c = λ schedules es new spelled.
    let made = map (λ b. (goal.TaskBody-dyn g (b.vtable, b.value)).seen b.value) c.args.bodies.now.items in
    let read = subst (λ (ls : List Line). SpelledBy c.args.due.set schedules made ls es) (sym c.as_slice.ensures) spelled in
    let done = c.in-Ok.ensures.whole schedules es new read in
    trace_flushed _ _ _ _ _ _ _ _ _ done.text c.replay.ensures.counted c.replay.ensures.same_flushes c.flush.ensures.end c.flush.ensures.once c.flush.ensures.last c.flush.ensures.kept

pub returns-in-Err-WriteFault-clause-end : goal.returns-in-Err-WriteFault-clause-end
returns-in-Err-WriteFault-clause-end g c = λ schedules es new spelled.
    let made = map (λ b. (goal.TaskBody-dyn g (b.vtable, b.value)).seen b.value) c.args.bodies.now.items in
    let read = subst (λ (ls : List Line). SpelledBy c.args.due.set schedules made ls es) (sym c.as_slice.ensures) spelled in
    let is = ap (λ e. Err e) c.in-Err-WriteFault.field-0-is in
    inl (inr (refl, c.in-Err-WriteFault.ensures.fault is, inl (c.replay.ensures.same_flushes, c.in-Err-WriteFault.ensures.cut is schedules es new read)))
