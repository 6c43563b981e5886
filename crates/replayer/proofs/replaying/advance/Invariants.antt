use Rattle.std.proofs.Common.{◌≡◌, ◌≤◌, map}
use Rattle.runtime_model.specs.Script.{go}
use Rattle.replayer.specs.Running.{Does, under}
use Rattle.replayer.proofs.replaying.advance.Given as goal

-- the replay stands after as many Advances
abbrev pub invariant-loop : goal.invariant-loop
invariant-loop g l =
    Does (under l.fn.world (map (λ b. (goal.TaskBody-dyn g (b.vtable, b.value)).seen b.value) l.fn.bodies.items) (g.S.Sink.held l.fn.out) l.fn.tracer) (go l.counter)
    (under l.world (map (λ b. (goal.TaskBody-dyn g (b.vtable, b.value)).seen b.value) l.bodies.items) (g.S.Sink.held l.out) l.tracer)
    × (g.S.Sink.faults l.fn.out ≤ g.S.Sink.faults l.out)
    × (g.S.Sink.flushes l.out ≡ g.S.Sink.flushes l.fn.out)
