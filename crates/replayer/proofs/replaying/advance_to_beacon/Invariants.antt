use Rattle.std.proofs.Common.{◌≡◌, ◌≤◌, map}
use Rattle.replayer.specs.Running.{under}
use Rattle.replayer.proofs.LineSteps.{Waits}
use Rattle.replayer.proofs.replaying.advance_to_beacon.Given as goal

-- the replay stands after as many Advances, and waits for a beacon
abbrev pub invariant-loop : goal.invariant-loop
invariant-loop g l =
    Waits (under l.fn.world (map (λ b. (goal.TaskBody-dyn g (b.vtable, b.value)).seen b.value) l.fn.bodies.items) (g.S.Sink.held l.fn.out) l.fn.tracer) l.counter
    (under l.world (map (λ b. (goal.TaskBody-dyn g (b.vtable, b.value)).seen b.value) l.bodies.items) (g.S.Sink.held l.out) l.tracer)
    × (g.S.Sink.faults l.fn.out ≤ g.S.Sink.faults l.out)
    × (g.S.Sink.flushes l.out ≡ g.S.Sink.flushes l.fn.out)
