use Rattle.std.proofs.Common.{◌≡◌, ◌≤◌, map, take}
use Rattle.replayer.specs.Running.{Follows, under}
use Rattle.replayer.specs.Scripts.{plain_line}
use Rattle.replayer.proofs.replaying.replay.Given as goal

-- the replay stands after the lines so far
abbrev pub invariant-loop-line : goal.invariant-loop-line
invariant-loop-line g l =
    Follows (under l.initial.world (map (λ b. (goal.TaskBody-dyn g (b.vtable, b.value)).seen b.value) l.initial.bodies.items) (g.S.Sink.held l.initial.out) l.initial.tracer) (map plain_line (take l.line-index l.lines))
    (under l.world (map (λ b. (goal.TaskBody-dyn g (b.vtable, b.value)).seen b.value) l.bodies.items) (g.S.Sink.held l.out) l.tracer)
    × (g.S.Sink.faults l.initial.out ≤ g.S.Sink.faults l.out)
    × (g.S.Sink.flushes l.out ≡ g.S.Sink.flushes l.initial.out)
