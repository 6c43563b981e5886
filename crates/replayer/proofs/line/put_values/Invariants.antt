use Rattle.std.proofs.Common.{take}
use Rattle.ttw_io.proofs.BufferLemmas.{Putting}
use Rattle.replayer.specs.Trace.{values_text}
use Rattle.replayer.proofs.line.put_values.Given as goal

abbrev pub invariant-loop-value : goal.invariant-loop-value
invariant-loop-value g l =
    Putting (g.S.Sink.held l.initial.out) (g.S.Sink.held l.out) l.initial.buffer l.buffer
    (g.S.Sink.faults l.initial.out) (g.S.Sink.faults l.out) (g.S.Sink.flushes l.initial.out) (g.S.Sink.flushes l.out)
    (values_text (take l.value-index l.value-items))
