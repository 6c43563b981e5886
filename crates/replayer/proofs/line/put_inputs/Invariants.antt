use Rattle.std.proofs.Common.{take}
use Rattle.ttw_io.proofs.BufferLemmas.{Putting}
use Rattle.replayer.specs.Trace.{inputs_text}
use Rattle.replayer.proofs.line.put_inputs.Given as goal

abbrev pub invariant-loop-input : goal.invariant-loop-input
invariant-loop-input g l =
    Putting (g.S.Sink.held l.initial.out) (g.S.Sink.held l.out) l.initial.buffer l.buffer
    (g.S.Sink.faults l.initial.out) (g.S.Sink.faults l.out) (g.S.Sink.flushes l.initial.out) (g.S.Sink.flushes l.out)
    (inputs_text (take l.input-index l.input-items))
