use Rattle.std.proofs.Common.{take}
use Rattle.std.specs.List.{flat_map}
use Rattle.ttw_io.proofs.BufferLemmas.{Putting}
use Rattle.ttw_io.proofs.buffer.Buffer.put_all.Given as goal

-- the texts so far were put
abbrev pub invariant-loop-text : goal.invariant-loop-text
invariant-loop-text g l =
    Putting (g.S.Sink.held l.initial.out) (g.S.Sink.held l.out) l.initial.self l.self
    (g.S.Sink.faults l.initial.out) (g.S.Sink.faults l.out) (g.S.Sink.flushes l.initial.out) (g.S.Sink.flushes l.out)
    (flat_map (λ t. t.now) (take l.text-index l.texts))
