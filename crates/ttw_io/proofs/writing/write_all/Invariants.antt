use Rattle.std.proofs.Common.{length, ◌-◌, ◌≡◌, ◌≤◌, take, List, ℕ, Option}
use Rattle.std.specs.Io.KnownBytes.{append_known}
use Rattle.ttw_io.proofs.writing.write_all.Given as goal

-- the first `done` bytes of the text were added
pub record Writing (old new : Option (List ℕ)) (done before now flushes flushes_now : ℕ) (text : List ℕ) : Type 0 where
  pub within : done ≤ length text
  pub added : new ≡ append_known old (take done text)
  pub counted : before ≤ now
  pub same_flushes : flushes_now ≡ flushes

abbrev pub invariant-loop-done : goal.invariant-loop-done
invariant-loop-done g l = Writing (g.S.Sink.held l.initial.out) (g.S.Sink.held l.out) l.done (g.S.Sink.faults l.initial.out) (g.S.Sink.faults l.out) (g.S.Sink.flushes l.initial.out) (g.S.Sink.flushes l.out) l.text

abbrev pub decreases-loop-done : goal.decreases-loop-done
decreases-loop-done g l = length l.text - l.done
