use Rattle.std.proofs.Common.{length, ◌≤◌, vec_capacity}
use Rattle.diff_store.proofs.TrailLemmas.{PuttingBack}
use Rattle.diff_store.proofs.trail.put_back.Given as goal

abbrev pub invariant-loop-entries : goal.invariant-loop-entries
invariant-loop-entries l = PuttingBack l.start l.fn.entries.items l.entries.items l.fn.values l.values l.fn.causes l.causes × (vec_capacity l.fn.entries ≤ vec_capacity l.entries)

abbrev pub decreases-loop-entries : goal.decreases-loop-entries
decreases-loop-entries l = length l.entries.items
