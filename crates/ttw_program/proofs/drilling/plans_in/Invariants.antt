use Rattle.std.proofs.Common.{◌≡◌, ◌++◌, map}
use Rattle.ttw_program.proofs.drilling.plans_in.Given as goal

abbrev pub invariant-loop-part : goal.invariant-loop-part
invariant-loop-part l = l.plans.items ++ map (λ part. part.schedule) l.part-iterator.rest.items ≡ map (λ part. part.schedule) l.fn.parts.items
