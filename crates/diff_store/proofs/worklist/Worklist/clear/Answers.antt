use Rattle.std.proofs.Common.{◌<◌, subst, sym}
use Rattle.std.specs.List.{count_by}
use Rattle.diff_store.proofs.Efforts.{count_less}
use Rattle.diff_store.proofs.worklist.Worklist.clear.Goals as goal

pub loop-variable-smaller : goal.loop-variable-smaller
loop-variable-smaller c = subst (λ ws. count_by (λ w. w) ws < count_by (λ w. w) c.loop-variable.self) (sym c.in-Some.ensures.taken) (count_less c.loop-variable.self c.in-Some._variable c.in-Some.ensures.range c.in-Some.ensures.waited)
