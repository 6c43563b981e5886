use Rattle.std.proofs.Common.{◌≡◌, map}
use Rattle.std.specs.Prelude.{slice_index_or, None}
use Rattle.sched_model.specs.Numbers.{below}
use Rattle.plan_picture.specs.Picture.{mode_section}
use Rattle.plan_picture.proofs.charts.sections_of.Given as goal

abbrev pub invariant-loop-mode : goal.invariant-loop-mode
invariant-loop-mode l = l.sections.items ≡ map (λ i. mode_section l.set i (slice_index_or l.plans i None)) (below l.mode)
