use Rattle.tick_num.proofs.Layers as layers
use Rattle.sched_model.specs.ConstraintProblem.{in_force}
use Rattle.sched_model.proofs.Leasts.{least_exists, least_zero}
use Rattle.sched_model.proofs.laws.least_values_exist.Goals as goal

pub returns : goal.returns
returns c = λ m r p ok some o.
    let w = least_exists m r p ok some o.values.0 o.values.1 in
    (w.0, w.1, least_zero m r p ok some w.0 w.1, λ u h. layers.least_unique (in_force m r p) u w.0 h w.1)
