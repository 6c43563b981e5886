use Rattle.std.proofs.Common.{◌∙◌, ap}
use Rattle.node_use.specs.declared.places.TaskTimes.{TaskTimes}
use Rattle.node_use.specs.Between.{plain}
use Rattle.sched_model.specs.ConstraintProblem.{places}
use Rattle.constraint_set.specs.Numbers.{times_at}
use Rattle.constraint_set.proofs.choices.pair_alternatives.Goals as goal

pub returns : goal.returns
returns c =
    c.places_of.ensures.value
    ∙ ap (λ (t : TaskTimes). places (plain t) (plain c.times_of-two.result)) c.times_of-one.ensures.times
    ∙ ap (λ (t : TaskTimes). places (plain (times_at c.args.frame.now c.args.first)) (plain t)) c.times_of-two.ensures.times
