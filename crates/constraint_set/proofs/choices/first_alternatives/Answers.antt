use Rattle.std.proofs.Common.{◌+◌, ◌*◌, ◌/◌, pos, ◌∙◌, ap}
use Rattle.round_service.specs.declared.choices.MessageTimes.{MessageTimes}
use Rattle.sched_model.specs.Numbers.{span}
use Rattle.constraint_set.proofs.choices.first_alternatives.Goals as goal

pub returns : goal.returns
returns c =
    ap (λ z. span z c.first_choices.result.1) c.first_choices.ensures.low
    ∙ ap (λ z. span (pos 1) z) c.first_choices.ensures.high
    ∙ ap (λ (t : MessageTimes). span (pos 1) (pos (t.rounds * ((t.period + t.deadline) / t.hyper + 1)))) c.numbers_of-numbers.ensures.numbers
