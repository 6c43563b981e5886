use Rattle.std.proofs.Common.{◌≡◌, take, count_by}
use Rattle.round_service.specs.Serving.{names_round}
use Rattle.round_service.proofs.choices.load.Given as goal

abbrev pub invariant-loop-g : goal.invariant-loop-g
invariant-loop-g l = l.total ≡ count_by (λ g. names_round l.rounds l.j g) (take l.g-index l.chosen)
