use Rattle.std.proofs.Common.{w64}
use Rattle.std.proofs.lemmas.Int.{to_z_pos}
use Rattle.round_service.proofs.Numbers.{choices_most}
use Rattle.round_service.proofs.choices.first_choices.Goals as goal

pub returns-clause-high : goal.returns-clause-high
returns-clause-high c = to_z_pos w64 _ (choices_most c.args.times c.requires)
