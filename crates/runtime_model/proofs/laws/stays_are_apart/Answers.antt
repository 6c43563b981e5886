use Rattle.std.proofs.Common.{List, ℤ}
use Rattle.runtime_model.proofs.NewStay.{stays_are_apart}
use Rattle.runtime_model.proofs.laws.stays_are_apart.Goals as goal

pub returns-clause-values : goal.returns-clause-values
returns-clause-values c = stays_are_apart ℤ

pub returns-clause-packets : goal.returns-clause-packets
returns-clause-packets c = stays_are_apart (List ℤ)
