use Rattle.std.proofs.Common.{List, ℤ}
use Rattle.runtime_model.proofs.Recalls.{recall_looks_back}
use Rattle.runtime_model.proofs.laws.recall_looks_back.Goals as goal

pub returns-clause-values : goal.returns-clause-values
returns-clause-values c = recall_looks_back ℤ

pub returns-clause-packets : goal.returns-clause-packets
returns-clause-packets c = recall_looks_back (List ℤ)
