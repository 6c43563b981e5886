use Rattle.std.proofs.Common.{Ok, Err, refl, sym, ◌∙◌}
use Rattle.app_graph.specs.declared.faults.GraphFault.TheVariants.{OutOfRange, Repeated, Unknown, TwoSenders, Cycle, DeadlineLong, TooMany, Memory}
use Rattle.drill.specs.Generated.{drill_raw}
use Rattle.drill.proofs.FileKept.{file_kept}
use Rattle.drill.proofs.Numbered.{file_numbered}
use Rattle.drill.proofs.laws.drill_law.Goals as goal

pub returns-clause-kept : goal.returns-clause-kept
returns-clause-kept c seed = file_kept seed

pub returns-clause-set : goal.returns-clause-set
returns-clause-set c seed = file_numbered seed

pub returns-clause-validated : goal.returns-clause-validated
returns-clause-validated c seed (Ok set) v = v.1 ∙ file_numbered seed
returns-clause-validated c seed (Err Memory) v = refl
returns-clause-validated c seed (Err (OutOfRange key)) v = absurd (cc (v, file_kept seed))
returns-clause-validated c seed (Err (Repeated name)) v = absurd (cc (v, file_kept seed))
returns-clause-validated c seed (Err (Unknown name)) v = absurd (cc (v, file_kept seed))
returns-clause-validated c seed (Err (TwoSenders name)) v = absurd (cc (v, file_kept seed))
returns-clause-validated c seed (Err (Cycle name)) v = absurd (cc (v, file_kept seed))
returns-clause-validated c seed (Err (DeadlineLong name)) v = absurd (cc (v, file_kept seed))
returns-clause-validated c seed (Err (TooMany key)) v = absurd (cc (v, file_kept seed))

pub returns-clause-keeps : goal.returns-clause-keeps
returns-clause-keeps c seed = (drill_raw seed, file_kept seed, sym (file_numbered seed))
