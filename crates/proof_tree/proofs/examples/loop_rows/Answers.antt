use Rattle.std.proofs.Common.{refl}
use Rattle.ttw_text.specs.Numbers.{spelled}
use Rattle.sched_model.specs.PlainMode.{hyper}
use Rattle.sched_model.specs.ConstraintProblem.{base, decisions}
use Rattle.proof_tree.proofs.examples.loop_rows.Goals as goal

pub returns : goal.returns
unfolding spelled hyper base decisions
returns c = record { text = refl; plans = refl; ended = refl; bad_leaf = refl; out_of_force = refl; cut = refl; unfinished = refl; extra = refl; missing = refl; other_task = refl }
