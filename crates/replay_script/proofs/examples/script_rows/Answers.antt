use Rattle.std.proofs.Common.{refl}
use Rattle.replay_script.proofs.examples.script_rows.Goals as goal

pub returns : goal.returns
returns c = record { all = refl; gives = refl; empty = refl; zeros = refl; spaces = refl; range = refl; unknown = refl; host = refl; sum = refl }
