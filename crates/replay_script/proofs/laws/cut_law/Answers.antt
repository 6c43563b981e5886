use Rattle.replay_script.proofs.CutTexts.{cut_same}
use Rattle.replay_script.proofs.laws.cut_law.Goals as goal

pub returns : goal.returns
returns c = cut_same
