use Rattle.replayer.proofs.Spelling.{scripts_spell_once}
use Rattle.replayer.proofs.laws.scripts_spell_once.Goals as goal

pub returns : goal.returns
returns c = scripts_spell_once
