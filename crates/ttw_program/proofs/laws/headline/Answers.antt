use Rattle.ttw_program.proofs.HeadlineLemmas.{headline}
use Rattle.ttw_program.proofs.laws.headline.Goals as goal

pub returns : goal.returns
returns c = headline
