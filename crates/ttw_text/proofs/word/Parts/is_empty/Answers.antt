use Rattle.std.proofs.Common.{ap, ◌∙◌}
use Rattle.ttw_text.specs.Words.{is_empty}
use Rattle.ttw_text.proofs.WordLemmas.{none_left}
use Rattle.ttw_text.proofs.word.Parts.is_empty.Goals as goal

pub returns : goal.returns
returns c = none_left c.self.inside.rest c.is_none.result c.is_none.ensures ∙ ap is_empty c.self.view_is
