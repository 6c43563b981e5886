use Rattle.ttw_text.proofs.LineLemmas.{concat-lines, lines-append, without_feed_is}
use Rattle.ttw_text.proofs.laws.lines_law.Goals as goal

pub returns-clause-joined : goal.returns-clause-joined
returns-clause-joined c = concat-lines

pub returns-clause-first : goal.returns-clause-first
returns-clause-first c = lines-append

pub returns-clause-feed : goal.returns-clause-feed
returns-clause-feed c = without_feed_is
