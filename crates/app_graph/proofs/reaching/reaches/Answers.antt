use Rattle.app_graph.proofs.Ranges.{set_numbered}
use Rattle.app_graph.proofs.reaching.reaches.Goals as goal

pub set_reaches-requires : goal.set_reaches-requires
set_reaches-requires c = set_numbered c.args.set.now c.requires
