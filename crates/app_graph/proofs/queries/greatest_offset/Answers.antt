use Rattle.app_graph.proofs.Numbered.{set_times}
use Rattle.app_graph.proofs.queries.greatest_offset.Goals as goal

pub set_offset-requires : goal.set_offset-requires
set_offset-requires c = set_times c.args.set.now c.requires
