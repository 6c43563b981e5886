use Rattle.std.proofs.Common.{ap, ◌∙◌}
use Rattle.node_tables.specs.declared.tables.NodeTable.{NodeTable}
use Rattle.node_core.specs.Rules.{first_heard}
use Rattle.node_core.proofs.NodeLemmas.{heard_empty}
use Rattle.node_core.proofs.states.Listening.hear.Goals as goal

pub returns : goal.returns
returns c = c.hear.ensures ∙ (heard_empty c.self.inside.kept c.args.b c.self.invariant ∙ ap (λ (t : NodeTable). first_heard t c.args.b) c.self.view_is)
