use Rattle.node_core.specs.Lookup.{mode_at}
use Rattle.node_core.proofs.RegisterLemmas.{emptied_room}
use Rattle.node_core.proofs.NodeLemmas.{emptied_fit}
use Rattle.node_core.proofs.running.Running.empty.Goals as goal

pub invariant_of-self : goal.invariant_of-self
invariant_of-self c = record { table = c.self.invariant.table; spot = c.self.invariant.spot; ins = emptied_fit (mode_at c.self.inside.table c.self.inside.mode).messages c.empty.new.self c.empty.ensures; room = emptied_room c.empty.new.self c.empty.ensures }
