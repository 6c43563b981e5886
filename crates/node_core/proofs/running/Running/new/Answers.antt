use Rattle.node_core.specs.Lookup.{mode_at}
use Rattle.node_core.proofs.RegisterLemmas.{emptied_room}
use Rattle.node_core.proofs.NodeLemmas.{emptied_fit, first_spot_fits}
use Rattle.node_core.proofs.running.Running.new.Goals as goal

pub invariant_of-result : goal.invariant_of-result
invariant_of-result c = record { table = c.requires.fits; spot = first_spot_fits c.args.table c.requires.fits; ins = emptied_fit (mode_at c.args.table 0).messages c.args.registers c.requires.empty; room = emptied_room c.args.registers c.requires.empty }
