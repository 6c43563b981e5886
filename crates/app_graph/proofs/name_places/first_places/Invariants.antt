use Rattle.std.proofs.Common.{take}
use Rattle.app_graph.specs.Places.{Places}
use Rattle.app_graph.proofs.name_places.first_places.Given as goal

abbrev pub invariant-loop-i : goal.invariant-loop-i
invariant-loop-i g l = Places g.T.Named.name l.places.entries (take l.i l.items)
