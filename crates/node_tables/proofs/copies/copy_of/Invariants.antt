use Rattle.std.proofs.Common.{◌≡◌}
use Rattle.node_tables.proofs.CopyCounts.{up_to}
use Rattle.node_tables.proofs.copies.copy_of.Given as goal

abbrev pub invariant-loop-round : goal.invariant-loop-round
invariant-loop-round l = l.copies ≡ up_to l.schedule l.hyper l.number l.opened l.start l.round
