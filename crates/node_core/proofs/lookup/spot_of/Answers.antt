use Rattle.std.proofs.Common.{rules, SFits, w64}
use Rattle.std.proofs.lemmas.Int.{to_z-of_z}
use Rattle.node_core.proofs.NodeLemmas.{round_at_place, spot_at}
use Rattle.node_core.proofs.lookup.spot_of.Goals as goal

pub overflow_sub-round : goal.overflow_sub-round
overflow_sub-round c = (round_at_place c.args.table.now c.args.number c.mode_of_round-mode.result c.mode_at-mode_table.result.now c.mode_of_round-mode.ensures c.mode_at-mode_table.ensures c.requires.known).0

pub round_at-requires : goal.round_at-requires
round_at-requires c = (round_at_place c.args.table.now c.args.number c.mode_of_round-mode.result c.mode_at-mode_table.result.now c.mode_of_round-mode.ensures c.mode_at-mode_table.ensures c.requires.known).1

pub returns-clause-in_range : goal.returns-clause-in_range
returns-clause-in_range c =
    let start : SFits w64 c.round_at.result.now.start = search rules in
    simp to_z-of_z (spot_at c.args.table.now c.requires.fits c.args.number c.mode_of_round-mode.result c.mode_at-mode_table.result.now c.round_at.result.now c.mode_of_round-mode.ensures c.mode_at-mode_table.ensures c.round_at.ensures c.requires.known)
