use Rattle.world_core.proofs.cycle_tests.have_entries.Goals as goal

pub cycles-requires-clause-rules : goal.cycles-requires-clause-rules
cycles-requires-clause-rules c = c.are_both_right.ensures.rules

pub hypers-requires : goal.hypers-requires
hypers-requires c = record { rules = c.are_both_right.ensures.rules }

pub owners-requires : goal.owners-requires
owners-requires c = c.are_both_right.ensures.rules
