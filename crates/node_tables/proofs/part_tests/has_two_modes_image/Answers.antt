use Rattle.node_tables.proofs.part_tests.has_two_modes_image.Goals as goal

pub has_image-requires-clause-rules : goal.has_image-requires-clause-rules
has_image-requires-clause-rules c = c.are_both_right.ensures.rules
