use Rattle.node_tables.proofs.part_tests.has_double_image.Goals as goal

pub has_image-requires-clause-rules : goal.has_image-requires-clause-rules
has_image-requires-clause-rules c = c.is_double_right.ensures.rules
