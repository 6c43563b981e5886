use Rattle.node_tables.proofs.part_tests.has_loop_images.Goals as goal

pub has_image-requires-clause-rules : goal.has_image-requires-clause-rules
has_image-requires-clause-rules c = c.is_loop_right.ensures.rules

pub has_image-requires-2-clause-rules : goal.has_image-requires-2-clause-rules
has_image-requires-2-clause-rules c = c.is_loop_right.ensures.rules

pub has_image-requires-3-clause-rules : goal.has_image-requires-3-clause-rules
has_image-requires-3-clause-rules c = c.is_loop_right.ensures.rules
