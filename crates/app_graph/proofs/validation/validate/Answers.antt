use Rattle.std.proofs.Common.{arith}
use Rattle.app_graph.proofs.Kept.{set_tasks, set_messages, set_copies}
use Rattle.app_graph.proofs.validation.validate.Goals as goal

pub number_set-requires-clause-tasks : goal.number_set-requires-clause-tasks
number_set-requires-clause-tasks c = omega (arith, set_tasks c.args.raw.now c.in_ok-check_set.ensures)

pub number_set-requires-clause-messages : goal.number_set-requires-clause-messages
number_set-requires-clause-messages c = omega (arith, set_messages c.args.raw.now c.in_ok-check_set.ensures)

pub number_set-requires-clause-copies : goal.number_set-requires-clause-copies
number_set-requires-clause-copies c = set_copies c.args.raw.now c.in_ok-check_set.ensures
