use Rattle.std.proofs.Common.{arith, ◌∙◌}
use Rattle.sched_model.proofs.RowPlaces.{how_many, few_messages}
use Rattle.sched_model.proofs.rows.message_count.Goals as goal

pub count_messages-requires : goal.count_messages-requires
count_messages-requires c = few_messages c.args.set.now c.args.mode c.apps_of.result.now c.apps_of.ensures c.requires.rules c.requires.mode

pub returns-clause-value : goal.returns-clause-value
returns-clause-value c = c.count_messages.ensures ∙ how_many c.args.set.now c.args.mode c.apps_of.result.now c.apps_of.ensures

pub returns-clause-most : goal.returns-clause-most
returns-clause-most c = omega (arith, c.count_messages.ensures, few_messages c.args.set.now c.args.mode c.apps_of.result.now c.apps_of.ensures c.requires.rules c.requires.mode)
