use Rattle.constraint_set.proofs.BaseLists.{two_parts}
use Rattle.constraint_set.proofs.decisions.make_decisions.Goals as goal

pub returns : goal.returns
returns c = two_parts c.args.frame.now c.new-list.result c.add_messages.new.list c.add_pairs.new.list c.new-list.ensures c.in_ok-add_messages.ensures c.in_ok-add_pairs.ensures
