use Rattle.std.proofs.Common.{◌∙◌, ap, List, ◌++◌}
use Rattle.tick_num.specs.declared.differences.Diff.{Diff}
use Rattle.constraint_set.proofs.BaseLists.{five_parts}
use Rattle.constraint_set.proofs.ChainsBehind.{chains_behind, chains_within}
use Rattle.constraint_set.proofs.base.make_base.Goals as goal

pub add_chains-requires : goal.add_chains-requires
add_chains-requires c = chains_within c.args.frame.now c.args.chains.now c.kept.ensures.limits.tasks c.requires.chains

pub returns : goal.returns
returns c =
    five_parts c.args.frame.now c.args.rounds c.new-list.result.items c.add_rounds.new.list.items c.add_turn.new.list.items c.add_tasks.new.list.items
    c.add_messages.new.list.items c.add_chains.new.list.items c.new-list.ensures.items c.in_ok-add_rounds.ensures c.in_ok-add_turn.ensures c.in_ok-add_tasks.ensures
    c.in_ok-add_messages.ensures
    (c.in_ok-add_chains.ensures ∙ ap (λ (l : List Diff). c.add_messages.new.list.items ++ l) (chains_behind c.args.frame.now c.args.rounds c.args.chains.now c.requires.chains))
