use Rattle.std.proofs.Common.{arith, ap}
use Rattle.proof_tree.specs.Names.{name_of, messages_in}
use Rattle.proof_tree.specs.WordSpelling.{after_space}
use Rattle.proof_tree.proofs.WrittenLemmas.{on_err, stops_in_loop}
use Rattle.proof_tree.proofs.words.write_names.Goals as goal

pub returns-in_err-write_spaced-clause-err : goal.returns-in_err-write_spaced-clause-err
returns-in_err-write_spaced-clause-err c =
    on_err _ (stops_in_loop after_space (name_of (messages_in c.args.apps.now)) c.args.numbers.now c.loop-number.number-index 0 (omega arith) c.loop-number.invariant (ap after_space c.name_of_message.ensures) c.in_err-write_spaced.ensures.err)
