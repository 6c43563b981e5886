use Rattle.std.proofs.Common.{arith, ap}
use Rattle.ttw_text.specs.Numbers.{spelled}
use Rattle.proof_tree.specs.WordSpelling.{after_space}
use Rattle.proof_tree.proofs.WrittenLemmas.{on_err, stops_in_loop}
use Rattle.proof_tree.proofs.words.write_numbers.Goals as goal

pub returns-in_err-write_spaced-clause-err : goal.returns-in_err-write_spaced-clause-err
returns-in_err-write_spaced-clause-err c =
    on_err _ (stops_in_loop after_space spelled c.args.numbers.now c.loop-number.number-index 0 (omega arith) c.loop-number.invariant (ap (λ n. after_space (spelled n)) c.from.ensures) c.in_err-write_spaced.ensures.err)
