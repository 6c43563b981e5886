use Rattle.std.proofs.Common.{arith, [], refl}
use Rattle.proof_tree.specs.WordSpelling.{spelling_of, after_space}
use Rattle.proof_tree.specs.declared.words.Word.TheVariants.{Text}
use Rattle.proof_tree.proofs.WrittenLemmas.{on_err, stops_in_loop}
use Rattle.proof_tree.proofs.words.write_given.Goals as goal

pub returns-in_err-write_spaced-clause-err : goal.returns-in_err-write_spaced-clause-err
returns-in_err-write_spaced-clause-err c =
    on_err _ (stops_in_loop after_space spelling_of c.args.words.now c.loop-word.word-index (Text (record { ref_ptr = (0, 0); now = [] })) (omega arith) c.loop-word.invariant refl c.in_err-write_spaced.ensures.err)
