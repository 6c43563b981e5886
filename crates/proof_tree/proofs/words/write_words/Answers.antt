use Rattle.std.proofs.Common.{sym, subst}
use Rattle.std.proofs.lemmas.Result.{on_err_weaker}
use Rattle.std.specs.List.{flat_map}
use Rattle.proof_tree.specs.Written.{StoppedWithin}
use Rattle.proof_tree.specs.WordSpelling.{spellings_of, after_space}
use Rattle.proof_tree.specs.declared.words.Words.{Words}
use Rattle.proof_tree.proofs.WrittenLemmas.{on_err, stops_in_first, stops_in_second}
use Rattle.proof_tree.proofs.words.write_words.Goals as goal

pub returns-in_err-write_spaced-in-Table-clause-err : goal.returns-in_err-write_spaced-in-Table-clause-err
returns-in_err-write_spaced-in-Table-clause-err c =
    on_err _ (subst (λ (words : Words). StoppedWithin c.args.out.now c.write_spaced.new.out (flat_map after_space (spellings_of words))) (sym c.in-Table.is)
    (stops_in_first _ c.in_err-write_spaced-in-Table.ensures.err))

pub returns-in_ok-write_spaced-in-Table-clause-err : goal.returns-in_ok-write_spaced-in-Table-clause-err
returns-in_ok-write_spaced-in-Table-clause-err c =
    on_err_weaker c.write_names.result
    (λ s. subst (λ (words : Words). StoppedWithin c.args.out.now c.write_names.new.out (flat_map after_space (spellings_of words))) (sym c.in-Table.is)
    (stops_in_second c.args.out.now _ c.in_ok-write_spaced-in-Table.ensures.ok s)) c.write_names.ensures.err
