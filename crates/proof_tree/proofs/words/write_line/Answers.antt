use Rattle.std.proofs.Common.{◌∙◌, ap, List, ℕ, ◌++◌}
use Rattle.std.proofs.lemmas.Result.{on_err_weaker}
use Rattle.proof_tree.specs.WordSpelling.{spellings_of}
use Rattle.proof_tree.proofs.WrittenLemmas.{on_err, on_ok_weaker, stops_before, stops_in_words, stops_at_feed, whole_line}
use Rattle.proof_tree.proofs.words.write_line.Goals as goal

pub returns-in_err-put-clause-err : goal.returns-in_err-put-clause-err
returns-in_err-put-clause-err c = on_err _ (stops_before _ _ _ c.in_err-put.ensures.err)

pub returns-in_err-write_words-clause-err : goal.returns-in_err-write_words-clause-err
returns-in_err-write_words-clause-err c =
    on_err _ (stops_in_words c.args.out.now c.args.first.now (spellings_of c.args.words) (c.in_ok-put.ensures.ok ∙ ap (λ (x : List ℕ). c.args.out.now ++ x) c.as_bytes.ensures.value) c.in_err-write_words.ensures.err)

pub returns-clause-ok : goal.returns-clause-ok
returns-clause-ok c =
    on_ok_weaker c.line_end.result (whole_line c.args.out.now c.args.first.now (spellings_of c.args.words) (c.in_ok-put.ensures.ok ∙ ap (λ (x : List ℕ). c.args.out.now ++ x) c.as_bytes.ensures.value) c.in_ok-write_words.ensures.ok) c.line_end.ensures.ok

pub returns-clause-err : goal.returns-clause-err
returns-clause-err c =
    on_err_weaker c.line_end.result (stops_at_feed c.args.out.now c.args.first.now (spellings_of c.args.words) (c.in_ok-put.ensures.ok ∙ ap (λ (x : List ℕ). c.args.out.now ++ x) c.as_bytes.ensures.value) c.in_ok-write_words.ensures.ok) c.line_end.ensures.err
