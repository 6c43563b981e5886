use Rattle.std.proofs.Common.{arith, rules, ap, pos}
use Rattle.ttw_text.specs.Numbers.{spelled}
use Rattle.proof_tree.specs.WordSpelling.{spelled_time, after_space}
use Rattle.proof_tree.proofs.WrittenLemmas.{on_err, stops_in_loop}
use Rattle.proof_tree.proofs.words.write_times.Goals as goal

pub returns-in_err-write_spaced-clause-err : goal.returns-in_err-write_spaced-clause-err
returns-in_err-write_spaced-clause-err c =
    on_err _ (stops_in_loop after_space spelled_time c.args.times.now c.loop-time.time-index (pos 0) (omega arith) c.loop-time.invariant (ap (λ n. after_space (spelled n)) (search rules)) c.in_err-write_spaced.ensures.err)
