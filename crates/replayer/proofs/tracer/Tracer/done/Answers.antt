use Rattle.std.proofs.lemmas.Result.{on_err_weaker}
use Rattle.replayer.proofs.Joining.{front_rest}
use Rattle.replayer.proofs.tracer.Tracer.done.Goals as goal

pub returns-clause-err : goal.returns-clause-err
returns-clause-err g c = on_err_weaker c.empty.result (λ front. front_rest _ _ _ _ _ c.in_ok-put_done.ensures.put.ok.passed front) c.empty.ensures.err
