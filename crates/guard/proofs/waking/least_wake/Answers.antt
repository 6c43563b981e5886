use Rattle.std.proofs.Common.{arith, ◌+◌, ◌*◌, ap}
use Rattle.std.proofs.lemmas.Grind.{div_ceil_times}
use Rattle.guard.proofs.WakingLemmas.{least_wake}
use Rattle.guard.proofs.waking.least_wake.Goals as goal

pub returns-clause-least : goal.returns-clause-least
returns-clause-least c =
    let gap = c.args.gap in
    let p = c.args.drift in
    let q = c.div_ceil.result in
    let t = div_ceil_times (4 * gap * p) (1000000 + p) (omega arith) in
    let e = ap (λ n. n * (1000000 + p)) c.div_ceil.ensures in
    least_wake gap p q c.requires.drift (omega (arith, t, e)) (omega (arith, t, e))
