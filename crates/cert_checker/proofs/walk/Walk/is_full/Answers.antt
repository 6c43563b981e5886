use Rattle.std.proofs.Common.{◌≤◌, ap, ◌∙◌, arith}
use Rattle.std.specs.Prelude.{nat_lt}
use Rattle.cert_checker.proofs.Levels.{full_is}
use Rattle.cert_checker.proofs.walk.Walk.is_full.Goals as goal

pub returns : goal.returns
returns c =
    let w = c.args.self.now in
    let some : 1 ≤ c.args.round = omega arith in
    let most : c.args.round ≤ w.problem.rounds = omega arith in
    ap (λ n. nat_lt n c.load.result) c.slots.ensures ∙ ap (nat_lt w.problem.mode.slots) c.load.ensures
    ∙ full_is w.problem.mode w.problem.rounds w.prefix.items w.highs.items w.constraints.items w.loads c.args.round c.requires some most
