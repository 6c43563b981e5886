use Rattle.std.proofs.Common.{◌≡◌, suc, ◌+◌, ◌-◌, ◌*◌, List, length, ap, ◌∙◌, arith, rules}
use Rattle.tick_num.specs.declared.differences.Diff.{Diff}
use Rattle.sched_model.specs.ConstraintProblem.{base}
use Rattle.cert_checker.proofs.Forces.{force_length}
use Rattle.cert_checker.proofs.Levels.{named_length, stands_pop}
use Rattle.cert_checker.proofs.walk.Walk.pop.Goals as goal

pub take_back-requires : goal.take_back-requires
take_back-requires c =
    let w = c.args.self.now in
    omega (arith, named_length w.problem.mode w.problem.rounds w.prefix.items w.highs.items w.constraints.items w.loads c.requires.kept, c.requires.some)

pub overflow_sub-len : goal.overflow_sub-len
overflow_sub-len c =
    let w = c.args.self.now in
    let held : length w.constraints.items ≡ length (base w.problem.mode w.problem.rounds) + 2 * length w.prefix.items =
    ap (λ (l : List Diff). length l) c.requires.kept.list ∙ force_length w.problem.mode w.problem.rounds w.prefix.items c.requires.kept.few in
    let len : c.len.result ≡ length w.constraints.items = search rules in
    omega (arith, held, len, c.requires.some)

pub returns-clause-kept : goal.returns-clause-kept
returns-clause-kept c =
    let w = c.args.self.now in
    let m = w.problem.mode in
    let r = w.problem.rounds in
    let k = c.len-top.result - 1 in
    let len : c.len-top.result ≡ length w.prefix.items = search rules in
    let top : length w.prefix.items ≡ suc k = omega (arith, len, c.requires.some) in
    let held : length w.constraints.items ≡ length (base m r) + 2 * length w.prefix.items =
    ap (λ (l : List Diff). length l) c.requires.kept.list ∙ force_length m r w.prefix.items c.requires.kept.few in
    let size : c.len.result ≡ length w.constraints.items = search rules in
    let cut : c.len.result - 2 ≡ length (base m r) + 2 * k = omega (arith, held, size, top) in
    stands_pop m r w.prefix.items w.highs.items _ _ w.constraints.items _ w.loads _ k (c.len.result - 2) c.requires.kept top
    c.truncate.ensures.items c.truncate-2.ensures.items cut c.truncate-3.ensures.items c.take_back.ensures
