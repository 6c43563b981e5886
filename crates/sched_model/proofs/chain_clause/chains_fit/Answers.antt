use Rattle.std.proofs.Common.{◌≡◌, ◌<◌, true, length, arith, refl}
use Rattle.sched_model.specs.PlainMode.{plain_at}
use Rattle.sched_model.specs.Judged.{ChainsTo}
use Rattle.sched_model.specs.TaskGraph.{last}
use Rattle.sched_model.proofs.KeptSets.{mode_at_valid}
use Rattle.sched_model.proofs.ClauseTests.{chains_are}
use Rattle.sched_model.proofs.Passing.{passes_one}
use Rattle.sched_model.proofs.chain_clause.chains_fit.Goals as goal

pub returns-then-not-ends_chains : goal.returns-then-not-ends_chains
returns-then-not-ends_chains c =
    let m = plain_at c.args.set.now c.args.mode in
    let ok = mode_at_valid c.args.set.now c.requires.case.rules c.args.mode c.requires.case.known in
    let l : c.loop-end.end < length m.tasks = omega (arith, c.loop-end-test.true, c.task_count-end-end.ensures.value) in
    (λ e. absurd (cc), λ f. let t = c.ends_chains.ensures.1 ((chains_are m c.args.s.now ok).1 f c.loop-end.end l) in let no = c.if-not-ends_chains.true in absurd (cc))

pub loop-end-preserved : goal.loop-end-preserved
loop-end-preserved c =
    let m = plain_at c.args.set.now c.args.mode in
    passes_one (λ j. last m j ≡ true → ChainsTo m c.args.s.now j) c.loop-end.end c.ends_chains.result c.ends_chains.ensures c.if-not-ends_chains.false c.loop-end.invariant

pub returns : goal.returns
returns c =
    let m = plain_at c.args.set.now c.args.mode in
    let ok = mode_at_valid c.args.set.now c.requires.case.rules c.args.mode c.requires.case.known in
    (λ e. (chains_are m c.args.s.now ok).0 (λ l ll. c.loop-end.invariant l (omega (arith, ll, c.loop-end-test.false, c.task_count-end-end.ensures.value))), λ f. refl)
