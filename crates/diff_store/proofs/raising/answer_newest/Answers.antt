use Rattle.std.proofs.Common.{◌≡◌, ◌+◌, ◌-◌, length, subst, arith}
use Rattle.tick_num.specs.Differences.{listed}
use Rattle.diff_store.specs.Causes.{beside, newest}
use Rattle.diff_store.specs.Raising.{Raising}
use Rattle.diff_store.proofs.Settling.{raising_init, looked_at}
use Rattle.diff_store.proofs.TrailLemmas.{keeps_on}
use Rattle.diff_store.proofs.raising.answer_newest.Goals as goal

pub raise-requires-clause-state : goal.raise-requires-clause-state
raise-requires-clause-state c =
    raising_init c.args.list.now c.args.values.now c.args.causes.now c.args.chain.now c.args.worklist.now c.requires.some c.requires.least c.requires.low c.requires.held c.requires.causes c.requires.waits c.requires.own c.requires.descends

pub returns-clause-past : goal.returns-clause-past
returns-clause-past c =
    keeps_on c.args.trail.now c.raise.new.trail c.settle.new.trail (listed c.args.values.now) (listed c.raise.new.values) (listed c.settle.new.values) (beside c.args.causes.now) (beside c.raise.new.causes) (beside c.settle.new.causes)
    c.raise.ensures.past c.settle.ensures.past

pub settle-requires-clause-state : goal.settle-requires-clause-state
settle-requires-clause-state c =
    let ds = c.args.list.now in
    let some = c.requires.some in
    looked_at ds c.raise.new.values c.raise.new.causes c.args.chain.now c.raise.new.worklist (newest ds).x 0
    (subst (λ k. Raising ds c.raise.new.values c.raise.new.causes c.args.chain.now c.raise.new.worklist (newest ds).x k) (let e : length ds - 1 + 1 ≡ length ds = omega (arith, some) in e) c.if-not-raise.ensures.state)
