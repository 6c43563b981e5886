use Rattle.std.proofs.Common.{◌≡◌, ℕ, ◌+◌, ◌-◌, ◌<◌, ◌≤◌, arith, subst, ⊎_elim}
use Rattle.std.proofs.lemmas.Bool.{cases_lt}
use Rattle.sched_model.specs.PlainMode.{plain_at, message_at}
use Rattle.sched_model.specs.RightSchedule.{Exactly}
use Rattle.sched_model.specs.OneHyperperiod.{ServesFirst}
use Rattle.sched_model.proofs.table_clauses.are_served.Goals as goal

pub loop-base-preserved : goal.loop-base-preserved
loop-base-preserved c =
    let P = λ (k : ℕ). Exactly (message_at (plain_at c.args.set.now c.args.mode) c.args.window.message).copies (ServesFirst (plain_at c.args.set.now c.args.mode) c.args.s.now c.args.window.message k) in
    record {
      most = omega (arith, c.min-some.ensures, c.loop-base-test.true);
      served = λ k l. ⊎_elim
          (λ (less : k < c.loop-base.base). c.loop-base.invariant.served k less)
          (λ (ge : c.loop-base.base ≤ k). subst P (let e : c.loop-base.base + (k - c.loop-base.base) ≡ k = omega (arith, ge) in e)
          (c.some_served.ensures.0 c.if-not-some_served.false (k - c.loop-base.base) (omega (arith, ge, l))))
          (cases_lt k c.loop-base.base);
    }
