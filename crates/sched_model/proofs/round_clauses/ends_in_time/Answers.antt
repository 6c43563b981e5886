use Rattle.std.proofs.Common.{◌≡◌, suc, arith, ap, ◌∙◌, ◌+◌}
use Rattle.sched_model.specs.PlainMode.{plain_at}
use Rattle.sched_model.specs.Rounds.{round_start}
use Rattle.sched_model.proofs.TimeTests.{le_test, later}
use Rattle.sched_model.proofs.round_clauses.ends_in_time.Goals as goal

pub returns-then-place-round_count : goal.returns-then-place-round_count
returns-then-place-round_count c =
    let s = c.args.s.now in
    let t = le_test (c.round_start.result + c.round_of.result) c.round_start-then-place-round_count.result _ (round_start s (suc c.args.place))
    (later c.round_start.result c.round_of.result (plain_at c.args.set.now c.args.mode).round (round_start s c.args.place) c.round_start.ensures.value c.round_of.ensures.value)
    (c.round_start-then-place-round_count.ensures.value ∙ ap (round_start s) (let e : c.args.place + 1 ≡ suc c.args.place = omega arith in e)) in (
      λ e. record { next = λ l. t.0 e; last = λ l. absurd (omega (arith, l, c.if-place-round_count.true, c.round_count.ensures)) },
      λ r. t.1 (r.next (omega (arith, c.if-place-round_count.true, c.round_count.ensures))),
    )
