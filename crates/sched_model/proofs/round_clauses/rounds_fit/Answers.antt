use Rattle.std.proofs.Common.{ℕ, arith, sym, ◌∙◌, ap, pos}
use Rattle.sched_model.proofs.round_clauses.rounds_fit.Goals as goal

pub returns : goal.returns
returns c =
    let zero = c.if-round_start-ne0.false in (
      λ e.
          let f = c.end_in_time.ensures.0 e in
          record { begin = sym c.round_start.ensures.value ∙ ap (λ (n : ℕ). pos n) zero; apart = λ j l. (f j (omega (arith, l))).next l; end = λ j h. (f j (omega (arith, h))).last h },
      λ r. c.end_in_time.ensures.1 (λ j l. record { next = r.apart j; last = r.end j }),
    )
