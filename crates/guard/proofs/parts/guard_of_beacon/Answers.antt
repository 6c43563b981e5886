use Rattle.std.proofs.Common.{ℕ, ◌+◌, ◌-◌, ◌*◌, ◌∙◌, ap}
use Rattle.guard.specs.Parts.{part_ticks}
use Rattle.guard.proofs.GuardLemmas.{least_clears}
use Rattle.guard.proofs.parts.guard_of_beacon.Goals as goal

pub returns : goal.returns
returns c =
    let over =
    c.saturating_sub-late.ensures
    ∙ ap (λ (n : ℕ). n - c.fastest_round.result) c.slowest_parts.ensures.value
    ∙ ap (λ (n : ℕ). (c.args.round.slots + 1) * part_ticks c.args.round * (1000000 + c.args.round.drift) - n) c.fastest_round.ensures.value in
    least_clears c.args.round c.saturating_sub-late.result c.div_ceil.result over c.div_ceil.ensures
