use Rattle.std.proofs.Common.{ℕ, pos, ◌∙◌, ap, subst, sym, arith, w64}
use Rattle.std.specs.Prelude.{IfSome, IfNone}
use Rattle.std.proofs.lemmas.Int.{to_z_pos}
use Rattle.guard.specs.Bounds.{IsLimited}
use Rattle.guard.specs.Guards.{IsLeastGuard, Keeps, round_of}
use Rattle.guard.specs.Parts.{part_ticks}
use Rattle.guard.specs.Waking.{IsLeastWake}
use Rattle.guard.specs.declared.parts.Round.{Round}
use Rattle.guard.proofs.GuardLemmas.{limited, gap_limited}
use Rattle.guard.proofs.guards.least_guard.Goals as goal

pub part_ticks-part-requires : goal.part_ticks-part-requires
part_ticks-part-requires c = subst IsLimited (sym c.round_of-round.ensures) (limited c.args.set.now c.args.ppm c.requires.rules c.requires.drift)

pub guard_within-requires-clause-round : goal.guard_within-requires-clause-round
guard_within-requires-clause-round c = subst IsLimited (sym c.round_of-round.ensures) (limited c.args.set.now c.args.ppm c.requires.rules c.requires.drift)

pub returns : goal.returns
returns c =
    let round = round_of c.args.set.now c.args.ppm in
    let is = c.round_of-round.ensures in
    let part = c.part_ticks-part.result in
    let wake = c.least_wake.result in
    let limits = limited c.args.set.now c.args.ppm c.requires.rules c.requires.drift in
    let drift = ap (λ (r : Round). r.drift) is in
    let gap = gap_limited c.args.set.now c.requires.rules in
    record {
      part = to_z_pos w64 part (omega (arith, c.part_ticks-part.ensures.within, limits.ticks, ap (λ (r : Round). r.ticks) is)) ∙ ap pos (c.part_ticks-part.ensures.value ∙ ap part_ticks is);
      some = subst (λ (r : Round). IfSome c.guard_within.result (IsLeastGuard r)) is c.guard_within.ensures.some;
      none = subst (λ (r : Round). IfNone c.guard_within.result ((y : ℕ) → Keeps r y → ⊥)) is c.guard_within.ensures.none;
      early = wake;
      is = to_z_pos w64 wake (omega (arith, c.least_wake.ensures.within, c.gap_of.ensures, gap));
      wake = subst (λ (g : ℕ). IsLeastWake g c.args.ppm wake) c.gap_of.ensures (subst (λ (p : ℕ). IsLeastWake c.gap_of.result p wake) drift c.least_wake.ensures.least);
    }
