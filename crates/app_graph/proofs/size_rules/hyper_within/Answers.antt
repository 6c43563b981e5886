use Rattle.std.proofs.Common.{◌∙◌, List, map, sym, ap, arith, rules, unsigned_abs, w64}
use Rattle.std.specs.List.{fold}
use Rattle.std.proofs.lemmas.Int.{to_z-of_z}
use mir.Val.{SFits}
use Rattle.app_graph.specs.declared.raw.RawApp.{RawApp}
use Rattle.app_graph.specs.Hyperperiod.{hyperperiod, lcm}
use Rattle.app_graph.proofs.Multiples.{rest_end, rest_over}
use Rattle.app_graph.proofs.size_rules.hyper_within.Goals as goal

pub returns : goal.returns
unfolding hyperperiod
returns c =
    let e = sym (rest_end (λ a. unsigned_abs a.period) c.loop-app.hyper c.as_slice-app-items.result.now c.loop-app.app-index (omega arith))
    ∙ c.loop-app.invariant.rest
    ∙ ap (λ (apps : List RawApp). fold lcm 1 (map (λ a. unsigned_abs a.period) apps)) c.as_slice-app-items.ensures in
    (e, omega (arith, e, c.loop-app.invariant.most))

pub returns-in_err-hyper : goal.returns-in_err-hyper
unfolding hyperperiod
returns-in_err-hyper c =
    let fits : SFits w64 c.app-item.result.period = search rules in
    rw c.from_residual.ensures
    (omega (
      arith,
      c.loop-app.invariant.rest,
      ap (λ (apps : List RawApp). fold lcm 1 (map (λ a. unsigned_abs a.period) apps)) c.as_slice-app-items.ensures,
      rest_over (λ a. unsigned_abs a.period) c.loop-app.hyper 1000000000000 c.as_slice-app-items.result.now c.loop-app.app-index c.app-item.result (omega arith) c.app-item.is (simp to_z-of_z at c.in_err-hyper.ensures),
    ))
