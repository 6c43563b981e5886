use Rattle.std.proofs.Common.{◌+◌, ◌∙◌, ap, arith, rules, drop, map, unsigned_abs, w64}
use Rattle.std.specs.List.{fold}
use Rattle.std.proofs.lemmas.Int.{to_z-of_z}
use mir.Val.{SFits}
use Rattle.app_graph.specs.Hyperperiod.{lcm}
use Rattle.app_graph.proofs.Multiples.{grows, rest_next, lcm_some}
use Rattle.sched_model.proofs.numbers.hyper_of.Goals as goal

pub joined-hyper-requires-clause-limit : goal.joined-hyper-requires-clause-limit
joined-hyper-requires-clause-limit c =
    let fits : SFits w64 c.app-item.result.period = search rules in
    let next = rest_next (λ a. unsigned_abs a.period) c.loop-app.hyper c.args.apps.now c.loop-app.app-index c.app-item.result (omega arith) c.app-item.is in
    let more = grows (lcm c.loop-app.hyper (unsigned_abs c.app-item.result.period)) (map (λ a. unsigned_abs a.period) (drop (c.loop-app.app-index + 1) c.args.apps.now)) in
    simp to_z-of_z (omega (arith, next, more, c.loop-app.invariant.rest, c.requires.limit))

pub loop-app-preserved : goal.loop-app-preserved
loop-app-preserved c =
    let fits : SFits w64 c.app-item.result.period = search rules in
    let next = rest_next (λ a. unsigned_abs a.period) c.loop-app.hyper c.args.apps.now c.loop-app.app-index c.app-item.result (omega arith) c.app-item.is in
    let more = grows (lcm c.loop-app.hyper (unsigned_abs c.app-item.result.period)) (map (λ a. unsigned_abs a.period) (drop (c.loop-app.app-index + 1) c.args.apps.now)) in
    let e = simp to_z-of_z at c.joined-hyper.ensures in
    record {
      some = omega (arith, e, lcm_some c.loop-app.hyper (unsigned_abs c.app-item.result.period) c.loop-app.invariant.some);
      most = omega (arith, e, next, more, c.loop-app.invariant.rest, c.requires.limit);
      rest = ap (λ h. fold lcm h (map (λ a. unsigned_abs a.period) (drop (c.loop-app.app-index + 1) c.args.apps.now))) e ∙ next ∙ c.loop-app.invariant.rest;
    }
