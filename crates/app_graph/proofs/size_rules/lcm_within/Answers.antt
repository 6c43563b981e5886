use Rattle.std.proofs.Common.{◌<◌, arith, rules, refl, sym, unsigned_abs, w64}
use Rattle.std.proofs.lemmas.Int.{ints, to_z-of_z}
use mir.Val.{SFits}
use Rattle.tick_num.proofs.Multiples.{same_lcm}
use Rattle.app_graph.specs.Hyperperiod.{lcm}
use Rattle.app_graph.proofs.Multiples.{same_as_lcm, lcm_is_least, lcm_some}
use Rattle.app_graph.proofs.size_rules.lcm_within.Goals as goal

pub returns-in-Some : goal.returns-in-Some
returns-in-Some c =
    let fits : SFits w64 c.args.period = search rules in
    let some : 0 < unsigned_abs c.args.period = omega (arith, ints, c.requires.period) in
    let whole : SFits w64 c.in-Some.multiple = search rules in
    let found = simp to_z-of_z at c.in-Some.ensures.some in
    let value = simp to_z-of_z at c.unsigned_abs.ensures.value in
    let is = same_lcm _ _ _ c.args.hyper (unsigned_abs c.args.period) c.unsigned_abs.result (omega (arith, ints)) refl (sym value) found.1 in
    let e = same_as_lcm c.args.hyper (unsigned_abs c.args.period) c.unsigned_abs.result c.requires.hyper.0 some is in
    (e, lcm_some c.args.hyper (unsigned_abs c.args.period) c.requires.hyper.0, omega (arith, ints, e, value, found.0, found.2))

pub returns-in-None : goal.returns-in-None
returns-in-None c =
    let fits : SFits w64 c.args.period = search rules in
    let some : 0 < unsigned_abs c.args.period = omega (arith, ints, c.requires.period) in
    let l = lcm c.args.hyper (unsigned_abs c.args.period) in
    let over = (simp to_z-of_z at c.in-None.ensures.none) l (lcm_some c.args.hyper (unsigned_abs c.args.period) c.requires.hyper.0)
    (same_lcm c.args.hyper (unsigned_abs c.args.period) l _ (unsigned_abs c.args.period) l (omega (arith, ints)) refl refl (lcm_is_least c.args.hyper (unsigned_abs c.args.period) c.requires.hyper.0 some)) in
    omega (arith, ints, over)
