use Rattle.std.proofs.Common.{◌≤◌, All, List, pos, ◌<ℤ◌, map, sym, ◌∙◌, ap, subst, arith, unsigned_abs}
use Rattle.std.specs.List.{fold}
use Rattle.app_graph.specs.Hyperperiod.{lcm}
use Rattle.app_graph.specs.declared.mode_set.App.{App}
use Rattle.sched_model.proofs.LimitedModes.{mode_at_positive}
use Rattle.sched_model.proofs.ModeNumbers.{multiple_is, multiple_low}
use Rattle.sched_model.proofs.numbers.ticks_of.Goals as goal

pub hyper_of-requires-clause-periods : goal.hyper_of-requires-clause-periods
hyper_of-requires-clause-periods c = subst (λ (l : List App). All (λ a. pos 0 <ℤ a.period) l) (sym c.apps_of.ensures) (mode_at_positive c.args.set.now c.requires.rules c.args.mode c.requires.mode)

pub hyper_of-requires-clause-limit : goal.hyper_of-requires-clause-limit
hyper_of-requires-clause-limit c =
    subst (λ (l : List App). fold lcm 1 (map (λ a. unsigned_abs a.period) l) ≤ 1000000000000) (sym c.apps_of.ensures) (multiple_low c.args.set.now c.args.mode c.requires.rules c.requires.mode)

pub returns-clause-value : goal.returns-clause-value
returns-clause-value c =
    c.hyper_of.ensures ∙ ap (λ (l : List App). fold lcm 1 (map (λ a. unsigned_abs a.period) l)) c.apps_of.ensures ∙ multiple_is c.args.set.now c.args.mode

pub returns-clause-limit : goal.returns-clause-limit
returns-clause-limit c =
    let e = c.hyper_of.ensures ∙ ap (λ (l : List App). fold lcm 1 (map (λ a. unsigned_abs a.period) l)) c.apps_of.ensures in
    let low = multiple_low c.args.set.now c.args.mode c.requires.rules c.requires.mode in
    omega (arith, e, low)
