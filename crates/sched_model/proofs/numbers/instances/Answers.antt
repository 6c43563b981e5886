use Rattle.std.proofs.Common.{◌*◌, ◌/◌, ◌≤◌, All, List, pos, ◌<ℤ◌, length, sym, ◌∙◌, ap, subst, arith, unsigned_abs}
use Rattle.std.specs.List.{sum_by}
use Rattle.app_graph.specs.declared.mode_set.App.{App}
use Rattle.sched_model.specs.PlainMode.{mode_at}
use Rattle.sched_model.specs.Rows.{slots_by}
use Rattle.sched_model.proofs.LimitedModes.{mode_at_limited, mode_at_positive}
use Rattle.sched_model.proofs.ModeNumbers.{instances_are}
use Rattle.sched_model.proofs.numbers.instances.Goals as goal

pub instances_in-requires-clause-periods : goal.instances_in-requires-clause-periods
instances_in-requires-clause-periods c = subst (λ (l : List App). All (λ a. pos 0 <ℤ a.period) l) (sym c.apps_of.ensures) (mode_at_positive c.args.set.now c.requires.rules c.args.mode c.requires.mode)

pub instances_in-requires-clause-limit : goal.instances_in-requires-clause-limit
instances_in-requires-clause-limit c =
    let e = instances_are c.args.set.now c.args.mode in
    let low = (mode_at_limited c.args.set.now c.requires.rules c.args.mode c.requires.mode).instances in
    subst (λ (l : List App). sum_by (slots_by c.ticks_of-ticks.result) l ≤ 512) (sym c.apps_of.ensures)
    (subst (λ h. sum_by (slots_by h) (mode_at c.args.set.now c.args.mode).apps ≤ 512) (sym c.ticks_of-ticks.ensures.value) (omega (arith, e, low)))

pub returns : goal.returns
returns c =
    c.instances_in.ensures
    ∙ ap (λ (l : List App). sum_by (slots_by c.ticks_of-ticks.result) l) c.apps_of.ensures
    ∙ ap (λ h. sum_by (slots_by h) (mode_at c.args.set.now c.args.mode).apps) c.ticks_of-ticks.ensures.value
    ∙ instances_are c.args.set.now c.args.mode
