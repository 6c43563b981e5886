use Rattle.std.proofs.Common.{List, map, ◌∙◌, ap}
use Rattle.std.specs.List.{flat_map}
use Rattle.app_graph.specs.declared.mode_set.App.{App}
use Rattle.sched_model.specs.PlainMode.{PlainTask}
use Rattle.constraint_set.specs.Flat.{message_in}
use Rattle.constraint_set.proofs.FlatLists.{mode_is}
use Rattle.constraint_set.proofs.flat.flatten.Goals as goal

pub returns : goal.returns
returns c =
    c.make_mode.ensures
    ∙ mode_is c.args.set.now c.args.mode c.apps_of-apps.result.now c.in_ok-periods.periods.items c.in_ok-tasks.tasks.items c.in_ok-messages.messages.items
    c.apps_of-apps.ensures c.in_ok-periods.ensures c.in_ok-tasks.ensures
    (c.in_ok-messages.ensures ∙ ap (λ (ts : List PlainTask). flat_map (λ (a : App). map (message_in ts a) a.messages) c.apps_of-apps.result.now) c.as_slice.ensures.value)
