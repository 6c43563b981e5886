use Rattle.std.proofs.Common.{List, All, sym, subst, ◌+◌}
use Rattle.app_graph.specs.declared.mode_set.App.{App}
use Rattle.app_graph.specs.Reaching.{EndsWithin}
use Rattle.app_graph.proofs.reaching.after_mode.Goals as goal

pub after_app-marks-requires : goal.after_app-marks-requires
after_app-marks-requires c =
    let all = subst (λ (apps : List App). All (EndsWithin c.args.first (c.args.first + 128)) apps) (sym c.as_slice-app-items.ensures) c.requires in
    (subst (EndsWithin c.args.first (c.args.first + 128)) (sym c.app-item.is) (all c.loop-app.app-index c.app-item.result c.loop-app-test.true)).messages
