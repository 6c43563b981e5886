use Rattle.std.proofs.Common.{List, All, sym, subst, ◌+◌}
use Rattle.app_graph.specs.declared.mode_set.Message.{Message}
use Rattle.app_graph.specs.Reaching.{HasEnds}
use Rattle.app_graph.proofs.reaching.after_app.Goals as goal

pub after_message-marks-requires : goal.after_message-marks-requires
after_message-marks-requires c =
    let all = subst (λ (ms : List Message). All (HasEnds c.args.first (c.args.first + 128)) ms) (sym c.as_slice-message-items.ensures) c.requires in
    subst (HasEnds c.args.first (c.args.first + 128)) (sym c.message-item.is) (all c.loop-message.message-index c.message-item.result c.loop-message-test.true)
