use Rattle.std.proofs.Common.{◌∙◌, arith, ap, unsigned_abs}
use Rattle.app_graph.specs.declared.mode_set.App.{App}
use Rattle.app_graph.specs.declared.mode_set.Message.{Message}
use Rattle.sched_model.proofs.RowPlaces.{how_many, message_shown}
use Rattle.sched_model.proofs.numbered.message_row.Goals as goal

pub find_message-requires : goal.find_message-requires
find_message-requires c = omega (arith, c.requires.place, how_many c.args.set.now c.args.mode c.apps_of.result.now c.apps_of.ensures)

pub returns-clause-number : goal.returns-clause-number
returns-clause-number c =
    ap (λ (x : Message). x.number) c.find_message.ensures.message
    ∙ (message_shown c.args.set.now c.args.mode c.apps_of.result.now c.apps_of.ensures c.requires.rules c.requires.mode c.args.place c.requires.place).number

pub returns-clause-period : goal.returns-clause-period
returns-clause-period c =
    c.period_of.ensures ∙ ap (λ (a : App). unsigned_abs a.period) c.find_message.ensures.app
    ∙ (message_shown c.args.set.now c.args.mode c.apps_of.result.now c.apps_of.ensures c.requires.rules c.requires.mode c.args.place c.requires.place).period

pub returns-clause-deadline : goal.returns-clause-deadline
returns-clause-deadline c =
    c.deadline_of.ensures ∙ ap (λ (a : App). unsigned_abs a.deadline) c.find_message.ensures.app
    ∙ (message_shown c.args.set.now c.args.mode c.apps_of.result.now c.apps_of.ensures c.requires.rules c.requires.mode c.args.place c.requires.place).deadline

pub returns-clause-copies : goal.returns-clause-copies
returns-clause-copies c =
    ap (λ (x : Message). x.copies) c.find_message.ensures.message
    ∙ (message_shown c.args.set.now c.args.mode c.apps_of.result.now c.apps_of.ensures c.requires.rules c.requires.mode c.args.place c.requires.place).copies

pub returns-clause-limits : goal.returns-clause-limits
returns-clause-limits c =
    let shown = message_shown c.args.set.now c.args.mode c.apps_of.result.now c.apps_of.ensures c.requires.rules c.requires.mode c.args.place c.requires.place in
    let period = returns-clause-period c in
    let deadline = returns-clause-deadline c in
    (omega (arith, period, shown.period_some), omega (arith, period, shown.period_most), omega (arith, deadline, shown.deadline_most))
