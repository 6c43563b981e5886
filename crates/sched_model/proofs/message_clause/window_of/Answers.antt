use Rattle.std.proofs.Common.{◌∙◌, arith, ap, unsigned_abs}
use Rattle.app_graph.specs.declared.mode_set.App.{App}
use Rattle.app_graph.specs.declared.mode_set.Message.{Message}
use Rattle.sched_model.specs.PlainMode.{plain_at}
use Rattle.sched_model.proofs.RowPlaces.{how_many, message_shown}
use Rattle.sched_model.proofs.message_clause.window_of.Goals as goal

pub find_message-requires : goal.find_message-requires
find_message-requires c = omega (arith, c.requires.message, how_many c.args.set.now c.args.mode c.apps_of.result.now c.apps_of.ensures)

pub returns-clause-shows : goal.returns-clause-shows
returns-clause-shows c =
    let m = plain_at c.args.set.now c.args.mode in
    let i = c.args.message in
    let shown = message_shown c.args.set.now c.args.mode c.apps_of.result.now c.apps_of.ensures c.requires.case.rules c.requires.case.known i c.requires.message in
    let period = c.period_of.ensures ∙ ap (λ (a : App). unsigned_abs a.period) c.find_message.ensures.app ∙ shown.period in
    record {
      within = c.requires.message;
      number = ap (λ (x : Message). x.number) c.find_message.ensures.message ∙ shown.number;
      opens = c.opens.ensures.value;
      closes = c.closes.ensures.value;
      period = period;
      copies = ap (λ (x : Message). x.copies) c.find_message.ensures.message ∙ shown.copies;
      link = c.link.ensures m c.requires.graph;
      opens_most = c.opens.ensures.most;
      closes_most = c.closes.ensures.most;
      period_some = omega (arith, period, shown.period_some);
      period_most = omega (arith, period, shown.period_most);
    }
