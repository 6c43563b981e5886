use Rattle.std.proofs.Common.{length, sym, ◌∙◌, ap}
use Rattle.sched_model.specs.declared.links.Link.{Link}
use Rattle.sched_model.specs.Numbers.{has}
use Rattle.sched_model.specs.PlainMode.{plain_at, message_at}
use Rattle.sched_model.proofs.TaskSets.{is_in}
use Rattle.sched_model.proofs.ClauseTests.{no_taker, taker_early, taker_last}
use Rattle.sched_model.proofs.message_clause.taker_fits.Goals as goal

pub returns-then-not-holds : goal.returns-then-not-holds
returns-then-not-holds c =
    let m = plain_at c.args.set.now c.args.mode in
    let i = c.args.window.message in
    let h = c.holds.ensures ∙ is_in c.args.window.link.to c.args.place (has (message_at m i).to) (length m.tasks) c.requires.place c.requires.few (ap (λ (l : Link). l.to) c.requires.window.link) in
    no_taker m c.args.s.now i c.args.place (sym h ∙ c.if-not-holds.true)

pub returns-then-start-window : goal.returns-then-start-window
returns-then-start-window c =
    let m = plain_at c.args.set.now c.args.mode in
    let i = c.args.window.message in
    let h = c.holds.ensures ∙ is_in c.args.window.link.to c.args.place (has (message_at m i).to) (length m.tasks) c.requires.place c.requires.few (ap (λ (l : Link). l.to) c.requires.window.link) in
    taker_early m c.args.s.now i c.args.place c.task_start-start.result c.args.window.closes (sym h ∙ c.if-not-holds.false) c.task_start-start.ensures.value c.requires.window.closes c.if-start-window.true

pub returns : goal.returns
returns c =
    let m = plain_at c.args.set.now c.args.mode in
    let i = c.args.window.message in
    let h = c.holds.ensures ∙ is_in c.args.window.link.to c.args.place (has (message_at m i).to) (length m.tasks) c.requires.place c.requires.few (ap (λ (l : Link). l.to) c.requires.window.link) in
    taker_last m c.args.s.now i c.args.place c.task_start-start.result c.args.window.opens c.args.window.closes c.args.window.period (sym h ∙ c.if-not-holds.false)
    c.task_start-start.ensures.value c.requires.window.closes c.if-start-window.false c.requires.window.opens c.requires.window.period
