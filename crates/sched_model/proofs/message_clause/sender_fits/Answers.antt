use Rattle.std.proofs.Common.{length, sym, ◌∙◌, ap}
use Rattle.sched_model.specs.declared.links.Link.{Link}
use Rattle.sched_model.specs.Numbers.{has}
use Rattle.sched_model.specs.PlainMode.{plain_at, message_at}
use Rattle.sched_model.proofs.TaskSets.{is_in}
use Rattle.sched_model.proofs.ClauseTests.{no_sender, sender_late, sender_last}
use Rattle.sched_model.proofs.message_clause.sender_fits.Goals as goal

pub returns-then-not-holds : goal.returns-then-not-holds
returns-then-not-holds c =
    let m = plain_at c.args.set.now c.args.mode in
    let i = c.args.window.message in
    let h = c.holds.ensures ∙ is_in c.args.window.link.from c.args.place (has (message_at m i).from) (length m.tasks) c.requires.place c.requires.few (ap (λ (l : Link). l.from) c.requires.window.link) in
    no_sender m c.args.s.now i c.args.place (sym h ∙ c.if-not-holds.true)

pub returns-then-end-window : goal.returns-then-end-window
returns-then-end-window c =
    let m = plain_at c.args.set.now c.args.mode in
    let i = c.args.window.message in
    let h = c.holds.ensures ∙ is_in c.args.window.link.from c.args.place (has (message_at m i).from) (length m.tasks) c.requires.place c.requires.few (ap (λ (l : Link). l.from) c.requires.window.link) in
    sender_late m c.args.s.now i c.args.place c.task_start.result c.task_at.result.wcet c.args.window.opens (sym h ∙ c.if-not-holds.false)
    c.task_start.ensures.value c.task_at.ensures.wcet c.requires.window.opens c.if-end-window.true

pub returns : goal.returns
returns c =
    let m = plain_at c.args.set.now c.args.mode in
    let i = c.args.window.message in
    let h = c.holds.ensures ∙ is_in c.args.window.link.from c.args.place (has (message_at m i).from) (length m.tasks) c.requires.place c.requires.few (ap (λ (l : Link). l.from) c.requires.window.link) in
    sender_last m c.args.s.now i c.args.place c.task_start.result c.task_at.result.wcet c.args.window.opens c.args.window.closes c.args.window.period (sym h ∙ c.if-not-holds.false)
    c.task_start.ensures.value c.task_at.ensures.wcet c.requires.window.opens c.if-end-window.false c.requires.window.closes c.requires.window.period
