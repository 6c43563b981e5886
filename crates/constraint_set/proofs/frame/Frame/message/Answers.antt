use Rattle.std.proofs.Common.{ap, subst, ◌∙◌}
use Rattle.sched_model.specs.PlainMode.{PlainMessage, PlainMode, message_at}
use Rattle.sched_model.specs.ValidMode.{IsValid}
use Rattle.constraint_set.proofs.BaseLists.{producers_within, consumers_within}
use Rattle.constraint_set.proofs.frame.Frame.message.Goals as goal

pub returns-clause-from : goal.returns-clause-from
returns-clause-from c =
    producers_within c.args.self.now c.args.place c.message.result.now.from (subst (λ (m : PlainMode). IsValid m) c.self.view_is c.self.invariant.valid) c.requires
    (ap (λ (x : PlainMessage). x.from) (c.message.ensures ∙ ap (λ (m : PlainMode). message_at m c.args.place) c.self.view_is))

pub returns-clause-to : goal.returns-clause-to
returns-clause-to c =
    consumers_within c.args.self.now c.args.place c.message.result.now.to (subst (λ (m : PlainMode). IsValid m) c.self.view_is c.self.invariant.valid) c.requires
    (ap (λ (x : PlainMessage). x.to) (c.message.ensures ∙ ap (λ (m : PlainMode). message_at m c.args.place) c.self.view_is))
