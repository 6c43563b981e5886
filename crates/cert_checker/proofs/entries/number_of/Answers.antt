use Rattle.std.proofs.Common.{List, sym, ap, ◌∙◌}
use Rattle.std.specs.Option.{option_copied}
use Rattle.app_graph.specs.declared.mode_set.App.{App}
use Rattle.proof_tree.specs.Names.{messages_in}
use Rattle.cert_checker.proofs.Lookups.{named, none_named, one_named}
use Rattle.cert_checker.proofs.entries.number_of.Goals as goal

pub returns-in-None-clause-none : goal.returns-in-None-clause-none
returns-in-None-clause-none c =
    none_named c.args.set.now c.args.mode c.args.name.now
    (sym (ap (λ (l : List App). named c.args.name.now (messages_in l)) c.apps_of.ensures) ∙ sym c.message_named.ensures ∙ ap option_copied c.in-None.is)

pub returns-in-Some-clause-some : goal.returns-in-Some-clause-some
returns-in-Some-clause-some c =
    let w = one_named c.args.set.now c.args.mode c.args.name.now c.in-Some.message.now
    (sym (ap (λ (l : List App). named c.args.name.now (messages_in l)) c.apps_of.ensures) ∙ sym c.message_named.ensures ∙ ap option_copied c.in-Some.is) in
    (w.known, w.number_is, w.stands)
