use Rattle.std.proofs.Common.{sym, subst}
use Rattle.node_core.specs.contracts.running.Running.{the_view}
use Rattle.node_core.specs.Running.{RunningNode}
use Rattle.node_core.specs.Conditions.{MayStart}
use Rattle.node_core.proofs.InputLemmas.{task_known}
use Rattle.node_core.proofs.running.Running.starts.Goals as goal

pub returns-in-Some-clause-known : goal.returns-in-Some-clause-known
returns-in-Some-clause-known c =
    task_known (the_view c.self.inside) c.args.task c.self.invariant (subst (λ (n : RunningNode). MayStart n c.args.task) (sym c.self.view_is) c.requires)

pub returns-in-None-clause-known : goal.returns-in-None-clause-known
returns-in-None-clause-known c =
    task_known (the_view c.self.inside) c.args.task c.self.invariant (subst (λ (n : RunningNode). MayStart n c.args.task) (sym c.self.view_is) c.requires)
