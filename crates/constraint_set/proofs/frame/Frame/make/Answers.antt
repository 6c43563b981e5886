use Rattle.std.proofs.Common.{sym, ◌∙◌, ap, subst, arith}
use Rattle.sched_model.specs.PlainMode.{PlainMode, hyper, instances}
use Rattle.sched_model.specs.ModeLimits.{IsLimited}
use Rattle.sched_model.specs.ValidMode.{IsValid}
use Rattle.sched_model.proofs.LimitedModes.{mode_at_limited}
use Rattle.sched_model.proofs.KeptSets.{mode_at_valid}
use Rattle.constraint_set.proofs.frame.Frame.make.Goals as goal

pub flatten-requires-clause-tasks : goal.flatten-requires-clause-tasks
flatten-requires-clause-tasks c = let low = (mode_at_limited c.args.set.now c.requires.rules c.args.mode c.requires.mode).tasks in omega (arith, low)

pub find_firsts-requires-clause-few : goal.find_firsts-requires-clause-few
find_firsts-requires-clause-few c =
    (subst (λ (m : PlainMode). IsLimited m) (sym c.in_ok-flat.ensures) (mode_at_limited c.args.set.now c.requires.rules c.args.mode c.requires.mode)).tasks

pub invariant_of-result : goal.invariant_of-result
invariant_of-result c =
    let e = sym c.in_ok-flat.ensures in
    record {
      valid = subst (λ (m : PlainMode). IsValid m) e (mode_at_valid c.args.set.now c.requires.rules c.args.mode c.requires.mode);
      limits = subst (λ (m : PlainMode). IsLimited m) e (mode_at_limited c.args.set.now c.requires.rules c.args.mode c.requires.mode);
      ticks = c.ticks_of.ensures ∙ ap hyper e;
      count = c.instances.ensures ∙ ap (λ (m : PlainMode). instances m) e;
      firsts = c.in_ok-firsts.ensures;
    }
