-- The numbers of a mode over its applications
use Rattle.std.proofs.Common.{◌≡◌, ℕ, ◌*◌, ◌/◌, ◌<◌, ◌≤◌, length, map, refl, sym, arith, unsigned_abs}
use Rattle.std.specs.List.{fold, sum_by}
use Rattle.app_graph.specs.Hyperperiod.{lcm}
use Rattle.app_graph.specs.Validation.{KeepsRules}
use Rattle.app_graph.specs.declared.mode_set.App.{App}
use Rattle.app_graph.specs.declared.mode_set.ModeSet.{ModeSet}
use Rattle.sched_model.specs.PlainMode.{hyper, instances, mode_at, plain_at}
use Rattle.sched_model.specs.Rows.{slots_by}
use Rattle.sched_model.proofs.KeptSets.{mode_at_valid}
use Rattle.sched_model.proofs.Sizes.{instances_by_app}

pub multiple_is : (set : ModeSet) (i : ℕ) → fold lcm 1 (map (λ (a : App). unsigned_abs a.period) (mode_at set i).apps) ≡ hyper (plain_at set i)
unfolding hyper
multiple_is set i = refl

pub multiple_low : (set : ModeSet) (i : ℕ) → KeepsRules set → i < length set.modes → fold lcm 1 (map (λ (a : App). unsigned_abs a.period) (mode_at set i).apps) ≤ 1000000000000
multiple_low set i keeps l = let e = multiple_is set i in omega (arith, e, (mode_at_valid set keeps i l).hyper_limit)

pub instances_are : (set : ModeSet) (i : ℕ) → sum_by (slots_by (hyper (plain_at set i))) (mode_at set i).apps ≡ instances (plain_at set i)
instances_are set i = sym (instances_by_app set (mode_at set i))
