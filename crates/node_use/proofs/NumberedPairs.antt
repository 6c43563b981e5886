-- The pair of the tests
use Rattle.std.proofs.Common.{◌≡◌, ℕ, Contains, lit<, refl, sym, subst, ℤ, pos, negsuc}
use Rattle.app_graph.specs.declared.mode_set.ModeSet.{ModeSet}
use Rattle.app_graph.specs.Validation.{KeepsRules}
use Rattle.sched_model.specs.PlainMode.{plain_at, task_at}
use Rattle.sched_model.specs.ConstraintProblem.{places}
use Rattle.sched_model.specs.Numbered.{IsTaskOf}
use Rattle.sched_model.specs.TestModes.{shared_with}
use Rattle.sched_model.proofs.TaskNumbers.{one_place}
use Rattle.sched_model.proofs.TestLaws.{short_kept, long_kept}

first_is : (wcet : ℤ) → IsTaskOf (shared_with wcet) 0 0 0
first_is wcet = record { mode = lit< tt; place = lit< tt; is = refl }

second_is : (wcet : ℤ) → IsTaskOf (shared_with wcet) 0 1 1
second_is wcet = record { mode = lit< tt; place = lit< tt; is = refl }

pub short_rules : (set : ModeSet) → set ≡ shared_with (pos 1) → KeepsRules set
short_rules set e = subst KeepsRules (sym e) short_kept.2

pub long_rules : (set : ModeSet) → set ≡ shared_with (pos 2) → KeepsRules set
long_rules set e = subst KeepsRules (sym e) long_kept.2

first_known : (set : ModeSet) (wcet : ℤ) → set ≡ shared_with wcet → IsTaskOf set 0 0 0
first_known set wcet e = subst (λ (x : ModeSet). IsTaskOf x 0 0 0) (sym e) (first_is wcet)

second_known : (set : ModeSet) (wcet : ℤ) → set ≡ shared_with wcet → IsTaskOf set 0 1 1
second_known set wcet e = subst (λ (x : ModeSet). IsTaskOf x 0 1 1) (sym e) (second_is wcet)

here : Contains (places (task_at (plain_at (shared_with (pos 1)) 0) 0) (task_at (plain_at (shared_with (pos 1)) 0) 1)) (negsuc 1)
here = (1, lit< tt, refl)

pub place_known : (set : ModeSet) → set ≡ shared_with (pos 1) → (a b : ℕ) → IsTaskOf set 0 a 0 → IsTaskOf set 0 b 1 →
    Contains (places (task_at (plain_at set 0) a) (task_at (plain_at set 0) b)) (negsuc 1)
place_known set e a b v w =
    let keeps = short_rules set e in
    let ea = one_place set keeps 0 0 a 0 (first_known set (pos 1) e) v in
    let eb = one_place set keeps 0 1 b 1 (second_known set (pos 1) e) w in
    subst (λ n. Contains (places (task_at (plain_at set 0) n) (task_at (plain_at set 0) b)) (negsuc 1)) ea
    (subst (λ n. Contains (places (task_at (plain_at set 0) 0) (task_at (plain_at set 0) n)) (negsuc 1)) eb
    (subst (λ (x : ModeSet). Contains (places (task_at (plain_at x 0) 0) (task_at (plain_at x 0) 1)) (negsuc 1)) (sym e) here))
