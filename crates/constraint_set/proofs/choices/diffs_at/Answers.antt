use Rattle.std.proofs.Common.{get_or, Contains, sym, ◌∙◌, ap, subst, arith, rules, pos, ◌≤ℤ◌, w64, FitsSigned}
use Rattle.std.proofs.lemmas.Int.{to_z-of_z}
use Rattle.round_service.specs.Serving.{most_choice}
use Rattle.sched_model.specs.PlainMode.{task_at}
use Rattle.sched_model.specs.ConstraintProblem.{places}
use Rattle.constraint_set.specs.Numbers.{numbers_at}
use Rattle.constraint_set.specs.Decided.{decision_of}
use Rattle.constraint_set.proofs.Bounded.{at_order, copy_choice, pair_choice}
use Rattle.constraint_set.proofs.choices.diffs_at.Goals as goal

pub copy_diffs-requires-clause-message : goal.copy_diffs-requires-clause-message
copy_diffs-requires-clause-message c =
    (copy_choice c.args.frame.now c.args.rounds c.kept.ensures.valid c.kept.ensures.limits c.get-some.ensures.some c.args.prefix.now c.args.at c.in-Serve.message c.in-Serve.copy c.requires.few c.requires.chosen c.requires.at (ap decision_of (sym c.in-Serve.is) ∙ c.requires.decision)).0

pub copy_diffs-requires-clause-copy : goal.copy_diffs-requires-clause-copy
copy_diffs-requires-clause-copy c =
    (copy_choice c.args.frame.now c.args.rounds c.kept.ensures.valid c.kept.ensures.limits c.get-some.ensures.some c.args.prefix.now c.args.at c.in-Serve.message c.in-Serve.copy c.requires.few c.requires.chosen c.requires.at (ap decision_of (sym c.in-Serve.is) ∙ c.requires.decision)).1

pub copy_diffs-requires-clause-least : goal.copy_diffs-requires-clause-least
copy_diffs-requires-clause-least c =
    let fits : FitsSigned w64 (get_or c.args.prefix.now c.args.at (pos 0)) = search rules in
    subst (λ g. pos 1 ≤ℤ g) (sym (to_z-of_z w64 (get_or c.args.prefix.now c.args.at (pos 0)) fits)) (copy_choice c.args.frame.now c.args.rounds c.kept.ensures.valid c.kept.ensures.limits c.get-some.ensures.some c.args.prefix.now c.args.at c.in-Serve.message c.in-Serve.copy c.requires.few c.requires.chosen c.requires.at (ap decision_of (sym c.in-Serve.is) ∙ c.requires.decision)).2

pub copy_diffs-requires-clause-most : goal.copy_diffs-requires-clause-most
copy_diffs-requires-clause-most c =
    let fits : FitsSigned w64 (get_or c.args.prefix.now c.args.at (pos 0)) = search rules in
    subst (λ g. g ≤ℤ pos (most_choice (numbers_at c.args.frame.now c.args.rounds c.in-Serve.message))) (sym (to_z-of_z w64 (get_or c.args.prefix.now c.args.at (pos 0)) fits)) (copy_choice c.args.frame.now c.args.rounds c.kept.ensures.valid c.kept.ensures.limits c.get-some.ensures.some c.args.prefix.now c.args.at c.in-Serve.message c.in-Serve.copy c.requires.few c.requires.chosen c.requires.at (ap decision_of (sym c.in-Serve.is) ∙ c.requires.decision)).3

pub pair_diffs-requires-clause-first : goal.pair_diffs-requires-clause-first
pair_diffs-requires-clause-first c =
    (at_order c.args.frame.now c.args.at c.in-Order.first c.in-Order.second (omega (arith, c.requires.few, c.requires.at)) (ap decision_of (sym c.in-Order.is) ∙ c.requires.decision)).0

pub pair_diffs-requires-clause-second : goal.pair_diffs-requires-clause-second
pair_diffs-requires-clause-second c =
    (at_order c.args.frame.now c.args.at c.in-Order.first c.in-Order.second (omega (arith, c.requires.few, c.requires.at)) (ap decision_of (sym c.in-Order.is) ∙ c.requires.decision)).1

pub pair_diffs-requires-clause-place : goal.pair_diffs-requires-clause-place
pair_diffs-requires-clause-place c =
    let fits : FitsSigned w64 (get_or c.args.prefix.now c.args.at (pos 0)) = search rules in
    subst (λ z. Contains (places (task_at c.args.frame.now c.in-Order.first) (task_at c.args.frame.now c.in-Order.second)) z) (sym (to_z-of_z w64 (get_or c.args.prefix.now c.args.at (pos 0)) fits)) (pair_choice c.args.frame.now c.args.rounds c.args.prefix.now c.args.at c.in-Order.first c.in-Order.second c.requires.few c.requires.chosen c.requires.at (ap decision_of (sym c.in-Order.is) ∙ c.requires.decision))
