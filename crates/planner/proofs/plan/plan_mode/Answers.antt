use Rattle.std.proofs.Common.{ap, ◌∙◌, arith, refl}
use Rattle.sched_model.specs.PlainMode.{most_rounds, plain_at}
use Rattle.constraint_set.specs.Posed.{Posed}
use Rattle.planner.proofs.Trying.{made_plan, none_plan, spent_plan, next_try, nothing_tried, tried_here}
use Rattle.planner.proofs.plan.plan_mode.Goals as goal

pub returns-then-most-eq0 : goal.returns-then-most-eq0
returns-then-most-eq0 c =
    none_plan (plain_at c.args.set.now c.args.mode) c.args.budget c.new-refuted.result.items c.part.result.refuted c.part.result.schedule c.args.budget 0 _
    c.plans_are_best.ensures ((c.kept_modes_are_valid.ensures c.args.set.now c.requires.rules).1 c.args.mode c.requires.mode) c.part.ensures.trees c.part.ensures.schedule (omega arith)
    (nothing_tried (plain_at c.args.set.now c.args.mode) c.args.budget c.new-refuted.result.items c.new-refuted.ensures.items) (omega (arith, c.most_rounds-most.ensures))

pub make-requires-clause-most : goal.make-requires-clause-most
make-requires-clause-most c = omega (arith, c.most_rounds-most.ensures)

pub set_rounds-requires-clause-most : goal.set_rounds-requires-clause-most
set_rounds-requires-clause-most c =
    omega (arith, c.loop-before-test.true, c.most_rounds-most.ensures, ap (λ m. most_rounds m) c.loop-before.invariant.mode)

pub loop-before-init : goal.loop-before-init
loop-before-init c = record {
  refuting = nothing_tried (plain_at c.args.set.now c.args.mode) c.args.budget c.new-refuted.result.items c.new-refuted.ensures.items;
  mode = ap (λ (p : Posed). p.mode) c.in_ok-problem.ensures;
}

pub returns-in-Made : goal.returns-in-Made
returns-in-Made c =
    made_plan (plain_at c.args.set.now c.args.mode) c.args.budget c.loop-before.refuted.items c.part-in-Made.result.refuted c.part-in-Made.result.schedule c.loop-before.left c.loop-before.before c.in-Made.visited _ c.in-Made.schedule
    c.in_ok-schedule.field-0 c.plans_are_best.ensures ((c.kept_modes_are_valid.ensures c.args.set.now c.requires.rules).1 c.args.mode c.requires.mode) c.part-in-Made.ensures.trees c.part-in-Made.ensures.schedule refl
    c.loop-before.invariant.refuting (omega (arith, c.loop-before-test.true, c.most_rounds-most.ensures))
    (tried_here _ _ _ c.loop-before.problem c.set_rounds.new.self _ c.loop-before.invariant.mode c.in_ok-set_rounds.ensures.moved c.in_ok-schedule.ensures) c.in-Made.is

pub returns-in-Spent : goal.returns-in-Spent
returns-in-Spent c =
    spent_plan (plain_at c.args.set.now c.args.mode) c.args.budget c.loop-before.refuted.items c.loop-before.left c.loop-before.before c.in_ok-schedule.field-0
    c.loop-before.invariant.refuting (omega (arith, c.loop-before-test.true, c.most_rounds-most.ensures))
    (tried_here _ _ _ c.loop-before.problem c.set_rounds.new.self _ c.loop-before.invariant.mode c.in_ok-set_rounds.ensures.moved c.in_ok-schedule.ensures) c.in-Spent.is

pub loop-before-preserved : goal.loop-before-preserved
loop-before-preserved c = record {
  refuting = next_try (plain_at c.args.set.now c.args.mode) c.args.budget c.loop-before.refuted.items c.push.new.self.items c.loop-before.left _ c.loop-before.before c.in-Refuted.visited c.in-Refuted.tree c.in_ok-schedule.field-0
      c.loop-before.invariant.refuting
      (tried_here _ _ _ c.loop-before.problem c.set_rounds.new.self _ c.loop-before.invariant.mode c.in_ok-set_rounds.ensures.moved c.in_ok-schedule.ensures) c.in-Refuted.is c.in_ok-push-in-Refuted.ensures.items refl;
  mode = ap (λ (p : Posed). p.mode) c.in_ok-set_rounds.ensures.moved ∙ c.loop-before.invariant.mode;
}

pub returns : goal.returns
returns c =
    none_plan (plain_at c.args.set.now c.args.mode) c.args.budget c.loop-before.refuted.items c.part-2.result.refuted c.part-2.result.schedule c.loop-before.left c.loop-before.before _
    c.plans_are_best.ensures ((c.kept_modes_are_valid.ensures c.args.set.now c.requires.rules).1 c.args.mode c.requires.mode) c.part-2.ensures.trees c.part-2.ensures.schedule refl
    c.loop-before.invariant.refuting (omega (arith, c.loop-before-test.false, c.loop-before.auto.before-end, c.most_rounds-most.ensures))
