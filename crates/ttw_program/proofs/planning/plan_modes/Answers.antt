use Rattle.std.proofs.Common.{arith, refl, [], subst, sym, List}
use Rattle.std.specs.List.{AllZip}
use Rattle.sched_model.specs.PlainMode.{plain_at}
use Rattle.sched_model.proofs.TaskNumbers.{few_modes}
use Rattle.proof_tree.specs.declared.tree.ModePart.{ModePart}
use Rattle.ttw_program.specs.Plans.{PlansMode}
use Rattle.ttw_program.proofs.PlanAnswers.{next_part, next_cost, cost_most, all_parts, all_costs, spends_first}
use Rattle.ttw_program.proofs.planning.plan_modes.Goals as goal

pub loop-mode-init : goal.loop-mode-init
loop-mode-init c =
    (subst (λ (parts : List ModePart). AllZip (PlansMode c.args.set.now c.args.budget) [] parts) (sym c.new-parts.ensures.items) tt, ([], tt, refl), omega arith)

pub returns-in-Spent : goal.returns-in-Spent
returns-in-Spent c =
    spends_first c.args.set.now c.args.budget c.loop-mode.mode c.in-Spent.rounds c.loop-mode.parts.items c.in_ok-part.field-0
    (omega (arith, c.loop-mode-test.true, c.count_of-mode-end.ensures)) c.loop-mode.invariant.0 c.in_ok-part.ensures c.in-Spent.is

pub overflow_add-visited : goal.overflow_add-visited
overflow_add-visited c =
    omega (
      arith,
      c.loop-mode.invariant.2,
      c.loop-mode-test.true,
      c.count_of-mode-end.ensures,
      few_modes c.args.set.now c.requires.rules,
      c.requires.budget,
      cost_most (plain_at c.args.set.now c.loop-mode.mode) c.args.budget c.in-Made.cost c.in-Made.part c.in_ok-part.field-0 c.in_ok-part.ensures c.in-Made.is,
    )

pub loop-mode-preserved : goal.loop-mode-preserved
loop-mode-preserved c = (
  next_part c.args.set.now c.args.budget c.loop-mode.mode c.in-Made.cost c.loop-mode.parts.items c.push.new.self.items c.in-Made.part c.in_ok-part.field-0
      (omega (arith, c.loop-mode-test.true, c.count_of-mode-end.ensures)) c.loop-mode.invariant.0 c.in_ok-part.ensures c.in-Made.is c.in_ok-push-in-Made.ensures.items,
  next_cost c.args.set.now c.args.budget c.loop-mode.mode c.in-Made.cost c.loop-mode.visited _ c.in-Made.part c.in_ok-part.field-0
      (omega (arith, c.loop-mode-test.true, c.count_of-mode-end.ensures)) c.loop-mode.invariant.1 c.in_ok-part.ensures c.in-Made.is refl,
  omega (
    arith,
    c.loop-mode.invariant.2,
    c.requires.budget,
    cost_most (plain_at c.args.set.now c.loop-mode.mode) c.args.budget c.in-Made.cost c.in-Made.part c.in_ok-part.field-0 c.in_ok-part.ensures c.in-Made.is,
  ),
)

pub returns : goal.returns
returns c = (
  all_parts c.args.set.now c.args.budget c.loop-mode.mode c.loop-mode.parts.items (omega (arith, c.loop-mode-test.false, c.count_of-mode-end.ensures)) c.loop-mode.invariant.0,
  all_costs c.args.set.now c.args.budget c.loop-mode.mode c.loop-mode.visited (omega (arith, c.loop-mode-test.false, c.count_of-mode-end.ensures)) c.loop-mode.invariant.1,
)
