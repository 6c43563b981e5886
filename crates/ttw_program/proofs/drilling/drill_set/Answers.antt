use Rattle.std.proofs.Common.{subst, sym, map, List, Option}
use Rattle.std.specs.List.{AllZip}
use Rattle.sched_model.specs.declared.schedule.Schedule.{Schedule}
use Rattle.proof_tree.specs.Accepting.{IsRight, doc_modes}
use Rattle.ttw_program.specs.Drills.{IsDrilled, drill_budget}
use Rattle.ttw_program.specs.Plans.{IsPlans}
use Rattle.ttw_program.proofs.DrillAnswers.{parts_due, parts_right, spent_due}
use Rattle.ttw_program.proofs.drilling.drill_set.Goals as goal

pub drill_plans-requires-clause-right : goal.drill_plans-requires-clause-right
drill_plans-requires-clause-right g c =
    let made = subst (IsPlans c.args.set.now drill_budget) c.in-Made.is c.in_ok-parts.ensures in
    subst (λ (ps : List (Option Schedule)). AllZip IsRight (doc_modes c.args.set.now) ps) (sym c.in_ok-plans-in-Made.ensures) (parts_right c.args.set.now drill_budget c.args.set.now.modes c.in-Made.parts.items made.0)

pub returns-in_ok-plans-in-Made : goal.returns-in_ok-plans-in-Made
returns-in_ok-plans-in-Made g c =
    let made = subst (IsPlans c.args.set.now drill_budget) c.in-Made.is c.in_ok-parts.ensures in
    let bodies = map (λ b. (goal.TaskBody-dyn g (b.vtable, b.value)).seen b.value) c.args.bodies.now.items in
    parts_due c.args.set.now (IsDrilled c.args.seed c.args.set.now bodies) c.in-Made.parts.items c.in_ok-plans-in-Made.plans c.drill_plans.result made.0 c.in_ok-plans-in-Made.ensures c.drill_plans.ensures

pub returns-in-Spent : goal.returns-in-Spent
returns-in-Spent g c =
    let spent = subst (IsPlans c.args.set.now drill_budget) c.in-Spent.is c.in_ok-parts.ensures in
    let bodies = map (λ b. (goal.TaskBody-dyn g (b.vtable, b.value)).seen b.value) c.args.bodies.now.items in
    spent_due c.args.set.now (IsDrilled c.args.seed c.args.set.now bodies) c.in-Spent.mode c.in-Spent.rounds c.exceeded.result spent c.exceeded.ensures.status c.exceeded.ensures.text
