use Rattle.std.proofs.Common.{rules, ◌≡◌, length, ◌∙◌, ◌++◌, List, Some, ap, map, ◌∷◌}
use Rattle.sched_model.specs.declared.schedule.Schedule.{Schedule}
use Rattle.file_answers.proofs.PlanFileLemmas.{next_schedule, lacks_one, all_schedules}
use Rattle.file_answers.proofs.plan_files.schedules_of.Goals as goal

pub loop-plan-init : goal.loop-plan-init
loop-plan-init c =
    ap (λ (xs : List Schedule). map Some xs ++ c.into_iter-plan-iterator.result.rest.items) c.new-schedules.ensures.items
    ∙ c.into_iter-plan-iterator.ensures.into_iter_gives.0 ∙ c.into_vec-plan-items.ensures

pub loop-plan-preserved : goal.loop-plan-preserved
loop-plan-preserved c =
    next_schedule c.args.plans c.next.new.self.rest.items c.loop-plan.plan-iterator.rest.items c.loop-plan.schedules.items c.push.new.self.items c.in-Some-plan.schedule c.loop-plan.invariant
    (c.in-Some.ensures.steps.0 ∙ ap (λ p. p ∷ c.next.new.self.rest.items) c.in-Some-plan.is) c.in_ok-push-in-Some-plan.ensures.items

pub returns-in-None-plan : goal.returns-in-None-plan
returns-in-None-plan c =
    let count : length c.loop-plan.schedules.items ≡ c.len.result = search rules in
    lacks_one c.args.plans c.next.new.self.rest.items c.loop-plan.plan-iterator.rest.items c.loop-plan.schedules.items c.len.result c.loop-plan.invariant
    (c.in-Some.ensures.steps.0 ∙ ap (λ p. p ∷ c.next.new.self.rest.items) c.in-None-plan.is) count

pub returns : goal.returns
returns c =
    let none : length c.loop-plan.plan-iterator.rest.items ≡ 0 = search rules in
    all_schedules c.args.plans c.loop-plan.plan-iterator.rest.items c.loop-plan.schedules.items c.loop-plan.invariant none
