use Rattle.std.proofs.Common.{◌≡◌, ap, arith, length, sym, ◌∙◌, map}
use Rattle.sched_model.specs.declared.schedule.Schedule.{Schedule}
use Rattle.sched_model.specs.Numbers.{below}
use Rattle.sched_model.specs.PlainMode.{plain_at}
use Rattle.sched_model.proofs.TaskNumbers.{few_modes}
use Rattle.runtime_model.specs.Plans.{Plan, plan_of}
use Rattle.world_core.specs.Cycle.{kept_cycle}
use Rattle.world_core.proofs.EntryLists.{map_push, map_map}
use Rattle.world_core.proofs.cycle.cycles.Goals as goal

pub overflow_cast-mode : goal.overflow_cast-mode
overflow_cast-mode c =
    record { fits = omega (arith, c.loop-mode-test.true, ap length c.as_slice-mode-end.ensures, few_modes c.args.set.now c.requires.rules) }

pub loop-mode-preserved : goal.loop-mode-preserved
loop-mode-preserved c =
    let nodes = length c.args.set.now.nodes in
    let kept = λ (s : Schedule). let p : Plan = record { mode = plain_at c.args.set.now c.loop-mode.mode; schedule = s } in kept_cycle nodes p in
    map_push (λ i. kept_cycle nodes (plan_of c.args.set.now c.args.plans.now i)) c.loop-mode.mode c.loop-mode.cycles.items c.push.new.self.items c.from_vec.result
    c.loop-mode.invariant c.in_ok-push.ensures.items
    (c.from_vec.ensures ∙ c.in_ok-entries.ensures ∙ ap kept c.schedule_of-schedule.ensures.value)

pub returns : goal.returns
returns c =
    let nodes = length c.args.set.now.nodes in
    let plan = plan_of c.args.set.now c.args.plans.now in
    let n = length c.args.set.now.modes in
    let end : c.loop-mode.mode ≡ n = omega (arith, c.loop-mode-test.false, c.loop-mode.auto.mode-end, ap length c.as_slice-mode-end.ensures) in
    c.loop-mode.invariant ∙ ap (λ k. map (λ i. kept_cycle nodes (plan i)) (below k)) end ∙ sym (map_map (kept_cycle nodes) plan (below n))
