-- The cycles of a set that keeps the rules have few entries in each tick, and no great gaps
use Rattle.std.proofs.Common.{ℕ, ◌<◌, List, length, ℤ, ap, arith}
use Rattle.std.specs.Prelude.{Option}
use Rattle.app_graph.specs.declared.mode_set.ModeSet.{ModeSet}
use Rattle.app_graph.specs.Validation.{KeepsRules}
use Rattle.sched_model.specs.declared.schedule.Schedule.{Schedule}
use Rattle.sched_model.proofs.LimitedModes.{mode_at_limited}
use Rattle.sched_model.proofs.Lists.{get_or-map_below}
use Rattle.runtime_model.specs.Outcomes.{Step}
use Rattle.runtime_model.specs.Plans.{AreSchedules, Plan, plan_of}
use Rattle.runtime_model.specs.System.{no_plan, plan_at, system_of}
use Rattle.runtime_model.proofs.RightSets.{plan_count}
use Rattle.node_tables.proofs.Numbering.{few_nodes}
use Rattle.world_core.proofs.CycleLengths.{tick_short}
use Rattle.world_core.proofs.WorldRight.{is_mode, right_world}
use Rattle.replayer.proofs.Searches.{Small}

pub small : (set : ModeSet) (schedules : List Schedule) (answers : List Step → ℕ → List (Option ℤ) → ℤ) → KeepsRules set → AreSchedules set schedules → Small (system_of set schedules answers) 24832 1000000000
small set schedules answers keeps are m ok =
    let y = system_of set schedules answers in
    let l = is_mode y m ok in
    let inside : m < length set.modes = omega (arith, l, plan_count set schedules) in
    let limits = mode_at_limited set keeps m inside in
    let same = get_or-map_below (plan_of set schedules) (length set.modes) m no_plan inside in
    let gap = ap (λ (p : Plan). p.mode.gap) same in
    let tasks = ap (λ (p : Plan). length p.mode.tasks) same in (
      omega (arith, gap, limits.gap),
      tick_short (length set.nodes) (plan_at y m) (few_nodes set keeps) (omega (arith, tasks, limits.tasks)) ((right_world set schedules answers keeps are).few m l),
    )
