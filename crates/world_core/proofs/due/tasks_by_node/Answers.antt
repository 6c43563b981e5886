use Rattle.std.proofs.Common.{◌≡◌, List, length, map, All, sym, ◌∙◌, ap, subst, arith, ℤ}
use Rattle.std.proofs.lemmas.Result.{IfOk-weaker}
use Rattle.sched_model.specs.declared.rows.TaskRow.{TaskRow}
use Rattle.sched_model.specs.Numbers.{below}
use Rattle.sched_model.specs.PlainMode.{mode_at, plain_at}
use Rattle.sched_model.specs.TimeLimits.{IsTime}
use Rattle.runtime_model.specs.Plans.{Plan}
use Rattle.node_tables.specs.OwnParts.{rows_of}
use Rattle.node_tables.specs.PartLimits.{IsTaskRow}
use Rattle.node_tables.proofs.ModeParts.{rows_count, rows_small, times_are}
use Rattle.world_core.specs.declared.due.DueTask.{DueTask}
use Rattle.world_core.specs.Due.{HasPeriod, IsDueTask, due_place, in_order, ordered_tasks}
use Rattle.world_core.proofs.TaskLemmas.{rows_have_periods, tasks_same, all_due}
use Rattle.world_core.proofs.due.tasks_by_node.Goals as goal

the_rows : (c : goal.After-as_slice-2) → c.as_slice.result.now ≡ rows_of (mode_at c.args.set.now c.args.mode).apps
the_rows c = c.as_slice.ensures.value ∙ c.in_ok-rows.ensures ∙ ap rows_of c.apps_of.ensures

pub due_tasks-requires-clause-each : goal.due_tasks-requires-clause-each
due_tasks-requires-clause-each c =
    omega (arith, ap length c.as_slice-2.ensures, c.requires.right.shape.tasks, ap length (the_rows c), rows_count c.args.set.now c.args.mode c.requires.rules c.requires.mode 0)

pub due_tasks-requires-clause-limits : goal.due_tasks-requires-clause-limits
due_tasks-requires-clause-limits c =
    subst (λ (r : List TaskRow). All IsTaskRow r) (sym (the_rows c)) (rows_small c.args.set.now c.args.mode c.requires.rules c.requires.mode 0)

pub due_tasks-requires-clause-periods : goal.due_tasks-requires-clause-periods
due_tasks-requires-clause-periods c =
    subst (λ (r : List TaskRow). All HasPeriod r) (sym (the_rows c)) (rows_have_periods c.args.set.now c.args.mode c.requires.rules c.requires.mode c.args.schedule.now c.requires.right)

pub due_tasks-requires-clause-times : goal.due_tasks-requires-clause-times
due_tasks-requires-clause-times c =
    subst (λ (z : List ℤ). All IsTime z) (sym c.as_slice-2.ensures) (times_are c.args.set.now c.args.mode c.requires.rules c.requires.mode 0 c.args.schedule.now c.requires.right).tasks

abbrev the_plan : (c : goal.After-drop-rows-2) → Plan
the_plan c = record { mode = plain_at c.args.set.now c.args.mode; schedule = c.args.schedule.now }

the_tasks : (c : goal.After-drop-rows-2) → in_order c.as_slice-3.result.now (length c.as_slice-4.result.now) ≡ ordered_tasks (length c.args.set.now.nodes) (the_plan c)
the_tasks c =
    let rows : c.as_slice.result.now ≡ rows_of (mode_at c.args.set.now c.args.mode).apps = c.as_slice.ensures.value ∙ c.in_ok-rows.ensures ∙ ap rows_of c.apps_of.ensures in
    ap (λ (ts : List DueTask). in_order ts (length c.as_slice-4.result.now))
    (c.as_slice-3.ensures.value ∙ c.in_ok-tasks.ensures ∙ ap (λ (r : List TaskRow). map (due_place r c.as_slice-2.result.now) (below (length r))) rows
    ∙ ap (λ (o : List ℤ). map (due_place (rows_of (mode_at c.args.set.now c.args.mode).apps) o) (below (length (rows_of (mode_at c.args.set.now c.args.mode).apps)))) c.as_slice-2.ensures
    ∙ tasks_same c.args.set.now c.args.mode c.requires.rules c.requires.mode c.args.schedule.now c.requires.right)
    ∙ ap (λ n. ordered_tasks n (the_plan c)) (ap length c.as_slice-4.ensures)

pub returns-clause-tasks : goal.returns-clause-tasks
returns-clause-tasks c =
    IfOk-weaker c.by_node.result (λ v. v.items ≡ in_order c.as_slice-3.result.now (length c.as_slice-4.result.now)) (λ v. v.items ≡ ordered_tasks (length c.args.set.now.nodes) (the_plan c))
    (λ v e. e ∙ the_tasks c) c.by_node.ensures

pub returns-clause-each : goal.returns-clause-each
returns-clause-each c =
    IfOk-weaker c.by_node.result (λ v. v.items ≡ in_order c.as_slice-3.result.now (length c.as_slice-4.result.now)) (λ v. All IsDueTask v.items)
    (λ v e. subst (λ (ts : List DueTask). All IsDueTask ts) (sym (e ∙ the_tasks c))
    (all_due c.args.set.now c.args.mode c.requires.rules c.requires.mode c.args.schedule.now c.requires.right (length c.args.set.now.nodes))) c.by_node.ensures
