use Rattle.std.proofs.Common.{◌+◌, ◌∙◌, ap, arith, map}
use Rattle.tick_num.specs.Differences.{listed}
use Rattle.sched_model.specs.Numbers.{below}
use Rattle.constraint_set.proofs.TableLemmas.{schedule_made}
use Rattle.constraint_set.proofs.schedule.make_schedule.Goals as goal

pub returns : goal.returns
returns c =
    let e = c.get-count.ensures.count in
    let v = listed c.args.values.now in
    schedule_made c.args.frame.now c.args.rounds c.args.choices.now v c.task_count-2.result _ c.message_count.result
    c.from_vec.result c.from_vec-2.result c.from_vec-3.result c.from_vec-4.result
    (c.from_vec.ensures ∙ c.in_ok-starts.ensures ∙ ap (λ n. map (λ j. v (0 + j)) (below n)) e)
    (c.from_vec-2.ensures ∙ c.in_ok-offsets.ensures ∙ ap (λ r. map (λ a. v (r + a)) (below c.task_count-2.result)) e) c.task_count-2.ensures.count
    (c.from_vec-3.ensures ∙ c.in_ok-windows.ensures) (omega (arith, c.task_count.ensures.count, c.task_count-2.ensures.count, e)) c.message_count.ensures.count
    (c.from_vec-4.ensures ∙ c.in_ok-tables.ensures)
