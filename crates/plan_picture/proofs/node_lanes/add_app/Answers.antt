use Rattle.std.proofs.Common.{◌≡◌, ◌++◌, length, rules}
use Rattle.std.specs.List.{zip}
use Rattle.std.proofs.lemmas.List.{length_push}
use Rattle.std.proofs.lemmas.Iterator.{YieldsList-from_slice, YieldsList-from_zip}
use Rattle.std.proofs.lemmas.Iterator.Consumers.{YieldsList-turn, YieldsList-end}
use Rattle.plan_picture.specs.Picture.{run_rows}
use Rattle.plan_picture.proofs.Loops.{grows, grown}
use Rattle.plan_picture.proofs.node_lanes.add_app.Goals as goal

pub loop-task-preserved : goal.loop-task-preserved
loop-task-preserved c =
    let l = c.loop-task in
    let pairs = YieldsList-from_zip (YieldsList-from_slice c.args.tasks.now (cc)) (YieldsList-from_slice c.args.starts.now (cc)) in
    let t = YieldsList-turn pairs l.yielded l.task-iterator l.yielded_by c.next.result c.next.new.self (c.in-Some.task, c.in-Some.start) c.in-Some.is c.next.ensures.steps in
    let added : c.add_task.new.rows.items ≡ l.rows.items ++ run_rows c.args.node c.args.period (c.in-Some.task.now, c.in-Some.start.now) = search rules in
    grows (run_rows c.args.node c.args.period) (zip c.args.tasks.now c.args.starts.now) _ _ _ (length l.yielded) _ (c.in-Some.task.now, c.in-Some.start.now) t (length_push l.yielded _) l.invariant added

pub returns : goal.returns
returns c =
    let l = c.loop-task in
    let pairs = YieldsList-from_zip (YieldsList-from_slice c.args.tasks.now (cc)) (YieldsList-from_slice c.args.starts.now (cc)) in
    let t = YieldsList-end pairs l.yielded l.task-iterator l.yielded_by c.next.result c.next.new.self c.in-None.is c.next.ensures.steps in
    grown (run_rows c.args.node c.args.period) (zip c.args.tasks.now c.args.starts.now) _ _ (length l.yielded) t.1 l.invariant
