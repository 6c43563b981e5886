use Rattle.std.proofs.Common.{◌≡◌, rules, refl, ap, length}
use Rattle.std.specs.Prelude.{unsigned_abs}
use Rattle.std.specs.List.{zip}
use Rattle.std.proofs.lemmas.List.{length_push}
use Rattle.std.proofs.lemmas.Iterator.{YieldsList-from_slice, YieldsList-from_zip}
use Rattle.std.proofs.lemmas.Iterator.Adapters.{YieldsList-from_flat_map}
use Rattle.std.proofs.lemmas.Iterator.Consumers.{YieldsList-turn, YieldsList-end}
use Rattle.app_graph.specs.declared.mode_set.App.{App}
use Rattle.proof_tree.specs.Items.{line_of}
use Rattle.proof_tree.specs.Names.{tasks_in}
use Rattle.proof_tree.specs.PlanText.{task_item}
use Rattle.proof_tree.proofs.WrittenLemmas.{on_err, goes_on_in_loop, ends_loop, stops_in_loop}
use Rattle.proof_tree.proofs.document.write_tasks.Goals as goal

pub loop-task-preserved : goal.loop-task-preserved
loop-task-preserved c =
    let t = YieldsList-turn (YieldsList-from_zip (YieldsList-from_flat_map _ _ _ (λ y. y.now) (λ (app : App). app.tasks) _ (λ x u q k. (refl, λ j e. YieldsList-from_slice x.now.tasks (search rules))) (YieldsList-from_slice c.args.apps.now (cc)) (cc) (cc) (cc) (cc)) (YieldsList-from_slice c.args.offsets.now (cc))) c.loop-task.yielded c.loop-task.task-iterator c.loop-task.yielded_by c.next.result c.next.new.self (c.in-Some.task, c.in-Some.offset) c.in-Some.is c.next.ensures.steps in
    let name : c.as_bytes.result.now ≡ c.in-Some.task.now.name = search rules in
    let offset : c.unsigned_abs.result ≡ unsigned_abs c.in-Some.offset.now = search rules in
    goes_on_in_loop _ _ _ _ line_of task_item (zip (tasks_in c.args.apps.now) c.args.offsets.now) (length c.loop-task.yielded) _ (c.in-Some.task.now, c.in-Some.offset.now) t (length_push c.loop-task.yielded _) c.loop-task.invariant (rw (name, offset) refl) c.in_ok-write_line.ensures.ok

pub returns-clause-ok : goal.returns-clause-ok
returns-clause-ok c =
    let t = YieldsList-end (YieldsList-from_zip (YieldsList-from_flat_map _ _ _ (λ y. y.now) (λ (app : App). app.tasks) _ (λ x u q k. (refl, λ j e. YieldsList-from_slice x.now.tasks (search rules))) (YieldsList-from_slice c.args.apps.now (cc)) (cc) (cc) (cc) (cc)) (YieldsList-from_slice c.args.offsets.now (cc))) c.loop-task.yielded c.loop-task.task-iterator c.loop-task.yielded_by c.next.result c.next.new.self c.in-None.is c.next.ensures.steps in
    ends_loop _ _ line_of task_item (zip (tasks_in c.args.apps.now) c.args.offsets.now) (length c.loop-task.yielded) t.1 c.loop-task.invariant

pub returns-in_err-write_line-clause-err : goal.returns-in_err-write_line-clause-err
returns-in_err-write_line-clause-err c =
    let t = YieldsList-turn (YieldsList-from_zip (YieldsList-from_flat_map _ _ _ (λ y. y.now) (λ (app : App). app.tasks) _ (λ x u q k. (refl, λ j e. YieldsList-from_slice x.now.tasks (search rules))) (YieldsList-from_slice c.args.apps.now (cc)) (cc) (cc) (cc) (cc)) (YieldsList-from_slice c.args.offsets.now (cc))) c.loop-task.yielded c.loop-task.task-iterator c.loop-task.yielded_by c.next.result c.next.new.self (c.in-Some.task, c.in-Some.offset) c.in-Some.is c.next.ensures.steps in
    let name : c.as_bytes.result.now ≡ c.in-Some.task.now.name = search rules in
    let offset : c.unsigned_abs.result ≡ unsigned_abs c.in-Some.offset.now = search rules in
    on_err _ (stops_in_loop line_of task_item (zip (tasks_in c.args.apps.now) c.args.offsets.now) (length c.loop-task.yielded) (c.in-Some.task.now, c.in-Some.offset.now) t.0 c.loop-task.invariant (rw (name, offset) (ap (λ p. line_of (task_item p)) t.1)) c.in_err-write_line.ensures.err)
