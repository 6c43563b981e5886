use Rattle.std.proofs.Common.{◌≡◌, ap, sym, ◌∙◌, List, ℕ, ℤ, length, map}
use Rattle.std.specs.Prelude.{codes}
use Rattle.std.specs.List.{zip, enumerate_from}
use Rattle.std.proofs.lemmas.Result.{on_err_weaker}
use Rattle.app_graph.specs.declared.mode_set.App.{App}
use Rattle.proof_tree.specs.Items.{ScheduleOf, line, line_of, text_of}
use Rattle.proof_tree.specs.Names.{tasks_in, messages_in}
use Rattle.proof_tree.specs.WordSpelling.{spelled_time}
use Rattle.proof_tree.specs.PlanText.{task_item, message_item, table_item}
use Rattle.proof_tree.proofs.WrittenLemmas.{on_err, on_ok_weaker, stops_in_first, stops_in_second, stops_at, adds_at, adds_second, map-spelled_time}
use Rattle.proof_tree.proofs.DocumentLemmas.{tasks_text, messages_text, tables_text, start_line, schedule_parts}
use Rattle.proof_tree.proofs.document.write_schedule_of.Goals as goal

pub returns-in_err-write_line-clause-err : goal.returns-in_err-write_line-clause-err
returns-in_err-write_line-clause-err c =
    let rounds = ap (λ (l : List ℤ). line_of (ScheduleOf (length l))) (sym c.as_slice-starts.ensures) in
    on_err _ (stops_at (schedule_parts c.args.mode.now c.args.s.now) (stops_in_first _ (stops_at rounds c.in_err-write_line.ensures.err)))

pub returns-in_err-write_line-2-clause-err : goal.returns-in_err-write_line-2-clause-err
returns-in_err-write_line-2-clause-err c =
    let rounds = ap (λ (l : List ℤ). line_of (ScheduleOf (length l))) (sym c.as_slice-starts.ensures) in
    let starts : start_line c.args.s.now ≡ line (codes "start") (map spelled_time c.as_slice-starts.result.now) =
    ap (λ (ws : List (List ℕ)). line (codes "start") ws) (sym (map-spelled_time c.args.s.now.starts)) ∙ ap (λ (l : List ℤ). line (codes "start") (map spelled_time l)) (sym c.as_slice-starts.ensures) in
    on_err _ (stops_at (schedule_parts c.args.mode.now c.args.s.now) (stops_in_second c.args.out.now _ (adds_at c.args.out.now rounds c.in_ok-write_line.ensures.ok) (stops_in_first _ (stops_at starts c.in_err-write_line-2.ensures.err))))

pub returns-in_err-write_tasks-clause-err : goal.returns-in_err-write_tasks-clause-err
returns-in_err-write_tasks-clause-err c =
    let rounds = ap (λ (l : List ℤ). line_of (ScheduleOf (length l))) (sym c.as_slice-starts.ensures) in
    let starts : start_line c.args.s.now ≡ line (codes "start") (map spelled_time c.as_slice-starts.result.now) =
    ap (λ (ws : List (List ℕ)). line (codes "start") ws) (sym (map-spelled_time c.args.s.now.starts)) ∙ ap (λ (l : List ℤ). line (codes "start") (map spelled_time l)) (sym c.as_slice-starts.ensures) in
    let tasks : tasks_text c.args.mode.now c.args.s.now ≡ text_of (map task_item (zip (tasks_in c.as_slice-apps.result.now) c.as_slice.result.now)) =
    ap (λ (l : List App). text_of (map task_item (zip (tasks_in l) c.args.s.now.tasks))) (sym c.as_slice-apps.ensures) ∙ ap (λ (l : List ℤ). text_of (map task_item (zip (tasks_in c.as_slice-apps.result.now) l))) (sym c.as_slice.ensures) in
    on_err _ (stops_at (schedule_parts c.args.mode.now c.args.s.now) (stops_in_second c.args.out.now _ (adds_at c.args.out.now rounds c.in_ok-write_line.ensures.ok) (stops_in_second c.write_line.new.out _ (adds_at c.write_line.new.out starts c.in_ok-write_line-2.ensures.ok) (stops_in_first _ (stops_at tasks c.in_err-write_tasks.ensures.err)))))

pub returns-in_err-write_messages-clause-err : goal.returns-in_err-write_messages-clause-err
returns-in_err-write_messages-clause-err c =
    let rounds = ap (λ (l : List ℤ). line_of (ScheduleOf (length l))) (sym c.as_slice-starts.ensures) in
    let starts : start_line c.args.s.now ≡ line (codes "start") (map spelled_time c.as_slice-starts.result.now) =
    ap (λ (ws : List (List ℕ)). line (codes "start") ws) (sym (map-spelled_time c.args.s.now.starts)) ∙ ap (λ (l : List ℤ). line (codes "start") (map spelled_time l)) (sym c.as_slice-starts.ensures) in
    let tasks : tasks_text c.args.mode.now c.args.s.now ≡ text_of (map task_item (zip (tasks_in c.as_slice-apps.result.now) c.as_slice.result.now)) =
    ap (λ (l : List App). text_of (map task_item (zip (tasks_in l) c.args.s.now.tasks))) (sym c.as_slice-apps.ensures) ∙ ap (λ (l : List ℤ). text_of (map task_item (zip (tasks_in c.as_slice-apps.result.now) l))) (sym c.as_slice.ensures) in
    let messages : messages_text c.args.mode.now c.args.s.now ≡ text_of (map message_item (zip (messages_in c.as_slice-apps.result.now) c.as_slice-2.result.now)) =
    ap (λ (l : List App). text_of (map message_item (zip (messages_in l) c.args.s.now.messages))) (sym c.as_slice-apps.ensures) ∙ ap (λ (l : List (ℤ × ℤ)). text_of (map message_item (zip (messages_in c.as_slice-apps.result.now) l))) (sym c.as_slice-2.ensures) in
    on_err _ (stops_at (schedule_parts c.args.mode.now c.args.s.now) (stops_in_second c.args.out.now _ (adds_at c.args.out.now rounds c.in_ok-write_line.ensures.ok) (stops_in_second c.write_line.new.out _ (adds_at c.write_line.new.out starts c.in_ok-write_line-2.ensures.ok) (stops_in_second c.write_line-2.new.out _ (adds_at c.write_line-2.new.out tasks c.in_ok-write_tasks.ensures.ok) (stops_in_first _ (stops_at messages c.in_err-write_messages.ensures.err))))))

pub returns-clause-ok : goal.returns-clause-ok
returns-clause-ok c =
    let rounds = ap (λ (l : List ℤ). line_of (ScheduleOf (length l))) (sym c.as_slice-starts.ensures) in
    let starts : start_line c.args.s.now ≡ line (codes "start") (map spelled_time c.as_slice-starts.result.now) =
    ap (λ (ws : List (List ℕ)). line (codes "start") ws) (sym (map-spelled_time c.args.s.now.starts)) ∙ ap (λ (l : List ℤ). line (codes "start") (map spelled_time l)) (sym c.as_slice-starts.ensures) in
    let tasks : tasks_text c.args.mode.now c.args.s.now ≡ text_of (map task_item (zip (tasks_in c.as_slice-apps.result.now) c.as_slice.result.now)) =
    ap (λ (l : List App). text_of (map task_item (zip (tasks_in l) c.args.s.now.tasks))) (sym c.as_slice-apps.ensures) ∙ ap (λ (l : List ℤ). text_of (map task_item (zip (tasks_in c.as_slice-apps.result.now) l))) (sym c.as_slice.ensures) in
    let messages : messages_text c.args.mode.now c.args.s.now ≡ text_of (map message_item (zip (messages_in c.as_slice-apps.result.now) c.as_slice-2.result.now)) =
    ap (λ (l : List App). text_of (map message_item (zip (messages_in l) c.args.s.now.messages))) (sym c.as_slice-apps.ensures) ∙ ap (λ (l : List (ℤ × ℤ)). text_of (map message_item (zip (messages_in c.as_slice-apps.result.now) l))) (sym c.as_slice-2.ensures) in
    let tables : tables_text c.args.mode.now c.args.s.now ≡ text_of (map (table_item (messages_in c.as_slice-apps.result.now)) (enumerate_from 1 c.as_slice-3.result.now)) =
    ap (λ (l : List App). text_of (map (table_item (messages_in l)) (enumerate_from 1 c.args.s.now.tables))) (sym c.as_slice-apps.ensures) ∙ ap (λ (l : List (List ℕ)). text_of (map (table_item (messages_in c.as_slice-apps.result.now)) (enumerate_from 1 l))) (sym c.as_slice-3.ensures) in
    on_ok_weaker c.write_tables.result (λ e. adds_at c.args.out.now (schedule_parts c.args.mode.now c.args.s.now) (adds_second c.args.out.now _ _ (adds_at c.args.out.now rounds c.in_ok-write_line.ensures.ok) (adds_second c.write_line.new.out _ _ (adds_at c.write_line.new.out starts c.in_ok-write_line-2.ensures.ok) (adds_second c.write_line-2.new.out _ _ (adds_at c.write_line-2.new.out tasks c.in_ok-write_tasks.ensures.ok) (adds_second c.write_tasks.new.out _ _ (adds_at c.write_tasks.new.out messages c.in_ok-write_messages.ensures.ok) (adds_at c.write_messages.new.out tables e)))))) c.write_tables.ensures.ok

pub returns-clause-err : goal.returns-clause-err
returns-clause-err c =
    let rounds = ap (λ (l : List ℤ). line_of (ScheduleOf (length l))) (sym c.as_slice-starts.ensures) in
    let starts : start_line c.args.s.now ≡ line (codes "start") (map spelled_time c.as_slice-starts.result.now) =
    ap (λ (ws : List (List ℕ)). line (codes "start") ws) (sym (map-spelled_time c.args.s.now.starts)) ∙ ap (λ (l : List ℤ). line (codes "start") (map spelled_time l)) (sym c.as_slice-starts.ensures) in
    let tasks : tasks_text c.args.mode.now c.args.s.now ≡ text_of (map task_item (zip (tasks_in c.as_slice-apps.result.now) c.as_slice.result.now)) =
    ap (λ (l : List App). text_of (map task_item (zip (tasks_in l) c.args.s.now.tasks))) (sym c.as_slice-apps.ensures) ∙ ap (λ (l : List ℤ). text_of (map task_item (zip (tasks_in c.as_slice-apps.result.now) l))) (sym c.as_slice.ensures) in
    let messages : messages_text c.args.mode.now c.args.s.now ≡ text_of (map message_item (zip (messages_in c.as_slice-apps.result.now) c.as_slice-2.result.now)) =
    ap (λ (l : List App). text_of (map message_item (zip (messages_in l) c.args.s.now.messages))) (sym c.as_slice-apps.ensures) ∙ ap (λ (l : List (ℤ × ℤ)). text_of (map message_item (zip (messages_in c.as_slice-apps.result.now) l))) (sym c.as_slice-2.ensures) in
    let tables : tables_text c.args.mode.now c.args.s.now ≡ text_of (map (table_item (messages_in c.as_slice-apps.result.now)) (enumerate_from 1 c.as_slice-3.result.now)) =
    ap (λ (l : List App). text_of (map (table_item (messages_in l)) (enumerate_from 1 c.args.s.now.tables))) (sym c.as_slice-apps.ensures) ∙ ap (λ (l : List (List ℕ)). text_of (map (table_item (messages_in c.as_slice-apps.result.now)) (enumerate_from 1 l))) (sym c.as_slice-3.ensures) in
    on_err_weaker c.write_tables.result (λ s. stops_at (schedule_parts c.args.mode.now c.args.s.now) (stops_in_second c.args.out.now _ (adds_at c.args.out.now rounds c.in_ok-write_line.ensures.ok) (stops_in_second c.write_line.new.out _ (adds_at c.write_line.new.out starts c.in_ok-write_line-2.ensures.ok) (stops_in_second c.write_line-2.new.out _ (adds_at c.write_line-2.new.out tasks c.in_ok-write_tasks.ensures.ok) (stops_in_second c.write_tasks.new.out _ (adds_at c.write_tasks.new.out messages c.in_ok-write_messages.ensures.ok) (stops_at tables s)))))) c.write_tables.ensures.err
