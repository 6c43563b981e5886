use Rattle.std.proofs.Common.{rules, ◌≡◌, ◌≤◌, ℕ, List, length, All, sym, ◌∙◌, ap, subst, arith, ℤ, pos, unsigned_abs, w64, to_z, of_z, FitsSigned}
use Rattle.std.proofs.lemmas.Int.{to_z-of_z}
use Rattle.app_graph.specs.declared.mode_set.App.{App}
use Rattle.sched_model.specs.declared.rows.TaskRow.{TaskRow}
use Rattle.sched_model.specs.PlainMode.{hyper, mode_at, plain_at}
use Rattle.node_tables.specs.declared.rows.MessageRow.{MessageRow}
use Rattle.node_tables.specs.OwnParts.{rows_of, tasks_kept, messages_kept, message_rows, rounds_kept}
use Rattle.node_tables.specs.PartLimits.{FewCopies, HasSizes, IsTaskRow, IsMessageRow}
use Rattle.node_tables.proofs.ModeParts.{rows_count, rows_small, mrows_small, sizes, times_are, hyper_most, few_copies, mode_same}
use Rattle.node_tables.proofs.parts.mode_part.Goals as goal

the_messages : (c : goal.After-unsigned_abs) → c.as_slice-4.result.now ≡ message_rows (rows_of (mode_at c.args.set.now c.args.mode).apps) c.args.node (mode_at c.args.set.now c.args.mode).apps
the_messages c =
    c.as_slice-4.ensures.value ∙ c.in_ok-messages.ensures.rows
    ∙ ap (λ (r : List TaskRow). message_rows r c.args.node c.apps_of-apps.result.now) (c.as_slice.ensures.value ∙ c.in_ok-tasks.ensures ∙ ap rows_of c.apps_of-apps.ensures)
    ∙ ap (λ (a : List App). message_rows (rows_of (mode_at c.args.set.now c.args.mode).apps) c.args.node a) c.apps_of-apps.ensures

-- the hyperperiod, as it is passed on
the_hyper : (z : ℤ) (n h : ℕ) → FitsSigned w64 z → z ≡ pos h → n ≡ unsigned_abs (to_z w64 (of_z w64 z)) → n ≡ h
the_hyper z n h fits is same = same ∙ ap unsigned_abs (to_z-of_z w64 z fits ∙ is)

the_count : (c : goal.After-unsigned_abs) → c.unsigned_abs.result ≡ hyper (plain_at c.args.set.now c.args.mode)
the_count c =
    let f : FitsSigned w64 c.hyper-hyper.result = search rules in
    the_hyper c.hyper-hyper.result c.unsigned_abs.result (hyper (plain_at c.args.set.now c.args.mode)) f c.hyper-hyper.ensures c.unsigned_abs.ensures.value

pub own_tasks-requires-clause-each : goal.own_tasks-requires-clause-each
own_tasks-requires-clause-each c =
    let e = c.as_slice-2.ensures.value ∙ c.in_ok-tasks.ensures ∙ ap rows_of c.apps_of-apps.ensures in
    omega (arith, ap length c.as_slice-3.ensures, c.requires.right.shape.tasks, ap length e, rows_count c.args.set.now c.args.mode c.requires.rules c.requires.mode c.args.node)

pub own_tasks-requires-clause-limits : goal.own_tasks-requires-clause-limits
own_tasks-requires-clause-limits c =
    let e = c.as_slice-2.ensures.value ∙ c.in_ok-tasks.ensures ∙ ap rows_of c.apps_of-apps.ensures in
    subst (λ (r : List TaskRow). All IsTaskRow r) (sym e) (rows_small c.args.set.now c.args.mode c.requires.rules c.requires.mode c.args.node)

pub own_rounds-requires-clause-sizes : goal.own_rounds-requires-clause-sizes
own_rounds-requires-clause-sizes c =
    subst (λ (r : List MessageRow). HasSizes c.args.schedule.now (length r)) (sym (the_messages c))
    (sizes c.args.set.now c.args.mode c.requires.rules c.requires.mode c.args.node c.args.schedule.now c.requires.right)

pub own_rounds-requires-clause-times : goal.own_rounds-requires-clause-times
own_rounds-requires-clause-times c = times_are c.args.set.now c.args.mode c.requires.rules c.requires.mode c.args.node c.args.schedule.now c.requires.right

pub own_rounds-requires-clause-hyper : goal.own_rounds-requires-clause-hyper
own_rounds-requires-clause-hyper c = omega (arith, the_count c, hyper_most c.args.set.now c.args.mode c.requires.rules c.requires.mode c.args.node)

pub own_rounds-requires-clause-few : goal.own_rounds-requires-clause-few
own_rounds-requires-clause-few c =
    subst (λ (n : ℕ). FewCopies c.as_slice-4.result.now c.args.schedule.now n) (sym (the_count c))
    (subst (λ (r : List MessageRow). FewCopies r c.args.schedule.now (hyper (plain_at c.args.set.now c.args.mode))) (sym (the_messages c))
    (few_copies c.args.set.now c.args.mode c.requires.rules c.requires.mode c.args.node c.args.schedule.now c.requires.right))

pub own_rounds-requires-clause-messages : goal.own_rounds-requires-clause-messages
own_rounds-requires-clause-messages c =
    subst (λ (r : List MessageRow). All IsMessageRow r) (sym (the_messages c)) (mrows_small c.args.set.now c.args.mode c.requires.rules c.requires.mode c.args.node c.args.schedule.now)

pub returns : goal.returns
returns c =
    let apps = (mode_at c.args.set.now c.args.mode).apps in
    let f : FitsSigned w64 c.hyper-hyper.result = search rules in
    let h = to_z-of_z w64 c.hyper-hyper.result f ∙ c.hyper-hyper.ensures in
    let count = the_hyper c.hyper-hyper.result c.unsigned_abs.result (hyper (plain_at c.args.set.now c.args.mode)) f c.hyper-hyper.ensures c.unsigned_abs.ensures.value in
    let one = c.as_slice.ensures.value ∙ c.in_ok-tasks.ensures ∙ ap rows_of c.apps_of-apps.ensures in
    let two = c.as_slice-2.ensures.value ∙ c.in_ok-tasks.ensures ∙ ap rows_of c.apps_of-apps.ensures in
    let three = c.as_slice-4.ensures.value ∙ c.in_ok-messages.ensures.rows
    ∙ ap (λ (r : List TaskRow). message_rows r c.args.node c.apps_of-apps.result.now) one
    ∙ ap (λ (a : List App). message_rows (rows_of apps) c.args.node a) c.apps_of-apps.ensures in
    mode_same c.args.set.now c.args.mode c.requires.rules c.requires.mode c.args.node c.args.schedule.now c.requires.right c.args.first_round
    (to_z w64 (of_z w64 c.hyper-hyper.result)) c.from_vec.result c.from_vec-2.result c.from_vec-3.result
    h
    (c.from_vec.ensures ∙ c.in_ok-own.ensures ∙ ap (λ (r : List TaskRow). tasks_kept r c.as_slice-3.result.now c.args.node) two ∙ ap (λ (o : List ℤ). tasks_kept (rows_of apps) o c.args.node) c.as_slice-3.ensures)
    (c.from_vec-2.ensures ∙ c.in_ok-messages.ensures.own ∙ ap (λ (r : List TaskRow). messages_kept r c.args.node c.apps_of-apps.result.now) one ∙ ap (λ (a : List App). messages_kept (rows_of apps) c.args.node a) c.apps_of-apps.ensures)
    (c.from_vec-3.ensures ∙ c.in_ok-rounds.ensures ∙ ap (λ (r : List MessageRow). rounds_kept r c.args.schedule.now c.unsigned_abs.result) three
    ∙ ap (λ (z : ℕ). rounds_kept (message_rows (rows_of apps) c.args.node apps) c.args.schedule.now z) count)
