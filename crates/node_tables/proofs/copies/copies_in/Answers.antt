use Rattle.std.proofs.Common.{◌≡◌, true, List, ℕ, get_or, ap, sym, ◌∙◌, []}
use Rattle.sched_model.specs.Numbers.{has}
use Rattle.node_tables.proofs.CopyCounts.{tested, none_in_time, is_carried}
use Rattle.node_tables.proofs.copies.copies_in.Goals as goal

pub returns-then-copies-eq0 : goal.returns-then-copies-eq0
returns-then-copies-eq0 c =
    let s = c.args.schedule.now in
    let tests = tested s c.args.hyper c.args.number c.args.opened c.args.start c.args.round c.is_between-now.result c.is_between-before.result c.as_slice.result.now
    c.requires.round c.requires.times c.requires.hyper c.ranges.opened c.ranges.start c.as_slice.ensures c.is_between-now.ensures c.is_between-before.ensures in
    none_in_time s c.args.hyper c.args.number c.args.opened c.args.start c.args.round c.is_between-now.result c.is_between-before.result tests
    (sym c.count_of-copies.ensures ∙ c.if-copies-eq0.true)

pub returns : goal.returns
returns c =
    let s = c.args.schedule.now in
    let tests = tested s c.args.hyper c.args.number c.args.opened c.args.start c.args.round c.is_between-now.result c.is_between-before.result c.as_slice.result.now
    c.requires.round c.requires.times c.requires.hyper c.ranges.opened c.ranges.start c.as_slice.ensures c.is_between-now.ensures c.is_between-before.ensures in
    let listed : has (get_or s.tables c.args.round []) c.args.number ≡ true = ap (λ (l : List ℕ). has l c.args.number) (sym c.table_of.ensures.table) ∙ sym c.has.ensures ∙ c.if-not-has.false in
    c.count_of-copies.ensures
    ∙ is_carried s c.args.hyper c.args.number c.args.opened c.args.start c.args.round c.is_between-now.result c.is_between-before.result tests listed
