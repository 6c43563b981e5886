use Rattle.std.proofs.Common.{arith, ap, length, List, ◌∙◌}
use Rattle.tick_num.specs.declared.differences.Diff.{Diff}
use Rattle.branch_search.proofs.Forces.{with_is, with_room}
use Rattle.branch_search.proofs.forcing.go_down.Goals as goal

pub push_each-requires-2-clause-room : goal.push_each-requires-2-clause-room
push_each-requires-2-clause-room g c =
    let m = g.P.Posed.mode c.args.problem.now in
    let r = g.P.Posed.rounds c.args.problem.now in
    let p = c.args.prefix.now in
    let none = c.if-prefix-eq0.false in
    omega (arith, c.requires.room, with_room m r p c.requires.few, ap (λ (ds : List Diff). length ds) c.requires.list, ap (λ (ds : List Diff). length ds) (c.diffs_of_last.ensures.list ∙ with_is m r p (omega (arith, none))))
