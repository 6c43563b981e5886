use Rattle.std.proofs.Common.{◌≡◌, ◌+◌, ◌++◌, ◌∷◌, [], get_or, pos, rules}
use Rattle.tick_num.specs.Differences.{diff}
use Rattle.branch_search.proofs.Forces.{pushed_more}
use Rattle.branch_search.proofs.forcing.push_each.Goals as goal

pub returns-in-Closed-clause-pushes : goal.returns-in-Closed-clause-pushes
returns-in-Closed-clause-pushes c =
    let old = c.args.store.now.list in
    let added = c.args.added.now in
    let k = c.loop-d.d-index in
    let last : c.push.new.self.list ≡ c.loop-d.store.list ++ get_or added k (diff 0 0 (pos 0)) ∷ [] = search rules in
    (k + 1, pushed_more added old c.loop-d.store.list c.push.new.self.list k c.loop-d-test.true c.loop-d.invariant.list last, c.push.ensures.closed.0 c.in-Closed.is)
