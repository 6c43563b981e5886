use Rattle.std.proofs.Common.{◌≡◌, ◌+◌, ◌<◌, count_by, sum_by, length, drop, List, subst, arith}
use Rattle.std.specs.List.{flat_map}
use Rattle.std.specs.Str.{bytes_eq}
use Rattle.std.proofs.lemmas.Slice.{between_to_end}
use Rattle.app_graph.specs.declared.raw.RawTask.{RawTask}
use Rattle.app_graph.proofs.Pairs.{pairs_more, pairs_end}
use Rattle.app_graph.proofs.size_rules.left_after_tasks.Goals as goal

pub loop-i-preserved : goal.loop-i-preserved
loop-i-preserved c =
    let t = c.index-tasks-i.result in
    let ts = c.args.tasks.now in
    let i = c.loop-i.i in
    let others = sum_by (λ a. count_by (λ u. bytes_eq t.node u.node) a.tasks) c.args.apps.now in
    let whole = between_to_end ts (i + 1) (length ts) (omega arith) in
    let step = subst (λ (us : List RawTask). c.in_ok-left.left + (count_by (λ u. bytes_eq t.node u.node) us + others) ≡ c.loop-i.left) whole c.in_ok-left.ensures in
    omega (arith, step, pairs_more ts c.args.apps.now i t (omega arith) c.index-tasks-i.is, c.loop-i.invariant)

pub returns-in_err-left : goal.returns-in_err-left
returns-in_err-left c =
    let t = c.index-tasks-i.result in
    let ts = c.args.tasks.now in
    let i = c.loop-i.i in
    let others = sum_by (λ a. count_by (λ u. bytes_eq t.node u.node) a.tasks) c.args.apps.now in
    let whole = between_to_end ts (i + 1) (length ts) (omega arith) in
    let over = subst (λ (us : List RawTask). c.loop-i.left < count_by (λ u. bytes_eq t.node u.node) us + others) whole c.in_err-left.ensures in
    rw c.from_residual.ensures
    (omega (arith, over, pairs_more ts c.args.apps.now i t (omega arith) c.index-tasks-i.is, pairs_end (drop (i + 1) ts) (flat_map (λ a. a.tasks) c.args.apps.now), c.loop-i.invariant))
