use Rattle.std.proofs.Common.{◌≡◌, ◌<◌, ◌∙◌, ap, subst, sym, arith, rules, length, map, SFits, to_z, of_z, w64}
use Rattle.std.proofs.lemmas.Int.{ints, to_z-of_z}
use Rattle.sched_model.specs.declared.trees.TreeNode.TheVariants.{Branch}
use Rattle.sched_model.specs.ConstraintProblem.{alternatives, decisions}
use Rattle.sched_model.specs.OpenPrefix.{Chosen}
use Rattle.sched_model.specs.RefutationTree.{node_of}
use Rattle.branch_search.proofs.Walks.{few, is_chosen}
use Rattle.branch_search.proofs.Comings.{found_here, empty_ends, ended_comes, first_comes}
use Rattle.branch_search.proofs.walk.open_prefix.Goals as goal

pub returns-then-len-decisions : goal.returns-then-len-decisions
returns-then-len-decisions g c =
    let w = c.args.walk.now in
    let m = g.P.Posed.mode c.args.problem.now in
    let full : length w.prefix.items ≡ length (decisions m) = search rules in
    found_here m (g.P.Posed.rounds c.args.problem.now) w.prefix.items w.highs.items w.nodes.items w.refs.items c.requires.standing full c.requires.is_open

pub alternatives-low-requires-clause-chosen : goal.alternatives-low-requires-clause-chosen
alternatives-low-requires-clause-chosen g c =
    let w = c.args.walk.now in
    let m = g.P.Posed.mode c.args.problem.now in
    let r = g.P.Posed.rounds c.args.problem.now in
    subst (Chosen m r) (sym c.as_slice.ensures.value) (is_chosen m r w.prefix.items w.highs.items (map (node_of w.refs.items) w.nodes.items) c.requires.standing.reached)

pub returns-then-low-high : goal.returns-then-low-high
returns-then-low-high g c =
    let w = c.args.walk.now in
    let m = g.P.Posed.mode c.args.problem.now in
    let r = g.P.Posed.rounds c.args.problem.now in
    let low = c.alternatives-low.result.0 in
    let high = c.alternatives-low.result.1 in
    let fits0 : SFits w64 low = search rules in
    let fits1 : SFits w64 high = search rules in
    let most = few m r w.prefix.items w.highs.items (map (node_of w.refs.items) w.nodes.items) c.requires.standing.reached in
    let less : length w.prefix.items < length (decisions m) = search (rules, most) in
    let e = c.alternatives-low.ensures ∙ ap (alternatives m r) c.as_slice.ensures.value in
    ended_comes m r w.prefix.items w.highs.items _ _ w.nodes.items _ w.refs.items _ Branch c.end_tree.result c.end_tree.ensures.nodes c.end_tree.ensures.next c.end_tree.ensures.refs c.requires.standing
    (empty_ends m r w.prefix.items w.highs.items w.nodes.items w.refs.items low high c.requires.standing c.requires.is_open less e (omega (arith, ints, c.if-low-high.true, fits0, fits1))) tt

pub returns : goal.returns
returns g c =
    let w = c.args.walk.now in
    let m = g.P.Posed.mode c.args.problem.now in
    let r = g.P.Posed.rounds c.args.problem.now in
    let low = c.alternatives-low.result.0 in
    let high = c.alternatives-low.result.1 in
    let fits0 : SFits w64 low = search rules in
    let fits1 : SFits w64 high = search rules in
    let most = few m r w.prefix.items w.highs.items (map (node_of w.refs.items) w.nodes.items) c.requires.standing.reached in
    let less : length w.prefix.items < length (decisions m) = search (rules, most) in
    let e = c.alternatives-low.ensures ∙ ap (alternatives m r) c.as_slice.ensures.value in
    first_comes m r w.prefix.items w.highs.items _ _ w.nodes.items _ w.refs.items low high (to_z w64 (of_z w64 low)) (to_z w64 (of_z w64 high)) (to_z-of_z w64 low fits0) (to_z-of_z w64 high fits1)
    c.in_ok-push-2.ensures.items c.in_ok-push-3.ensures.items c.in_ok-push.ensures.items c.requires.standing c.requires.is_open less e (omega (arith, ints, c.if-low-high.false))
