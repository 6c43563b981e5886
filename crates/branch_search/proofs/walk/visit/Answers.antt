use Rattle.std.proofs.Common.{◌∙◌, ◌-◌, List, length, take, ap, subst, sym, map, ℤ}
use Rattle.sched_model.specs.OpenPrefix.{Chosen}
use Rattle.sched_model.specs.RefutationTree.{node_of, Roomy}
use Rattle.constraint_set.specs.Loads.{tally_of}
use Rattle.branch_search.proofs.Walks.{few, is_chosen}
use Rattle.branch_search.specs.Forcing.{HasSolution, before_last}
use Rattle.branch_search.proofs.Comings.{leaf_seen, open_seen, ended_comes, leaf_benched, open_benched, front_roomy, front_solution, tally_comes}
use Rattle.branch_search.proofs.walk.visit.Goals as goal

pub look-requires-clause-chosen : goal.look-requires-clause-chosen
look-requires-clause-chosen g c =
    let w = c.args.walk.now in
    let m = g.P.Posed.mode c.args.problem.now in
    let r = g.P.Posed.rounds c.args.problem.now in
    subst (Chosen m r) (sym c.as_slice.ensures.value) (is_chosen m r w.prefix.items w.highs.items (map (node_of w.refs.items) w.nodes.items) c.requires.standing.reached)

pub returns-in-Some-clause-comes : goal.returns-in-Some-clause-comes
returns-in-Some-clause-comes g c =
    let w = c.args.walk.now in
    let m = g.P.Posed.mode c.args.problem.now in
    let r = g.P.Posed.rounds c.args.problem.now in
    let refs = c.look.new.refs.items in
    let seen = leaf_seen m r w.prefix.items w.highs.items _ _ w.nodes.items w.refs.items refs c.in_ok-leaf.field-0 c.in-Some.leaf c.in_ok-leaf.ensures.seen c.as_slice.ensures.value c.in-Some.is c.requires.standing in
    ended_comes m r w.prefix.items w.highs.items _ _ w.nodes.items _ refs _ c.in-Some.leaf c.end_tree.result c.end_tree.ensures.nodes c.end_tree.ensures.next c.end_tree.ensures.refs seen.0 seen.1 seen.2

pub returns-in-Some-clause-benched : goal.returns-in-Some-clause-benched
returns-in-Some-clause-benched g c =
    let w = c.args.walk.now in
    let m = g.P.Posed.mode c.args.problem.now in
    let r = g.P.Posed.rounds c.args.problem.now in
    let refs = c.look.new.refs.items in
    let seen = leaf_seen m r w.prefix.items w.highs.items _ _ w.nodes.items w.refs.items refs c.in_ok-leaf.field-0 c.in-Some.leaf c.in_ok-leaf.ensures.seen c.as_slice.ensures.value c.in-Some.is c.requires.standing in
    let comes = ended_comes m r w.prefix.items w.highs.items c.end_tree.new.walk.prefix.items c.end_tree.new.walk.highs.items w.nodes.items c.end_tree.new.walk.nodes.items refs c.end_tree.new.walk.refs.items c.in-Some.leaf c.end_tree.result c.end_tree.ensures.nodes c.end_tree.ensures.next c.end_tree.ensures.refs seen.0 seen.1 seen.2 in
    leaf_benched m r w.prefix.items w.highs.items c.end_tree.new.walk.prefix.items c.end_tree.new.walk.highs.items c.look.new.bench.store.list w.nodes.items c.end_tree.new.walk.nodes.items refs c.end_tree.new.walk.refs.items c.end_tree.result c.end_tree.ensures.next comes
    seen.3 (few m r w.prefix.items w.highs.items (map (node_of w.refs.items) w.nodes.items) c.requires.standing.reached)

pub returns-in-None-clause-benched : goal.returns-in-None-clause-benched
returns-in-None-clause-benched g c =
    let w = c.args.walk.now in
    let m = g.P.Posed.mode c.args.problem.now in
    let r = g.P.Posed.rounds c.args.problem.now in
    let seen = open_seen m r w.prefix.items _ c.look.new.bench.store.list w.refs.items c.look.new.refs.items c.in_ok-leaf.field-0 c.in_ok-leaf.ensures.seen c.as_slice.ensures.value c.in-None.is in
    open_benched m r w.prefix.items c.open_prefix.new.walk.prefix.items c.open_prefix.new.walk.highs.items c.look.new.bench.store.list _ c.open_prefix.new.walk.nodes.items c.open_prefix.new.walk.refs.items c.open_prefix.result c.open_prefix.ensures
    seen.1 seen.0 (few m r w.prefix.items w.highs.items (map (node_of w.refs.items) w.nodes.items) c.requires.standing.reached)

pub look-requires-clause-solvable : goal.look-requires-clause-solvable
look-requires-clause-solvable g c =
    let w = c.args.walk.now in
    let m = g.P.Posed.mode c.args.problem.now in
    let r = g.P.Posed.rounds c.args.problem.now in
    subst (λ (p : List ℤ). HasSolution (before_last m r p)) (sym c.as_slice.ensures.value) (front_solution m r w.prefix.items w.highs.items (map (node_of w.refs.items) w.nodes.items) c.requires.standing.reached)

pub look-requires-clause-roomy : goal.look-requires-clause-roomy
look-requires-clause-roomy g c =
    let w = c.args.walk.now in
    let m = g.P.Posed.mode c.args.problem.now in
    let r = g.P.Posed.rounds c.args.problem.now in
    subst (λ (p : List ℤ). Roomy m r r (take (length p - 1) p)) (sym c.as_slice.ensures.value) (front_roomy m r w.prefix.items w.highs.items (map (node_of w.refs.items) w.nodes.items) c.requires.standing.reached)

pub returns-in-Some-clause-tally : goal.returns-in-Some-clause-tally
returns-in-Some-clause-tally g c =
    let w = c.args.walk.now in
    let m = g.P.Posed.mode c.args.problem.now in
    let r = g.P.Posed.rounds c.args.problem.now in
    let refs = c.look.new.refs.items in
    let seen = leaf_seen m r w.prefix.items w.highs.items _ _ w.nodes.items w.refs.items refs c.in_ok-leaf.field-0 c.in-Some.leaf c.in_ok-leaf.ensures.seen c.as_slice.ensures.value c.in-Some.is c.requires.standing in
    let comes = ended_comes m r w.prefix.items w.highs.items c.end_tree.new.walk.prefix.items c.end_tree.new.walk.highs.items w.nodes.items c.end_tree.new.walk.nodes.items refs c.end_tree.new.walk.refs.items c.in-Some.leaf c.end_tree.result c.end_tree.ensures.nodes c.end_tree.ensures.next c.end_tree.ensures.refs seen.0 seen.1 seen.2 in
    tally_comes m r w.prefix.items c.end_tree.new.walk.prefix.items c.end_tree.new.walk.highs.items c.look.new.bench.loads (length w.nodes.items) c.end_tree.new.walk.nodes.items c.end_tree.new.walk.refs.items c.end_tree.result comes
    (c.in_ok-leaf.ensures.tally ∙ ap (tally_of m r) c.as_slice.ensures.value)

pub returns-in-None-clause-tally : goal.returns-in-None-clause-tally
returns-in-None-clause-tally g c =
    let w = c.args.walk.now in
    let m = g.P.Posed.mode c.args.problem.now in
    let r = g.P.Posed.rounds c.args.problem.now in
    tally_comes m r w.prefix.items c.open_prefix.new.walk.prefix.items c.open_prefix.new.walk.highs.items c.look.new.bench.loads _ c.open_prefix.new.walk.nodes.items c.open_prefix.new.walk.refs.items c.open_prefix.result c.open_prefix.ensures
    (c.in_ok-leaf.ensures.tally ∙ ap (tally_of m r) c.as_slice.ensures.value)
