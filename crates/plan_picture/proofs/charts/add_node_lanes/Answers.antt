use Rattle.std.proofs.Common.{◌≡◌, ℕ, ◌+◌, ◌<◌, ◌++◌, List, length, get_or, subst, refl, arith, rules}
use Rattle.std.specs.List.{enumerate_from}
use Rattle.std.proofs.lemmas.List.FromFn.{length-enumerate_from}
use Rattle.plan_picture.specs.Picture.{node_lane}
use Rattle.plan_picture.proofs.Loops.{grows, grown, numbered}
use Rattle.plan_picture.proofs.charts.add_node_lanes.Goals as goal

pub loop-at-preserved : goal.loop-at-preserved
loop-at-preserved c =
    let l = c.loop-at in
    let nodes = c.args.nodes.now in
    let name = c.index-nodes-at.result in
    let draw = node_lane c.args.apps.now c.args.starts.now in
    let less : l.at < length nodes = c.loop-at-test.true in
    let count : 0 + l.at ≡ l.at = omega arith in
    let at = subst (λ (k : ℕ). (l.at < length (enumerate_from 0 nodes)) × ((k, name) ≡ get_or (enumerate_from 0 nodes) l.at (k, name))) count (numbered 0 nodes l.at name less c.index-nodes-at.is) in
    let added : c.add_node_lane.new.all.items ≡ l.all.items ++ draw (l.at, name) = search rules in
    grows draw (enumerate_from 0 nodes) _ _ _ l.at (l.at + 1) (l.at, name) at refl l.invariant added

pub returns : goal.returns
returns c =
    let l = c.loop-at in
    grown (node_lane c.args.apps.now c.args.starts.now) (enumerate_from 0 c.args.nodes.now) _ _ l.at
    (omega (arith, c.loop-at-test.false, l.auto.at-end, length-enumerate_from 0 c.args.nodes.now)) l.invariant
