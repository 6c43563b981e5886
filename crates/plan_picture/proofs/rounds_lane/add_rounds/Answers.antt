use Rattle.std.proofs.Common.{◌≡◌, ◌++◌, length, rules}
use Rattle.std.specs.List.{zip}
use Rattle.std.proofs.lemmas.List.{length_push}
use Rattle.std.proofs.lemmas.Iterator.{YieldsList-from_slice, YieldsList-from_zip}
use Rattle.std.proofs.lemmas.Iterator.Consumers.{YieldsList-turn, YieldsList-end}
use Rattle.proof_tree.specs.Names.{messages_in}
use Rattle.plan_picture.specs.Picture.{round_spans}
use Rattle.plan_picture.proofs.Loops.{grows, grown}
use Rattle.plan_picture.proofs.rounds_lane.add_rounds.Goals as goal

pub loop-start-preserved : goal.loop-start-preserved
loop-start-preserved c =
    let l = c.loop-start in
    let draw = round_spans c.args.rounds (messages_in c.args.apps.now) in
    let pairs = YieldsList-from_zip (YieldsList-from_slice c.args.starts.now (cc)) (YieldsList-from_slice c.args.tables.now (cc)) in
    let t = YieldsList-turn pairs l.yielded l.start-iterator l.yielded_by c.next.result c.next.new.self (c.in-Some.start, c.in-Some.table) c.in-Some.is c.next.ensures.steps in
    let added : c.add_round_spans.new.spans.items ≡ l.spans.items ++ draw (c.in-Some.start.now, c.in-Some.table.now) = search rules in
    grows draw (zip c.args.starts.now c.args.tables.now) _ _ _ (length l.yielded) _ (c.in-Some.start.now, c.in-Some.table.now) t (length_push l.yielded _) l.invariant added

pub returns : goal.returns
returns c =
    let l = c.loop-start in
    let pairs = YieldsList-from_zip (YieldsList-from_slice c.args.starts.now (cc)) (YieldsList-from_slice c.args.tables.now (cc)) in
    let t = YieldsList-end pairs l.yielded l.start-iterator l.yielded_by c.next.result c.next.new.self c.in-None.is c.next.ensures.steps in
    grown (round_spans c.args.rounds (messages_in c.args.apps.now)) (zip c.args.starts.now c.args.tables.now) _ _ (length l.yielded) t.1 l.invariant
