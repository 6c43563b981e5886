use Rattle.std.proofs.Common.{◌≡◌, ℕ, ◌+◌, ◌<◌, [], ◌∷◌, ◌++◌, length, get_or, subst, refl, arith, rules}
use Rattle.std.specs.Prelude.{slice_index_or}
use Rattle.std.specs.List.{enumerate_from}
use Rattle.std.proofs.lemmas.List.FromFn.{length-enumerate_from}
use Rattle.proof_tree.specs.Names.{messages_in}
use Rattle.plan_picture.specs.Picture.{slot_span}
use Rattle.plan_picture.proofs.Loops.{maps, mapped, numbered}
use Rattle.plan_picture.proofs.rounds_lane.add_slots.Goals as goal

pub loop-at-preserved : goal.loop-at-preserved
loop-at-preserved c =
    let l = c.loop-at in
    let table = c.args.table.now in
    let number = slice_index_or table l.at 0 in
    let span = slot_span c.args.rounds (messages_in c.args.apps.now) c.args.start in
    let less : l.at < length table = c.loop-at-test.true in
    let is : number ≡ get_or table l.at number = search rules in
    let count : 1 + l.at ≡ l.at + 1 = omega arith in
    let at = subst (λ (k : ℕ). (l.at < length (enumerate_from 1 table)) × ((k, number) ≡ get_or (enumerate_from 1 table) l.at (k, number))) count (numbered 1 table l.at number less is) in
    let added : c.add_slot.new.spans.items ≡ l.spans.items ++ span (l.at + 1, number) ∷ [] = search rules in
    maps span (enumerate_from 1 table) _ _ _ l.at (l.at + 1) (l.at + 1, number) at refl l.invariant added

pub returns : goal.returns
returns c =
    let l = c.loop-at in
    mapped (slot_span c.args.rounds (messages_in c.args.apps.now) c.args.start) (enumerate_from 1 c.args.table.now) _ _ l.at
    (omega (arith, c.loop-at-test.false, l.auto.at-end, length-enumerate_from 1 c.args.table.now)) l.invariant
