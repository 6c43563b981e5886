use Rattle.std.proofs.Common.{◌≡◌, true, false, rules, SFits, w64, ap, ◌∙◌, sym, subst, ℤ, pos, ◌+ℤ◌, ◌-ℤ◌, ◌≤ℤ◌, ◌<ℤ◌, arith, ◌&&◌}
use Rattle.std.specs.Ordering.{int_eq}
use Rattle.std.specs.Int.Signed.{lt_z}
use Rattle.std.proofs.lemmas.Int.{ints, to_z-of_z}
use Rattle.node_tables.specs.declared.tables.ModeTable.{ModeTable}
use Rattle.node_core.specs.contracts.running.Running.{the_view}
use Rattle.node_core.specs.Running.{RunningNode, mode_of}
use Rattle.node_core.specs.Rules.{passed, turned}
use Rattle.node_core.specs.Conditions.{MayPass}
use Rattle.node_core.specs.Fits.{NodeFits}
use Rattle.node_core.proofs.NodeLemmas.{on_within, on_over, PassBounds, pass_bounds}
use Rattle.node_core.proofs.running.Running.pass.Goals as goal

-- the bounds of the numbers, at the fields
bounds : (n old : RunningNode) (ticks : ℤ) (m : ModeTable) → NodeFits n → n ≡ old → MayPass old ticks → m ≡ mode_of n → PassBounds n.tick ticks m.hyper
bounds n old ticks m fits e may f = pass_bounds n ticks m.hyper fits (subst (λ (x : RunningNode). MayPass x ticks) (sym e) may) (ap (λ (x : ModeTable). x.hyper) f)

pub rest_of-requires-clause-tick : goal.rest_of-requires-clause-tick
rest_of-requires-clause-tick c =
    let b = bounds (the_view c.self.inside) c.args.self.now c.args.ticks c.mode_at.result.now c.self.invariant c.self.view_is c.requires c.mode_at.ensures in
    let tick : SFits w64 c.self.inside.tick = search rules in
    let ticks : SFits w64 c.args.ticks = c.ranges.ticks in
    let sum : SFits w64 c.sum_of-tick.result = search rules in
    let value : c.sum_of-tick.result ≡ c.self.inside.tick +ℤ c.args.ticks = simp to_z-of_z at c.sum_of-tick.ensures in
    (simp to_z-of_z (omega (arith, ints, value, b.low, b.tick_low)), simp to_z-of_z (omega (arith, ints, value, b.sum_high, b.most)))

pub rest_of-requires-clause-hyper : goal.rest_of-requires-clause-hyper
rest_of-requires-clause-hyper c =
    let b = bounds (the_view c.self.inside) c.args.self.now c.args.ticks c.mode_at.result.now c.self.invariant c.self.view_is c.requires c.mode_at.ensures in
    (omega (arith, ints, b.some), omega (arith, ints, b.most))

pub turn-requires-clause-high : goal.turn-requires-clause-high
turn-requires-clause-high c =
    let b = bounds (the_view c.self.inside) c.args.self.now c.args.ticks c.mode_at.result.now c.self.invariant c.self.view_is c.requires c.mode_at.ensures in
    let tick : SFits w64 c.self.inside.tick = search rules in
    let ticks : SFits w64 c.args.ticks = c.ranges.ticks in
    let hyper : SFits w64 c.mode_at.result.now.hyper = search rules in
    let sum : SFits w64 c.sum_of-tick.result = search rules in
    let rest : SFits w64 c.rest_of.result = search rules in
    let value : c.sum_of-tick.result ≡ c.self.inside.tick +ℤ c.args.ticks = simp to_z-of_z at c.sum_of-tick.ensures in
    let left : c.rest_of.result ≡ c.sum_of-tick.result -ℤ c.mode_at.result.now.hyper = simp to_z-of_z at c.rest_of.ensures in
    let below : c.rest_of.result <ℤ c.mode_at.result.now.hyper = omega (arith, ints, value, left, b.sum_high) in
    let is : c.mode_at.result.now.hyper ≡ (mode_of c.args.self.now).hyper = ap (λ (m : ModeTable). m.hyper) c.mode_at.ensures ∙ ap (λ (n : RunningNode). (mode_of n).hyper) c.self.view_is in
    simp to_z-of_z (omega (arith, ints, below, is))

pub returns-then-tick-hyper : goal.returns-then-tick-hyper
returns-then-tick-hyper c =
    let tick : SFits w64 c.self.inside.tick = search rules in
    let ticks : SFits w64 c.args.ticks = c.ranges.ticks in
    let sum : SFits w64 c.sum_of-tick.result = search rules in
    let hyper : SFits w64 c.mode_at.result.now.hyper = search rules in
    let value : c.sum_of-tick.result ≡ c.self.inside.tick +ℤ c.args.ticks = simp to_z-of_z at c.sum_of-tick.ensures in
    let still : c.is_still_at-at_beacon.result ≡ (c.self.inside.at_beacon && int_eq c.args.ticks (pos 0)) = simp to_z-of_z at c.is_still_at-at_beacon.ensures in
    let test : lt_z c.sum_of-tick.result c.mode_at.result.now.hyper ≡ true = simp to_z-of_z at c.if-tick-hyper.true in
    let within : c.sum_of-tick.result <ℤ c.mode_at.result.now.hyper = grind (arith, ints, test) in
    let is : c.mode_at.result.now.hyper ≡ (mode_of (the_view c.self.inside)).hyper = ap (λ (m : ModeTable). m.hyper) c.mode_at.ensures in
    let below : c.sum_of-tick.result <ℤ (mode_of (the_view c.self.inside)).hyper = omega (arith, ints, within, is) in
    let moved : record (the_view c.self.inside) { tick = c.sum_of-tick.result; at_beacon = c.is_still_at-at_beacon.result } ≡ passed (the_view c.self.inside) c.args.ticks = on_within (the_view c.self.inside) c.args.ticks c.sum_of-tick.result c.is_still_at-at_beacon.result value still below in
    let done : c.go_on.new.self ≡ record c.args.self.now { tick = c.sum_of-tick.result; at_beacon = c.is_still_at-at_beacon.result } = simp to_z-of_z at c.go_on.ensures in
    done ∙ subst (λ (n : RunningNode). record n { tick = c.sum_of-tick.result; at_beacon = c.is_still_at-at_beacon.result } ≡ passed n c.args.ticks) c.self.view_is moved

pub returns-else-tick-hyper : goal.returns-else-tick-hyper
returns-else-tick-hyper c =
    let tick : SFits w64 c.self.inside.tick = search rules in
    let ticks : SFits w64 c.args.ticks = c.ranges.ticks in
    let sum : SFits w64 c.sum_of-tick.result = search rules in
    let hyper : SFits w64 c.mode_at.result.now.hyper = search rules in
    let rest : SFits w64 c.rest_of.result = search rules in
    let value : c.sum_of-tick.result ≡ c.self.inside.tick +ℤ c.args.ticks = simp to_z-of_z at c.sum_of-tick.ensures in
    let left : c.rest_of.result ≡ c.sum_of-tick.result -ℤ c.mode_at.result.now.hyper = simp to_z-of_z at c.rest_of.ensures in
    let test : lt_z c.sum_of-tick.result c.mode_at.result.now.hyper ≡ false = simp to_z-of_z at c.if-tick-hyper.false in
    let over : c.mode_at.result.now.hyper ≤ℤ c.sum_of-tick.result = grind (arith, ints, test) in
    let is : c.mode_at.result.now.hyper ≡ (mode_of (the_view c.self.inside)).hyper = ap (λ (m : ModeTable). m.hyper) c.mode_at.ensures in
    let beyond : (mode_of (the_view c.self.inside)).hyper ≤ℤ (c.self.inside.tick +ℤ c.args.ticks) = omega (arith, ints, over, is, value) in
    let turned_tick : c.rest_of.result ≡ (c.self.inside.tick +ℤ c.args.ticks) -ℤ (mode_of (the_view c.self.inside)).hyper = omega (arith, ints, value, left, is) in
    let moved : turned (the_view c.self.inside) c.rest_of.result ≡ passed (the_view c.self.inside) c.args.ticks = on_over (the_view c.self.inside) c.args.ticks c.rest_of.result turned_tick beyond in
    let done : c.turn.new.self ≡ turned c.args.self.now c.rest_of.result = simp to_z-of_z at c.turn.ensures in
    done ∙ subst (λ (n : RunningNode). turned n c.rest_of.result ≡ passed n c.args.ticks) c.self.view_is moved
