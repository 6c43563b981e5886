-- What a running node computes of the next round, in whole numbers
use Rattle.std.proofs.Common.{◌≡◌, ℕ, suc, ◌+◌, ◌<◌, Bool, true, false, cond, not, ◌&&◌, length, refl, sym, ◌∙◌, ap, arith, ℤ, pos, ◌+ℤ◌}
use Rattle.std.specs.Prelude.{nat_lt, nat_le, int_le}
use Rattle.runtime_model.specs.NodeTables.{part_of}
use Rattle.runtime_model.specs.Plans.{RightPlan}
use Rattle.runtime_model.specs.System.{System, plan_at}
use Rattle.runtime_model.proofs.Beacons.{start_is}
use Rattle.runtime_model.proofs.OutRegisters.{H}
use Rattle.runtime_model.proofs.NextRound.{rounds_of, round_tick}
use Rattle.runtime_model.proofs.Passing.{round_after, next_tick}
use Rattle.node_tables.specs.declared.tables.NodeTable.{NodeTable}
use Rattle.node_tables.specs.Parts.{typed_table}
use Rattle.node_core.specs.Lookup.{mode_at, round_at}
use Rattle.node_core.specs.PartLookups.{PartLooksUp}
use Rattle.node_core.specs.Rules.{next_round, next_start}
use Rattle.node_core.specs.Running.{RunningNode, mode_of}

-- node v's part of the plans
abbrev pub own_table : System → ℕ → NodeTable
own_table y v = typed_table (part_of y.plans v)

-- what it finds of a mode
abbrev pub Finds : System → ℕ → ℕ → Type 0
Finds y v md = PartLooksUp y.plans v md (plan_at y md) (own_table y v)

-- the start of the next round by a node's table, mode, round and tick, and by whether a tick has passed since its beacon
abbrev start_in : NodeTable → (md j : ℕ) → ℤ → Bool → ℤ
start_in t md j tick at =
    let m = mode_at t md in
    let last = not (nat_lt (suc j) (length m.rounds)) in
    (round_at m (cond last 0 (suc j))).start +ℤ cond (last && not (not at && int_le tick (round_at m j).start)) m.hyper (pos 0)

start_by_last : (y : System) (v md j : ℕ) (c q : Bool) → RightPlan y.nodes (plan_at y md) → j < rounds_of y md → Finds y v md → not (nat_lt (suc j) (rounds_of y md)) ≡ c →
    (round_at (mode_at (own_table y v) md) (cond c 0 (suc j))).start +ℤ cond q (pos (H y md)) (pos 0) ≡ pos (round_tick y md (cond c 0 (suc j)) + cond q (H y md) 0)
start_by_last y v md j c q ok l finds e =
    let k = cond c 0 (suc j) in
    let inside = below_count c j (rounds_of y md) l e in
    ap (λ z. z +ℤ cond q (pos (H y md)) (pos 0)) (finds.start k inside ∙ sym (start_is y md ok k inside)) ∙ ap (λ z. pos (round_tick y md k) +ℤ z) (out q (H y md))
  where
    below_count : (c : Bool) (j r : ℕ) → j < r → not (nat_lt (suc j) r) ≡ c → cond c 0 (suc j) < r
    below_count true j r l e = omega (arith, l)
    below_count false j r l e = grind (arith, e)

    out : (q : Bool) (h : ℕ) → cond q (pos h) (pos 0) ≡ pos (cond q h 0)
    out true h = refl
    out false h = refl

-- a node of round j in a mode of the system computes its next round's start
pub next_start_is : (y : System) (v md j tick : ℕ) (at : Bool) (r : RunningNode) → RightPlan y.nodes (plan_at y md) → j < rounds_of y md → Finds y v md →
    r.table ≡ own_table y v → r.mode ≡ md → r.round ≡ j → r.tick ≡ pos tick → r.at_beacon ≡ at → next_start r ≡ pos (next_tick y md j tick at)
next_start_is y v md j tick at r ok l finds t m n k b =
    let own = own_table y v in
    let o = mode_at own md in
    let here = finds.start j l ∙ sym (start_is y md ok j l) in
    let last = not (nat_lt (suc j) (rounds_of y md)) in
    ap (λ (z : NodeTable). start_in z r.mode r.round r.tick r.at_beacon) t
    ∙ ap (λ (z : ℕ). start_in own z r.round r.tick r.at_beacon) m
    ∙ ap (λ (z : ℕ). start_in own md z r.tick r.at_beacon) n
    ∙ ap (λ (z : ℤ). start_in own md j z r.at_beacon) k
    ∙ ap (λ (z : Bool). start_in own md j (pos tick) z) b
    ∙ ap (λ (c : ℕ). (round_at o (cond (not (nat_lt (suc j) c)) 0 (suc j))).start +ℤ cond (not (nat_lt (suc j) c) && not (not at && int_le (pos tick) (round_at o j).start)) o.hyper (pos 0)) finds.rounds
    ∙ ap (λ (z : ℤ). (round_at o (cond last 0 (suc j))).start +ℤ cond (last && not (not at && int_le (pos tick) z)) o.hyper (pos 0)) here
    ∙ ap (λ (z : ℤ). (round_at o (cond last 0 (suc j))).start +ℤ cond (last && not (not at && nat_le tick (round_tick y md j))) z (pos 0)) finds.hyper
    ∙ start_by_last y v md j last (last && not (not at && nat_le tick (round_tick y md j))) ok l finds refl

-- and its next round
pub next_round_is : (y : System) (v md j : ℕ) (r : RunningNode) → Finds y v md → r.table ≡ own_table y v → r.mode ≡ md → r.round ≡ j → next_round r ≡ round_after y md j
next_round_is y v md j r finds t m n =
    let own = own_table y v in
    ap (λ (z : NodeTable). cond (not (nat_lt (suc r.round) (length (mode_at z r.mode).rounds))) 0 (suc r.round)) t
    ∙ ap (λ (z : ℕ). cond (not (nat_lt (suc r.round) (length (mode_at own z).rounds))) 0 (suc r.round)) m
    ∙ ap (λ (z : ℕ). cond (not (nat_lt (suc z) (length (mode_at own md).rounds))) 0 (suc z)) n
    ∙ ap (λ (c : ℕ). cond (not (nat_lt (suc j) c)) 0 (suc j)) finds.rounds

-- the hyperperiod of its mode
pub hyper_is : (y : System) (v md : ℕ) (r : RunningNode) → Finds y v md → r.table ≡ own_table y v → r.mode ≡ md → (mode_of r).hyper ≡ pos (H y md)
hyper_is y v md r finds t m =
    ap (λ (z : NodeTable). (mode_at z r.mode).hyper) t ∙ ap (λ (z : ℕ). (mode_at (own_table y v) z).hyper) m ∙ finds.hyper
