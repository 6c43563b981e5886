-- A node that stands where the events say may pass the ticks before the next Advance, and then miss the beacon there
use Rattle.std.proofs.Common.{◌≡◌, ℕ, suc, ◌+◌, ◌-◌, ◌<◌, ◌≤◌, Bool, true, false, cond, not, ◌&&◌, List, ◌∷◌, length, refl, sym, ◌∙◌, ap, subst, arith, ◌⊎◌, inl, inr, ⊎_elim, ℤ, pos, ◌+ℤ◌, ◌-ℤ◌, Less, Equal, Greater}
use Rattle.std.specs.Prelude.{nat_eq, nat_lt, nat_le, int_le, int_lt}
use Rattle.std.specs.Ordering.{is_eq, int_eq}
use Rattle.std.proofs.lemmas.Int.{ints}
use Rattle.std.proofs.lemmas.Bool.{cases_lt, cond-true, cond-false, eq-eqb}
use borrow.Author.Differences.{same_in}
use Rattle.runtime_model.specs.Entries.{beacon}
use Rattle.runtime_model.specs.Outcomes.{advance, Step}
use Rattle.runtime_model.specs.System.{System, plan_at}
use Rattle.runtime_model.specs.History.{step_of, spot_next, entry_at, moment}
use Rattle.runtime_model.proofs.OutRegisters.{H}
use Rattle.runtime_model.proofs.Beacons.{start_is}
use Rattle.runtime_model.proofs.FirstTicks.{Stays, Turns}
use Rattle.runtime_model.proofs.NextRound.{rounds_of, round_tick, BeaconStep}
use Rattle.runtime_model.proofs.Passing.{tick_now, moment_next, ticks_next, still_at_beacon, is_last_round, round_after, turned_since, next_tick, Passes}
use Rattle.node_tables.specs.declared.tables.NodeTable.{NodeTable}
use Rattle.node_tables.specs.declared.tables.ModeTable.{ModeTable}
use Rattle.node_core.specs.Lookup.{mode_at, round_at}
use Rattle.node_core.specs.PartLookups.{PartLooksUp}
use Rattle.node_core.specs.Running.{RunningNode, mode_of}
use Rattle.node_core.specs.Rules.{next_round, next_start, passed, turned, coasted}
use Rattle.node_core.specs.Conditions.{MayPass, MayMiss}

-- the start of the next round, by a node's mode, round, tick and whether it is at its beacon
abbrev start_after : ModeTable → ℕ → ℤ → Bool → ℤ
start_after m r tick at =
    (round_at m (cond (not (nat_lt (suc r) (length m.rounds))) 0 (suc r))).start
    +ℤ cond (not (nat_lt (suc r) (length m.rounds)) && not (not at && int_le tick (round_at m r).start)) m.hyper (pos 0)

sum_of : (a h : ℕ) (b : Bool) → (pos a +ℤ cond b (pos h) (pos 0)) ≡ pos (a + cond b h 0)
sum_of a h true = refl
sum_of a h false = refl

-- tests of whole numbers that are not below 0
le_is : (a b : ℕ) → int_le (pos a) (pos b) ≡ nat_le a b
le_is a b = refl

none_is : (a : ℕ) → int_eq (pos a) (pos 0) ≡ nat_eq a 0
none_is a = by_case (cases_lt 0 a)
  where
    less : (m n : ℕ) → m < n → nat_lt m n ≡ true
    less m n l = grind (arith, l)

    not_less : (m n : ℕ) → n ≤ m → nat_lt m n ≡ false
    not_less m n l = grind (arith, l)

    by_case : (0 < a) ⊎ (a ≤ 0) → int_eq (pos a) (pos 0) ≡ nat_eq a 0
    by_case (inl l) =
        ap (λ t. is_eq (cond t Less (cond (nat_lt 0 a) Greater Equal))) (not_less a 0 (omega (arith, l)))
        ∙ ap (λ t. is_eq (cond t Greater Equal)) (less 0 a l) ∙ (let e : false ≡ nat_eq a 0 = grind (arith, l) in e)
    by_case (inr l) =
        ap (λ t. is_eq (cond t Less (cond (nat_lt 0 a) Greater Equal))) (not_less a 0 (omega arith))
        ∙ ap (λ t. is_eq (cond t Greater Equal)) (not_less 0 a l) ∙ (let e : true ≡ nat_eq a 0 = grind (arith, l) in e)

-- what a node of node v, whose last beacon is d, of round j, knows of its place after these steps
pub record StandsAt (y : System) (v : ℕ) (ds : List Step) (d : Step) (j : ℕ) (n : RunningNode) : Type 0 where
  pub part : PartLooksUp y.plans v d.spot.hyper.mode (plan_at y d.spot.hyper.mode) n.table
  pub mode : n.mode ≡ d.spot.hyper.mode
  pub round : n.round ≡ j
  pub tick : n.tick ≡ pos (tick_now y ds)
  pub at_beacon : n.at_beacon ≡ still_at_beacon y ds d

module _ (y : System) (v : ℕ) (d : Step) (j : ℕ) (b : BeaconStep y d j) where
  abbrev md : ℕ
  md = d.spot.hyper.mode

  -- the start of a round in the table
  start_at : (t : NodeTable) → PartLooksUp y.plans v md (plan_at y md) t → (r : ℕ) → r < rounds_of y md → (round_at (mode_at t md) r).start ≡ pos (round_tick y md r)
  start_at t p r l = p.start r l ∙ sym (start_is y md b.right r l)

  after_fits : round_after y md j < rounds_of y md
  after_fits =
      ⊎_elim
      (λ (more : suc j < rounds_of y md). other (suc j) (rounds_of y md) more)
      (λ (over : rounds_of y md ≤ suc j). last (suc j) (rounds_of y md) over b.inside)
      (cases_lt (suc j) (rounds_of y md))
    where
      other : (k r : ℕ) → k < r → cond (not (nat_lt k r)) 0 k < r
      other k r l = let e : not (nat_lt k r) ≡ false = grind (arith, l) in subst (λ x. cond x 0 k < r) (sym e) l

      last : (k r : ℕ) → r ≤ k → j < r → cond (not (nat_lt k r)) 0 k < r
      last k r l s = let e : not (nat_lt k r) ≡ true = grind (arith, l) in subst (λ x. cond x 0 k < r) (sym e) (omega (arith, s))

  -- a node's next round and its start
  pub next_round_is : (n : RunningNode) → PartLooksUp y.plans v md (plan_at y md) n.table → n.mode ≡ md → n.round ≡ j → next_round n ≡ round_after y md j
  next_round_is n p mode round =
      ap (λ (m : ℕ). cond (not (nat_lt (suc n.round) (length (mode_at n.table m).rounds))) 0 (suc n.round)) mode
      ∙ ap (λ (r : ℕ). cond (not (nat_lt (suc r) (length (mode_at n.table md).rounds))) 0 (suc r)) round
      ∙ ap (λ (c : ℕ). cond (not (nat_lt (suc j) c)) 0 (suc j)) p.rounds

  pub next_start_is : (n : RunningNode) (t : ℕ) (at : Bool) → PartLooksUp y.plans v md (plan_at y md) n.table → n.mode ≡ md → n.round ≡ j → n.tick ≡ pos t → n.at_beacon ≡ at → next_start n ≡ pos (next_tick y md j t at)
  next_start_is n t at p mode round tick at_beacon =
      let m = mode_at n.table md in
      let last = is_last_round y md j in
      let turned = turned_since y md j t at in
      ap (λ (z : ℕ). start_after (mode_at n.table z) n.round n.tick n.at_beacon) mode
      ∙ ap (λ (r : ℕ). start_after m r n.tick n.at_beacon) round
      ∙ ap (λ (z : ℤ). start_after m j z n.at_beacon) tick
      ∙ ap (λ (a : Bool). start_after m j (pos t) a) at_beacon
      ∙ ap (λ (c : ℕ). (round_at m (cond (not (nat_lt (suc j) c)) 0 (suc j))).start +ℤ cond (not (nat_lt (suc j) c) && not (not at && int_le (pos t) (round_at m j).start)) m.hyper (pos 0)) p.rounds
      ∙ ap (λ (z : ℤ). (round_at m (round_after y md j)).start +ℤ cond (last && not (not at && int_le (pos t) z)) m.hyper (pos 0)) (start_at n.table p j b.inside)
      ∙ ap (λ (z : ℤ). z +ℤ cond (last && not turned) m.hyper (pos 0)) (start_at n.table p (round_after y md j) after_fits)
      ∙ ap (λ (h : ℤ). pos (round_tick y md (round_after y md j)) +ℤ cond (last && not turned) h (pos 0)) p.hyper
      ∙ sum_of (round_tick y md (round_after y md j)) (H y md) (last && not turned)

  module _ (ds : List Step) (n : RunningNode) (at : StandsAt y v ds d j n) (ps : Passes y ds d j) where
    -- the ticks before the next Advance may pass
    pub may_pass : MayPass n (pos (ticks_next y ds))
    may_pass = record {
      low = omega (arith, ints);
      high =
          let e = next_start_is n (tick_now y ds) (still_at_beacon y ds d) at.part at.mode at.round at.tick at.at_beacon in
          omega (arith, ints, e, at.tick, ps.high);
    }

    reached : (n.tick +ℤ pos (ticks_next y ds)) ≡ pos (tick_now y ds + ticks_next y ds)
    reached = ap (λ (z : ℤ). z +ℤ pos (ticks_next y ds)) at.tick

    hyper_is : (mode_of n).hyper ≡ pos (H y md)
    hyper_is = ap (λ (m : ℕ). (mode_at n.table m).hyper) at.mode ∙ at.part.hyper

    -- in the hyperperiod the node comes to the entry's tick, and past it to the start of the next one
    pub passes_on : Stays y ds → passed n (pos (ticks_next y ds)) ≡ record n { tick = pos (entry_at y (spot_next y ds)).tick; at_beacon = nat_eq (moment_next y ds) (moment y d) }
    passes_on st =
        let ticks = pos (ticks_next y ds) in
        let s = ps.stays st in
        let on : RunningNode = record n { tick = n.tick +ℤ ticks; at_beacon = n.at_beacon && int_eq ticks (pos 0) } in
        let below : int_lt (n.tick +ℤ ticks) (mode_of n).hyper ≡ true = ap (λ (z : ℤ). int_lt z (mode_of n).hyper) reached ∙ ap (int_lt (pos (tick_now y ds + ticks_next y ds))) hyper_is ∙ less (tick_now y ds + ticks_next y ds) (H y md) s.0 in
        cond-true (int_lt (n.tick +ℤ ticks) (mode_of n).hyper) on (turned n ((n.tick +ℤ ticks) -ℤ (mode_of n).hyper)) below
        ∙ ap (λ (z : ℤ). record n { tick = z; at_beacon = n.at_beacon && int_eq ticks (pos 0) }) (reached ∙ ap (λ (z : ℕ). pos z) s.1)
        ∙ ap (λ (a : Bool). record n { tick = pos (entry_at y (spot_next y ds)).tick; at_beacon = a }) (ap (λ (a : Bool). n.at_beacon && a) (none_is (ticks_next y ds)) ∙ ap (λ (a : Bool). a && nat_eq (ticks_next y ds) 0) at.at_beacon ∙ ps.at_beacon st)
      where
        less : (a h : ℕ) → a < h → nat_lt a h ≡ true
        less a h l = grind (arith, l)

    pub passes_over : Turns y ds → passed n (pos (ticks_next y ds)) ≡ turned n (pos 0)
    passes_over tr =
        let ticks = pos (ticks_next y ds) in
        let s = ps.turns tr in
        let on : RunningNode = record n { tick = n.tick +ℤ ticks; at_beacon = n.at_beacon && int_eq ticks (pos 0) } in
        let over : int_lt (n.tick +ℤ ticks) (mode_of n).hyper ≡ false = ap (λ (z : ℤ). int_lt z (mode_of n).hyper) reached ∙ ap (int_lt (pos (tick_now y ds + ticks_next y ds))) hyper_is ∙ not_less (tick_now y ds + ticks_next y ds) (H y md) s.0 in
        cond-false (int_lt (n.tick +ℤ ticks) (mode_of n).hyper) on (turned n ((n.tick +ℤ ticks) -ℤ (mode_of n).hyper)) over
        ∙ ap (turned n) (ap (λ (z : ℤ). z -ℤ (mode_of n).hyper) reached ∙ ap (λ (z : ℤ). pos (tick_now y ds + ticks_next y ds) -ℤ z) hyper_is ∙ rest (tick_now y ds + ticks_next y ds) (H y md) s.0)
      where
        not_less : (a h : ℕ) → a ≡ h → nat_lt a h ≡ false
        not_less a h e = grind (arith, e)

        rest : (a h : ℕ) → a ≡ h → (pos a -ℤ pos h) ≡ pos 0
        rest a h e = same_in _ _ (omega (arith, ints, e))

    -- then it may miss the beacon of the next Advance, which is its next round's
    pub may_miss : (i : ℕ) → (entry_at y (spot_next y ds)).action ≡ beacon i → Stays y ds → let n' = passed n (pos (ticks_next y ds)) in MayMiss n' × (next_round n' ≡ i)
    may_miss i act st =
        let t = (entry_at y (spot_next y ds)).tick in
        let still = nat_eq (moment_next y ds) (moment y d) in
        let n' : RunningNode = record n { tick = pos t; at_beacon = still } in
        let q = ps.miss i act in
        subst (λ (z : RunningNode). MayMiss z × (next_round z ≡ i)) (sym (passes_on st))
        (ap (λ (z : ℕ). pos z) q.1 ∙ sym (next_start_is n' t still at.part at.mode at.round refl refl), next_round_is n' at.part at.mode at.round ∙ sym q.0)

    pub may_miss_anew : (i : ℕ) → (entry_at y (spot_next y ds)).action ≡ beacon i → Turns y ds → let n' = passed n (pos (ticks_next y ds)) in MayMiss n' × (next_round n' ≡ i)
    may_miss_anew i act tr =
        let t = (entry_at y (spot_next y ds)).tick in
        let n' = turned n (pos 0) in
        let q = ps.miss i act in
        let zero_tick = (ps.turns tr).1 in
        let starts : 0 ≡ next_tick y md j 0 false = sym zero_tick ∙ q.1 ∙ ap (λ (z : ℕ). next_tick y md j z (nat_eq (moment_next y ds) (moment y d))) zero_tick ∙ ap (next_tick y md j 0) (ps.past_beacon tr) in
        subst (λ (z : RunningNode). MayMiss z × (next_round z ≡ i)) (sym (passes_over tr))
        (ap (λ (z : ℕ). pos z) starts ∙ sym (next_start_is n' 0 false at.part at.mode at.round refl refl), next_round_is n' at.part at.mode at.round ∙ sym q.0)

    -- after the ticks it stands where the events with the next Advance say
    pub stands_on : (lost : ℕ) → Stays y ds ⊎ Turns y ds → StandsAt y v (step_of y (advance lost) ds ∷ ds) d j (passed n (pos (ticks_next y ds)))
    stands_on lost (inl st) = subst (StandsAt y v (step_of y (advance lost) ds ∷ ds) d j) (sym (passes_on st))
        (record { part = at.part; mode = at.mode; round = at.round; tick = ap (λ (z : ℕ). pos z) (less_begin (spot_next y ds).begin (entry_at y (spot_next y ds)).tick); at_beacon = refl })
      where
        less_begin : (b t : ℕ) → t ≡ b + t - b
        less_begin b t = omega arith
    stands_on lost (inr tr) = subst (StandsAt y v (step_of y (advance lost) ds ∷ ds) d j) (sym (passes_over tr))
        (record { part = at.part; mode = at.mode; round = at.round; tick = ap (λ (z : ℕ). pos z) (at_begin (spot_next y ds).begin (entry_at y (spot_next y ds)).tick (ps.turns tr).1); at_beacon = sym (ps.past_beacon tr) })
      where
        at_begin : (b t : ℕ) → t ≡ 0 → 0 ≡ b + t - b
        at_begin b t z = omega (arith, z)

    -- and where it coasts past a beacon of its mode, that one is its last beacon
    pub coasts_on : (lost i : ℕ) → (entry_at y (spot_next y ds)).action ≡ beacon i → (spot_next y ds).hyper.mode ≡ md → Stays y ds ⊎ Turns y ds →
        let g = step_of y (advance lost) ds in StandsAt y v (g ∷ ds) g i (coasted (passed n (pos (ticks_next y ds))))
    coasts_on lost i act same where_to =
        let g = step_of y (advance lost) ds in
        let s = stands_on lost where_to in
        let n' = passed n (pos (ticks_next y ds)) in
        record {
          part = subst (λ (m : ℕ). PartLooksUp y.plans v m (plan_at y m) n'.table) (sym same) s.part;
          mode = s.mode ∙ sym same;
          round = ⊎_elim (λ (st : Stays y ds). (may_miss i act st).1) (λ (tr : Turns y ds). (may_miss_anew i act tr).1) where_to;
          tick = s.tick;
          at_beacon = sym (eq-eqb (moment y g) (moment y g) refl);
        }
