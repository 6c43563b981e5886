-- A slot in the world: a packet may be taken, and the in registers after it and after silence
use Rattle.std.proofs.Common.{◌≡◌, ◌≢◌, ℕ, suc, ◌<◌, Bool, true, false, cond, not, ◌&&◌, ◌||◌, List, [], ◌∷◌, length, get_or, filter, replicate, Contains, refl, sym, ◌∙◌, ap, subst, arith, ℤ}
use Rattle.std.specs.Prelude.{nat_eq, Option, Some, None, IfSome}
use Rattle.std.proofs.lemmas.Bool.{and_parts, cond-true, cond-false, eqb-true, eqb-false, eq-eqb, ne_eqb}
use Rattle.std.proofs.lemmas.List.{get_or-replicate, length-map}
use Rattle.sched_model.specs.Numbers.{below, has}
use Rattle.sched_model.specs.PlainMode.{task_at, message_at}
use Rattle.sched_model.proofs.Graph.{contains_has}
use Rattle.sched_model.proofs.Lists.{get_or-below, length-below}
use Rattle.runtime_model.specs.Plans.{Plan, sender_of}
use Rattle.runtime_model.specs.Entries.{Action, slot}
use Rattle.runtime_model.specs.Outcomes.{PlainEvent, advance, Spot, Outcome, sent, silent, Step}
use Rattle.runtime_model.specs.LookingBack.{synced, settled, coasts, runs, recall}
use Rattle.runtime_model.specs.NodeTables.{part_of, is_own}
use Rattle.runtime_model.specs.Packets.{all_present, both, has_copy, held, packet, reached, takes, takes_on}
use Rattle.runtime_model.specs.Placement.{placed, own_slot as is_own_slot, window_at}
use Rattle.runtime_model.specs.Registers.{flat, in_register, last_in, values_of}
use Rattle.runtime_model.specs.System.{System, plan_at}
use Rattle.runtime_model.specs.History.{history, step_of, spot_next, entry_at, performed, sent_or_not}
use Rattle.runtime_model.specs.Laws.{PlansAreRight, RequestsFit}
use Rattle.runtime_model.proofs.Registers.{cond_some}
use Rattle.node_tables.specs.declared.tables.OwnMessage.{OwnMessage}
use Rattle.node_tables.specs.Parts.{typed_table}
use Rattle.node_core.specs.declared.packet.Packet.{Packet}
use Rattle.node_core.specs.Conditions.{IsOfSlot}
use Rattle.node_core.specs.Fits.{HasRoom}
use Rattle.node_core.specs.Lookup.{own_message, own_slot}
use Rattle.node_core.specs.PartLookups.{PartLooksUp, consumers_on, kept_message}
use Rattle.node_core.specs.Registers.{InRow, RegistersSeen, filled, register_in, register_of, row_of}
use Rattle.node_core.specs.Rules.{announced, copy_of_slot, is_received, registers_with}
use Rattle.node_core.specs.Running.{RunningNode, mode_of, round_of}
use Rattle.node_core.proofs.RegisterRules.{read_written}
use Rattle.world_core.specs.declared.state.State.{State}
use Rattle.world_core.specs.declared.state.State.TheVariants.{Listens, Syncs, Coasts}
use Rattle.world_core.specs.NodeStates.{registers_of, running_of, after_packet, takes_now, MayReceiveNow, MayUseSlotNow}
use Rattle.world_core.specs.Standing.{IsOn, KeepsRegisters}
use Rattle.world_core.proofs.Consumers.{Once}
use Rattle.world_core.proofs.EntryNodes.{EntryNode}
use Rattle.world_core.proofs.RunSteps.{IsCalm, recall_now, recall_past}
use Rattle.world_core.proofs.SlotSteps.{KnowsSlot, knows_slot, slot_carried, slot_message, slot_right, place, slot_here, takes_is, coasts_unheard, listens_unheard, synced_heard, unheard}

-- ---- lists

has_filter : (t : ℕ → Bool) (xs : List ℕ) (v : ℕ) → has (filter t xs) v ≡ (t v && has xs v)
has_filter t [] v = by_test (t v)
  where
    by_test : (b : Bool) → false ≡ (b && false)
    by_test true = refl
    by_test false = refl
has_filter t (x ∷ xs) v = by_tests (t x) (nat_eq v x) (t v) refl (has_filter t xs v) (λ e. ap t (eqb-true v x e))
  where
    by_tests : (b c d : Bool) → nat_eq v x ≡ c → has (filter t xs) v ≡ (d && has xs v) → (c ≡ true → d ≡ b) → has (cond b (x ∷ filter t xs) (filter t xs)) v ≡ (d && (c || has xs v))
    by_tests true true true e rest same = ap (λ w. w || has (filter t xs) v) e
    by_tests true true false e rest same = absurd (let q = same refl in cc)
    by_tests true false d e rest same = ap (λ w. w || has (filter t xs) v) e ∙ rest
    by_tests false true true e rest same = absurd (let q = same refl in cc)
    by_tests false true false e rest same = rest
    by_tests false false d e rest same = rest

-- of the numbers below n
pub has_kept : (t : ℕ → Bool) (n v : ℕ) → v < n → has (filter t (below n)) v ≡ t v
has_kept t n v l = has_filter t (below n) v ∙ ap (λ b. t v && b) (contains_has (below n) v (v, omega (arith, l, length-below n), get_or-below n v v l)) ∙ plain (t v)
  where
    plain : (b : Bool) → (b && true) ≡ b
    plain true = refl
    plain false = refl

-- where all values are there, they are as many
all_length : (os : List (Option ℤ)) (xs : List ℤ) → all_present os ≡ Some xs → length xs ≡ length os
all_length [] xs e = let q : [] ≡ xs = grind (arith, e) in ap length (sym q)
all_length (None ∷ os) xs e = absurd (grind (arith, e))
all_length (Some x ∷ os) xs e = by_rest (all_present os) e (all_length os)
  where
    by_rest : (o : Option (List ℤ)) → both (Some x) o ≡ Some xs → ((ys : List ℤ) → o ≡ Some ys → length ys ≡ length os) → length xs ≡ suc (length os)
    by_rest None e rest = absurd (grind (arith, e))
    by_rest (Some ys) e rest = let q : x ∷ ys ≡ xs = grind (arith, e) in ap length (sym q) ∙ ap suc (rest ys refl)

-- ---- in registers

-- the in registers, as they are read off the stay
pub record KeepsIns (p : Plan) (v stay : ℕ) (ds : List Step) (rows : List InRow) : Type 0 where
  pub ins : (b i : ℕ) → IsOn p v b → i < length p.mode.messages → Contains (message_at p.mode i).to b →
      register_of rows (task_at p.mode b).number (kept_message p v i) ≡ values_of (in_register p stay b i ds)
  pub other_ins : (number : ℕ) → ((i : ℕ) → i < length p.mode.messages → (message_at p.mode i).number ≢ number) → (c : ℕ) → get_or (row_of rows number) c None ≡ None

pub ins_kept : (p : Plan) (v stay : ℕ) (ds : List Step) (g : RegistersSeen) → KeepsRegisters p v stay ds g → KeepsIns p v stay ds g.ins
ins_kept p v stay ds g k = record { ins = k.ins; other_ins = k.other_ins }

-- the in register of a task on node v
pub in_here : (p : Plan) (v stay b i : ℕ) (ds : List Step) → IsOn p v b → in_register p stay b i ds ≡ flat (recall v stay (last_in v b i) ds)
in_here p v stay b i ds on = ap (λ w. flat (recall w stay (last_in w b i) ds)) on.1

-- an event that says nothing of it leaves it
pub in_past : (p : Plan) (v b i : ℕ) (d : Step) (ds : List Step) → IsCalm v d.out → IsOn p v b → last_in v b i d.out ≡ None → in_register p d.spot.stay b i (d ∷ ds) ≡ in_register p d.spot.stay b i ds
in_past p v b i d ds calm on e = in_here p v d.spot.stay b i (d ∷ ds) on ∙ ap flat (recall_past v (last_in v b i) d ds calm e) ∙ sym (in_here p v d.spot.stay b i ds on)

-- one that says something of it, on a node that runs, is what it has
pub in_now : (p : Plan) (v b i : ℕ) (d : Step) (ds : List Step) (o : Option (ℕ × List ℤ)) → IsCalm v d.out → IsOn p v b → last_in v b i d.out ≡ Some o → runs v ds ≡ true → in_register p d.spot.stay b i (d ∷ ds) ≡ o
in_now p v b i d ds o calm on e run = in_here p v d.spot.stay b i (d ∷ ds) on ∙ ap flat (recall_now v (last_in v b i) d ds o calm e run)

-- an event that says nothing of the in registers of node v leaves them
pub record LeavesIns (p : Plan) (v : ℕ) (o : Outcome) : Type 0 where
  pub calm : IsCalm v o
  pub ins : (b i : ℕ) → IsOn p v b → last_in v b i o ≡ None

pub left_ins : (p : Plan) (v : ℕ) (d : Step) (ds : List Step) (ins : List InRow) → LeavesIns p v d.out → KeepsIns p v d.spot.stay ds ins → KeepsIns p v d.spot.stay (d ∷ ds) ins
left_ins p v d ds ins q k = record {
  ins = λ b i on l to. k.ins b i on l to ∙ ap values_of (sym (in_past p v b i d ds q.calm on (q.ins b i on)));
  other_ins = k.other_ins;
}

-- ---- at a slot

-- whether a node takes a packet
unreached_off : (a b c d : Bool) → c ≡ false → (a && (b && (c && d))) ≡ false
unreached_off a b true d e = absurd cc
unreached_off true true false d e = refl
unreached_off true false false d e = refl
unreached_off false b false d e = refl

reached_takes : (a b c d : Bool) → c ≡ true → (a && (b && (c && d))) ≡ (a && (b && d))
reached_takes a b true d e = refl
reached_takes a b false d e = absurd cc

heard_runs : (a b : Bool) → a ≡ true → (a || b) ≡ true
heard_runs a b e = ap (λ x. x || b) e

module _ (y : System) (right : PlansAreRight y) (es : List PlainEvent) (rf : RequestsFit y es) (j i : ℕ) (act : (entry_at y (spot_next y (history y es))).action ≡ slot j i) where
  abbrev ds : List Step
  ds = history y es

  abbrev s : Spot
  s = spot_next y ds

  abbrev p : Plan
  p = plan_at y s.hyper.mode

  abbrev number : ℕ
  number = (message_at p.mode i).number

  abbrev sender : ℕ
  sender = sender_of p i

  abbrev here : ℕ
  here = place y right es rf j i act

  -- what is sent, by its values
  abbrev of_values : List ℤ → Packet
  of_values xs = record { message = number; values = xs }

  abbrev window : ℕ
  window = window_at p s.turn j i

  -- which nodes take it
  abbrev taking : (lost : ℕ) → ℕ → Bool
  taking lost = takes p s.stay lost sender i window ds

  pub slot_out : (lost : ℕ) → (step_of y (advance lost) ds).out ≡ sent_or_not p y.nodes s j i ds (packet p s j i ds) lost
  slot_out lost = ap (λ (w : Action). performed y p s lost ds (entry_at y s).tick w) act

  -- it is sent where the slot is placed
  pub sent_placed : (xs : List ℤ) → packet p s j i ds ≡ Some xs → placed s.hyper.opening s.hyper.phase (is_own_slot p j i) ≡ true
  sent_placed xs e =
      let own = placed s.hyper.opening s.hyper.phase (is_own_slot p j i) in
      (and_parts own (synced sender ds) (cond_some (own && synced sender ds) (held p s.stay i window ds) xs e).0).0

  -- a packet has one value per producer
  pub packet_length : (xs : List ℤ) → packet p s j i ds ≡ Some xs → length xs ≡ length (message_at p.mode i).from
  packet_length xs e =
      let from = (message_at p.mode i).from in
      let w = cond_some (placed s.hyper.opening s.hyper.phase (is_own_slot p j i) && synced sender ds) (held p s.stay i (window_at p s.turn j i) ds) xs e in
      all_length _ xs w.1 ∙ length-map from _

  module _ (v : ℕ) (part : PartLooksUp y.plans v s.hyper.mode p (typed_table (part_of y.plans v))) where
    abbrev kept : OwnMessage
    kept = kept_message p v i

    -- the packet that is sent may be taken
    pub may_receive : (n : State) (xs : List ℤ) → EntryNode y v ds n → MayUseSlotNow n here → packet p s j i ds ≡ Some xs → MayReceiveNow n here (of_values xs)
    may_receive (Listens t) xs at may e = tt
    may_receive (Coasts r) xs at may e = tt
    may_receive (Syncs r) xs at may e =
        let knows = knows_slot y right es rf j i act v part r at.table (at.place r refl) in
        record { may_use = may; values = by_own (is_own p v i) refl knows; same = of_slot (is_own p v i) refl knows }
      where
        by_own : (b : Bool) → is_own p v i ≡ b → KnowsSlot y right es rf j i act v part r → IfSome (own_message (mode_of r).messages number) (λ m. length xs ≡ length m.producers)
        by_own true own knows =
            subst (λ o. IfSome o (λ m. length xs ≡ length m.producers)) (sym (knows.message own))
            (packet_length xs e ∙ sym (length-map (message_at p.mode i).from (λ a. (task_at p.mode a).number)))
        by_own false own knows = subst (λ o. IfSome o (λ m. length xs ≡ length m.producers)) (sym (knows.other own)) tt

        of_slot : (b : Bool) → is_own p v i ≡ b → KnowsSlot y right es rf j i act v part r → IsOfSlot r (own_slot (round_of r) here) (of_values xs)
        of_slot true own knows =
            subst (λ o. IsOfSlot r o (of_values xs)) (sym (knows.slot ∙ ap (λ b. cond b (Some (slot_here y right es rf j i act v part)) None) own)) refl
        of_slot false own knows =
            subst (λ o. IsOfSlot r o (of_values xs)) (sym (knows.slot ∙ ap (λ b. cond b (Some (slot_here y right es rf j i act v part)) None) own)) (knows.other own)

    -- ---- silence

    silent_leaves : LeavesIns p v (silent i)
    silent_leaves = record { calm = record { beacon = refl; restart = refl }; ins = λ b x on. refl }

    -- after silence the in registers are as before
    pub silent_ins : (n : State) (lost : ℕ) → EntryNode y v ds n → packet p s j i ds ≡ None → KeepsIns p v s.stay (step_of y (advance lost) ds ∷ ds) (registers_of n).ins
    silent_ins n lost at e =
        left_ins p v (step_of y (advance lost) ds) ds (registers_of n).ins
        (subst (LeavesIns p v) (sym (slot_out lost ∙ ap (λ o. sent_or_not p y.nodes s j i ds o lost) e)) silent_leaves)
        (ins_kept p v s.stay ds (registers_of n) at.registers)

    -- ---- a packet

    abbrev sent_here : (lost : ℕ) → List ℤ → Outcome
    sent_here lost xs = sent sender i window xs (filter (taking lost) (below y.nodes))

    sent_out : (lost : ℕ) (xs : List ℤ) → packet p s j i ds ≡ Some xs → (step_of y (advance lost) ds).out ≡ sent_here lost xs
    sent_out lost xs e = slot_out lost ∙ ap (λ o. sent_or_not p y.nodes s j i ds o lost) e

    calm_here : (lost : ℕ) (xs : List ℤ) → packet p s j i ds ≡ Some xs → IsCalm v (step_of y (advance lost) ds).out
    calm_here lost xs e = subst (IsCalm v) (sym (sent_out lost xs e)) (record { beacon = refl; restart = refl })

    -- whether the packet is in the in register of a task on the node for a message
    filled_by : (lost : ℕ) (xs : List ℤ) (b x : ℕ) (t u : Bool) → v < y.nodes → packet p s j i ds ≡ Some xs → nat_eq i x ≡ t → taking lost v ≡ u →
        last_in v b x (step_of y (advance lost) ds).out ≡ cond (t && u) (Some (Some (window, xs))) None
    filled_by lost xs b x t u l e same takes_it =
        ap (last_in v b x) (sent_out lost xs e)
        ∙ ap (λ (c : Bool). cond {A = Option (Option (ℕ × List ℤ))} (c && has (filter (taking lost) (below y.nodes)) v) (Some (Some (window, xs))) None) same
        ∙ ap (λ (c : Bool). cond {A = Option (Option (ℕ × List ℤ))} (t && c) (Some (Some (window, xs))) None) (has_kept (taking lost) y.nodes v l ∙ takes_it)

    -- a node that does not take it
    untaken_ins : (lost : ℕ) (xs : List ℤ) (ins : List InRow) → v < y.nodes → packet p s j i ds ≡ Some xs → taking lost v ≡ false →
        KeepsIns p v s.stay ds ins → KeepsIns p v s.stay (step_of y (advance lost) ds ∷ ds) ins
    untaken_ins lost xs ins l e out k =
        left_ins p v (step_of y (advance lost) ds) ds ins
        (record { calm = calm_here lost xs e; ins = λ b x on. filled_by lost xs b x (nat_eq i x) false l e refl out ∙ off (nat_eq i x) })
        k
      where
        off : (t : Bool) → cond {A = Option (Option (ℕ × List ℤ))} (t && false) (Some (Some (window, xs))) None ≡ None
        off true = refl
        off false = refl

    -- a node that takes it
    taken_ins : (lost : ℕ) (xs : List ℤ) (g : RegistersSeen) → v < y.nodes → packet p s j i ds ≡ Some xs → taking lost v ≡ true → runs v ds ≡ true → number < length g.ins →
        KeepsIns p v s.stay ds g.ins → KeepsIns p v s.stay (step_of y (advance lost) ds ∷ ds) (filled kept xs g).ins
    taken_ins lost xs g l e got run room k = record {
      ins = λ b x on lx to. by_message b x on lx to (nat_eq i x) refl;
      other_ins = λ m none c.
          ap (λ row. get_or row c None) (written m ∙ cond-false (nat_eq m number) full (row_of g.ins m) (ne_eqb m number (λ same. none i (slot_carried y right es rf j i act).1 (sym same))))
          ∙ k.other_ins m none c;
    }
      where
        d : Step
        d = step_of y (advance lost) ds

        full : InRow
        full = replicate (length kept.consumers) (Some xs)

        written : (m : ℕ) → row_of (filled kept xs g).ins m ≡ cond (nat_eq m number) full (row_of g.ins m)
        written m = read_written g.ins number m full [] room

        by_message : (b x : ℕ) → IsOn p v b → x < length p.mode.messages → Contains (message_at p.mode x).to b → (t : Bool) → nat_eq i x ≡ t →
            register_of (filled kept xs g).ins (task_at p.mode b).number (kept_message p v x) ≡ values_of (in_register p s.stay b x (d ∷ ds))
        by_message b x on lx to true t =
            let same = eqb-true i x t in
            let c = part.consumer x b lx to on.1 in
            let few = ap (λ z. length (consumers_on p v z)) same in
            ap (register_in (filled kept xs g).ins (kept_message p v x)) c.3
            ∙ ap (λ row. get_or row c.0 None) (written (message_at p.mode x).number ∙ cond-true (nat_eq (message_at p.mode x).number number) full (row_of g.ins (message_at p.mode x).number) (eq-eqb (message_at p.mode x).number number (ap (λ z. (message_at p.mode z).number) (sym same))))
            ∙ get_or-replicate (length kept.consumers) c.0 (Some xs) None (omega (arith, c.1, few, length-map (consumers_on p v i) (λ a. (task_at p.mode a).number)))
            ∙ sym (ap values_of (in_now p v b x d ds (Some (window, xs)) (calm_here lost xs e) on (filled_by lost xs b x true true l e t got) run))
        by_message b x on lx to false t =
            let apart = ne_eqb (message_at p.mode x).number number (λ q. eqb-false i x t ((slot_right y right es rf j i act).valid.numbers i x (slot_carried y right es rf j i act).1 lx (sym q))) in
            let c = part.consumer x b lx to on.1 in
            ap (register_in (filled kept xs g).ins (kept_message p v x)) c.3
            ∙ ap (λ row. get_or row c.0 None) (written (message_at p.mode x).number ∙ cond-false (nat_eq (message_at p.mode x).number number) full (row_of g.ins (message_at p.mode x).number) apart)
            ∙ sym (ap (register_in g.ins (kept_message p v x)) c.3)
            ∙ k.ins b x on lx to
            ∙ ap values_of (sym (in_past p v b x d ds (calm_here lost xs e) on (filled_by lost xs b x false true l e t got)))

    -- what a Synced node has after the packet, by whether it takes it
    received_by : (r : RunningNode) (xs : List ℤ) → EntryNode y v ds (Syncs r) → registers_of (after_packet (Syncs r) here (of_values xs)) ≡ cond (takes_now (Syncs r) here) (filled kept xs r.registers) r.registers
    received_by r xs at =
        subst (λ (o : Option OwnMessage). registers_with copy o (of_values xs) r.registers ≡ cond (is_received r.registers copy o) (filled kept xs r.registers) r.registers)
        (sym (slot_message y right es rf j i act v part r (knows_slot y right es rf j i act v part r at.table (at.place r refl)))) (by_own (is_own p v i))
      where
        copy : ℕ
        copy = copy_of_slot r here

        by_own : (b : Bool) → registers_with copy (cond b (Some kept) None) (of_values xs) r.registers ≡ cond (is_received r.registers copy (cond b (Some kept) None)) (filled kept xs r.registers) r.registers
        by_own true = refl
        by_own false = refl

    -- a node that did not hear the last beacon takes nothing
    unheard_ins : (lost : ℕ) (xs : List ℤ) (ins : List InRow) → v < y.nodes → packet p s j i ds ≡ Some xs → synced v ds ≡ false → KeepsIns p v s.stay ds ins → KeepsIns p v s.stay (step_of y (advance lost) ds ∷ ds) ins
    unheard_ins lost xs ins l e deaf k =
        untaken_ins lost xs ins l e (unheard (takes_on p i v) (synced v ds) (reached lost sender v && not (has_copy s.stay i window ds v)) deaf) k

    -- the in registers after a packet, of a node that it reaches or not
    pub packet_ins : (n : State) (lost : ℕ) (xs : List ℤ) → EntryNode y v ds n → Once (message_at p.mode i).to → v < y.nodes → ((r : RunningNode) → running_of n ≡ Some r → HasRoom r.registers) → number < 512 → packet p s j i ds ≡ Some xs →
        KeepsIns p v s.stay (step_of y (advance lost) ds ∷ ds) (registers_of (cond (reached lost sender v) (after_packet n here (of_values xs)) n)).ins
    packet_ins (Listens t) lost xs at once l room small e = by_test (reached lost sender v)
      where
        left : KeepsIns p v s.stay (step_of y (advance lost) ds ∷ ds) (registers_of (Listens t)).ins
        left = unheard_ins lost xs (registers_of (Listens t)).ins l e (listens_unheard (synced v ds) (settled v ds) (coasts v ds) at.kind) (ins_kept p v s.stay ds (registers_of (Listens t)) at.registers)

        by_test : (b : Bool) → KeepsIns p v s.stay (step_of y (advance lost) ds ∷ ds) (registers_of (cond b (Listens t) (Listens t))).ins
        by_test true = left
        by_test false = left
    packet_ins (Coasts r) lost xs at once l room small e = by_test (reached lost sender v)
      where
        left : KeepsIns p v s.stay (step_of y (advance lost) ds ∷ ds) r.registers.ins
        left = unheard_ins lost xs r.registers.ins l e (coasts_unheard (synced v ds) (settled v ds) (coasts v ds) at.kind) (ins_kept p v s.stay ds r.registers at.registers)

        by_test : (b : Bool) → KeepsIns p v s.stay (step_of y (advance lost) ds ∷ ds) (registers_of (cond b (Coasts r) (Coasts r))).ins
        by_test true = left
        by_test false = left
    packet_ins (Syncs r) lost xs at once l room small e = by_reached (reached lost sender v) refl
      where
        after : (t : Bool) → taking lost v ≡ t → KeepsIns p v s.stay (step_of y (advance lost) ds ∷ ds) (cond t (filled kept xs r.registers) r.registers).ins
        after true got =
            taken_ins lost xs r.registers l e got (heard_runs (synced v ds) (coasts v ds) (synced_heard (announced r) (synced v ds) (settled v ds) (coasts v ds) at.kind)) (omega (arith, small, (room r refl).rows)) (ins_kept p v s.stay ds r.registers at.registers)
        after false out = untaken_ins lost xs r.registers.ins l e out (ins_kept p v s.stay ds r.registers at.registers)

        by_reached : (b : Bool) → reached lost sender v ≡ b → KeepsIns p v s.stay (step_of y (advance lost) ds ∷ ds) (registers_of (cond b (after_packet (Syncs r) here (of_values xs)) (Syncs r))).ins
        by_reached true f =
            subst (λ (g : RegistersSeen). KeepsIns p v s.stay (step_of y (advance lost) ds ∷ ds) g.ins) (sym (received_by r xs at))
            (after (takes_now (Syncs r) here)
            (reached_takes (takes_on p i v) (synced v ds) (reached lost sender v) (not (has_copy s.stay i window ds v)) f
            ∙ sym (takes_is y right es rf j i act v part (Syncs r) at once (sent_placed xs e))))
        by_reached false f = untaken_ins lost xs r.registers.ins l e (unreached_off (takes_on p i v) (synced v ds) (reached lost sender v) (not (has_copy s.stay i window ds v)) f) (ins_kept p v s.stay ds r.registers at.registers)
