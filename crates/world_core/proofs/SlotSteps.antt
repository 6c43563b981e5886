-- A slot in the world: what each node sends in it, and whether it takes its packet
use Rattle.std.proofs.Common.{◌≡◌, ℕ, zero, suc, ◌+◌, ◌<◌, ◌≤◌, Bool, true, false, cond, not, ◌&&◌, ◌||◌, List, [], ◌∷◌, length, get_or, map, filter, Contains, refl, sym, ◌∙◌, ap, subst, arith, ℤ}
use Rattle.std.specs.Prelude.{nat_eq, nat_lt, Option, Some, None, is_some}
use Rattle.std.specs.List.{list_all, list_any}
use Rattle.std.proofs.lemmas.Bool.{cond-true, cond-false, eqb-true, eqb-false, eq-eqb, lt-ltb, ltb-true}
use Rattle.std.proofs.lemmas.Bool.Decides.{nat_tests}
use Rattle.std.proofs.lemmas.List.{length-map}
use Rattle.std.proofs.lemmas.List.Elements.{All-contains, All-filter, Contains-get_or, filter_passes}
use Rattle.std.proofs.lemmas.List.Folds.{list_all-append}
use Rattle.std.proofs.lemmas.Option.{same_Some}
use Rattle.std.proofs.lemmas.Simd.{map-map}
use Rattle.sched_model.specs.Numbers.{below}
use Rattle.sched_model.specs.PlainMode.{task_at, message_at}
use Rattle.sched_model.proofs.Graph.{has_contains, message_edge}
use Rattle.runtime_model.specs.Copies.{copy_at}
use Rattle.runtime_model.specs.Plans.{Plan, RightPlan, Carried, node_of, sender_of}
use Rattle.runtime_model.specs.Entries.{slot}
use Rattle.runtime_model.specs.Outcomes.{PlainEvent, advance, Spot, Step, took}
use Rattle.runtime_model.specs.LookingBack.{synced, settled, coasts, last_beacon, recall}
use Rattle.runtime_model.specs.NodeTables.{part_of, is_own, numbers}
use Rattle.runtime_model.specs.NodeKinds.{listening, in_sync, coasting, kind_by}
use Rattle.runtime_model.specs.Packets.{all_present, has_copy, held, packet, takes_on}
use Rattle.runtime_model.specs.Placement.{placed, own_slot as is_own_slot, release, window_at}
use Rattle.runtime_model.specs.Registers.{out_register, value_of, registers}
use Rattle.runtime_model.specs.System.{System, plan_at}
use Rattle.runtime_model.specs.History.{history, spot_next, entry_at}
use Rattle.runtime_model.specs.Laws.{PlansAreRight, RequestsFit}
use Rattle.runtime_model.proofs.CopyNumbers.{copies_are_numbered}
use Rattle.runtime_model.proofs.Modes.{all_right}
use Rattle.runtime_model.proofs.SlotBeacon.{AtSlot, slot_stands}
use Rattle.runtime_model.proofs.SlotInputs.{first_copies_are_first, inputs_hold_at_slots}
use Rattle.runtime_model.proofs.Slots.{registers_hold}
use Rattle.node_tables.specs.declared.tables.OwnMessage.{OwnMessage}
use Rattle.node_tables.specs.declared.tables.OwnSlot.{OwnSlot}
use Rattle.node_tables.specs.Parts.{typed_table}
use Rattle.node_core.specs.declared.packet.Packet.{Packet}
use Rattle.node_core.specs.Lookup.{mode_at, round_at, own_message, own_slot, is_taken}
use Rattle.node_core.specs.PartLookups.{PartLooksUp, consumers_on, kept_message, message_in_slot, table_at}
use Rattle.node_core.specs.Registers.{RegistersSeen, all_full, out_of, register_at, register_in, values_of}
use Rattle.node_core.specs.Rules.{announced, phase_known, slot_placed, message_in, packet_of, packet_from, sent_in, copy_in, takes_copy, is_received, message_of_slot}
use Rattle.node_core.specs.Running.{RunningNode, mode_of, round_of}
use Rattle.world_core.specs.declared.state.State.{State}
use Rattle.world_core.specs.declared.state.State.TheVariants.{Listens, Syncs, Coasts}
use Rattle.world_core.specs.Cycle.{slot_of}
use Rattle.world_core.specs.NodeStates.{sent_now, takes_now}
use Rattle.world_core.specs.Standing.{KeepsRegisters}
use Rattle.world_core.proofs.Consumers.{Once, once_left}
use Rattle.world_core.proofs.EntryNodes.{EntryNode, IsAtEntry}
use Rattle.world_core.proofs.StartSteps.{alike_beacon, placed_alike, known_drains}

-- ---- the slot of a message in a table

pub slot_place : (s : ℕ) (table : List ℕ) (number : ℕ) → Contains table number → (k : ℕ) × (slot_of s table number ≡ s + k) × (k < length table) × (get_or table k 0 ≡ number)
slot_place s [] number (k, l, e) = absurd (omega (arith, l))
slot_place s (n ∷ table) number (k, l, e) = by_test (nat_eq n number) refl (slot_place (suc s) table number) k l e
  where
    by_test : (b : Bool) → nat_eq n number ≡ b → (Contains table number → (c : ℕ) × (slot_of (suc s) table number ≡ suc s + c) × (c < length table) × (get_or table c 0 ≡ number)) →
        (k : ℕ) → k < length (n ∷ table) → get_or (n ∷ table) k number ≡ number →
        (c : ℕ) × (cond b s (slot_of (suc s) table number) ≡ s + c) × (c < length (n ∷ table)) × (get_or (n ∷ table) c 0 ≡ number)
    by_test true t rest k l e = (0, omega arith, omega arith, eqb-true n number t)
    by_test false t rest zero l e = absurd (eqb-false n number t e)
    by_test false t rest (suc k) l e = let w = rest (k, omega (arith, l), e) in (suc w.0, omega (arith, w.1), omega (arith, w.2), w.3)

-- ---- kinds

-- a Synced node heard the last beacon, and no other one did
pub synced_heard : (x a b c : Bool) → in_sync x ≡ kind_by a b c → a ≡ true
synced_heard x true b c e = refl
synced_heard x false b true e = absurd (grind (arith, e))
synced_heard x false b false e = absurd (grind (arith, e))

pub listens_unheard : (a b c : Bool) → listening ≡ kind_by a b c → a ≡ false
listens_unheard true b c e = absurd (grind (arith, e))
listens_unheard false b c e = refl

pub coasts_unheard : (a b c : Bool) → coasting ≡ kind_by a b c → a ≡ false
coasts_unheard true b c e = absurd (grind (arith, e))
coasts_unheard false b c e = refl

-- ---- own messages

-- its role tells whether the node sends it
sends_is : (a b : Bool) → (nat_eq (cond a 1 0 + cond b 2 0) 1 || nat_eq (cond a 1 0 + cond b 2 0) 3) ≡ a
sends_is true true = refl
sends_is true false = refl
sends_is false true = refl
sends_is false false = refl

-- and its consumers whether the node takes it
some_passes : (f : ℕ → ℕ) (t : ℕ → Bool) (xs : List ℕ) → nat_lt 0 (length (map f (filter t xs))) ≡ list_any t xs
some_passes f t [] = refl
some_passes f t (x ∷ xs) = by_test (t x) (some_passes f t xs)
  where
    by_test : (b : Bool) → nat_lt 0 (length (map f (filter t xs))) ≡ list_any t xs → nat_lt 0 (length (map f (cond b (x ∷ filter t xs) (filter t xs)))) ≡ (b || list_any t xs)
    by_test true e = lt-ltb 0 (suc (length (map f (filter t xs)))) (omega arith)
    by_test false e = e

pub taken_is : (p : Plan) (v i : ℕ) → is_taken (kept_message p v i) ≡ takes_on p i v
taken_is p v i = some_passes (λ a. (task_at p.mode a).number) (λ b. nat_eq (node_of p b) v) (message_at p.mode i).to

pub not_own : (a b : Bool) → (a || b) ≡ false → (a ≡ false) × (b ≡ false)
not_own true b e = absurd cc
not_own false b e = (refl, e)

pub unheard : (a b c : Bool) → b ≡ false → (a && (b && c)) ≡ false
unheard true b c e = ap (λ x. x && c) e
unheard false b c e = refl

-- a copy from 1 on that is not above 1 is the first
first_of_all : (copy : ℕ) → nat_lt 1 copy ≡ false → 1 ≤ copy → copy ≡ 1
first_of_all copy e some = grind (arith, nat_tests, e, some)

-- a test that is the same below n is passed by all numbers below n where one passes it
all_alike : (t : ℕ → Bool) (h : Bool) (n : ℕ) → 0 < n → ((c : ℕ) → c < n → t c ≡ h) → list_all t (below n) ≡ h
all_alike t h zero l e = absurd (omega (arith, l))
all_alike t h (suc n) l e =
    list_all-append t (below n) (n ∷ []) ∙ by_more n (all_alike t h n) e
  where
    both : (b c : Bool) → b ≡ h → c ≡ h → (b && (c && true)) ≡ h
    both true true f g = g
    both true false f g = g
    both false c f g = f

    last : (c : Bool) → c ≡ h → (c && true) ≡ h
    last true g = g
    last false g = g

    by_more : (k : ℕ) → (0 < k → ((c : ℕ) → c < k → t c ≡ h) → list_all t (below k) ≡ h) → ((c : ℕ) → c < suc k → t c ≡ h) → (list_all t (below k) && (t k && true)) ≡ h
    by_more zero rest e = last (t 0) (e 0 (omega arith))
    by_more (suc k) rest e = both (list_all t (below (suc k))) (t (suc k)) (rest (omega arith) (λ c l. e c (omega (arith, l)))) (e (suc k) (omega arith))

alike_mapped : {X Y : Type 0} (f g : X → Y) (xs : List X) → ((x : X) → Contains xs x → f x ≡ g x) → map f xs ≡ map g xs
alike_mapped f g [] h = refl
alike_mapped {X = X} f g (x ∷ xs) h = ap (λ y. y ∷ map f xs) (h x (0, omega arith, refl)) ∙ ap (λ ys. g x ∷ ys) (alike_mapped f g xs (λ z c. h z (suc c.0, omega (arith, c.1), c.2)))

-- the packet of the message with this number, where there are values
abbrev pub packet_with : ℕ → Option (List ℤ) → Option Packet
packet_with number None = None
packet_with number (Some xs) = Some (record { message = number; values = xs })

packet_by : (m : OwnMessage) (o : Option (List ℤ)) → packet_of m o ≡ packet_with m.number o
packet_by m None = refl
packet_by m (Some xs) = refl

-- ---- at a slot

module _ (y : System) (right : PlansAreRight y) (es : List PlainEvent) (rf : RequestsFit y es) (j i : ℕ) (act : (entry_at y (spot_next y (history y es))).action ≡ slot j i) where
  abbrev ds : List Step
  ds = history y es

  abbrev s : Spot
  s = spot_next y ds

  abbrev p : Plan
  p = plan_at y s.hyper.mode

  abbrev table : List ℕ
  table = table_at p j

  abbrev number : ℕ
  number = (message_at p.mode i).number

  abbrev sender : ℕ
  sender = sender_of p i

  -- the slot by its number
  abbrev pub place : ℕ
  place = slot_of 1 table number

  pub slot_right : RightPlan y.nodes p
  slot_right = all_right y right (advance 0 ∷ es) rf

  pub slot_stand : (d : Step) × AtSlot y ds d j i
  slot_stand = slot_stands y (all_right y right) es rf j i act

  pub slot_carried : Carried p j i
  slot_carried = slot_stand.1.carried

  pub slot_spot : (k : ℕ) × (place ≡ suc k) × (k < length table) × (get_or table k 0 ≡ number)
  slot_spot = let w = slot_place 1 table number (has_contains table number slot_carried.2) in (w.0, omega (arith, w.1), w.2, w.3)

  -- what is sent is what the out registers of its producers have
  packet_now : placed s.hyper.opening s.hyper.phase (is_own_slot p j i) ≡ true → held p s.stay i (window_at p s.turn j i) ds ≡ registers p s.stay i ds
  packet_now e = registers_hold y es j i slot_right slot_carried act e

  -- a node that did not hear the last beacon sends nothing
  no_packet : (v : ℕ) → synced v ds ≡ false → cond (nat_eq sender v) (packet_with number (packet p s j i ds)) None ≡ None
  no_packet v e = by_test (nat_eq sender v) refl
    where
      empty : (a b : Bool) (o : Option (List ℤ)) → b ≡ false → packet_with number (cond (a && b) o None) ≡ None
      empty true true o e = absurd cc
      empty true false o e = refl
      empty false b o e = refl

      by_test : (b : Bool) → nat_eq sender v ≡ b → cond b (packet_with number (packet p s j i ds)) None ≡ None
      by_test true t = empty (placed s.hyper.opening s.hyper.phase (is_own_slot p j i)) (synced sender ds) (held p s.stay i (window_at p s.turn j i) ds) (ap (λ w. synced w ds) (eqb-true sender v t) ∙ e)
      by_test false t = refl

  module _ (v : ℕ) (part : PartLooksUp y.plans v s.hyper.mode p (typed_table (part_of y.plans v))) where
    -- the slot and its message, as the node keeps them
    abbrev pub slot_here : OwnSlot
    slot_here = record { slot = suc slot_spot.0; message = number; release = release p j i; copy = copy_at p j i }

    abbrev pub message_here : OwnMessage
    message_here = kept_message p v i

    in_slot : message_in_slot p j slot_spot.0 ≡ i
    in_slot =
        let w = part.in_slot j slot_spot.0 slot_carried.0 slot_spot.2 in
        slot_right.valid.numbers (message_in_slot p j slot_spot.0) i w.0 slot_carried.1 (w.1 ∙ slot_spot.3)

    abbrev as_kept : ℕ → ℕ → ℕ → OwnSlot
    as_kept k n z = record { slot = suc k; message = n; release = release p j z; copy = copy_at p j z }

    -- what a running node knows of the slot
    pub record KnowsSlot (r : RunningNode) : Type 0 where
      pub slot : own_slot (round_of r) place ≡ cond (is_own p v i) (Some slot_here) None
      pub message : is_own p v i ≡ true → own_message (mode_of r).messages number ≡ Some message_here
      pub other : is_own p v i ≡ false → own_message (mode_of r).messages number ≡ None
      pub placed_is : slot_placed r slot_here ≡ placed s.hyper.opening s.hyper.phase (is_own_slot p j i)
      pub at_beacon : r.at_beacon ≡ true
      pub mode : r.mode ≡ s.hyper.mode

    pub knows_slot : (r : RunningNode) → r.table ≡ typed_table (part_of y.plans v) → (d : Step) × (last_beacon ds ≡ Some d) × IsAtEntry y ds d r → KnowsSlot r
    knows_slot r has w =
        let b = slot_stand.0 in
        let h = slot_stand.1 in
        let at = subst (λ (x : Step). IsAtEntry y ds x r) (same_Some w.0 b (sym w.1 ∙ h.is_last)) w.2 in
        let mode = at.mode ∙ sym h.still.mode in
        let round = at.round ∙ h.beacon.place in
        let t = typed_table (part_of y.plans v) in
        let m = s.hyper.mode in
        let k = slot_spot.0 in
        let own = is_own p v i in
        let like = alike_beacon y es b h.is_last h.still.begin in
        let same = at.same h.still.begin in
        let in_mode = ap (λ x. mode_at x r.mode) has ∙ ap (mode_at t) mode in
        record {
          slot = ap (λ x. own_slot (round_at x r.round) place) in_mode
              ∙ ap (λ x. own_slot (round_at (mode_at t m) x) place) round
              ∙ ap (own_slot (round_at (mode_at t m) j)) slot_spot.1
              ∙ part.slot j k slot_carried.0 slot_spot.2
              ∙ ap (λ (z : ℕ). cond (is_own p v z) (Some (as_kept k (get_or table k 0) z)) None) in_slot
              ∙ ap (λ (z : ℕ). cond own (Some (as_kept k z i)) None) slot_spot.3;
          message = λ e. ap (λ x. own_message x.messages number) in_mode ∙ part.message i slot_carried.1 e;
          other = λ e. ap (λ x. own_message x.messages number) in_mode
              ∙ part.no_message number (λ x l own same. let q : true ≡ false = sym own ∙ ap (is_own p v) (slot_right.valid.numbers x i l slot_carried.1 same) ∙ e in cc);
          placed_is = placed_alike r.opening s.hyper.opening (phase_known r) s.hyper.phase (is_own_slot p j i) (is_own_slot p j i) (same.0 ∙ sym like.opening) (known_drains r ∙ same.1 ∙ sym like.drains) refl;
          at_beacon = at.at_beacon ∙ eq-eqb (s.begin + (entry_at y s).tick) (Rattle.runtime_model.specs.History.moment y b) h.next;
          mode = mode;
        }

    -- ---- what is sent

    -- the out registers of the producers
    registers_are : (g : RegistersSeen) → KeepsRegisters p v s.stay ds g → nat_eq sender v ≡ true → values_of g (numbers p (message_at p.mode i).from) ≡ registers p s.stay i ds
    registers_are g keeps e =
        let from = (message_at p.mode i).from in
        ap all_present (map-map (out_of g) (λ a. (task_at p.mode a).number) from
        ∙ alike_mapped (λ a. out_of g (task_at p.mode a).number) (λ a. value_of (out_register p s.stay a ds)) from
        (λ a c.
        let b = slot_right.valid.consumer i slot_carried.1 in
        let edge = slot_right.valid.edges a b.0 (message_edge p.mode i a b.0 slot_carried.1 c b.1) in
        keeps.outs a (edge.from, slot_right.senders i a slot_carried.1 c ∙ eqb-true sender v e)))

    sent_by : (r : RunningNode) → KnowsSlot r → KeepsRegisters p v s.stay ds r.registers → synced v ds ≡ true → sent_in r (own_slot (round_of r) place) ≡ cond (nat_eq sender v) (packet_with number (packet p s j i ds)) None
    sent_by r knows keeps heard = ap (sent_in r) knows.slot ∙ by_own (is_own p v i) refl
      where
        of_place : (b : Bool) → placed s.hyper.opening s.hyper.phase (is_own_slot p j i) ≡ b → nat_eq sender v ≡ true →
            cond b (packet_of message_here (values_of r.registers (numbers p (message_at p.mode i).from))) None
            ≡ packet_with number (cond (b && synced sender ds) (held p s.stay i (window_at p s.turn j i) ds) None)
        of_place true e t =
            packet_by message_here (values_of r.registers (numbers p (message_at p.mode i).from))
            ∙ ap (packet_with number) (registers_are r.registers keeps t ∙ sym (packet_now e)
            ∙ sym (cond-true (synced sender ds) (held p s.stay i (window_at p s.turn j i) ds) None (ap (λ w. synced w ds) (eqb-true sender v t) ∙ heard)))
        of_place false e t = refl

        off : (b : Bool) → cond {A = Option Packet} b None None ≡ None
        off true = refl
        off false = refl

        by_sender : (b : Bool) → nat_eq sender v ≡ b →
            cond (placed s.hyper.opening s.hyper.phase (is_own_slot p j i)) (cond b (packet_of message_here (values_of r.registers (numbers p (message_at p.mode i).from))) None) None
            ≡ cond b (packet_with number (packet p s j i ds)) None
        by_sender true t = of_place (placed s.hyper.opening s.hyper.phase (is_own_slot p j i)) refl t
        by_sender false t = off (placed s.hyper.opening s.hyper.phase (is_own_slot p j i))

        by_own : (b : Bool) → is_own p v i ≡ b → sent_in r (cond b (Some slot_here) None) ≡ cond (nat_eq sender v) (packet_with number (packet p s j i ds)) None
        by_own true e =
            let values = values_of r.registers (numbers p (message_at p.mode i).from) in
            ap (λ b. cond b (packet_from r.registers (own_message (mode_of r).messages number)) None) knows.placed_is
            ∙ ap (λ o. cond (placed s.hyper.opening s.hyper.phase (is_own_slot p j i)) (packet_from r.registers o) None) (knows.message e)
            ∙ ap (λ b. cond (placed s.hyper.opening s.hyper.phase (is_own_slot p j i)) (cond b (packet_of message_here values) None) None) (sends_is (nat_eq sender v) (takes_on p i v))
            ∙ by_sender (nat_eq sender v) refl
        by_own false e = sym (cond-false (nat_eq sender v) (packet_with number (packet p s j i ds)) None (not_own (nat_eq sender v) (takes_on p i v) e).0)

    -- the sender sends the packet of the slot, if there is one, and nobody else sends anything
    pub sent_is : (n : State) → EntryNode y v ds n → sent_now n place ≡ cond (nat_eq sender v) (packet_with number (packet p s j i ds)) None
    sent_is (Listens t) at = sym (no_packet v (listens_unheard (synced v ds) (settled v ds) (coasts v ds) at.kind))
    sent_is (Syncs r) at = sent_by r (knows_slot r at.table (at.place r refl)) at.registers (synced_heard (announced r) (synced v ds) (settled v ds) (coasts v ds) at.kind)
    sent_is (Coasts r) at = sym (no_packet v (coasts_unheard (synced v ds) (settled v ds) (coasts v ds) at.kind))

    -- ---- who takes it

    -- the message of the slot, for the node
    pub slot_message : (r : RunningNode) → KnowsSlot r → message_of_slot r place ≡ cond (is_own p v i) (Some message_here) None
    slot_message r knows = ap (message_in (mode_of r)) knows.slot ∙ by_own (is_own p v i) refl
      where
        by_own : (b : Bool) → is_own p v i ≡ b → message_in (mode_of r) (cond b (Some slot_here) None) ≡ cond b (Some message_here) None
        by_own true e = knows.message e
        by_own false e = refl

    -- the window of the slot
    abbrev window : ℕ
    window = window_at p s.turn j i

    -- at a placed slot the in register of each consumer has what the node took in the window
    register_is : (g : RegistersSeen) → KeepsRegisters p v s.stay ds g → Once (message_at p.mode i).to → placed s.hyper.opening s.hyper.phase (is_own_slot p j i) ≡ true →
        (c : ℕ) → c < length (consumers_on p v i) → register_at g.ins message_here c ≡ recall v s.stay (took v i window) ds
    register_is g keeps once pl c l =
        let xs = consumers_on p v i in
        let b = get_or xs c 0 in
        let on = λ (a : ℕ). nat_eq (node_of p a) v in
        let to = All-contains (Contains (message_at p.mode i).to) xs b (All-filter on (Contains (message_at p.mode i).to) (message_at p.mode i).to (λ k d l. Contains-get_or (message_at p.mode i).to k d l)) (Contains-get_or xs c 0 l) in
        let on_v : node_of p b ≡ v = eqb-true (node_of p b) v (All-contains (λ a. on a ≡ true) xs b (filter_passes on (message_at p.mode i).to) (Contains-get_or xs c 0 l)) in
        let from = slot_right.valid.producer i slot_carried.1 in
        let known = (slot_right.valid.edges from.0 b (message_edge p.mode i from.0 b slot_carried.1 from.1 to)).to in
        let f = part.consumer i b slot_carried.1 to on_v in
        let same : f.0 ≡ c = once_left on (message_at p.mode i).to once f.0 c f.1 l f.2 in
        ap (register_at g.ins message_here) (sym same)
        ∙ sym (ap (register_in g.ins message_here) f.3)
        ∙ keeps.ins b i (known, on_v) slot_carried.1 to
        ∙ sym (inputs_hold_at_slots y es j i b slot_right slot_carried to act pl)
        ∙ ap (λ w. recall w s.stay (took w i window) ds) on_v

    -- so a node with a consumer passes over the slot's copy where it has one of the window
    passed_over : (g : RegistersSeen) → KeepsRegisters p v s.stay ds g → Once (message_at p.mode i).to → placed s.hyper.opening s.hyper.phase (is_own_slot p j i) ≡ true →
        is_taken message_here ≡ true → (nat_lt 1 (copy_at p j i) && all_full g.ins message_here) ≡ has_copy s.stay i window ds v
    passed_over g keeps once pl some = by_copy (nat_lt 1 (copy_at p j i)) refl
      where
        by_copy : (b : Bool) → nat_lt 1 (copy_at p j i) ≡ b → (b && all_full g.ins message_here) ≡ has_copy s.stay i window ds v
        by_copy true e =
            all_alike (λ c. is_some (register_at g.ins message_here c)) (has_copy s.stay i window ds v) (length message_here.consumers) (ltb-true 0 (length message_here.consumers) some)
            (λ c l. ap is_some (register_is g keeps once pl c (omega (arith, l, length-map (consumers_on p v i) (λ a. (task_at p.mode a).number)))))
        by_copy false e =
            let counted = copies_are_numbered y.nodes p j i slot_right slot_carried in
            ap is_some (sym (first_copies_are_first y es j i v slot_right slot_carried act pl (first_of_all (copy_at p j i) e counted.0)))

    takes_copy_is : (g : RegistersSeen) → KeepsRegisters p v s.stay ds g → Once (message_at p.mode i).to → placed s.hyper.opening s.hyper.phase (is_own_slot p j i) ≡ true →
        takes_copy g (copy_at p j i) message_here ≡ (takes_on p i v && not (has_copy s.stay i window ds v))
    takes_copy_is g keeps once pl = by_taken (is_taken message_here) refl ∙ ap (λ b. b && not (has_copy s.stay i window ds v)) (taken_is p v i)
      where
        by_taken : (b : Bool) → is_taken message_here ≡ b → (b && not (nat_lt 1 (copy_at p j i) && all_full g.ins message_here)) ≡ (b && not (has_copy s.stay i window ds v))
        by_taken true e = ap not (passed_over g keeps once pl e)
        by_taken false e = refl

    received_is : (g : RegistersSeen) → KeepsRegisters p v s.stay ds g → Once (message_at p.mode i).to → placed s.hyper.opening s.hyper.phase (is_own_slot p j i) ≡ true →
        is_received g (copy_in (cond (is_own p v i) (Some slot_here) None)) (cond (is_own p v i) (Some message_here) None) ≡ (takes_on p i v && not (has_copy s.stay i window ds v))
    received_is g keeps once pl = by_own (is_own p v i) refl
      where
        by_own : (b : Bool) → is_own p v i ≡ b → is_received g (copy_in (cond b (Some slot_here) None)) (cond b (Some message_here) None) ≡ (takes_on p i v && not (has_copy s.stay i window ds v))
        by_own true e = takes_copy_is g keeps once pl
        by_own false e = sym (ap (λ b. b && not (has_copy s.stay i window ds v)) (not_own (nat_eq sender v) (takes_on p i v) e).1)

    -- where the slot is placed, a node takes the packet where a consumer of its message is on it, it heard the last beacon and it has no earlier copy
    pub takes_is : (n : State) → EntryNode y v ds n → Once (message_at p.mode i).to → placed s.hyper.opening s.hyper.phase (is_own_slot p j i) ≡ true →
        takes_now n place ≡ (takes_on p i v && (synced v ds && not (has_copy s.stay i window ds v)))
    takes_is (Listens t) at once pl = sym (unheard (takes_on p i v) (synced v ds) (not (has_copy s.stay i window ds v)) (listens_unheard (synced v ds) (settled v ds) (coasts v ds) at.kind))
    takes_is (Syncs r) at once pl =
        let knows = knows_slot r at.table (at.place r refl) in
        ap (λ o. is_received r.registers (copy_in o) (message_of_slot r place)) knows.slot
        ∙ ap (is_received r.registers (copy_in (cond (is_own p v i) (Some slot_here) None))) (slot_message r knows)
        ∙ received_is r.registers at.registers once pl
        ∙ heard (takes_on p i v) (synced v ds) (not (has_copy s.stay i window ds v)) (synced_heard (announced r) (synced v ds) (settled v ds) (coasts v ds) at.kind)
      where
        heard : (a b c : Bool) → b ≡ true → (a && c) ≡ (a && (b && c))
        heard a true c e = refl
        heard a false c e = absurd cc
    takes_is (Coasts r) at once pl = sym (unheard (takes_on p i v) (synced v ds) (not (has_copy s.stay i window ds v)) (coasts_unheard (synced v ds) (settled v ds) (coasts v ds) at.kind))
