-- Own messages and their in registers
use Rattle.std.proofs.Common.{◌≡◌, ℕ, zero, suc, ◌<◌, Bool, true, false, cond, nat_eq, List, [], ◌∷◌, length, set, replicate, Option, Some, None, IfSome, ℤ, refl, ap, sym, ◌∙◌, subst, arith}
use Rattle.std.specs.List.{find, AllByRecursion}
use Rattle.std.proofs.lemmas.Bool.{eqb-true}
use Rattle.std.proofs.lemmas.List.{get_or-replicate, length-replicate}
use Rattle.std.proofs.lemmas.List.Elements.{recursion_from_All}
use Rattle.std.proofs.lemmas.Option.{same_Some}
use Rattle.node_tables.specs.declared.tables.NodeTable.{NodeTable}
use Rattle.node_tables.specs.declared.tables.ModeTable.{ModeTable}
use Rattle.node_tables.specs.declared.tables.OwnMessage.{OwnMessage}
use Rattle.node_tables.specs.declared.tables.OwnSlot.{OwnSlot}
use Rattle.node_core.specs.declared.packet.Packet.{Packet}
use Rattle.node_core.specs.Lookup.{mode_at, own_message, own_slot}
use Rattle.node_core.specs.Registers.{InRow, RegistersSeen, filled, row_of}
use Rattle.node_core.specs.Running.{RunningNode, mode_of, round_of}
use Rattle.node_core.specs.Rules.{message_in}
use Rattle.node_core.specs.Conditions.{HasValues, IsOfSlot, MayReceive}
use Rattle.node_core.specs.Fits.{TableFits, MessageFits, RowFits, InsFit, NodeFits}
use Rattle.node_core.proofs.NodeLemmas.{mode_fits}

-- ---- what is found in a list

found_in : {X : Type 0} (p : X → Bool) (P : X → Type 0) (b : Bool) (y : X) (ys : List X) (x : X) → cond b (Some y) (find p ys) ≡ Some x → P y → (find p ys ≡ Some x → P x) → P x
found_in p P true y ys x e h rest = subst P (same_Some y x e) h
found_in p P false y ys x e h rest = rest e

-- what is found is as all of the list are
pub found_is : {X : Type 0} (p : X → Bool) (P : X → Type 0) (xs : List X) (x : X) → AllByRecursion P xs → find p xs ≡ Some x → P x
found_is p P [] x a e = absurd cc
found_is p P (y ∷ ys) x a e = found_in p P (p y) y ys x e a.0 (found_is p P ys x a.1)

passes_in : {X : Type 0} (p : X → Bool) (b : Bool) (y : X) (ys : List X) (x : X) → p y ≡ b → cond b (Some y) (find p ys) ≡ Some x → (find p ys ≡ Some x → p x ≡ true) → p x ≡ true
passes_in p true y ys x t e rest = subst (λ z. p z ≡ true) (same_Some y x e) t
passes_in p false y ys x t e rest = rest e

-- what is found passes the test
pub found_passes : {X : Type 0} (p : X → Bool) (xs : List X) (x : X) → find p xs ≡ Some x → p x ≡ true
found_passes p [] x e = absurd cc
found_passes p (y ∷ ys) x e = passes_in p (p y) y ys x refl e (found_passes p ys x)

-- ---- own messages

-- a message that is found has the number
pub number_found : (messages : List OwnMessage) (number : ℕ) (m : OwnMessage) → own_message messages number ≡ Some m → m.number ≡ number
number_found messages number m e = eqb-true m.number number (found_passes (λ (x : OwnMessage). nat_eq x.number number) messages m e)

-- and its numbers fit
pub message_fits : (t : NodeTable) → TableFits t → (i : ℕ) → i < length t.modes → (mode : ModeTable) → mode ≡ mode_at t i → (number : ℕ) (m : OwnMessage) → own_message mode.messages number ≡ Some m → MessageFits m
message_fits t fits i l mode is number m e =
    found_is (λ (x : OwnMessage). nat_eq x.number number) MessageFits (mode_at t i).messages m
    (recursion_from_All MessageFits (mode_at t i).messages (mode_fits t fits i l).messages)
    (subst (λ (y : ModeTable). own_message y.messages number ≡ Some m) is e)

-- so do those of the message of a slot
pub slot_message_fits : (t : NodeTable) → TableFits t → (i : ℕ) → i < length t.modes → (mode : ModeTable) → mode ≡ mode_at t i → (o : Option OwnSlot) (m : OwnMessage) → message_in mode o ≡ Some m → MessageFits m
slot_message_fits t fits i l mode is None m e = absurd cc
slot_message_fits t fits i l mode is (Some s) m e = message_fits t fits i l mode is s.message m e

-- ---- in registers

-- what holds of a row after another was written
pub row_written : (P : InRow → Type 0) (ins : List InRow) (i j : ℕ) (row : InRow) → (i ≡ j → P row) → P (row_of ins j) → P [] → P (row_of (set ins i row) j)
row_written P [] i j row new old none = none
row_written P (r ∷ rs) zero zero row new old none = new refl
row_written P (r ∷ rs) zero (suc j) row new old none = old
row_written P (r ∷ rs) (suc i) zero row new old none = old
row_written P (r ∷ rs) (suc i) (suc j) row new old none = row_written P rs i j row (λ e. new (ap suc e)) old none

pub no_row_fits : (n : ℕ) → RowFits n []
no_row_fits n k d l = absurd (omega (arith, l))

full_row_fits : (n k : ℕ) (values : List ℤ) → length values ≡ n → RowFits n (replicate k (Some values))
full_row_fits n k values e i d l =
    subst (λ (r : Option (List ℤ)). IfSome r (λ xs. length xs ≡ n)) (sym (get_or-replicate k i (Some values) d (omega (arith, l, length-replicate {A = Option (List ℤ)} k (Some values))))) e

-- messages that are found by one number are one
pub same_message : (messages : List OwnMessage) (m x : OwnMessage) → own_message messages m.number ≡ Some m → own_message messages x.number ≡ Some x → m.number ≡ x.number → m ≡ x
same_message messages m x e f same = same_Some m x (sym e ∙ (ap (λ (n : ℕ). own_message messages n) same ∙ f))

-- registers fit after a packet of a message with one value per producer
pub filled_fits : (messages : List OwnMessage) (g : RegistersSeen) (m : OwnMessage) (values : List ℤ) → InsFit messages g.ins → own_message messages m.number ≡ Some m → length values ≡ length m.producers → InsFit messages (filled m values g).ins
filled_fits messages g m values fits found count x e =
    row_written (RowFits (length x.producers)) g.ins m.number x.number (replicate (length m.consumers) (Some values))
    (λ same. subst (λ (y : OwnMessage). RowFits (length y.producers) (replicate (length m.consumers) (Some values))) (same_message messages m x found e same) (full_row_fits (length m.producers) (length m.consumers) values count))
    (fits x e)
    (no_row_fits (length x.producers))

-- a packet of an own slot has one value per producer
values_fit : (n : RunningNode) (o : Option OwnSlot) (packet : Packet) (m : OwnMessage) → IsOfSlot n o packet → HasValues n packet → message_in (mode_of n) o ≡ Some m → length packet.values ≡ length m.producers
values_fit n None packet m same values e = absurd cc
values_fit n (Some s) packet m same values e =
    let e' : own_message (mode_of n).messages packet.message ≡ Some m = subst (λ (k : ℕ). own_message (mode_of n).messages k ≡ Some m) same e in
    subst (λ (r : Option OwnMessage). IfSome r (λ y. length packet.values ≡ length y.producers)) e' values

-- the message of a slot is the one that its number finds
pub slot_message_found : (mode : ModeTable) (o : Option OwnSlot) (m : OwnMessage) → message_in mode o ≡ Some m → own_message mode.messages m.number ≡ Some m
slot_message_found mode None m e = absurd cc
slot_message_found mode (Some s) m e = ap (λ (k : ℕ). own_message mode.messages k) (number_found mode.messages s.message m e) ∙ e

-- the registers of a node fit after the packet of a slot
pub received_fits : (n : RunningNode) (slot : ℕ) (packet : Packet) (m : OwnMessage) → NodeFits n → MayReceive n slot packet → message_in (mode_of n) (own_slot (round_of n) slot) ≡ Some m → InsFit (mode_of n).messages (filled m packet.values n.registers).ins
received_fits n slot packet m fits may e =
    filled_fits (mode_of n).messages n.registers m packet.values fits.ins
    (slot_message_found (mode_of n) (own_slot (round_of n) slot) m e)
    (values_fit n (own_slot (round_of n) slot) packet m may.same may.values e)
