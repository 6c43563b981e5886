-- What the calls do to each register
use Rattle.std.proofs.Common.{◌≡◌, ◌≢◌, ℕ, zero, suc, ◌<◌, Bool, true, false, cond, ◌&&◌, nat_eq, List, [], ◌∷◌, length, get_or, set, fold, replicate, All, Option, Some, None, is_some, ℤ, refl, ap, sym, ◌∙◌, subst, arith}
use Rattle.std.specs.List.{AllByRecursion, AllPairs}
use Rattle.std.proofs.lemmas.Bool.{eqb-true}
use Rattle.std.proofs.lemmas.Bool.Decides.{nat_tests}
use Rattle.std.proofs.lemmas.List.{get_or-set_same, get_or-set_other, get_or-replicate}
use Rattle.std.proofs.lemmas.List.Elements.{All-from_recursion, recursion_from_All}
use Rattle.std.proofs.lemmas.List.Quantifiers.{position-Some}
use Rattle.std.proofs.lemmas.Option.{same_Some}
use Rattle.node_tables.specs.declared.tables.OwnMessage.{OwnMessage}
use Rattle.node_core.specs.declared.packet.Packet.{Packet}
use Rattle.node_core.specs.Lookup.{consumer_place, own_message, own_slot}
use Rattle.node_core.specs.Registers.{InRow, RegistersSeen, row_of, register_in, register_of, emptied_at, emptied_for, filled, begun, out_of, ended_with}
use Rattle.node_core.specs.Running.{RunningNode, mode_of, round_of}
use Rattle.node_core.specs.Fits.{IsBefore, MessageFits, NodeFits}
use Rattle.node_core.specs.Rules.{copy_of_slot, message_of_slot, is_received, takes, registers_with, received, starts, started, end_answer}
use Rattle.node_core.specs.Laws.{consumes, RegistersByRules}
use Rattle.node_core.proofs.NodeLemmas.{mode_fits}
use Rattle.node_core.proofs.SearchLemmas.{later, rest_ascends, each_is_found}
use Rattle.node_core.proofs.RegisterLemmas.{length-emptied_at}
use Rattle.node_core.proofs.MessageLemmas.{same_message, slot_message_fits, slot_message_found}

-- ---- a list that was written

differs : (a b : ℕ) → nat_eq a b ≡ false → a ≢ b
differs a b e = grind (arith, nat_tests)

read_by : {X : Type 0} (xs : List X) (i j : ℕ) (v d : X) (test : Bool) → nat_eq j i ≡ test → i < length xs → get_or (set xs i v) j d ≡ cond test v (get_or xs j d)
read_by xs i j v d true e l = subst (λ (k : ℕ). get_or (set xs i v) k d ≡ v) (sym (eqb-true j i e)) (get_or-set_same xs i v d l)
read_by xs i j v d false e l = get_or-set_other xs i j v d (differs j i e)

-- what is read after a write
pub read_written : {X : Type 0} (xs : List X) (i j : ℕ) (v d : X) → i < length xs → get_or (set xs i v) j d ≡ cond (nat_eq j i) v (get_or xs j d)
read_written xs i j v d l = read_by xs i j v d (nat_eq j i) refl l

empty_there : {X : Type 0} (xs : List (Option X)) (i : ℕ) → get_or (set xs i None) i None ≡ None
empty_there [] i = refl
empty_there (x ∷ xs) zero = refl
empty_there (x ∷ xs) (suc i) = empty_there xs i

emptied_by : {X : Type 0} (xs : List (Option X)) (i j : ℕ) (test : Bool) → nat_eq j i ≡ test → get_or (set xs i None) j None ≡ cond test None (get_or xs j None)
emptied_by {X} xs i j true e = subst (λ (k : ℕ). ◌≡◌ {A = Option X} (get_or (set xs i None) k None) None) (sym (eqb-true j i e)) (empty_there xs i)
emptied_by xs i j false e = get_or-set_other xs i j None None (differs j i e)

-- ---- ends

pub ended_outs : (n : RunningNode) (task : ℕ) (value : ℤ) (o : Option ℤ) → NodeFits n → task < 1024 → o ≡ Some value → (a : ℕ) → out_of (ended_with task o n.registers) a ≡ cond (nat_eq a task) (Some value) (out_of n.registers a)
ended_outs n task value o fits l e a =
    ap (λ (r : Option ℤ). out_of (ended_with task r n.registers) a) e
    ∙ read_written n.registers.outs task a (Some value) None (omega (arith, l, fits.room.outs))

-- ---- starts

either_none : {X : Type 0} (test : Bool) → ◌≡◌ {A = Option X} None (cond test None None)
either_none true = refl
either_none false = refl

-- the consumer at a place is the one that was sought
at_place : (task : ℕ) (m : OwnMessage) (c : ℕ) → consumer_place task m ≡ Some c → (c < length m.consumers) × (task ≡ get_or m.consumers c 0)
at_place task m c e = let h = position-Some (nat_eq task) m.consumers c 0 e in (h.0, eqb-true task (get_or m.consumers c 0) h.1)

alike : (t u : Bool) (b task c d : ℕ) → nat_eq c d ≡ t → nat_eq b task ≡ u → (c ≡ d → b ≡ task) → (b ≡ task → c ≡ d) → t ≡ u
alike true true b task c d e f up down = refl
alike false false b task c d e f up down = refl
alike true false b task c d e f up down = absurd (differs b task f (up (eqb-true c d e)))
alike false true b task c d e f up down = absurd (differs c d e (down (eqb-true b task f)))

-- two tasks are one where their places are
places_alike : (b task : ℕ) (m : OwnMessage) (c d : ℕ) → consumer_place b m ≡ Some c → consumer_place task m ≡ Some d → nat_eq c d ≡ nat_eq b task
places_alike b task m c d e f = alike (nat_eq c d) (nat_eq b task) b task c d refl refl
    (λ same. (at_place b m c e).1 ∙ (ap (λ (k : ℕ). get_or m.consumers k 0) same ∙ sym (at_place task m d f).1))
    (λ same. same_Some c d (sym e ∙ (ap (λ (k : ℕ). consumer_place k m) same ∙ f)))

no_place_alike : (u : Bool) (b task : ℕ) (m : OwnMessage) (c : ℕ) → consumer_place b m ≡ Some c → consumer_place task m ≡ None → nat_eq b task ≡ u → u ≡ false
no_place_alike false b task m c e f g = refl
no_place_alike true b task m c e f g = absurd (none_some c (sym f ∙ (ap (λ (k : ℕ). consumer_place k m) (sym (eqb-true b task g)) ∙ e)))
  where
    none_some : (x : ℕ) → ◌≡◌ {A = Option ℕ} None (Some x) → ⊥
    none_some x e = cc

-- the register of a message after it was taken for a task
taken_register : (ins : List InRow) (m : OwnMessage) (task b : ℕ) (o p : Option ℕ) → m.number < length ins → consumer_place task m ≡ o → consumer_place b m ≡ p → register_in (emptied_at ins m o) m p ≡ cond (nat_eq b task) None (register_in ins m p)
taken_register ins m task b o None l e f = either_none (nat_eq b task)
taken_register ins m task b None (Some c) l e f = ap (λ (t : Bool). cond t None (register_in ins m (Some c))) (sym (no_place_alike (nat_eq b task) b task m c f e refl))
taken_register ins m task b (Some d) (Some c) l e f =
    ap (λ (row : InRow). get_or row c None) (get_or-set_same ins m.number (set (row_of ins m.number) d None) [] l)
    ∙ (emptied_by (row_of ins m.number) d c (nat_eq c d) refl
    ∙ ap (λ (t : Bool). cond t None (get_or (row_of ins m.number) c None)) (places_alike b task m c d f e))

-- the registers of another message stay
other_row : (ins : List InRow) (i j : ℕ) (row : InRow) → j ≢ i → row_of (set ins i row) j ≡ row_of ins j
other_row ins i j row differ = get_or-set_other ins i j row [] differ

by_row : (ins more : List InRow) (x : OwnMessage) (p : Option ℕ) → row_of more x.number ≡ row_of ins x.number → register_in more x p ≡ register_in ins x p
by_row ins more x None e = refl
by_row ins more x (Some c) e = ap (λ (row : InRow). get_or row c None) e

row_left : (ins : List InRow) (m x : OwnMessage) (o : Option ℕ) → x.number ≢ m.number → row_of (emptied_at ins m o) x.number ≡ row_of ins x.number
row_left ins m x None differ = refl
row_left ins m x (Some d) differ = other_row ins m.number x.number (set (row_of ins m.number) d None) differ

other_register : (ins : List InRow) (task b : ℕ) (m x : OwnMessage) → x.number ≢ m.number → register_of (emptied_for task ins m) b x ≡ register_of ins b x
other_register ins task b m x differ = by_row ins (emptied_for task ins m) x (consumer_place b x) (row_left ins m x (consumer_place task m) differ)

lower : (a b : ℕ) → a < b → a ≢ b
lower a b l e = absurd (omega (arith, l, e))

higher : (a b : ℕ) → a < b → b ≢ a
higher a b l e = absurd (omega (arith, l, e))

-- later messages leave the registers of a message
later_leave : (task b : ℕ) (x : OwnMessage) (ins : List InRow) (messages : List OwnMessage) → AllByRecursion (IsBefore x) messages → register_of (fold (emptied_for task) ins messages) b x ≡ register_of ins b x
later_leave task b x ins [] l = refl
later_leave task b x ins (m ∷ messages) l = later_leave task b x (emptied_for task ins m) messages l.1 ∙ other_register ins task b m x (lower x.number m.number l.0)

-- what a step says of the registers after it, said of those before it
before_step : (task b : ℕ) (ins all : List InRow) (m : OwnMessage) (messages : List OwnMessage) → AllByRecursion (IsBefore m) messages
    → AllByRecursion (λ x. register_of all b x ≡ cond (nat_eq b task) None (register_of (emptied_for task ins m) b x)) messages
    → AllByRecursion (λ x. register_of all b x ≡ cond (nat_eq b task) None (register_of ins b x)) messages
before_step task b ins all m [] l h = tt
before_step task b ins all m (x ∷ messages) l h =
    (h.0 ∙ ap (λ (r : Option (List ℤ)). cond (nat_eq b task) None r) (other_register ins task b m x (higher m.number x.number l.0)), before_step task b ins all m messages l.1 h.1)

has_rows : (ins : List InRow) (task : ℕ) (m : OwnMessage) (messages : List OwnMessage) → AllByRecursion (λ x. x.number < length ins) messages → AllByRecursion (λ x. x.number < length (emptied_for task ins m)) messages
has_rows ins task m messages l = subst (λ (k : ℕ). AllByRecursion (λ x. x.number < k) messages) (sym (length-emptied_at ins m (consumer_place task m))) l

-- a start empties the registers of its task, and no other
pub taken_registers : (task b : ℕ) (ins : List InRow) (messages : List OwnMessage) → AllPairs IsBefore messages → AllByRecursion (λ x. x.number < length ins) messages
    → AllByRecursion (λ x. register_of (fold (emptied_for task) ins messages) b x ≡ cond (nat_eq b task) None (register_of ins b x)) messages
taken_registers task b ins [] up l = tt
taken_registers task b ins (m ∷ messages) up l =
    let rest = later (λ (y : OwnMessage). y.number) m messages up in
    let next = emptied_for task ins m in (
      later_leave task b m next messages rest ∙ taken_register ins m task b (consumer_place task m) (consumer_place b m) l.0 refl refl,
      before_step task b ins (fold (emptied_for task) next messages) m messages rest
          (taken_registers task b next messages (rest_ascends (λ (y : OwnMessage). y.number) m messages up) (has_rows ins task m messages l.1)),
    )

-- ---- packets

-- the register of a consumer after a packet of its message
full_register : (ins : List InRow) (m : OwnMessage) (values : List ℤ) (b : ℕ) (p : Option ℕ) → m.number < length ins → consumer_place b m ≡ p
    → register_in (set ins m.number (replicate (length m.consumers) (Some values))) m p ≡ cond (is_some p) (Some values) (register_in ins m p)
full_register ins m values b None l e = refl
full_register ins m values b (Some c) l e =
    ap (λ (row : InRow). get_or row c None) (get_or-set_same ins m.number (replicate (length m.consumers) (Some values)) [] l)
    ∙ get_or-replicate (length m.consumers) c (Some values) None (at_place b m c e).0

filled_register : (all : List OwnMessage) (ins : List InRow) (m x : OwnMessage) (values : List ℤ) (b : ℕ) (test : Bool) → nat_eq x.number m.number ≡ test → m.number < length ins
    → own_message all m.number ≡ Some m → own_message all x.number ≡ Some x
    → register_of (set ins m.number (replicate (length m.consumers) (Some values))) b x ≡ cond (test && consumes b x) (Some values) (register_of ins b x)
filled_register all ins m x values b true e l found known =
    subst (λ (y : OwnMessage). register_of (set ins m.number (replicate (length m.consumers) (Some values))) b y ≡ cond (true && consumes b y) (Some values) (register_of ins b y))
    (same_message all m x found known (sym (eqb-true x.number m.number e)))
    (full_register ins m values b (consumer_place b m) l refl)
filled_register all ins m x values b false e l found known =
    by_row ins (set ins m.number (replicate (length m.consumers) (Some values))) x (consumer_place b x) (other_row ins m.number x.number (replicate (length m.consumers) (Some values)) (differs x.number m.number e))

filled_each : (all : List OwnMessage) (ins : List InRow) (m : OwnMessage) (values : List ℤ) (b : ℕ) (messages : List OwnMessage) → m.number < length ins → own_message all m.number ≡ Some m
    → AllByRecursion (λ x. own_message all x.number ≡ Some x) messages
    → AllByRecursion (λ x. register_of (set ins m.number (replicate (length m.consumers) (Some values))) b x ≡ cond (nat_eq x.number m.number && consumes b x) (Some values) (register_of ins b x)) messages
filled_each all ins m values b [] l found known = tt
filled_each all ins m values b (x ∷ messages) l found known = (filled_register all ins m x values b (nat_eq x.number m.number) refl l found known.0, filled_each all ins m values b messages l found known.1)

-- ---- the law

-- the registers of a node after a packet
received_registers : (n : RunningNode) (slot : ℕ) (packet : Packet) (m : OwnMessage) → message_of_slot n slot ≡ Some m → takes n slot ≡ true → (received n slot packet).registers ≡ filled m packet.values n.registers
received_registers n slot packet m e taken =
    ap (λ (o : Option OwnMessage). registers_with (copy_of_slot n slot) o packet n.registers) e
    ∙ ap (λ (t : Bool). cond t (filled m packet.values n.registers) n.registers) (sym (ap (is_received n.registers (copy_of_slot n slot)) e) ∙ taken)

receiving : (n : RunningNode) (slot : ℕ) (packet : Packet) (m : OwnMessage) → NodeFits n → message_of_slot n slot ≡ Some m → takes n slot ≡ true
    → (b : ℕ) → All (λ x. register_of (received n slot packet).registers.ins b x ≡ cond (nat_eq x.number m.number && consumes b x) (Some packet.values) (register_of n.registers.ins b x)) (mode_of n).messages
receiving n slot packet m fits e taken b =
    let messages = (mode_of n).messages in
    let modes = mode_fits n.table fits.table n.mode fits.spot.mode_known in
    let number = (slot_message_fits n.table fits.table n.mode fits.spot.mode_known (mode_of n) refl (own_slot (round_of n) slot) m e).number in
    let room : m.number < length n.registers.ins = omega (arith, number, fits.room.rows) in
    let each = filled_each messages n.registers.ins m packet.values b messages room (slot_message_found (mode_of n) (own_slot (round_of n) slot) m e) (each_is_found (λ (y : OwnMessage). y.number) messages modes.ascending) in
    subst (λ (g : RegistersSeen). All (λ x. register_of g.ins b x ≡ cond (nat_eq x.number m.number && consumes b x) (Some packet.values) (register_of n.registers.ins b x)) messages)
    (sym (received_registers n slot packet m e taken))
    (All-from_recursion (λ x. register_of (set n.registers.ins m.number (replicate (length m.consumers) (Some packet.values))) b x ≡ cond (nat_eq x.number m.number && consumes b x) (Some packet.values) (register_of n.registers.ins b x)) messages each)

numbers_fit : (messages : List OwnMessage) (rows : ℕ) → rows ≡ 512 → AllByRecursion MessageFits messages → AllByRecursion (λ x. x.number < rows) messages
numbers_fit [] rows e fits = tt
numbers_fit (m ∷ messages) rows e fits = let number = fits.0.number in (omega (arith, number, e), numbers_fit messages rows e fits.1)

starting : (n : RunningNode) (task : ℕ) (value : ℤ) → NodeFits n → starts n task ≡ true
    → (b : ℕ) → All (λ x. register_of (started n task value).registers.ins b x ≡ cond (nat_eq b task) None (register_of n.registers.ins b x)) (mode_of n).messages
starting n task value fits performed b =
    let messages = (mode_of n).messages in
    let modes = mode_fits n.table fits.table n.mode fits.spot.mode_known in
    let rows = numbers_fit messages (length n.registers.ins) fits.room.rows (recursion_from_All MessageFits messages modes.messages) in
    let each = taken_registers task b n.registers.ins messages modes.ascending rows in
    subst (λ (t : Bool). All (λ x. register_of (cond t (record n { registers = begun task value messages n.registers }) n).registers.ins b x ≡ cond (nat_eq b task) None (register_of n.registers.ins b x)) messages)
    (sym performed)
    (All-from_recursion (λ x. register_of (fold (emptied_for task) n.registers.ins messages) b x ≡ cond (nat_eq b task) None (register_of n.registers.ins b x)) messages each)

pub registers_by_rules : RegistersByRules
registers_by_rules = record {
  ending = λ n task value fits l e. ended_outs n task value (end_answer n task) fits l e;
  receiving = receiving;
  starting = starting;
}
