-- A world after a slot
use Rattle.std.proofs.Common.{◌≡◌, ℕ, zero, suc, ◌<◌, Bool, true, false, cond, not, ◌&&◌, ◌||◌, List, [], ◌∷◌, ◌++◌, length, get_or, refl, sym, ◌∙◌, ap, subst, arith, Contains, ℤ}
use Rattle.std.specs.Prelude.{nat_eq, Option, Some, None, is_some}
use Rattle.std.specs.List.{filter}
use Rattle.std.proofs.lemmas.Bool.{eq-eqb}
use Rattle.std.proofs.lemmas.List.{length-map}
use Rattle.std.proofs.lemmas.List.Elements.{recursion_from_All, filter-append}
use Rattle.sched_model.specs.Numbers.{below}
use Rattle.sched_model.specs.PlainMode.{message_at}
use Rattle.sched_model.proofs.Graph.{message_edge}
use Rattle.sched_model.proofs.Lists.{get_or-map_below, length-below}
use Rattle.task_body.specs.Body.{BodySeen}
use Rattle.runtime_model.specs.Entries.{slot}
use Rattle.runtime_model.specs.Laws.{RequestsFit}
use Rattle.runtime_model.specs.LookingBack.{synced}
use Rattle.runtime_model.specs.Outcomes.{PlainEvent, advance, Step, Spot}
use Rattle.runtime_model.specs.Packets.{has_copy, packet, reached, takes, takes_on}
use Rattle.runtime_model.specs.NodeTables.{is_own, part_of}
use Rattle.runtime_model.specs.Placement.{window_at}
use Rattle.runtime_model.specs.Plans.{Plan, RightPlan, sender_of}
use Rattle.runtime_model.specs.Script.{opens_round}
use Rattle.runtime_model.specs.System.{System, plan_at}
use Rattle.runtime_model.specs.History.{history, step_of, spot_next, entry_at, sent_or_not}
use Rattle.node_tables.specs.declared.tables.OwnMessage.{OwnMessage}
use Rattle.node_tables.specs.Parts.{typed_table}
use Rattle.node_core.specs.declared.packet.Packet.{Packet}
use Rattle.node_core.specs.Fits.{MessageFits}
use Rattle.node_core.specs.Lookup.{mode_at}
use Rattle.node_core.specs.PartLookups.{kept_message}
use Rattle.node_core.proofs.MessageLemmas.{found_is}
use Rattle.node_core.proofs.NodeLemmas.{mode_fits}
use Rattle.world_core.specs.declared.cycle.Action.TheVariants.{Slot}
use Rattle.world_core.specs.declared.state.State.{State}
use Rattle.world_core.specs.Happened.{happened, told_at}
use Rattle.world_core.specs.NodeStates.{StateFits, after_packet, registers_of, sent_now, takes_now, no_state}
use Rattle.world_core.specs.Nodes.{at, all_given, sender_in, takers, AllMayReceive}
use Rattle.world_core.specs.Standing.{Stands, NodeStands}
use Rattle.world_core.specs.Worlds.{WorldSeen}
use Rattle.world_core.specs.WorldSteps.{MayGive, MayPerform, after_slot, packet_from, performed, slot_told, told}
use Rattle.world_core.proofs.Arriving.{entered, some_mode}
use Rattle.world_core.proofs.BeaconEntries.{own_modes}
use Rattle.world_core.proofs.Consumers.{Once}
use Rattle.world_core.proofs.EndWorlds.{both_kept, fits_where}
use Rattle.world_core.proofs.EntryWorlds.{nodes_there, entry_node, entry_fits, part_fits, finds, quiet_stands}
use Rattle.world_core.proofs.KeptPlaces.{kept_place, may_use_slot, with_registers, same_itself, same_packet, same_where}
use Rattle.world_core.proofs.NodeLimits.{has_room, packet_fits}
use Rattle.world_core.proofs.NodeLoops.{first_sends, none_sends}
use Rattle.world_core.proofs.PacketSteps.{may_receive, packet_ins, sent_placed, silent_ins, slot_out}
use Rattle.world_core.proofs.RunSteps.{after_packet_runs, runs_kept, slot_runs}
use Rattle.world_core.proofs.SlotSteps.{packet_with, place, sent_is, slot_carried, slot_right, takes_is}
use Rattle.world_core.proofs.WorldRight.{RightWorld}

-- two tests that agree below n keep the same
pub same_kept : (f g : ℕ → Bool) (n : ℕ) → ((v : ℕ) → v < n → f v ≡ g v) → filter f (below n) ≡ filter g (below n)
same_kept f g zero h = refl
same_kept f g (suc n) h =
    filter-append f (below n) (n ∷ [])
    ∙ ap (λ (l : List ℕ). l ++ cond (f n) (n ∷ []) []) (same_kept f g n (λ v l. h v (omega (arith, l))))
    ∙ ap (λ (b : Bool). filter g (below n) ++ cond b (n ∷ []) []) (h n (omega arith))
    ∙ sym (filter-append g (below n) (n ∷ []))

first_of_some : (xs : List ℕ) (a : ℕ) → Contains xs a → Contains xs (get_or xs 0 0)
first_of_some [] a c = absurd (omega (arith, c.1))
first_of_some (x ∷ xs) a c = (0, omega arith, refl)

-- the node with the producers of a message is one of the system's
pub sender_known : (nodes : ℕ) (p : Plan) (i : ℕ) → RightPlan nodes p → i < length p.mode.messages → sender_of p i < nodes
sender_known nodes p i ok l =
    let a = ok.valid.producer i l in
    let b = ok.valid.consumer i l in
    let from = (message_at p.mode i).from in
    ok.node (get_or from 0 0) (ok.valid.edges (get_or from 0 0) b.0 (message_edge p.mode i (get_or from 0 0) b.0 l (first_of_some from a.0 a.1) b.1)).from

is_other : (a u : ℕ) → u < a → nat_eq a u ≡ false
is_other a u l = grind (arith, l)

own_sender : (a : ℕ) (b : Bool) → (nat_eq a a || b) ≡ true
own_sender a b = ap (λ c. c || b) (eq-eqb a a refl)

either_order : (r t s q : Bool) → (r && (t && (s && q))) ≡ (t && (s && (r && q)))
either_order true t s q = refl
either_order false true true q = refl
either_order false true false q = refl
either_order false false s q = refl

module _ (y : System) (w : RightWorld y) (es : List PlainEvent) (rf : RequestsFit y es) (lost : ℕ) (x : WorldSeen) (st : Stands y x (history y es))
    (j i : ℕ) (act : (entry_at y (spot_next y (history y es))).action ≡ slot j i) where
  abbrev ds : List Step
  ds = history y es

  abbrev s : Spot
  s = spot_next y ds

  abbrev p : Plan
  p = plan_at y s.hyper.mode

  abbrev d' : Step
  d' = step_of y (advance lost) ds

  abbrev here : WorldSeen
  here = entered y w es rf lost x st

  abbrev number : ℕ
  number = (message_at p.mode i).number

  abbrev sender : ℕ
  sender = sender_of p i

  abbrev slot_here : ℕ
  slot_here = place y w.plans es rf j i act

  abbrev of_values : List ℤ → Packet
  of_values xs = record { message = number; values = xs }

  -- which nodes take the packet
  abbrev taking : ℕ → Bool
  taking = takes p s.stay lost sender i (window_at p s.turn j i) ds

  -- no task consumes the message twice
  once : Once (message_at p.mode i).to
  once = w.consumers s.hyper.mode i (some_mode y w es rf lost) (slot_carried y w.plans es rf j i act).1

  quiet : opens_round (entry_at y s).action ≡ false
  quiet = ap opens_round act

  sender_on : sender < y.nodes
  sender_on = sender_known y.nodes p i (slot_right y w.plans es rf j i act) (slot_carried y w.plans es rf j i act).1

  small : number < 512
  small =
      let t = typed_table (part_of y.plans sender) in
      let m = s.hyper.mode in
      let part = finds y w es rf lost x st sender in
      let own : is_own p sender i ≡ true = own_sender sender (takes_on p i sender) in
      let known : m < length t.modes = omega (arith, own_modes y sender, some_mode y w es rf lost) in
      (found_is (λ (z : OwnMessage). nat_eq z.number number) MessageFits (mode_at t m).messages (kept_message p sender i)
      (recursion_from_All MessageFits (mode_at t m).messages (mode_fits t (part_fits y w es rf lost x st sender sender_on) m known).messages)
      (part.message i (slot_carried y w.plans es rf j i act).1 own)).number

  -- ---- who sends

  pub sends : (v : ℕ) → v < y.nodes → sent_now (at here.nodes v) slot_here ≡ cond (nat_eq sender v) (packet_with number (packet p s j i ds)) None
  sends v l = sent_is y w.plans es rf j i act v (finds y w es rf lost x st v) (at here.nodes v) (entry_node y w es rf lost x st v l)

  nobody : packet p s j i ds ≡ None → sender_in here.nodes slot_here ≡ None
  nobody e = none_sends (λ n. is_some (sent_now n slot_here)) here.nodes no_state (λ u l.
      ap is_some (sends u (omega (arith, l, nodes_there y w es rf lost x st)) ∙ ap (λ o. cond (nat_eq sender u) (packet_with number o) None) e) ∙ no_one (nat_eq sender u))
    where
      no_one : (b : Bool) → is_some (cond b (packet_with number None) None) ≡ false
      no_one true = refl
      no_one false = refl

  module _ (xs : List ℤ) (e : packet p s j i ds ≡ Some xs) where
    sends_it : sent_now (at here.nodes sender) slot_here ≡ Some (of_values xs)
    sends_it = sends sender sender_on ∙ ap (λ b. cond b (packet_with number (packet p s j i ds)) None) (eq-eqb sender sender refl) ∙ ap (packet_with number) e

    pub somebody : sender_in here.nodes slot_here ≡ Some sender
    somebody = first_sends (λ n. is_some (sent_now n slot_here)) here.nodes no_state sender (omega (arith, sender_on, nodes_there y w es rf lost x st))
        (λ u l. ap is_some (sends u (omega (arith, l, sender_on)) ∙ ap (λ b. cond b (packet_with number (packet p s j i ds)) None) (is_other sender u l)))
        (ap is_some sends_it)

    pub is_packet : packet_from here.nodes slot_here (sender_in here.nodes slot_here) ≡ Some (of_values xs)
    is_packet = ap (packet_from here.nodes slot_here) somebody ∙ sends_it

    -- ---- after a packet

    abbrev given : List State
    given = all_given here.nodes slot_here (of_values xs) lost sender

    given_at : (v : ℕ) → v < y.nodes → at given v ≡ cond (reached lost sender v) (after_packet (at here.nodes v) slot_here (of_values xs)) (at here.nodes v)
    given_at v l = get_or-map_below (λ v. cond (reached lost sender v) (after_packet (at here.nodes v) slot_here (of_values xs)) (at here.nodes v)) (length here.nodes) v no_state (omega (arith, l, nodes_there y w es rf lost x st))

    pub may_take : AllMayReceive here.nodes slot_here (of_values xs)
    may_take v l =
        let l' : v < y.nodes = omega (arith, l, nodes_there y w es rf lost x st) in
        let n = entry_node y w es rf lost x st v l' in
        may_receive y w.plans es rf j i act v (finds y w es rf lost x st v) (at here.nodes v) xs n (may_use_slot y w v es rf j i act (at here.nodes v) n) e

    node_gets : (v : ℕ) → v < y.nodes → NodeStands y v (d' ∷ ds) (cond (reached lost sender v) (after_packet (at here.nodes v) slot_here (of_values xs)) (at here.nodes v))
    node_gets v l =
        let n = at here.nodes v in
        let q = entry_node y w es rf lost x st v l in
        let m = cond (reached lost sender v) (after_packet n slot_here (of_values xs)) n in
        let same = runs_where (reached lost sender v) n in
        with_registers y v (d' ∷ ds) m
        (kept_place y w v es rf lost quiet n m q (same_where (reached lost sender v) n (after_packet n slot_here (of_values xs)) (same_packet n slot_here (of_values xs))))
        (both_kept p v s.stay (d' ∷ ds) (registers_of m)
        (slot_runs y ds lost v j i (registers_of n) (registers_of m) act same.0 same.1 (runs_kept p v s.stay ds (registers_of n) q.registers))
        (packet_ins y w.plans es rf j i act v (finds y w es rf lost x st v) n lost xs q once l (has_room n (entry_fits y w es rf lost x st v l)) small e))
      where
        runs_where : (b : Bool) (n : State) → let new = registers_of (cond b (after_packet n slot_here (of_values xs)) n) in (new.outs ≡ (registers_of n).outs) × (new.run ≡ (registers_of n).run)
        runs_where true n = after_packet_runs n slot_here (of_values xs)
        runs_where false n = (refl, refl)

    pub given_stands : Stands y (record here { nodes = given }) (d' ∷ ds)
    given_stands =
        quiet_stands y w es rf lost x st quiet given
        (length-map (below (length here.nodes)) (λ v. cond (reached lost sender v) (after_packet (at here.nodes v) slot_here (of_values xs)) (at here.nodes v)) ∙ length-below (length here.nodes) ∙ nodes_there y w es rf lost x st)
        (λ v l. subst (NodeStands y v (d' ∷ ds)) (sym (given_at v l)) (node_gets v l))
        (λ v l. subst StateFits (sym (given_at v l)) (fits_where (reached lost sender v) (at here.nodes v) (after_packet (at here.nodes v) slot_here (of_values xs)) (entry_fits y w es rf lost x st v l)
        (packet_fits (at here.nodes v) slot_here (of_values xs) (entry_fits y w es rf lost x st v l) (may_take v (omega (arith, l, nodes_there y w es rf lost x st))))))

    pub takers_are : takers here.nodes slot_here lost sender ≡ filter (taking) (below y.nodes)
    takers_are =
        ap (λ (n : ℕ). filter (λ v. reached lost sender v && takes_now (at here.nodes v) slot_here) (below n)) (nodes_there y w es rf lost x st)
        ∙ same_kept (λ v. reached lost sender v && takes_now (at here.nodes v) slot_here) (taking) y.nodes
        (λ v l.
        ap (λ b. reached lost sender v && b) (takes_is y w.plans es rf j i act v (finds y w es rf lost x st v) (at here.nodes v) (entry_node y w es rf lost x st v l) once (sent_placed y w.plans es rf j i act xs e))
        ∙ either_order (reached lost sender v) (takes_on p i v) (synced v ds) (not (has_copy s.stay i (window_at p s.turn j i) ds v)))

  -- ---- silence

  pub silent_stands : packet p s j i ds ≡ None → Stands y here (d' ∷ ds)
  silent_stands e =
      quiet_stands y w es rf lost x st quiet here.nodes (nodes_there y w es rf lost x st)
      (λ v l.
      let n = at here.nodes v in
      let q = entry_node y w es rf lost x st v l in
      with_registers y v (d' ∷ ds) n (kept_place y w v es rf lost quiet n n q (same_itself n))
      (both_kept p v s.stay (d' ∷ ds) (registers_of n)
      (slot_runs y ds lost v j i (registers_of n) (registers_of n) act refl refl (runs_kept p v s.stay ds (registers_of n) q.registers))
      (silent_ins y w.plans es rf j i act v (finds y w es rf lost x st v) n lost q e)))
      (entry_fits y w es rf lost x st)

  -- ---- the slot as it is

  pub slot_stands : (bodies : List BodySeen) → Stands y (performed here bodies lost (Slot slot_here number)) (d' ∷ ds)
  slot_stands bodies = by_packet (packet p s j i ds) refl
    where
      by_packet : (o : Option (List ℤ)) → packet p s j i ds ≡ o → Stands y (performed here bodies lost (Slot slot_here number)) (d' ∷ ds)
      by_packet None e =
          subst (λ (o : Option ℕ). Stands y (record here { nodes = after_slot here.nodes slot_here lost o (packet_from here.nodes slot_here o) }) (d' ∷ ds)) (sym (nobody e)) (silent_stands e)
      by_packet (Some xs) e =
          subst (λ (o : Option Packet). Stands y (record here { nodes = after_slot here.nodes slot_here lost (sender_in here.nodes slot_here) o }) (d' ∷ ds)) (sym (is_packet xs e))
          (subst (λ (o : Option ℕ). Stands y (record here { nodes = after_slot here.nodes slot_here lost o (Some (of_values xs)) }) (d' ∷ ds)) (sym (somebody xs e)) (given_stands xs e))

  pub slot_told_is : told here lost (Slot slot_here number) ≡ happened y d'
  slot_told_is = by_packet (packet p s j i ds) refl
    where
      out : (o : Option (List ℤ)) → packet p s j i ds ≡ o → happened y d' ≡ told_at here.moment p (sent_or_not p y.nodes s j i ds o lost)
      out o e = ap (told_at here.moment p) (slot_out y w.plans es rf j i act lost ∙ ap (λ q. sent_or_not p y.nodes s j i ds q lost) e)

      by_packet : (o : Option (List ℤ)) → packet p s j i ds ≡ o → told here lost (Slot slot_here number) ≡ happened y d'
      by_packet None e =
          ap (λ (o : Option ℕ). slot_told here.moment here.nodes slot_here number lost o (packet_from here.nodes slot_here o)) (nobody e) ∙ sym (out None e)
      by_packet (Some xs) e =
          ap (slot_told here.moment here.nodes slot_here number lost (sender_in here.nodes slot_here)) (is_packet xs e)
          ∙ ap (λ (o : Option ℕ). slot_told here.moment here.nodes slot_here number lost o (Some (of_values xs))) (somebody xs e)
          ∙ ap (λ (ts : List ℕ). told_at here.moment p (Rattle.runtime_model.specs.Outcomes.sent sender i 0 xs ts)) (takers_are xs e)
          ∙ sym (out (Some xs) e)

  pub may_slot : (bodies : ℕ) → MayPerform here bodies lost (Slot slot_here number)
  may_slot bodies = (
    (λ v l. may_use_slot y w v es rf j i act (at here.nodes v) (entry_node y w es rf lost x st v (omega (arith, l, nodes_there y w es rf lost x st)))),
    by_packet (packet p s j i ds) refl,
  )
    where
      by_packet : (o : Option (List ℤ)) → packet p s j i ds ≡ o → MayGive here.nodes slot_here (packet_from here.nodes slot_here (sender_in here.nodes slot_here))
      by_packet None e = subst (λ (o : Option ℕ). MayGive here.nodes slot_here (packet_from here.nodes slot_here o)) (sym (nobody e)) tt
      by_packet (Some xs) e = subst (MayGive here.nodes slot_here) (sym (is_packet xs e)) (may_take xs e)
