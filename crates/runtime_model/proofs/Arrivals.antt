-- Where nothing is lost and nobody restarts, the packet of each window is sent and taken
use Rattle.std.proofs.Common.{◌≡◌, ℕ, zero, suc, ◌+◌, ◌-◌, ◌*◌, ◌/◌, ◌%◌, ◌<◌, ◌≤◌, Bool, true, false, cond, not, ◌&&◌, ◌||◌, List, [], ◌∷◌, length, get_or, map, Contains, refl, sym, ◌∙◌, ap, subst, arith, ℤ, pos, negsuc, ◌+ℤ◌, ◌≤ℤ◌, ◌<ℤ◌}
use Rattle.std.specs.Prelude.{nat_eq, Option, Some, None, is_some}
use Rattle.std.specs.List.{filter}
use Rattle.std.proofs.lemmas.Int.{ints}
use Rattle.std.proofs.lemmas.Bool.{cond-true, cond-false, eq-eqb}
use Rattle.std.proofs.lemmas.Nat.{mod_below}
use Rattle.sched_model.specs.Numbers.{below, has, natural}
use Rattle.sched_model.specs.PlainMode.{hyper, message_at}
use Rattle.sched_model.specs.Rounds.{round_start, opens, closes}
use Rattle.sched_model.proofs.Graph.{message_edge, contains_has, has_contains}
use Rattle.sched_model.proofs.Tests.{passes}
use Rattle.runtime_model.specs.Timeline.{PlainPhase, drains}
use Rattle.runtime_model.specs.Plans.{Plan, RightPlan, Carried, node_of, offset, place_from, sender_of}
use Rattle.runtime_model.specs.Entries.{Entry, Action, slot, task_ends, task_starts}
use Rattle.runtime_model.specs.Placement.{placed, release, not_negative, own_slot, window_at}
use Rattle.runtime_model.specs.Outcomes.{PlainEvent, advance, Step, is_beacon, took, ended_run}
use Rattle.runtime_model.specs.LookingBack.{synced, recall, or_else, last_beacon}
use Rattle.runtime_model.specs.System.{System, plan_at}
use Rattle.runtime_model.specs.Packets.{reached, in_set, both, all_present, takes_on, held, packet, has_copy, takes}
use Rattle.runtime_model.specs.History.{history, step_of, spot_next, entries, entry_at, sent_or_not}
use Rattle.runtime_model.specs.Laws.{RequestsFit, Lossless, NothingIsMissing}
use Rattle.runtime_model.proofs.Cycles.{entry_right, has_slot}
use Rattle.runtime_model.proofs.Spots.{moves, stands}
use Rattle.runtime_model.proofs.Modes.{AllRight, all_right}
use Rattle.runtime_model.proofs.Beacons.{some}
use Rattle.runtime_model.proofs.TaskTimes.{TaskFits}
use Rattle.runtime_model.proofs.Times.{natural_is, offset_is, task_fits, round_from_zero, place_is, window_is}
use Rattle.runtime_model.proofs.OutRegisters.{Is, H, P, step_back, same_mode, released_back, Released, time_order, end_place, run_is, performed_is, both_true}
use Rattle.runtime_model.proofs.InRegisters.{start_time}
use Rattle.runtime_model.proofs.Switches.{start_of, started_is, in_entries, runs_end_before_switch}
use Rattle.runtime_model.proofs.Lossless.{no_bit, kept, all_synced, still_some, same_stay, There, visited, was_ended}

-- ---- small facts
all_here : (f : ℕ → Option ℤ) (xs : List ℕ) → ((a : ℕ) → Contains xs a → (z : ℤ) × (f a ≡ Some z)) → (zs : List ℤ) × (all_present (map f xs) ≡ Some zs)
all_here f [] h = ([], refl)
all_here f (x ∷ xs) h =
    let z = h x (0, omega arith, refl) in
    let r = all_here f xs (λ a c. h a (suc c.0, omega (arith, c.1), c.2)) in
    (z.0 ∷ r.0, ap (λ (o : Option ℤ). both o (all_present (map f xs))) z.1 ∙ ap (λ (o : Option (List ℤ)). both (Some z.0) o) r.1)

is_own : (z : ℤ) → pos 0 ≤ℤ z → not_negative z ≡ true
is_own (pos n) l = refl
is_own (negsuc n) l = absurd (omega (arith, ints, l))

is_earlier : (z : ℤ) → z <ℤ pos 0 → not_negative z ≡ false
is_earlier (pos n) l = absurd (omega (arith, ints, l))
is_earlier (negsuc n) l = refl

-- a slot of a window of the stay is placed
slot_placed : (opening : Bool) (phase : PlainPhase) (n h x : ℕ) (r : ℤ) → opening ≡ nat_eq n 0 → (drains phase ≡ true → x < n * h) → (pos (n * h) +ℤ r) ≡ pos x → placed opening phase (not_negative r) ≡ true
slot_placed opening phase zero h x r op rel e =
    cond-true opening (not_negative r) (cond (drains phase) (not (not_negative r)) true) op ∙ is_own r (omega (arith, ints, e))
slot_placed opening phase (suc n) h x r op rel e =
    cond-false opening (not_negative r) (cond (drains phase) (not (not_negative r)) true) (op ∙ not_zero n) ∙ by_drain (drains phase) (not_negative r) (λ d. is_earlier r (omega (arith, ints, e, rel d)))
  where
    not_zero : (n : ℕ) → nat_eq (suc n) 0 ≡ false
    not_zero n = grind arith

    by_drain : (b own : Bool) → (b ≡ true → own ≡ false) → cond b (not own) true ≡ true
    by_drain true own f = ap not (f refl)
    by_drain false own f = refl

-- a node with a consumer takes the packet, where it has no earlier copy
takes_it : (p : Plan) (st i k b v w : ℕ) (ds : List Step) → Contains (message_at p.mode i).to b → node_of p b ≡ w → synced w ds ≡ true → recall w st (took w i k) ds ≡ None → takes p st 0 v i k ds w ≡ true
takes_it p st i k b v w ds c on up new =
    both_true (takes_on p i w) (synced w ds && (reached 0 v w && not (has_copy st i k ds w))) (passes (λ b. nat_eq (node_of p b) w) (message_at p.mode i).to b c.0 c.1 (eq-eqb (node_of p (get_or (message_at p.mode i).to c.0 b)) w (ap (node_of p) c.2 ∙ on)))
    (both_true (synced w ds) (reached 0 v w && not (has_copy st i k ds w)) up (both_true (reached 0 v w) (not (has_copy st i k ds w)) (either (nat_eq w v) (in_set 0 w) (no_bit w)) (ap (λ (o : Option (List ℤ)). not (is_some o)) new)))
  where
    either : (a b : Bool) → b ≡ false → (a || not b) ≡ true
    either true b e = refl
    either false true e = absurd cc
    either false false e = refl

-- ---- the slot of window k of message i
module _ (y : System) (right : AllRight y) (md st i k b : ℕ) (ok : RightPlan y.nodes (plan_at y md)) (il : i < length (plan_at y md).mode.messages) (to : Contains (message_at (plan_at y md).mode i).to b) where
  abbrev p : Plan
  p = plan_at y md

  abbrev per : ℕ
  per = (message_at p.mode i).period

  -- where it stands
  record SlotPlace : Type 0 where
    turn : ℕ
    round : ℕ
    index : ℕ
    tick : ℕ
    carried : Carried p round i
    is : Is y md index tick (slot round i)
    at : pos tick ≡ round_start p.schedule round
    opened : (opens p.schedule i +ℤ pos (k * per)) ≤ℤ (round_start p.schedule round +ℤ pos (turn * H y md))
    closing : (round_start p.schedule round +ℤ pos (turn * H y md) +ℤ pos p.mode.round) ≤ℤ (closes p.schedule i +ℤ pos (k * per))

  slot_place : SlotPlace
  slot_place =
      let all = ok.right.s7.windows i k il in
      let g = all.row 0 in
      let serves = all.each 0 (ok.valid.copies i il) in
      let r = length p.schedule.starts in
      let some_rounds : 1 ≤ r = omega (arith, ok.right.shape.some, ok.right.shape.starts) in
      let n = (g - 1) / r in
      let j = (g - 1) % r in
      let lj = mod_below (g - 1) r some_rounds in
      let number = (message_at p.mode i).number in
      let c : Carried p j i = (lj, il, serves.1) in
      let start = natural_is (round_start p.schedule j) (round_from_zero y.nodes p ok j lj) in
      let inside = before_end j lj start in
      let slot_is = has_slot y.nodes p j number lj inside (has_contains (get_or p.schedule.tables j []) number serves.1) in
      let found = place_is 0 p.mode.messages number i il refl in
      let same : place_from 0 p.mode.messages number ≡ i = found.1 ∙ (let z : 0 + found.0 ≡ found.0 = omega arith in z) ∙ ok.valid.numbers found.0 i found.2 il found.3 in
      record {
        turn = n;
        round = j;
        index = slot_is.0;
        tick = natural (round_start p.schedule j);
        carried = c;
        is = (slot_is.1, slot_is.2 ∙ ap (λ (z : ℕ). record { tick = natural (round_start p.schedule j); action = slot j z }) same);
        at = start;
        opened = serves.2.0;
        closing = serves.2.1;
      }
    where
      before_end : (j : ℕ) → j < length p.schedule.starts → pos (natural (round_start p.schedule j)) ≡ round_start p.schedule j → natural (round_start p.schedule j) < hyper p.mode
      before_end j lj start = let e = Rattle.runtime_model.proofs.Beacons.beacon_place y md ok j lj in omega (arith, (entry_right y.nodes p e.0 e.1.0).0, ap (λ (x : Entry). x.tick) e.1.1)

  fit : TaskFits y.nodes p b
  fit =
      let a = ok.valid.producer i il in
      task_fits y.nodes p ok b (ok.valid.edges a.0 b (message_edge p.mode i a.0 b il a.1 to)).to

  -- each producer's run k has ended by a slot of window k
  producer_ended : (es : List PlainEvent) (lost : ℕ) (w : SlotPlace) → There y right md st w.turn w.index (k * per) es lost → (a : ℕ) → Contains (message_at p.mode i).from a →
      ((z : ℤ) × (recall (node_of p a) st (ended_run a k) (history y es) ≡ Some z)) × ((g : Step) × (last_beacon (history y es) ≡ Some g))
  producer_ended es lost w t a in_from =
      let ds = history y es in
      let s = spot_next y ds in
      let mv = moves y ds (stands y es) in
      let e = ok.valid.edges a b (message_edge p.mode i a b il in_from to) in
      let f = task_fits y.nodes p ok a e.from in
      let app = e.period ∙ (ok.valid.consumer_app i b il to).0 in
      let per_is = ap (λ z. k * z) app in
      let end = end_place y md a f k in
      let here : Is y md s.index w.tick (slot w.round i) = subst (λ z. Is y md z w.tick (slot w.round i)) (sym t.5) w.is in
      let turn = ap (λ z. z * H y md) t.4 in
      let first = time_order y md end.0 end.1 end.2 s.turn s.index w.tick (task_ends a) (slot w.round i) end.3 here
      (omega (arith, ints, end.4, turn, w.opened, w.at, (ok.right.s4 i il).sent a in_from, offset_is y.nodes p ok a e.from, per_is)) in
      let same = same_stay y ds s end.0 end.1 mv first in
      let mode = same_mode y ds s mv same ∙ t.3 in
      let released = λ (d : drains s.hyper.phase ≡ true). earlier (k * P p a) (k * per) (s.turn * H y md) per_is (t.6 d) in
      was_ended y right md st a k f es (
        t.0,
        t.1.1,
        sym same ∙ t.2,
        mode,
        released_back y p ds s (k * P p a) mv same released,
        step_back y ds s end.0 end.1 mv same (subst (λ (z : ℕ). end.1 < length (entries y z)) (sym mode) end.3.0) first,
      )
    where
      earlier : (x z n : ℕ) → x ≡ z → z < n → x < n
      earlier x z n e l = omega (arith, e, l)

  -- the slot's packet is sent, and the consumer's node takes it, unless it has an earlier copy
  slot_hit : (w : SlotPlace) (es : List PlainEvent) (lost : ℕ) → There y right md st w.turn w.index (k * per) es lost →
      ((xs : List ℤ) × (or_else (took (node_of p b) i k (step_of y (advance lost) (history y es)).out) (recall (node_of p b) st (took (node_of p b) i k) (history y es)) ≡ Some xs)) × ((g : Step) × (last_beacon (history y (advance lost ∷ es)) ≡ Some g))
  slot_hit w es lost t =
      let ds = history y es in
      let s = spot_next y ds in
      let d = step_of y (advance lost) ds in
      let v = sender_of p i in
      let c = node_of p b in
      let a = ok.valid.producer i il in
      let heard = (producer_ended es lost w t a.0 a.1).1 in
      let some_entries : 1 ≤ length (entries y md) = omega (arith, w.is.0) in
      let out = performed_is y md b fit some_entries ds lost w.index w.tick (slot w.round i) t.3 (sym t.5) w.is in
      let win = window_is y.nodes p ok w.turn k w.round i w.carried w.opened w.closing in
      let window : window_at p s.turn w.round i ≡ k = ap (λ z. window_at p z w.round i) t.4 ∙ win.1 in
      let whole : (pos (s.turn * H y md) +ℤ release p w.round i) ≡ pos (k * per) = ap (λ z. pos (z * H y md) +ℤ release p w.round i) t.4 ∙ win.0 in
      let pl = slot_placed s.hyper.opening s.hyper.phase s.turn (H y md) (k * per) (release p w.round i) (stands y (advance lost ∷ es)).turn t.6 whole in
      let here = all_here (λ a. recall (node_of p a) st (ended_run a k) ds) (message_at p.mode i).from (λ a in_from. (producer_ended es lost w t a in_from).0) in
      let has_all : held p s.stay i (window_at p s.turn w.round i) ds ≡ Some here.0 = ap (λ z. held p z i (window_at p s.turn w.round i) ds) t.2 ∙ ap (λ z. held p st i z ds) window ∙ here.1 in
      let on_sender = sender_on_node a in
      let up = all_synced y es v t.1.1 on_sender heard.0 heard.1 in
      let sends : packet p s w.round i ds ≡ Some here.0 =
      cond-true (placed s.hyper.opening s.hyper.phase (own_slot p w.round i) && synced v ds) (held p s.stay i (window_at p s.turn w.round i) ds) None (both_true (placed s.hyper.opening s.hyper.phase (own_slot p w.round i)) (synced v ds) pl up) ∙ has_all in
      let out' = out ∙ ap (λ (o : Option (List ℤ)). sent_or_not p y.nodes s w.round i ds o lost) sends in
      let ts = filter (takes p s.stay lost v i (window_at p s.turn w.round i) ds) (below y.nodes) in
      let taker = all_synced y es c t.1.1 fit.on_node heard.0 heard.1 in
      let ours : filter (takes p s.stay lost v i (window_at p s.turn w.round i) ds) (below y.nodes) ≡ filter (takes p st 0 v i k ds) (below y.nodes) =
      ap (λ z. filter (takes p z lost v i (window_at p s.turn w.round i) ds) (below y.nodes)) t.2 ∙ ap (λ z. filter (takes p st z v i (window_at p s.turn w.round i) ds) (below y.nodes)) t.1.0
      ∙ ap (λ z. filter (takes p st 0 v i z ds) (below y.nodes)) window in
      let taken = λ (new : recall c st (took c i k) ds ≡ None). ap (λ (xs : List ℕ). has xs c) ours ∙
      contains_has (filter (takes p st 0 v i k ds) (below y.nodes)) c (kept (takes p st 0 v i k ds) y.nodes c fit.on_node (takes_it p st i k b v c ds to refl taker new)) in
      let says = λ (new : recall c st (took c i k) ds ≡ None). ap (took c i k) out' ∙ cond-true (nat_eq i i && (nat_eq (window_at p s.turn w.round i) k && has ts c)) (Some here.0) None
      (both_true (nat_eq i i) (nat_eq (window_at p s.turn w.round i) k && has ts c) (eq-eqb i i refl) (both_true (nat_eq (window_at p s.turn w.round i) k) (has ts c) (eq-eqb (window_at p s.turn w.round i) k window) (taken new))) in
      (now_or_before (took c i k d.out) (recall c st (took c i k) ds) here.0 says, still_some (is_beacon d.out) d (last_beacon ds) heard)
    where
      now_or_before : (x w : Option (List ℤ)) (z : List ℤ) → (w ≡ None → x ≡ Some z) → (xs : List ℤ) × (or_else x w ≡ Some xs)
      now_or_before (Some x) w z f = (x, refl)
      now_or_before None (Some x) z f = (x, refl)
      now_or_before None None z f = (z, f refl)

      sender_on_node : (a : ℕ) × Contains (message_at p.mode i).from a → sender_of p i < y.nodes
      sender_on_node a =
          let first = first_of_some (message_at p.mode i).from a.0 a.1 in
          ok.node (get_or (message_at p.mode i).from 0 0) (ok.valid.edges (get_or (message_at p.mode i).from 0 0) b (message_edge p.mode i (get_or (message_at p.mode i).from 0 0) b il first to)).from
        where
          first_of_some : (xs : List ℕ) (a : ℕ) → Contains xs a → Contains xs (get_or xs 0 0)
          first_of_some [] a c = absurd (omega (arith, c.1))
          first_of_some (x ∷ xs) a c = (0, omega arith, refl)

  -- at a later start of run k of the consumer the packet is there
  arrived : (es : List PlainEvent) (lost u : ℕ) → RequestsFit y es → Lossless es → let s = spot_next y (history y es) in
      s.stay ≡ st → s.hyper.mode ≡ md → Is y md s.index u (task_starts b) → s.turn * H y md + u ≡ offset p b + k * P p b → Released p s (k * per) → (xs : List ℤ) × (recall (node_of p b) st (took (node_of p b) i k) (history y es) ≡ Some xs)
  arrived es lost u rf quiet stay_is mode_is is time released =
      let ds = history y es in
      let s = spot_next y ds in
      let mv = moves y ds (stands y es) in
      let w = slot_place in
      let per_is = ap (λ z. k * z) (ok.valid.consumer_app i b il to).0 in
      let ob = offset_is y.nodes p ok b fit.is_task in
      let first = time_order y md w.turn w.index w.tick s.turn s.index u (slot w.round i) (task_starts b) w.is is
      (omega (arith, ints, w.closing, w.at, time, (ok.right.s4 i il).taken b to, ob, per_is, ok.valid.round)) in
      let same = same_stay y ds s w.turn w.index mv first in
      let mode = same_mode y ds s mv same ∙ mode_is in
      (visited y right md st w.turn w.index (k * per) (node_of p b) (took (node_of p b) i k) fit.on_node w.is.0 (slot_hit w) es
      (rf, quiet, sym same ∙ stay_is, mode, released_back y p ds s (k * per) mv same released, step_back y ds s w.turn w.index mv same (subst (λ (z : ℕ). w.index < length (entries y z)) (sym mode) w.is.0) first)).0

-- ---- at a start
pub nothing_is_missing : NothingIsMissing
nothing_is_missing y plans es lost v b k ins x rf quiet out i il to =
    let right = all_right y plans in
    let ok = right (advance lost ∷ es) rf in
    let ds = history y es in
    let s = spot_next y ds in
    let md = s.hyper.mode in
    let pl = plan_at y md in
    let entry = entry_at y s in
    let u = entry.tick in
    let mv = moves y ds (stands y es) in
    let f = started_is y pl s lost ds u entry.action v b k (ap start_of out) in
    let l = in_entries y ds s mv (some y right (advance lost ∷ es) rf) in
    let is : Is y md s.index u (task_starts b) = (l, ap (λ (w : Action). record { tick = u; action = w }) f.0) in
    let ft = fit y right md s.stay i k b ok il to in
    let t = start_time y md b ft s u is (stands y (advance lost ∷ es)).turn f.1 in
    let same : k ≡ t.0 = f.2 ∙ run_is y md b ft s.turn u t.0 t.1 in
    let time : s.turn * H y md + u ≡ offset pl b + k * P pl b = t.1 ∙ ap (λ z. offset pl b + z * P pl b) (sym same) in
    let app = (ok.valid.consumer_app i b il to).0 in
    let per_is = ap (λ z. k * z) app in
    let released = λ (d : drains s.hyper.phase ≡ true). earlier (k * P pl b) (k * (message_at pl.mode i).period) (s.turn * H y md) per_is ((runs_end_before_switch y es lost v b k ins x ok out).0 d) in
    let r = arrived y right md s.stay i k b ok il to es lost u rf quiet.1 refl refl is time released in
    (r.0, subst (λ (n : ℕ). recall n s.stay (took n i k) ds ≡ Some r.0) f.3 r.1)
  where
    earlier : (x z n : ℕ) → x ≡ z → x < n → z < n
    earlier x z n e l = omega (arith, e, l)
