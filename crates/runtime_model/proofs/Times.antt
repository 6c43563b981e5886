-- The times of tasks and slots under a right plan
use Rattle.std.proofs.Common.{◌≡◌, ℕ, zero, suc, ◌+◌, ◌-◌, ◌*◌, ◌/◌, ◌%◌, ◌<◌, ◌≤◌, Bool, true, false, List, [], ◌∷◌, length, get_or, Contains, refl, sym, ◌∙◌, ap, subst, arith, ⊎_elim, ℤ, pos, negsuc, ◌+ℤ◌, ◌-ℤ◌, ◌*ℤ◌, ◌≤ℤ◌, ◌<ℤ◌}
use Rattle.std.specs.Int.{int_div_euclid}
use Rattle.std.proofs.lemmas.Int.{ints}
use Rattle.std.proofs.lemmas.Nat.{mod-mul-add, div-mul-add, le-div}
use Rattle.std.proofs.Math.Nat.{mul-le-mul_right, mul-le-mul_left}
use Rattle.std.proofs.lemmas.List.{get_or-map, length-map}
use Rattle.std.proofs.lemmas.List.Elements.{All-get_or, All-contains}
use Rattle.std.specs.Prelude.{All}
use borrow.Author.Differences.{up, down, same_in}
use Rattle.std.proofs.lemmas.Bool.{cases_lt, eqb-true, eqb-false}
use Rattle.tick_num.proofs.Floor.{floor_low, floor_high, sum-times}
use Rattle.sched_model.proofs.Graph.{edge_message, message_edge, never_late, contains_has}
use Rattle.runtime_model.proofs.TaskTimes.{TaskFits}
use Rattle.runtime_model.proofs.Cycles.{RightAt}
use Rattle.sched_model.proofs.Hyperperiods.{period_divides, hyper_some}
use Rattle.std.specs.Prelude.{nat_eq, cond, not, neg_ℤ}
use Rattle.sched_model.specs.Numbers.{has, natural}
use Rattle.sched_model.specs.PlainMode.{hyper, most_rounds, task_at, message_at, PlainMessage, no_message}
use Rattle.sched_model.specs.RightSchedule.{IsMessage}
use Rattle.sched_model.specs.Rounds.{round_start, task_start, opens, closes, start, Carries, InWindow}
use Rattle.sched_model.specs.TaskGraph.{IsEdge}
use Rattle.runtime_model.specs.Entries.{slot}
use Rattle.runtime_model.specs.Placement.{release, IsRelease, placed, own_slot, not_negative, window_at}
use Rattle.runtime_model.specs.Plans.{place_from, Plan, offset, RightPlan, Carried}
use Rattle.runtime_model.specs.Timeline.{PlainPhase, drains}

pub natural_is : (z : ℤ) → pos 0 ≤ℤ z → pos (natural z) ≡ z
natural_is (pos n) h = refl
natural_is (negsuc n) h = absurd (omega (arith, ints, h))

-- a product is below the next only where the number is
pub at_most_from_times : (z y : ℤ) (g : ℕ) → (z *ℤ pos g) <ℤ ((y +ℤ pos 1) *ℤ pos g) → z ≤ℤ y
at_most_from_times z y g h =
    ⊎_elim
    (λ (less : up y + down z < up z + down y).
    let m : (up y + down z + 1) * g ≤ (up z + down y) * g = mul-le-mul_right g (omega (arith, less)) in
    absurd (omega (arith, ints, h, m, sum-times y (pos 1) (pos g))))
    (λ (le : up z + down y ≤ up y + down z). omega (arith, ints, le))
    (cases_lt (up y + down z) (up z + down y))

times_at_most : (z y : ℤ) (g : ℕ) → z ≤ℤ y → (z *ℤ pos g) ≤ℤ (y *ℤ pos g)
times_at_most z y g h = let m : (up z + down y) * g ≤ (up y + down z) * g = mul-le-mul_right g (omega (arith, ints, h)) in omega (arith, ints, m)

exact : (k p : ℕ) → 1 ≤ p → k * p / p ≡ k
exact k p some = ap (λ x. x / p) (let e : k * p ≡ k * p + 0 = omega arith in e) ∙ div-mul-add k p 0 some

own_yes : (z : ℤ) → not_negative z ≡ true → pos 0 ≤ℤ z
own_yes (pos n) e = omega (arith, ints)
own_yes (negsuc n) e = absurd cc

own_no : (z : ℤ) → not_negative z ≡ false → z <ℤ pos 0
own_no (pos n) e = absurd cc
own_no (negsuc n) e = omega (arith, ints)

opening_own : (b o : Bool) (phase : PlainPhase) → b ≡ true → placed b phase o ≡ true → o ≡ true
opening_own true o phase e h = h
opening_own false o phase e h = absurd cc

drain_own : (b o d : Bool) → d ≡ true → b ≡ false → cond b o (cond d (not o) true) ≡ true → o ≡ false
drain_own false false true d b h = refl
drain_own false true true d b h = absurd cc
drain_own true o d x b h = absurd cc
drain_own false o false d b h = absurd cc

-- a placed slot is released at most one period before the stay
turn_cases : (n h per : ℕ) (opening : Bool) (phase : PlainPhase) (r : ℤ) → (neg_ℤ (pos (h + per))) <ℤ r → 1 ≤ per → opening ≡ nat_eq n 0 → placed opening phase (not_negative r) ≡ true → pos 0 <ℤ (r +ℤ pos (n * h) +ℤ pos per)
turn_cases zero h per opening phase r far one op pl = omega (arith, ints, own_yes r (opening_own opening (not_negative r) phase op pl), one)
turn_cases (suc n) h per opening phase r far one op pl = omega (arith, ints, far)

-- a placed slot of a draining hyperperiod is released before it
drained : (n : ℕ) (opening : Bool) (phase : PlainPhase) (r : ℤ) → drains phase ≡ true → opening ≡ false → placed opening phase (not_negative r) ≡ true → r <ℤ pos 0
drained n opening phase r d shut pl = own_no r (drain_own opening (not_negative r) (drains phase) d shut pl)

module _ (nodes : ℕ) (p : Plan) (ok : RightPlan nodes p) where
  rises : (a b : ℕ) → IsEdge p.mode a b → (task_start p.schedule a +ℤ pos (task_at p.mode a).wcet) ≤ℤ task_start p.schedule b
  rises a b e =
      let i = edge_message p.mode a b e in
      let f = ok.right.s4 i.0 i.1 in
      omega (arith, ints, f.sent a i.2, f.lasts, f.taken b i.3)

  pub offset_is : (a : ℕ) → a < length p.mode.tasks → pos (offset p a) ≡ task_start p.schedule a
  offset_is a l = natural_is (task_start p.schedule a) (ok.right.s3 a l).from_zero

  pub task_fits : (a : ℕ) → a < length p.mode.tasks → TaskFits nodes p a
  task_fits a l =
      let c = ok.valid.task_period a l in
      let late = never_late p.mode ok.valid (task_start p.schedule) rises (λ f lf e. (ok.right.s3 f lf).early e) ok.right.s5 a l in
      record {
        is_task = l;
        on_node = ok.node a l;
        period = ok.valid.periods (task_at p.mode a).period c;
        turns = hyper p.mode / (task_at p.mode a).period;
        whole = period_divides p.mode (task_at p.mode a).period (ok.valid.periods (task_at p.mode a).period c) c;
        wcet = (ok.valid.wcet a l).0;
        short = (ok.valid.wcet a l).1;
        late = omega (arith, ints, late, offset_is a l);
        deadline = ok.valid.deadline a l;
      }

  pub round_from_zero : (j : ℕ) → j < length p.schedule.starts → pos 0 ≤ℤ round_start p.schedule j
  round_from_zero zero l = omega (arith, ints, ok.right.s1.begin)
  round_from_zero (suc j) l = omega (arith, ints, round_from_zero j (omega (arith, l)), ok.right.s1.apart j l)

  opens_from_zero : (i : ℕ) → i < length p.mode.messages → pos 0 ≤ℤ opens p.schedule i
  opens_from_zero i l =
      let a = ok.valid.producer i l in
      let e = message_edge p.mode i a.0 (ok.valid.consumer i l).0 l a.1 (ok.valid.consumer i l).1 in
      omega (arith, ints, (ok.right.s3 a.0 (ok.valid.edges a.0 (ok.valid.consumer i l).0 e).from).from_zero, (ok.right.s4 i l).sent a.0 a.1)

  pub message_turns : (i : ℕ) → i < length p.mode.messages → (1 ≤ (message_at p.mode i).period) × (hyper p.mode ≡ hyper p.mode / (message_at p.mode i).period * (message_at p.mode i).period)
  message_turns i l = let c = ok.valid.message_period i l in let one = ok.valid.periods (message_at p.mode i).period c in (one, period_divides p.mode (message_at p.mode i).period one c)

  -- some hyperperiods on, the round instance lies in a window
  pub in_window : (j i : ℕ) → Carried p j i → (n k : ℕ) × ((opens p.schedule i +ℤ pos (k * (message_at p.mode i).period)) ≤ℤ (round_start p.schedule j +ℤ pos (n * hyper p.mode)))
      × ((round_start p.schedule j +ℤ pos (n * hyper p.mode) +ℤ pos p.mode.round) ≤ℤ (closes p.schedule i +ℤ pos (k * (message_at p.mode i).period)))
  in_window j i c =
      let r = length p.schedule.starts in
      let n = natural (opens p.schedule i) in
      let g = suc (n * r + j) in
      let some : 1 ≤ r = omega (arith, c.0) in
      let q : ((g - 1) % r ≡ j) = ap (λ x. x % r) (let e : g - 1 ≡ n * r + j = omega arith in e) ∙ mod-mul-add n r j c.0 in
      let d : ((g - 1) / r ≡ n) = ap (λ x. x / r) (let e : g - 1 ≡ n * r + j = omega arith in e) ∙ div-mul-add n r j c.0 in
      let carries : Carries p.mode p.schedule i g = subst (λ x. has (get_or p.schedule.tables x []) (message_at p.mode i).number ≡ true) (sym q) c.2 in
      let at : start p.mode p.schedule g ≡ round_start p.schedule j +ℤ pos (n * hyper p.mode) = ap (λ x. round_start p.schedule x +ℤ pos ((g - 1) / r * hyper p.mode)) q ∙ ap (λ x. round_start p.schedule j +ℤ pos (x * hyper p.mode)) d in
      let far : n ≤ n * hyper p.mode = omega (arith, mul_one n (hyper p.mode) (hyper_some p.mode)) in
      ⊎_elim
      (λ (w : (k : ℕ) × InWindow p.mode p.schedule i k g). (n, w.0, omega (arith, ints, w.1, at), omega (arith, ints, w.1, at)))
      (λ (early : start p.mode p.schedule g <ℤ opens p.schedule i). absurd (omega (arith, ints, early, at, far, natural_is (opens p.schedule i) (opens_from_zero i c.1), round_from_zero j c.0)))
      (ok.right.s8 i g c.1 (omega arith) carries)
    where
      mul_one : (n h : ℕ) → 1 ≤ h → n * 1 ≤ n * h
      mul_one n h l = mul-le-mul_left n l

  pub narrow : (i : ℕ) → i < length p.mode.messages → closes p.schedule i ≤ℤ (opens p.schedule i +ℤ pos (message_at p.mode i).period)
  narrow i l = let a = ok.valid.producer i l in omega (arith, ints, (ok.right.s4 i l).sent a.0 a.1, (ok.right.s4 i l).kept a.0 a.1)

  -- the release is a release
  pub is_release : (j i : ℕ) → Carried p j i → IsRelease p j i (release p j i)
  is_release j i c =
      let per = (message_at p.mode i).period in
      let t = round_start p.schedule j in
      let o = opens p.schedule i in
      let q = int_div_euclid (t -ℤ o) (pos per) in
      let m = message_turns i c.1 in
      let w = hyper p.mode / per in
      let one : pos 1 ≤ℤ pos per = omega (arith, ints, m.0) in
      let low = floor_low (t -ℤ o) (pos per) q one refl in
      let high = floor_high (t -ℤ o) (pos per) q one refl in
      let x = in_window j i c in
      let nh : x.0 * hyper p.mode ≡ x.0 * w * per = omega (arith, ap (λ z. x.0 * z) m.1) in
      let y = q +ℤ pos (x.0 * w) in
      let sum = sum-times q (pos (x.0 * w)) (pos per) in
      let k = at_most_from_times (pos x.1) y per (omega (arith, ints, x.2, high, sum, sum-times y (pos 1) (pos per), sum-times q (pos 1) (pos per), nh)) in
      record {
        multiple = (q, refl);
        opens_before = omega (arith, ints, low);
        closes_after = omega (arith, ints, x.3, times_at_most (pos x.1) y per k, sum, nh);
      }

  -- two releases are less than a period apart
  not_above : (j i : ℕ) (r q : ℤ) → Carried p j i → IsRelease p j i r → IsRelease p j i q → r ≤ℤ q
  not_above j i r q c a b =
      let per = (message_at p.mode i).period in
      let x = a.multiple.0 in
      let z = b.multiple.0 in
      let thin = narrow i c.1 in
      let k = at_most_from_times x z per (omega (arith, ints, a.opens_before, b.closes_after, a.multiple.1, b.multiple.1, thin, ok.valid.round, sum-times z (pos 1) (pos per))) in
      omega (arith, ints, times_at_most x z per k, a.multiple.1, b.multiple.1)

  -- the release is the only one
  pub one_release : (j i : ℕ) (r : ℤ) → Carried p j i → IsRelease p j i r → r ≡ release p j i
  one_release j i r c a =
      let own = is_release j i c in
      same_in _ _ (omega (arith, ints, not_above j i r (release p j i) c a own, not_above j i (release p j i) r c own a))

  last_closes : (i : ℕ) → i < length p.mode.messages → closes p.schedule i <ℤ pos ((message_at p.mode i).period + hyper p.mode)
  last_closes i l =
      let b = ok.valid.consumer i l in
      let a = ok.valid.producer i l in
      let is = (ok.valid.edges a.0 b.0 (message_edge p.mode i a.0 b.0 l a.1 b.1)).to in
      let late = never_late p.mode ok.valid (task_start p.schedule) rises (λ f lf e. (ok.right.s3 f lf).early e) ok.right.s5 b.0 is in
      let app = ok.valid.consumer_app i b.0 l b.1 in
      omega (arith, ints, (ok.right.s4 i l).taken b.0 b.1, late, (ok.valid.wcet b.0 is).0, ok.valid.deadline b.0 is, app)

  -- the window of a placed slot
  pub record SlotWindow (n j i : ℕ) (phase : PlainPhase) : Type 0 where
    pub after : (opens p.schedule i +ℤ pos (window_at p n j i * (message_at p.mode i).period)) ≤ℤ (round_start p.schedule j +ℤ pos (n * hyper p.mode))
    pub before : (round_start p.schedule j +ℤ pos (n * hyper p.mode) +ℤ pos p.mode.round) ≤ℤ (closes p.schedule i +ℤ pos (window_at p n j i * (message_at p.mode i).period))
    pub released : drains phase ≡ true → window_at p n j i * (message_at p.mode i).period < n * hyper p.mode

  pub slot_window : (n j i : ℕ) (opening : Bool) (phase : PlainPhase) → Carried p j i → opening ≡ nat_eq n 0 → (drains phase ≡ true → opening ≡ false) → placed opening phase (own_slot p j i) ≡ true → SlotWindow n j i phase
  slot_window n j i opening phase c op calm pl =
      let per = (message_at p.mode i).period in
      let r = release p j i in
      let rel = is_release j i c in
      let q = rel.multiple.0 in
      let m = message_turns i c.1 in
      let w = hyper p.mode / per in
      let nh : n * hyper p.mode ≡ n * w * per = omega (arith, ap (λ z. n * z) m.1) in
      let y = q +ℤ pos (n * w) in
      let sum = sum-times q (pos (n * w)) (pos per) in
      let far : (neg_ℤ (pos (hyper p.mode + per))) <ℤ r = omega (arith, ints, rel.closes_after, last_closes i c.1, round_from_zero j c.0, ok.valid.round) in
      let from_turn : (pos 0) <ℤ (r +ℤ pos (n * hyper p.mode) +ℤ pos per) = turn_cases n (hyper p.mode) per opening phase r far m.0 op pl in
      let not_less : pos 0 ≤ℤ y = at_most_from_times (pos 0) y per (omega (arith, ints, from_turn, sum-times y (pos 1) (pos per), sum, nh, rel.multiple.1)) in
      let k = natural y in
      let whole : (pos (n * hyper p.mode) +ℤ r) ≡ pos (k * per) = same_in _ _ (omega (arith, ints, rel.multiple.1, sum, nh, ap (λ (z : ℤ). z *ℤ pos per) (natural_is y not_less))) in
      let is : window_at p n j i ≡ k = ap (λ z. natural z / per) whole ∙ exact k per m.0 in
      let times = ap (λ z. z * per) is in
      record {
        after = omega (arith, ints, rel.opens_before, whole, times);
        before = omega (arith, ints, rel.closes_after, whole, times);
        released = λ d. omega (arith, ints, drained n opening phase r d (calm d) pl, whole, times);
      }

  -- the window in which a round instance lies is that of its slot
  pub window_is : (n k j i : ℕ) → Carried p j i → (opens p.schedule i +ℤ pos (k * (message_at p.mode i).period)) ≤ℤ (round_start p.schedule j +ℤ pos (n * hyper p.mode)) →
      (round_start p.schedule j +ℤ pos (n * hyper p.mode) +ℤ pos p.mode.round) ≤ℤ (closes p.schedule i +ℤ pos (k * (message_at p.mode i).period)) →
      ((pos (n * hyper p.mode) +ℤ release p j i) ≡ pos (k * (message_at p.mode i).period)) × (window_at p n j i ≡ k)
  window_is n k j i c low high =
      let per = (message_at p.mode i).period in
      let rel = is_release j i c in
      let q = rel.multiple.0 in
      let m = message_turns i c.1 in
      let w = hyper p.mode / per in
      let nh : n * hyper p.mode ≡ n * w * per = omega (arith, ap (λ z. n * z) m.1) in
      let y = q +ℤ pos (n * w) in
      let sum = sum-times q (pos (n * w)) (pos per) in
      let thin = narrow i c.1 in
      let above : pos k ≤ℤ y = at_most_from_times (pos k) y per (omega (arith, ints, low, rel.closes_after, rel.multiple.1, thin, ok.valid.round, nh, sum, sum-times y (pos 1) (pos per))) in
      let below_it : y ≤ℤ pos k = at_most_from_times y (pos k) per (omega (arith, ints, high, rel.opens_before, rel.multiple.1, thin, ok.valid.round, nh, sum, sum-times (pos k) (pos 1) (pos per))) in
      let is : y ≡ pos k = same_in _ _ (omega (arith, ints, above, below_it)) in
      let whole : (pos (n * hyper p.mode) +ℤ release p j i) ≡ pos (k * per) = same_in _ _ (omega (arith, ints, rel.multiple.1, sum, nh, ap (λ (z : ℤ). z *ℤ pos per) is)) in
      (whole, ap (λ z. natural z / per) whole ∙ exact k per m.0)

-- the place of a message's number
place_step : (n : ℕ) (m : PlainMessage) (ms : List PlainMessage) (number : ℕ) →
    ((i : ℕ) → i < length ms → (get_or ms i no_message).number ≡ number → (k : ℕ) × (place_from (suc n) ms number ≡ suc n + k) × (k < length ms) × ((get_or ms k no_message).number ≡ number)) →
    (b : Bool) → nat_eq m.number number ≡ b → (i : ℕ) → i < length (m ∷ ms) → (get_or (m ∷ ms) i no_message).number ≡ number →
    (k : ℕ) × (cond b n (place_from (suc n) ms number) ≡ n + k) × (k < length (m ∷ ms)) × ((get_or (m ∷ ms) k no_message).number ≡ number)
place_step n m ms number more true h i l e = (0, omega arith, omega arith, eqb-true m.number number h)
place_step n m ms number more false h zero l e = absurd (eqb-false m.number number h e)
place_step n m ms number more false h (suc i) l e = let r = more i (omega (arith, l)) e in (suc r.0, omega (arith, r.1), omega (arith, r.2), r.3)

pub place_is : (n : ℕ) (ms : List PlainMessage) (number i : ℕ) → i < length ms → (get_or ms i no_message).number ≡ number →
    (k : ℕ) × (place_from n ms number ≡ n + k) × (k < length ms) × ((get_or ms k no_message).number ≡ number)
place_is n [] number i l e = absurd (omega (arith, l))
place_is n (m ∷ ms) number i l e = place_step n m ms number (place_is (suc n) ms number) (nat_eq m.number number) refl i l e

module _ (nodes : ℕ) (p : Plan) (ok : RightPlan nodes p) where
  -- a number of a table is that of the message at its place
  pub number_is : (j number : ℕ) → j < length p.schedule.starts → Contains (get_or p.schedule.tables j []) number →
      (k : ℕ) × (place_from 0 p.mode.messages number ≡ 0 + k) × (k < length p.mode.messages) × ((message_at p.mode k).number ≡ number)
  number_is j number l c =
      let own = All-contains (IsMessage p.mode) (get_or p.schedule.tables j []) number (All-get_or (λ table. All (IsMessage p.mode) table) p.schedule.tables j [] (omega (arith, l, ok.right.shape.starts, ok.right.shape.tables)) ok.right.shape.numbers) c in
      let number_of = λ (msg : PlainMessage). msg.number in
      let place : own.0 < length p.mode.messages = omega (arith, own.1, length-map p.mode.messages number_of) in
      let is = sym (get_or-map number_of p.mode.messages own.0 no_message number place) ∙ own.2 in
      place_is 0 p.mode.messages number own.0 place is

  -- a slot of the cycle is carried
  pub slot_carried : (u j i : ℕ) → RightAt p u (slot j i) → Carried p j i
  slot_carried u j i r =
      let k = number_is j r.2.0 r.0 r.2.1 in
      let same : k.0 ≡ i = omega (arith, r.2.2, k.1) in (
        r.0,
        subst (λ z. z < length p.mode.messages) same k.2,
        subst (λ z. has (get_or p.schedule.tables j []) (message_at p.mode z).number ≡ true) same (subst (λ z. has (get_or p.schedule.tables j []) z ≡ true) (sym k.3) (contains_has (get_or p.schedule.tables j []) r.2.0 r.2.1)),
      )

-- ---- the rounds of a right plan
module _ (nodes : ℕ) (p : Plan) (ok : RightPlan nodes p) where
  -- each round starts after those before it
  spaced : (j : ℕ) → j < length p.schedule.starts → pos (j * p.mode.round) ≤ℤ round_start p.schedule j
  spaced zero l = omega (arith, ints, ok.right.s1.begin)
  spaced (suc j) l = omega (arith, ints, spaced j (omega (arith, l)), ok.right.s1.apart j l)

  -- no mode has more rounds than its hyperperiod has room for
  pub rounds_fit : length p.schedule.starts ≤ most_rounds p.mode
  rounds_fit =
      let r = length p.schedule.starts in
      let some : 1 ≤ r = omega (arith, ok.right.shape.some, ok.right.shape.starts) in
      let q = r - 1 in
      let is : r ≡ suc q = omega (arith, some) in
      let total : r * p.mode.round ≡ q * p.mode.round + p.mode.round = omega (arith, ap (λ x. x * p.mode.round) is) in
      le-div r (hyper p.mode) p.mode.round ok.valid.round (omega (arith, ints, total, spaced q (omega (arith, some)), ok.right.s1.end q (omega (arith, some))))
