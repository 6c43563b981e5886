-- The constraints in force have small bounds, and are few
use Rattle.std.proofs.Common.{◌≡◌, ℕ, zero, suc, ◌+◌, ◌-◌, ◌*◌, ◌/◌, ◌<◌, ◌≤◌, true, false, ltb, List, [], ◌∷◌, length, get_or, take, Contains, refl, sym, ◌∙◌, ap, subst, arith, ⊎_elim, ℤ, pos, negsuc, ◌+ℤ◌, ◌-ℤ◌, ◌*ℤ◌, neg_ℤ, ◌≤ℤ◌}
use Rattle.std.specs.List.{AllByRecursion}
use Rattle.std.specs.Int.{int_div_euclid}
use Rattle.std.proofs.lemmas.Int.{ints}
use Rattle.std.proofs.lemmas.Bool.{cases_lt, cases_Bool, cond-true, cond-false}
use Rattle.std.proofs.lemmas.Nat.{div-add-mod'}
use Rattle.std.proofs.Math.Nat.{mul-le-mul_right}
use Rattle.std.proofs.lemmas.Nat.Gcd.{le_of_dvd}
use Rattle.std.proofs.lemmas.List.{length-take-le, get_or-take}
use Rattle.std.proofs.lemmas.List.Elements.{All-from_recursion, All-get_or}
use borrow.Author.Differences.{up, down}
use Rattle.tick_num.specs.declared.differences.Diff.{Diff}
use Rattle.tick_num.proofs.Floor.{floor_low, floor_high, sum-times}
use Rattle.sched_model.specs.Numbers.{natural, gcd, span}
use Rattle.sched_model.specs.PlainMode.{PlainMode, hyper, task_at, message_at, instance_count, copy_count}
use Rattle.sched_model.specs.ConstraintProblem.{base, Decision, serve, order, decisions, place, window_of, latest, places, alternatives_of, chosen, chosen_all, in_force}
use Rattle.sched_model.specs.OpenPrefix.{Chosen}
use Rattle.sched_model.specs.ProblemLimits.{IsSmall}
use Rattle.sched_model.specs.ValidMode.{IsValid}
use Rattle.sched_model.specs.ModeLimits.{IsLimited}
use Rattle.sched_model.proofs.Lists.{all_both}
use Rattle.sched_model.proofs.Base.{base_all}
use Rattle.sched_model.proofs.Graph.{message_edge}
use Rattle.sched_model.proofs.Spans.{span_bounds}
use Rattle.sched_model.proofs.Places.{decision_at}
use Rattle.sched_model.proofs.Serving.{its_window}
use Rattle.sched_model.proofs.Pairs.{gcd_is, gcd_some}
use Rattle.sched_model.proofs.Hyperperiods.{period_divides}
use Rattle.sched_model.proofs.Backward.{sorted_out}
use Rattle.sched_model.proofs.Variables.{IsOfMode, decisions_of_mode}

-- ---- the constraints of choices, choice by choice
all_chosen : (P : Diff → Type 0) (m : PlainMode) (r : ℕ) (ds : List Decision) (p : List ℤ) →
    ((x : ℕ) → x < length ds → x < length p → AllByRecursion P (chosen m r (get_or ds x (order 0 0)) (get_or p x (pos 0)))) → AllByRecursion P (chosen_all m r ds p)
all_chosen P m r [] p h = tt
all_chosen P m r (d ∷ ds) [] h = tt
all_chosen P m r (d ∷ ds) (v ∷ p) h =
    all_both P (chosen m r d v) _ (h 0 (omega arith) (omega arith)) (all_chosen P m r ds p (λ x l k. h (suc x) (omega (arith, l)) (omega (arith, k))))

-- ---- products
times_rise : (z y : ℤ) (g : ℕ) → z ≤ℤ y → (z *ℤ pos g) ≤ℤ (y *ℤ pos g)
times_rise z y g h = let m : (up z + down y) * g ≤ (up y + down z) * g = mul-le-mul_right g (omega (arith, ints, h)) in omega (arith, ints, m)

-- a quotient is below what its multiple is above
quotient_low : (a r n : ℕ) → 1 ≤ r → a < n * r → a / r < n
quotient_low a r n some h =
    ⊎_elim
    (λ (less : a / r < n). less)
    (λ (ge : n ≤ a / r). absurd (let k : n * r ≤ a / r * r = mul-le-mul_right r ge in omega (arith, h, k, div-add-mod' a r)))
    (cases_lt (a / r) n)

module _ (m : PlainMode) (r : ℕ) (ok : IsValid m) (lim : IsLimited m) (some : 1 ≤ r) where
  period_few : (a : ℕ) → a < length m.tasks → ((task_at m a).period ≤ 1000000000) × ((task_at m a).wcet ≤ 1000000000) × ((task_at m a).deadline ≤ 1000000000000)
  period_few a l =
      let p = (lim.periods _ (ok.task_period a l)).1 in
      (p, omega (arith, p, (ok.wcet a l).1), omega (arith, ok.deadline a l, ok.hyper_limit))

  base_small : AllByRecursion IsSmall (base m r)
  base_small = base_all IsSmall m r (record {
    rounds = λ j l. ((omega (arith, ints, lim.round), omega (arith, ints, lim.round)), (omega (arith, ints, lim.gap), omega (arith, ints, lim.gap)));
    turn = ((omega (arith, ints, lim.round, ok.hyper_limit), omega (arith, ints, lim.round, ok.hyper_limit)), (omega (arith, ints, lim.gap, ok.hyper_limit), omega (arith, ints, lim.gap, ok.hyper_limit)));
    tasks = λ a l. ((omega (arith, ints), omega (arith, ints)), λ e. (omega (arith, ints, period_few a l), omega (arith, ints, period_few a l)));
    messages = λ i l.
        let a0 = ok.producer i l in
        let b0 = ok.consumer i l in
        let p = lim.periods _ (ok.message_period i l) in
        record {
          from = λ a c. let w = period_few a (ok.edges a b0.0 (message_edge m i a b0.0 l c b0.1)).from in ((omega (arith, ints, w), omega (arith, ints, w)), (omega (arith, ints, w, p), omega (arith, ints, w, p)));
          lasts = (omega (arith, ints), omega (arith, ints));
          to = λ b c. ((omega (arith, ints), omega (arith, ints)), (omega (arith, ints, p), omega (arith, ints, p)));
        };
    deadlines = λ f lf ef l ll el er. (omega (arith, ints, period_few f lf, period_few l ll), omega (arith, ints, period_few f lf, period_few l ll));
  })

  -- ---- the place of two tasks
  latest_most : (a : ℕ) → a < length m.tasks → (latest (task_at m a) ≤ℤ pos 1001000000000) × (neg_ℤ (pos 1000000001) ≤ℤ latest (task_at m a))
  latest_most a l = (omega (arith, ints, period_few a l), omega (arith, ints, period_few a l))

  pair_small : (a b : ℕ) (z : ℤ) → a < length m.tasks → b < length m.tasks → Contains (places (task_at m a) (task_at m b)) z → AllByRecursion IsSmall (chosen m r (order a b) z)
  pair_small a b z la lb c =
      let s = task_at m a in
      let t = task_at m b in
      let d = gcd s.period t.period in
      let p = ok.periods _ (ok.task_period a la) in
      let q = ok.periods _ (ok.task_period b lb) in
      let one : pos 1 ≤ℤ pos d = omega (arith, ints, gcd_some s.period t.period p q) in
      let x = pos t.wcet -ℤ latest s +ℤ pos d -ℤ pos 1 in
      let y = latest t -ℤ pos s.wcet in
      let low = int_div_euclid x (pos d) in
      let high = int_div_euclid y (pos d) in
      let low_is = floor_high x (pos d) low one refl in
      let high_is = floor_low y (pos d) high one refl in
      let inside : Contains (span (low -ℤ pos 1) high) z =
      ⊎_elim
      (λ (none : ltb d (s.wcet + t.wcet) ≡ true). absurd (empty z (subst (λ (l : List ℤ). Contains l z) (cond-true (ltb d (s.wcet + t.wcet)) [] (span (low -ℤ pos 1) high) none) c)))
      (λ (room : ltb d (s.wcet + t.wcet) ≡ false). subst (λ (l : List ℤ). Contains l z) (cond-false (ltb d (s.wcet + t.wcet)) [] (span (low -ℤ pos 1) high) room) c)
      (cases_Bool (ltb d (s.wcet + t.wcet))) in
      let w = span_bounds (low -ℤ pos 1) high z inside in
      let up_most = times_rise z high d w.1 in
      let down_most = times_rise low (z +ℤ pos 1) d (omega (arith, ints, w.0)) in
      let split = sum-times z (pos 1) (pos d) in
      let split_low = sum-times low (pos 1) (pos d) in
      let few : d ≤ 1000000000 = divisor_most s.period t.period p q (lim.periods _ (ok.task_period a la)).1 in
      let fa = period_few a la in
      let fb = period_few b lb in (
        (omega (arith, ints, up_most, high_is, fa, fb), omega (arith, ints, down_most, split, split_low, low_is, few, fa, fb)),
        ((omega (arith, ints, down_most, split, split_low, low_is, few, fa, fb), omega (arith, ints, up_most, high_is, split, few, fa, fb)), tt),
      )
    where
      empty : (z : ℤ) → Contains [] z → ⊥
      empty z (k, l, e) = omega (arith, l)

      divisor_most : (x y : ℕ) → 1 ≤ x → 1 ≤ y → x ≤ 1000000000 → gcd x y ≤ 1000000000
      divisor_most x y p q h = let k = le_of_dvd p (gcd_is x y p q).0 in omega (arith, h, k)

  -- ---- the instance of a message
  module _ (p : List ℤ) (fits : length p ≤ length (decisions m)) (ch : Chosen m r p) where
    among : (i k : ℕ) → i < length m.messages → k < copy_count m (message_at m i) → place m i k < length p →
        Contains (alternatives_of m r (serve i k) (take (place m i k) p)) (get_or p (place m i k) (pos 0))
    among i k li lk l =
        let x = place m i k in
        let e : length (take x p) ≡ x = length-take-le x p (omega (arith, l)) in
        subst (λ (d : Decision). Contains (alternatives_of m r d (take x p)) (get_or p x (pos 0))) (ap (λ y. get_or (decisions m) y (order 0 0)) e ∙ decision_at m i k (order 0 0) li lk) (ch x l)

    first_bounds : (i : ℕ) → i < length m.messages → 0 < copy_count m (message_at m i) → place m i 0 < length p →
        let msg = message_at m i in (pos 1 ≤ℤ get_or p (place m i 0) (pos 0)) × (get_or p (place m i 0) (pos 0) ≤ℤ pos (r * ((msg.period + msg.deadline) / hyper m + 1)))
    first_bounds i li lk l = let msg = message_at m i in span_bounds (pos 1) (pos (r * ((msg.period + msg.deadline) / hyper m + 1))) (get_or p (place m i 0) (pos 0)) (among i 0 li lk l)

    pub serve_bounds : (i k : ℕ) → i < length m.messages → k < copy_count m (message_at m i) → place m i k < length p →
        let msg = message_at m i in (pos 1 ≤ℤ get_or p (place m i k) (pos 0)) × (get_or p (place m i k) (pos 0) ≤ℤ (pos (r * ((msg.period + msg.deadline) / hyper m + 1)) +ℤ pos r))
    serve_bounds i zero li lk l = let b = first_bounds i li lk l in (b.0, omega (arith, ints, b.1))
    serve_bounds i (suc k) li lk l =
        let x = place m i (suc k) in
        let q = take x p in
        let e : length q ≡ x = length-take-le x p (omega (arith, l)) in
        let b = span_bounds (get_or q (length q - 1) (pos 0) +ℤ pos 1) (get_or q (length q - suc k) (pos 0) +ℤ pos r -ℤ pos 1) (get_or p x (pos 0)) (among i (suc k) li lk l) in
        let before : get_or q (length q - 1) (pos 0) ≡ get_or p (place m i k) (pos 0) =
        ap (λ y. get_or q y (pos 0)) (let s : length q - 1 ≡ place m i k = omega (arith, e) in s) ∙ get_or-take x p (place m i k) (pos 0) (omega arith) in
        let begin : get_or q (length q - suc k) (pos 0) ≡ get_or p (place m i 0) (pos 0) =
        ap (λ y. get_or q y (pos 0)) (let s : length q - suc k ≡ place m i 0 = omega (arith, e) in s) ∙ get_or-take x p (place m i 0) (pos 0) (omega arith) in
        let a = first_bounds i li (omega (arith, lk)) (omega (arith, l)) in
        let c = serve_bounds i k li (omega (arith, lk)) (omega (arith, l)) in
        (omega (arith, ints, b, before, c.0), omega (arith, ints, b, begin, a.1))

    serve_small : (i k : ℕ) → i < length m.messages → k < copy_count m (message_at m i) → place m i k < length p → AllByRecursion IsSmall (chosen m r (serve i k) (get_or p (place m i k) (pos 0)))
    serve_small i k li lk l =
        let msg = message_at m i in
        let h = hyper m in
        let w = (msg.period + msg.deadline) / h in
        let g = natural (get_or p (place m i k) (pos 0)) in
        let b = serve_bounds i k li lk l in
        let is = natural_is (get_or p (place m i k) (pos 0)) b.0 in
        let low : (g - 1) / r < w + 2 = quotient_low (g - 1) r (w + 2) some (omega (arith, ints, b, is)) in
        let turns : (g - 1) / r * h ≤ (w + 1) * h = mul-le-mul_right h (omega (arith, low)) in
        let whole = div-add-mod' (msg.period + msg.deadline) h in
        let t = ok.consumer i li in
        let a0 = ok.producer i li in
        let lt = (ok.edges a0.0 t.0 (message_edge m i a0.0 t.0 li a0.1 t.1)).to in
        let app = ok.consumer_app i t.0 li t.1 in
        let in_turn = (its_window msg.copies (instance_count m msg) k (ok.copies i li) lk).0 in
        let windows : window_of m i k * msg.period ≤ instance_count m msg * msg.period = mul-le-mul_right msg.period (omega (arith, in_turn)) in
        let fill = period_divides m msg.period (ok.periods _ (ok.message_period i li)) (ok.message_period i li) in
        let period = (lim.periods _ (ok.message_period i li)).1 in
        let deadline : msg.deadline ≤ h = omega (arith, app.1, ok.deadline t.0 lt) in
        let late : (g - 1) / r * h ≤ 2001000000000 = omega (arith, turns, whole, period, deadline, ok.hyper_limit) in
        let early : window_of m i k * msg.period ≤ 1000000000000 = omega (arith, windows, fill, ok.hyper_limit) in
        ((omega (arith, ints, late, early), omega (arith, ints, late, early)), ((omega (arith, ints, late, early, lim.round), omega (arith, ints, late, early, lim.round)), tt))
      where
        natural_is : (z : ℤ) → pos 1 ≤ℤ z → pos (natural z) ≡ z
        natural_is (pos n) h = refl
        natural_is (negsuc n) h = absurd (omega (arith, ints, h))

    choice_small : (x : ℕ) → x < length (decisions m) → x < length p → AllByRecursion IsSmall (chosen m r (get_or (decisions m) x (order 0 0)) (get_or p x (pos 0)))
    choice_small x l k =
        ⊎_elim
        (λ (w : (i j : ℕ) × (i < length m.messages) × (j < copy_count m (message_at m i)) × (x ≡ place m i j)).
        subst (λ y. AllByRecursion IsSmall (chosen m r (get_or (decisions m) y (order 0 0)) (get_or p y (pos 0)))) (sym w.4)
        (subst (λ (d : Decision). AllByRecursion IsSmall (chosen m r d (get_or p (place m w.0 w.1) (pos 0)))) (sym (decision_at m w.0 w.1 (order 0 0) w.2 w.3)) (serve_small w.0 w.1 w.2 w.3 (omega (arith, k, w.4)))))
        (λ (w : (a b : ℕ) × (get_or (decisions m) x (order 0 0) ≡ order a b)).
        let of_mode = subst (λ (d : Decision). IsOfMode m d) w.2 (All-get_or (IsOfMode m) (decisions m) x (order 0 0) l (All-from_recursion (IsOfMode m) (decisions m) (decisions_of_mode m))) in
        let e : length (take x p) ≡ x = length-take-le x p (omega (arith, k)) in
        let c = subst (λ (d : Decision). Contains (alternatives_of m r d (take x p)) (get_or p x (pos 0))) (ap (λ y. get_or (decisions m) y (order 0 0)) e ∙ w.2) (ch x k) in
        subst (λ (d : Decision). AllByRecursion IsSmall (chosen m r d (get_or p x (pos 0)))) (sym w.2) (pair_small w.0 w.1 (get_or p x (pos 0)) (omega (arith, of_mode.0, of_mode.1)) of_mode.1 c))
        (sorted_out m x l)

    pub all_small : AllByRecursion IsSmall (in_force m r p)
    all_small = all_both IsSmall (base m r) _ base_small (all_chosen IsSmall m r (decisions m) p choice_small)
