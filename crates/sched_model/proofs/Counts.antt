-- Each choice of a message is at least 1, and they rise
use Rattle.std.proofs.Common.{◌≡◌, ℕ, zero, suc, ◌+◌, ◌-◌, ◌*◌, ◌/◌, ◌<◌, ◌≤◌, List, length, get_or, take, Contains, ◌∙◌, ap, subst, arith, ⊎_elim, ℤ, pos, negsuc, ◌+ℤ◌, ◌-ℤ◌, ◌≤ℤ◌}
use Rattle.std.proofs.lemmas.Int.{ints}
use Rattle.std.proofs.lemmas.Bool.{cases_lt}
use Rattle.std.proofs.lemmas.List.{length-take-le, get_or-take}
use Rattle.sched_model.specs.PlainMode.{PlainMode, message_at, copy_count, hyper}
use Rattle.sched_model.specs.ConstraintProblem.{Decision, serve, order, decisions, place, choice, alternatives_of}
use Rattle.sched_model.specs.Numbers.{natural}
use Rattle.sched_model.specs.OpenPrefix.{Chosen}
use Rattle.sched_model.proofs.Places.{place_fits, decision_at}
use Rattle.sched_model.proofs.Spans.{span_bounds}

-- the alternatives of a decision, from the list itself
pub alternatives_at : (m : PlainMode) (r : ℕ) (p : List ℤ) → length p ≡ length (decisions m) → Chosen m r p → (i k : ℕ) → i < length m.messages → k < copy_count m (message_at m i) →
    Contains (alternatives_of m r (serve i k) (take (place m i k) p)) (get_or p (place m i k) (pos 0))
alternatives_at m r p full ch i k l h =
    let x = place m i k in
    let fits = place_fits m i k l h in
    let e : length (take x p) ≡ x = length-take-le x p (omega (arith, fits, full)) in
    let c = ch x (omega (arith, fits, full)) in
    subst (λ (d : Decision). Contains (alternatives_of m r d (take x p)) (get_or p x (pos 0))) (ap (λ y. get_or (decisions m) y (order 0 0)) e ∙ decision_at m i k (order 0 0) l h) c

first_bounds : (m : PlainMode) (r : ℕ) (p : List ℤ) → length p ≡ length (decisions m) → Chosen m r p → (i : ℕ) → i < length m.messages → 0 < copy_count m (message_at m i) →
    (pos 1 ≤ℤ get_or p (place m i 0) (pos 0))
first_bounds m r p full ch i l h = (let msg = message_at m i in span_bounds (pos 1) (pos (r * ((msg.period + msg.deadline) / hyper m + 1))) (get_or p (place m i 0) (pos 0)) (alternatives_at m r p full ch i 0 l h)).0

pub next_bounds : (m : PlainMode) (r : ℕ) (p : List ℤ) → length p ≡ length (decisions m) → Chosen m r p → (i k : ℕ) → i < length m.messages → suc k < copy_count m (message_at m i) →
    ((get_or p (place m i k) (pos 0) +ℤ pos 1) ≤ℤ get_or p (place m i (suc k)) (pos 0)) × (get_or p (place m i (suc k)) (pos 0) ≤ℤ (get_or p (place m i 0) (pos 0) +ℤ pos r -ℤ pos 1))
next_bounds m r p full ch i k l h =
    let x = place m i (suc k) in
    let q = take x p in
    let fits = place_fits m i (suc k) l h in
    let e : length q ≡ x = length-take-le x p (omega (arith, fits, full)) in
    let b = span_bounds (get_or q (length q - 1) (pos 0) +ℤ pos 1) (get_or q (length q - suc k) (pos 0) +ℤ pos r -ℤ pos 1) _ (alternatives_at m r p full ch i (suc k) l h) in
    let before : get_or q (length q - 1) (pos 0) ≡ get_or p (place m i k) (pos 0) =
    ap (λ y. get_or q y (pos 0)) (let s : length q - 1 ≡ place m i k = omega (arith, e) in s) ∙ get_or-take x p (place m i k) (pos 0) (omega arith) in
    let start : get_or q (length q - suc k) (pos 0) ≡ get_or p (place m i 0) (pos 0) =
    ap (λ y. get_or q y (pos 0)) (let s : length q - suc k ≡ place m i 0 = omega (arith, e) in s) ∙ get_or-take x p (place m i 0) (pos 0) (omega arith) in
    (omega (arith, ints, b, before), omega (arith, ints, b, start))

pub one_at_least : (m : PlainMode) (r : ℕ) (p : List ℤ) → length p ≡ length (decisions m) → Chosen m r p → (i k : ℕ) → i < length m.messages → k < copy_count m (message_at m i) → pos 1 ≤ℤ get_or p (place m i k) (pos 0)
one_at_least m r p full ch i zero l h = first_bounds m r p full ch i l h
one_at_least m r p full ch i (suc k) l h =
    let b = next_bounds m r p full ch i k l h in
    let a = one_at_least m r p full ch i k l (omega arith) in
    omega (arith, ints, a, b)

natural_one : (z : ℤ) → pos 1 ≤ℤ z → 1 ≤ natural z
natural_one (pos n) h = omega (arith, ints)
natural_one (negsuc n) h = absurd (omega (arith, ints))

pub choice_one : (m : PlainMode) (r : ℕ) (p : List ℤ) → length p ≡ length (decisions m) → Chosen m r p → (i k : ℕ) → i < length m.messages → k < copy_count m (message_at m i) → 1 ≤ choice m p i k
choice_one m r p full ch i k l h = natural_one _ (one_at_least m r p full ch i k l h)

-- a later copy has a later choice
natural_rises : (y z : ℤ) → pos 1 ≤ℤ y → (y +ℤ pos 1) ≤ℤ z → natural y < natural z
natural_rises (pos k) (pos n) h l = omega (arith, ints, l)
natural_rises (pos k) (negsuc n) h l = absurd (omega (arith, ints, h, l))
natural_rises (negsuc k) z h l = absurd (omega (arith, ints, h))

pub choice_rises : (m : PlainMode) (r : ℕ) (p : List ℤ) → length p ≡ length (decisions m) → Chosen m r p → (i : ℕ) → i < length m.messages → (x y : ℕ) → x < y → y < copy_count m (message_at m i) → choice m p i x < choice m p i y
choice_rises m r p full ch i l x zero less h = absurd (omega (arith, less))
choice_rises m r p full ch i l x (suc y) less h =
    let b = next_bounds m r p full ch i y l h in
    let a = one_at_least m r p full ch i y l (omega (arith, h)) in
    let here = natural_rises (get_or p (place m i y) (pos 0)) (get_or p (place m i (suc y)) (pos 0)) a b.0 in
    ⊎_elim
    (λ (earlier : x < y). let up = choice_rises m r p full ch i l x y earlier (omega (arith, h)) in omega (arith, up, here))
    (λ (le : y ≤ x). let e = ap (λ z. choice m p i z) (let s : x ≡ y = omega (arith, le, less) in s) in omega (arith, e, here))
    (cases_lt x y)
