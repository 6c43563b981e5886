-- Decisions, and the numbers of their choices
use Rattle.std.proofs.Common.{◌≡◌, ℕ, zero, suc, ◌+◌, ◌-◌, ◌*◌, ◌/◌, ◌<◌, ◌≤◌, List, length, get_or, take, Contains, refl, sym, ◌∙◌, ap, subst, arith, ⊎_elim, ℤ, pos, ◌+ℤ◌, ◌-ℤ◌, ◌≤ℤ◌}
use Rattle.std.proofs.lemmas.Int.{ints}
use Rattle.std.proofs.Math.Nat.{mul-le-mul_left, mul-le-mul_right}
use Rattle.std.proofs.lemmas.List.{length-take-le}
use Rattle.std.proofs.lemmas.List.Elements.{All-from_recursion, All-get_or}
use Rattle.node_use.specs.Between.{IsTimed}
use Rattle.round_service.specs.Serving.{IsServable, most_choice}
use Rattle.sched_model.specs.Numbers.{span}
use Rattle.sched_model.specs.PlainMode.{PlainMode, hyper, task_at, message_at, copy_count}
use Rattle.sched_model.specs.ConstraintProblem.{Decision, serve, order, decisions, place, places, alternatives_of}
use Rattle.sched_model.specs.OpenPrefix.{Chosen}
use Rattle.sched_model.specs.ModeLimits.{IsLimited}
use Rattle.sched_model.specs.ValidMode.{IsValid}
use Rattle.sched_model.proofs.Backward.{sorted_out}
use Rattle.sched_model.proofs.Bounds.{serve_bounds}
use Rattle.sched_model.proofs.Graph.{message_edge}
use Rattle.sched_model.proofs.Hyperperiods.{hyper_some}
use Rattle.sched_model.proofs.Places.{decision_at}
use Rattle.sched_model.proofs.Variables.{IsOfMode, decisions_of_mode}
use Rattle.constraint_set.specs.Numbers.{times_at, numbers_at}
use Rattle.constraint_set.proofs.BaseLists.{task_times}

pub timed : (m : PlainMode) (a : ℕ) → IsValid m → IsLimited m → a < length m.tasks → IsTimed (times_at m a)
timed m a ok lim l =
    let t = task_times m a ok lim l in
    record { wcet = (ok.wcet a l).0; within = (ok.wcet a l).1; period = t.0; deadline = t.2 }

message_deadline : (m : PlainMode) (i : ℕ) → IsValid m → i < length m.messages → (message_at m i).deadline ≤ 1000000000000
message_deadline m i ok l =
    let a = ok.producer i l in
    let b = ok.consumer i l in
    let lb = (ok.edges a.0 b.0 (message_edge m i a.0 b.0 l a.1 b.1)).to in
    omega (arith, (ok.consumer_app i b.0 l b.1).1, ok.deadline b.0 lb, ok.hyper_limit)

pub servable : (m : PlainMode) (r i : ℕ) → IsValid m → IsLimited m → 1 ≤ r → r ≤ 256 → i < length m.messages → IsServable (numbers_at m r i)
servable m r i ok lim some most l =
    record {
      rounds = (some, most);
      round = lim.round;
      hyper = (hyper_some m, ok.hyper_limit);
      period = (ok.periods _ (ok.message_period i l), (lim.periods _ (ok.message_period i l)).1);
      deadline = message_deadline m i ok l;
      copies = ok.copies i l;
    }

-- ---- which decision stands at a place
pub at_serve : (m : PlainMode) (x i k : ℕ) → x < length (decisions m) → serve i k ≡ get_or (decisions m) x (order 0 0)
    → (i < length m.messages) × (k < copy_count m (message_at m i)) × (x ≡ place m i k)
at_serve m x i k l e =
    ⊎_elim
    (λ (w : (a b : ℕ) × (a < length m.messages) × (b < copy_count m (message_at m a)) × (x ≡ place m a b)).
    let same : serve w.0 w.1 ≡ serve i k = sym (decision_at m w.0 w.1 (order 0 0) w.2 w.3) ∙ ap (λ y. get_or (decisions m) y (order 0 0)) (sym w.4) ∙ sym e in
    let ei : w.0 ≡ i = cc in
    let ek : w.1 ≡ k = cc in (
      omega (arith, w.2, ei),
      subst (λ y. k < copy_count m (message_at m y)) ei (subst (λ y. y < copy_count m (message_at m w.0)) ek w.3),
      w.4 ∙ ap (λ y. place m y w.1) ei ∙ ap (λ y. place m i y) ek,
    ))
    (λ (w : (a b : ℕ) × (get_or (decisions m) x (order 0 0) ≡ order a b)). absurd (let wrong : serve i k ≡ order w.0 w.1 = e ∙ w.2 in cc))
    (sorted_out m x l)

pub at_order : (m : PlainMode) (x a b : ℕ) → x < length (decisions m) → order a b ≡ get_or (decisions m) x (order 0 0) → (a < length m.tasks) × (b < length m.tasks)
at_order m x a b l e =
    let w = subst (λ (d : Decision). IsOfMode m d) (sym e) (All-get_or (IsOfMode m) (decisions m) x (order 0 0) l (All-from_recursion (IsOfMode m) (decisions m) (decisions_of_mode m))) in
    (omega (arith, w.0, w.1), w.1)

-- ---- the choices for a message's earlier instances
bound_of : (r s h : ℕ) → 1 ≤ h → r ≤ 256 → s ≤ 1001000000000 → r * (s / h + 1) + r ≤ 1000000000000000
bound_of r s h some most few =
    let n : s / h * 1 ≤ s / h * h = mul-le-mul_left (s / h) some in
    let q : s / h ≤ 1001000000000 = omega (arith, n) in
    let a : r * (s / h + 1) ≤ 256 * (s / h + 1) = mul-le-mul_right (s / h + 1) most in
    omega (arith, a, q)

abbrev IsSmallChoice : ℤ → Type 0
IsSmallChoice g = (pos 1 ≤ℤ g) × (g ≤ℤ pos 1000000000000000)

small_choice : (m : PlainMode) (r : ℕ) (ok : IsValid m) (lim : IsLimited m) (some : 1 ≤ r) (most : r ≤ 256) (p : List ℤ) → length p ≤ length (decisions m) → Chosen m r p
    → (i k : ℕ) → i < length m.messages → k < copy_count m (message_at m i) → place m i k < length p → IsSmallChoice (get_or p (place m i k) (pos 0))
small_choice m r ok lim some most p fits ch i k li lk l =
    let b = serve_bounds m r ok lim some p fits ch i k li lk l in
    let s = servable m r i ok lim some most li in
    let n = bound_of r ((message_at m i).period + (message_at m i).deadline) (hyper m) s.hyper.0 most (omega (arith, s.period, s.deadline)) in
    (b.0, omega (arith, ints, b.1, n))

-- the last choice is for the instance before, and the one for the first instance stands k places before the end
pub before_later : (m : PlainMode) (r : ℕ) (ok : IsValid m) (lim : IsLimited m) (some : 1 ≤ r) (most : r ≤ 256) (p : List ℤ) → length p < length (decisions m) → Chosen m r p
    → (i k : ℕ) → 0 < k → serve i k ≡ get_or (decisions m) (length p) (order 0 0)
    → (k ≤ length p) × IsSmallChoice (get_or p (length p - 1) (pos 0)) × IsSmallChoice (get_or p (length p - k) (pos 0))
before_later m r ok lim some most p l ch i k pk e =
    let w = at_serve m (length p) i k l e in
    let before : length p - 1 ≡ place m i (k - 1) = omega (arith, w.2) in
    let start : length p - k ≡ place m i 0 = omega (arith, w.2) in (
      omega (arith, w.2),
      subst (λ x. IsSmallChoice (get_or p x (pos 0))) (sym before) (small_choice m r ok lim some most p (omega arith) ch i (k - 1) w.0 (omega (arith, w.1)) (omega (arith, w.2))),
      subst (λ x. IsSmallChoice (get_or p x (pos 0))) (sym start) (small_choice m r ok lim some most p (omega arith) ch i 0 w.0 (omega (arith, w.1)) (omega (arith, w.2))),
    )

pub first_are : (m : PlainMode) (r i k : ℕ) (p q : List ℤ) → k ≡ 0 → alternatives_of m r (serve i 0) q ≡ alternatives_of m r (serve i k) p
first_are m r i zero p q e = refl
first_are m r i (suc k) p q e = absurd (omega arith)

pub later_are : (m : PlainMode) (r i k : ℕ) (p : List ℤ) (low high : ℤ) → 0 < k → low ≡ get_or p (length p - 1) (pos 0) +ℤ pos 1
    → high ≡ get_or p (length p - k) (pos 0) +ℤ pos r -ℤ pos 1 → span low high ≡ alternatives_of m r (serve i k) p
later_are m r i zero p low high s e f = absurd (omega arith)
later_are m r i (suc k) p low high s e f =
    ap (λ z. span z high) e ∙ ap (λ z. span (get_or p (length p - 1) (pos 0) +ℤ pos 1) z) f

-- ---- the choice that a prefix has for a decision
pub pair_choice : (m : PlainMode) (r : ℕ) (p : List ℤ) (x a b : ℕ) → length p ≤ length (decisions m) → Chosen m r p → x < length p → order a b ≡ get_or (decisions m) x (order 0 0)
    → Contains (places (task_at m a) (task_at m b)) (get_or p x (pos 0))
pair_choice m r p x a b fits ch l e =
    let n : length (take x p) ≡ x = length-take-le x p (omega (arith, l)) in
    subst (λ (d : Decision). Contains (alternatives_of m r d (take x p)) (get_or p x (pos 0))) (ap (λ y. get_or (decisions m) y (order 0 0)) n ∙ sym e) (ch x l)

pub copy_choice : (m : PlainMode) (r : ℕ) (ok : IsValid m) (lim : IsLimited m) (some : 1 ≤ r) (p : List ℤ) (x i k : ℕ) → length p ≤ length (decisions m) → Chosen m r p → x < length p
    → serve i k ≡ get_or (decisions m) x (order 0 0)
    → (i < length m.messages) × (k < copy_count m (message_at m i)) × (pos 1 ≤ℤ get_or p x (pos 0)) × (get_or p x (pos 0) ≤ℤ pos (most_choice (numbers_at m r i)))
copy_choice m r ok lim some p x i k fits ch l e =
    let w = at_serve m x i k (omega (arith, l, fits)) e in
    let b = serve_bounds m r ok lim some p fits ch i k w.0 w.1 (omega (arith, l, w.2)) in
    let y = ((message_at m i).period + (message_at m i).deadline) / hyper m in
    let least : pos 1 ≤ℤ get_or p x (pos 0) = subst (λ z. pos 1 ≤ℤ get_or p z (pos 0)) (sym w.2) b.0 in
    let most : get_or p x (pos 0) ≤ℤ (pos (r * (y + 1)) +ℤ pos r) = subst (λ z. get_or p z (pos 0) ≤ℤ (pos (r * (y + 1)) +ℤ pos r)) (sym w.2) b.1 in
    (w.0, w.1, least, within_most r y (get_or p x (pos 0)) most)
  where
    within_most : (r y : ℕ) (g : ℤ) → g ≤ℤ (pos (r * (y + 1)) +ℤ pos r) → g ≤ℤ pos (r * (y + 2))
    within_most r y g h = let d : r * (y + 1) + r ≡ r * (y + 2) = omega arith in omega (arith, ints, h, d)
