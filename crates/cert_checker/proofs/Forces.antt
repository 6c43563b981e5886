-- The constraints in force, as the list that the checker keeps
use Rattle.std.proofs.Common.{◌≡◌, ℕ, zero, suc, ◌+◌, ◌*◌, ◌<◌, ◌≤◌, List, [], ◌∷◌, ◌++◌, length, get_or, take, refl, sym, ◌∙◌, ap, arith, ℤ, append-nil, append_assoc, length-append}
use Rattle.std.proofs.lemmas.List.{take_at, length-take-le}
use Rattle.tick_num.specs.declared.differences.Diff.{Diff}
use Rattle.sched_model.specs.PlainMode.{PlainMode}
use Rattle.sched_model.specs.ConstraintProblem.{Decision, serve, order, base, decisions, chosen, chosen_all, in_force}

two : (m : PlainMode) (r : ℕ) (d : Decision) (v : ℤ) → length (chosen m r d v) ≡ 2
two m r (serve i k) v = refl
two m r (order a b) v = refl

choices_length : (m : PlainMode) (r : ℕ) (ds : List Decision) (p : List ℤ) → length p ≤ length ds → length (chosen_all m r ds p) ≡ 2 * length p
choices_length m r [] [] l = refl
choices_length m r [] (v ∷ p) l = absurd (omega (arith, l))
choices_length m r (d ∷ ds) [] l = refl
choices_length m r (d ∷ ds) (v ∷ p) l =
    omega (arith, length-append (chosen m r d v) (chosen_all m r ds p), two m r d v, choices_length m r ds p (omega (arith, l)))

choices_push : (m : PlainMode) (r : ℕ) (ds : List Decision) (p : List ℤ) (v : ℤ) (o : Decision) → length p < length ds → chosen_all m r ds (p ++ v ∷ []) ≡ chosen_all m r ds p ++ chosen m r (get_or ds (length p) o) v
choices_push m r [] p v o l = absurd (omega (arith, l))
choices_push m r (d ∷ ds) [] v o l = ap (λ (z : List Diff). chosen m r d v ++ z) (none ds) ∙ append-nil (chosen m r d v)
  where
    none : (es : List Decision) → chosen_all m r es [] ≡ []
    none [] = refl
    none (e ∷ es) = refl
choices_push m r (d ∷ ds) (w ∷ p) v o l =
    ap (λ (z : List Diff). chosen m r d w ++ z) (choices_push m r ds p v o (omega (arith, l))) ∙ sym (append_assoc (chosen m r d w) (chosen_all m r ds p) (chosen m r (get_or ds (length p) o) v))

choices_front : (m : PlainMode) (r : ℕ) (ds : List Decision) (p : List ℤ) (k : ℕ) → k ≤ length p → length p ≤ length ds → (rest : List Diff) × (chosen_all m r ds p ≡ chosen_all m r ds (take k p) ++ rest)
choices_front m r [] p k l s = ([], refl)
choices_front m r (d ∷ ds) p zero l s = (chosen_all m r (d ∷ ds) p, refl)
choices_front m r (d ∷ ds) [] (suc k) l s = absurd (omega (arith, l))
choices_front m r (d ∷ ds) (v ∷ p) (suc k) l s =
    let w = choices_front m r ds p k (omega (arith, l)) (omega (arith, s)) in
    (w.0, ap (λ (z : List Diff). chosen m r d v ++ z) w.1 ∙ sym (append_assoc (chosen m r d v) (chosen_all m r ds (take k p)) w.0))

pub force_length : (m : PlainMode) (r : ℕ) (p : List ℤ) → length p ≤ length (decisions m) → length (in_force m r p) ≡ length (base m r) + 2 * length p
force_length m r p l = length-append (base m r) (chosen_all m r (decisions m) p) ∙ ap (λ n. length (base m r) + n) (choices_length m r (decisions m) p l)

-- the constraints in force after a front of the choices are a front of those after all
pub force_front : (m : PlainMode) (r : ℕ) (p : List ℤ) (k : ℕ) → k ≤ length p → length p ≤ length (decisions m) → take (length (base m r) + 2 * k) (in_force m r p) ≡ in_force m r (take k p)
force_front m r p k l s =
    let w = choices_front m r (decisions m) p k l s in
    let len = length-take-le k p l in
    let whole : in_force m r p ≡ in_force m r (take k p) ++ w.0 =
    ap (λ (z : List Diff). base m r ++ z) w.1 ∙ sym (append_assoc (base m r) (chosen_all m r (decisions m) (take k p)) w.0) in
    ap (λ (z : List Diff). take (length (base m r) + 2 * k) z) whole ∙
    take_at (in_force m r (take k p)) w.0 (length (base m r) + 2 * k) (force_length m r (take k p) (omega (arith, len, l, s)) ∙ omega (arith, len))

-- with one choice more
pub force_push : (m : PlainMode) (r : ℕ) (p : List ℤ) (v : ℤ) → length p < length (decisions m) →
    in_force m r (p ++ v ∷ []) ≡ in_force m r p ++ chosen m r (get_or (decisions m) (length p) (order 0 0)) v
force_push m r p v l =
    ap (λ (z : List Diff). base m r ++ z) (choices_push m r (decisions m) p v (order 0 0) l)
    ∙ sym (append_assoc (base m r) (chosen_all m r (decisions m) p) (chosen m r (get_or (decisions m) (length p) (order 0 0)) v))

-- before any choice
pub force_none : (m : PlainMode) (r : ℕ) → in_force m r [] ≡ base m r
force_none m r = none (decisions m)
  where
    none : (es : List Decision) → base m r ++ chosen_all m r es [] ≡ base m r
    none [] = append-nil (base m r)
    none (e ∷ es) = append-nil (base m r)
