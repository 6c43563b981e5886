-- The rounds that choices name, one after another
use Rattle.std.proofs.Common.{◌≡◌, ℕ, zero, suc, ◌+◌, ◌-◌, ◌%◌, ◌<◌, ◌≤◌, cond, List, [], ◌∷◌, ◌++◌, length, get_or, take, Option, refl, sym, ◌∙◌, ap, arith, add-one, eqb, ℤ}
use Rattle.std.proofs.Math.Dec.{eqb-suc-suc}
use Rattle.std.proofs.lemmas.List.Sums.{sum_by-cons}
use Rattle.sched_model.specs.Numbers.{natural}
use Rattle.sched_model.specs.PlainMode.{PlainMode}
use Rattle.sched_model.specs.ConstraintProblem.{Decision, serve, order, decisions, load_of}
use Rattle.constraint_set.specs.Loads.{LoadsAreTallies, Tally, first, is_round, round_of, rounds_of, tally_of, times, with_one}

same_test : (a b : ℕ) → eqb (a + 1) (b + 1) ≡ eqb a b
same_test a b = simp add-one (eqb-suc-suc a b)

pub load_is : (r j : ℕ) (ds : List Decision) (p : List ℤ) → load_of r j ds p ≡ times (j + 1) (rounds_of r ds p)
load_is r j [] p = refl
load_is r j (d ∷ ds) [] = refl
load_is r j (serve i k ∷ ds) (v ∷ p) =
    ap (λ n. cond (eqb ((natural v - 1) % r) j) 1 0 + n) (load_is r j ds p)
    ∙ ap (λ b. cond b 1 0 + times (j + 1) (rounds_of r ds p)) (sym (same_test ((natural v - 1) % r) j))
    ∙ sym (sum_by-cons (λ o. cond (is_round (j + 1) o) 1 0) (round_of r (serve i k) v) (rounds_of r ds p))
load_is r j (order a b ∷ ds) (v ∷ p) =
    let rest = load_is r j ds p in
    let whole = sum_by-cons (λ o. cond (is_round (j + 1) o) 1 0) (round_of r (order a b) v) (rounds_of r ds p) in
    omega (arith, rest, whole)

pub loads_are : LoadsAreTallies
loads_are m r j p = load_is r j (decisions m) p

named_none : (r : ℕ) (ds : List Decision) → rounds_of r ds [] ≡ []
named_none r [] = refl
named_none r (d ∷ ds) = refl

named_push : (r : ℕ) (ds : List Decision) (p : List ℤ) (v : ℤ) → length p < length ds → rounds_of r ds (p ++ v ∷ []) ≡ rounds_of r ds p ++ round_of r (get_or ds (length p) (order 0 0)) v ∷ []
named_push r [] p v l = absurd (omega (arith, l))
named_push r (d ∷ ds) [] v l = ap (λ (os : List (Option ℕ)). round_of r d v ∷ os) (named_none r ds)
named_push r (d ∷ ds) (w ∷ p) v l = ap (λ (os : List (Option ℕ)). round_of r d w ∷ os) (named_push r ds p v (omega (arith, l)))

named_front : (r : ℕ) (ds : List Decision) (p : List ℤ) (k : ℕ) → take k (rounds_of r ds p) ≡ rounds_of r ds (take k p)
named_front r [] p zero = refl
named_front r [] p (suc k) = refl
named_front r (d ∷ ds) p zero = refl
named_front r (d ∷ ds) [] (suc k) = refl
named_front r (d ∷ ds) (v ∷ p) (suc k) = ap (λ (os : List (Option ℕ)). round_of r d v ∷ os) (named_front r ds p k)

named_length : (r : ℕ) (ds : List Decision) (p : List ℤ) → length p ≤ length ds → length (rounds_of r ds p) ≡ length p
named_length r [] [] l = refl
named_length r [] (v ∷ p) l = absurd (omega (arith, l))
named_length r (d ∷ ds) [] l = refl
named_length r (d ∷ ds) (v ∷ p) l = ap suc (named_length r ds p (omega (arith, l)))

abbrev of : ℕ → ℕ → List (Option ℕ) → Tally
of rounds room named = record { rounds = rounds; room = room; named = named }

module _ (m : PlainMode) (r : ℕ) where
  -- before any choice
  pub tally_none : (t : Tally) (rounds room : ℕ) → t ≡ record { rounds = rounds; room = room; named = [] } → rounds ≡ r → room ≡ length (decisions m) → t ≡ tally_of m r []
  tally_none t rounds room e f g =
      e ∙ ap (λ n. of n room []) f ∙ ap (λ n. of r n []) g ∙ ap (of r (length (decisions m))) (sym (named_none r (decisions m)))

  -- with one choice more
  pub tally_push : (p : List ℤ) (v : ℤ) → length p < length (decisions m) → with_one (tally_of m r p) (round_of r (get_or (decisions m) (length p) (order 0 0)) v) ≡ tally_of m r (p ++ v ∷ [])
  tally_push p v l = ap (of r (length (decisions m))) (sym (named_push r (decisions m) p v l))

  -- the first choices alone
  pub tally_front : (p : List ℤ) (k : ℕ) → first k (tally_of m r p) ≡ tally_of m r (take k p)
  tally_front p k = ap (of r (length (decisions m))) (named_front r (decisions m) p k)

  pub tally_length : (p : List ℤ) → length p ≤ length (decisions m) → length (tally_of m r p).named ≡ length p
  tally_length p l = named_length r (decisions m) p l
