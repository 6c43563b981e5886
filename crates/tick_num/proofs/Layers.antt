-- Rounds from 0 on: the values are the least once no value is raised, and a value that is raised in the round after n of them closes a negative cycle
use Rattle.std.proofs.Common.{◌≡◌, ℕ, zero, suc, ◌+◌, ◌-◌, ◌<◌, ◌≤◌, cond, eqb, List, [], ◌∷◌, length, map, refl, sym, ◌∙◌, ap, subst, arith, ◌⊎◌, inl, inr, ⊎_elim, ℤ, pos, ◌-ℤ◌, ◌≤ℤ◌, ◌<ℤ◌}
use Rattle.std.specs.List.{AllByRecursion}
use Rattle.std.proofs.lemmas.Int.{ints, by_lt_z}
use Rattle.std.proofs.lemmas.Bool.{cases_lt, eq-eqb, ne_eqb, cond-true, cond-false}
use Rattle.std.proofs.lemmas.List.Elements.{All-from_recursion, All-get_or}
use borrow.Author.Differences.{same_in}
use Rattle.tick_num.specs.declared.differences.Diff.{Diff}
use Rattle.tick_num.specs.Differences.{diff, InRange, Meets, MeetsAll, LeastValues, NegativeCycle, named, sum_ℤ, Closes, IsCycle, LeastOrCycle, LeastUnique}
use Rattle.tick_num.proofs.Rounds.{RoundOf, raised, raised_does, at, forced}
use Rattle.tick_num.proofs.Pigeons.{two_alike}

-- the values after k rounds from 0
pub layer : List Diff → ℕ → ℕ → ℤ
layer ds zero y = pos 0
layer ds (suc k) y = raised (layer ds k) ds y

module _ (ds : List Diff) where
  round : (k : ℕ) → RoundOf (layer ds k) (layer ds (suc k)) ds
  unfolding layer
  round k = raised_does (layer ds k) ds

  -- ---- no solution is below the values
  under : (w : ℕ → ℤ) → MeetsAll w ds → ((x : ℕ) → pos 0 ≤ℤ w x) → (k x : ℕ) → layer ds k x ≤ℤ w x
  unfolding layer
  under w m z zero x = z x
  under w m z (suc k) x =
      let old = under w m z k x in
      ⊎_elim
      (λ (e : layer ds (suc k) x ≡ layer ds k x). omega (arith, ints, e, old))
      (λ (t : (i : ℕ) × (i < length ds) × ((at ds i).y ≡ x) × (layer ds (suc k) x ≡ forced (layer ds k) (at ds i))).
      let meets = m t.0 (diff 0 0 (pos 0)) t.1 in
      let here = under w m z k (at ds t.0).x in
      let e = ap w t.2 in
      omega (arith, ints, t.3, meets, here, e))
      ((round k).tight x)

  from_zero : (k x : ℕ) → pos 0 ≤ℤ layer ds k x
  unfolding layer
  from_zero zero x = omega (arith, ints)
  from_zero (suc k) x = let a = from_zero k x in let b = (round k).up x in omega (arith, ints, a, b)

  -- a round that raises no value
  settled : (k : ℕ) → ((x : ℕ) → layer ds (suc k) x ≤ℤ layer ds k x) → LeastValues ds (layer ds k)
  settled k still = record {
    solves = All-from_recursion (Meets (layer ds k)) ds (met_all ds (round k).met);
    from_zero = from_zero k;
    least = λ w m z x. under w m z k x;
  }
    where
      met_all : (cs : List Diff) → AllByRecursion (λ d. forced (layer ds k) d ≤ℤ layer ds (suc k) d.y) cs → AllByRecursion (Meets (layer ds k)) cs
      met_all [] h = tt
      met_all (d ∷ cs) h = (let a = h.0 in let b = still d.y in omega (arith, ints, a, b), met_all cs h.1)

  -- ---- a value that is raised late
  abbrev IsRaised : ℕ → ℕ → Type 0
  IsRaised k y = layer ds k y <ℤ layer ds (suc k) y

  -- what raised it is a constraint whose x was raised in the round before
  record Back (k y : ℕ) : Type 0 where
    place : ℕ
    within : place < length ds
    to : (at ds place).y ≡ y
    before : IsRaised k (at ds place).x
    value : layer ds (suc (suc k)) y ≡ forced (layer ds (suc k)) (at ds place)

  step_back : (k y : ℕ) → IsRaised (suc k) y → Back k y
  step_back k y h =
      ⊎_elim
      (λ (e : layer ds (suc (suc k)) y ≡ layer ds (suc k) y). absurd (omega (arith, ints, e, h)))
      (λ (t : (i : ℕ) × (i < length ds) × ((at ds i).y ≡ y) × (layer ds (suc (suc k)) y ≡ forced (layer ds (suc k)) (at ds i))).
      let met = All-get_or (λ (d : Diff). forced (layer ds k) d ≤ℤ layer ds (suc k) d.y) ds t.0 (diff 0 0 (pos 0)) t.1 (All-from_recursion _ ds (round k).met) in
      let e = ap (layer ds (suc k)) t.2 in
      record { place = t.0; within = t.1; to = t.2; before = omega (arith, ints, met, e, h, t.3); value = t.3 })
      ((round (suc k)).tight y)

  -- the walk along which y was raised: f has its variables, g its constraints
  record Trace (k y : ℕ) : Type 0 where
    f : ℕ → ℕ
    g : ℕ → ℕ
    top : f k ≡ y
    late : (j : ℕ) → j ≤ k → IsRaised j (f j)
    within : (j : ℕ) → j < k → g j < length ds
    from : (j : ℕ) → j < k → (at ds (g j)).x ≡ f j
    to : (j : ℕ) → j < k → (at ds (g j)).y ≡ f (suc j)
    value : (j : ℕ) → j < k → layer ds (suc (suc j)) (f (suc j)) ≡ layer ds (suc j) (f j) -ℤ (at ds (g j)).c

  put : (ℕ → ℕ) → ℕ → ℕ → ℕ → ℕ
  put f k y j = cond (eqb j k) y (f j)

  put_here : (f : ℕ → ℕ) (k y : ℕ) → put f k y k ≡ y
  unfolding put
  put_here f k y = cond-true (eqb k k) y (f k) (eq-eqb k k refl)

  put_else : (f : ℕ → ℕ) (k y j : ℕ) → j < k → put f k y j ≡ f j
  unfolding put
  put_else f k y j l = cond-false (eqb j k) y (f j) (ne_eqb j k (λ e. omega (arith, e, l)))

  trace : (k y : ℕ) → IsRaised k y → Trace k y
  trace zero y h = record {
    f = λ _. y;
    g = λ _. 0;
    top = refl;
    late = λ j l. subst (λ j. IsRaised j y) (let e : 0 ≡ j = omega arith in e) h;
    within = λ j l. absurd (omega arith);
    from = λ j l. absurd (omega arith);
    to = λ j l. absurd (omega arith);
    value = λ j l. absurd (omega arith);
  }
  trace (suc k) y h =
      let b = step_back k y h in
      let t = trace k (at ds b.place).x b.before in
      let f = put t.f (suc k) y in
      let g = put t.g k b.place in
      let last = put_here t.f (suc k) y in
      let this = put_here t.g k b.place in
      record {
        f = f;
        g = g;
        top = last;
        late = λ j l. ⊎_elim
            (λ (less : j < suc k). subst (IsRaised j) (sym (put_else t.f (suc k) y j less)) (t.late j (omega arith)))
            (λ (ge : suc k ≤ j). let e : suc k ≡ j = omega (arith, l, ge) in subst (λ i. IsRaised i (f i)) e (subst (IsRaised (suc k)) (sym last) h))
            (cases_lt j (suc k));
        within = λ j l. ⊎_elim
            (λ (less : j < k). omega (arith, put_else t.g k b.place j less, t.within j less))
            (λ (ge : k ≤ j). let e = ap g (let s : j ≡ k = omega (arith, l, ge) in s) in omega (arith, e, this, b.within))
            (cases_lt j k);
        from = λ j l. let here = put_else t.f (suc k) y j (omega arith) in ⊎_elim
            (λ (less : j < k). ap (λ i. (at ds i).x) (put_else t.g k b.place j less) ∙ t.from j less ∙ sym here)
            (λ (ge : k ≤ j). let s : j ≡ k = omega (arith, l, ge) in ap (λ i. (at ds i).x) (ap g s ∙ this) ∙ sym t.top ∙ ap t.f (sym s) ∙ sym here)
            (cases_lt j k);
        to = λ j l. ⊎_elim
            (λ (less : j < k). ap (λ i. (at ds i).y) (put_else t.g k b.place j less) ∙ t.to j less ∙ sym (put_else t.f (suc k) y (suc j) (omega arith)))
            (λ (ge : k ≤ j). let s : j ≡ k = omega (arith, l, ge) in ap (λ i. (at ds i).y) (ap g s ∙ this) ∙ b.to ∙ sym (ap f (ap suc s) ∙ last))
            (cases_lt j k);
        value = λ j l. let here = ap (layer ds (suc j)) (put_else t.f (suc k) y j (omega arith)) in ⊎_elim
            (λ (less : j < k).
            let a = ap (λ i. (at ds i).c) (put_else t.g k b.place j less) in
            let c = ap (layer ds (suc (suc j))) (put_else t.f (suc k) y (suc j) (omega arith)) in
            let v = t.value j less in
            same_in _ _ (omega (arith, ints, here, a, c, v)))
            (λ (ge : k ≤ j).
            let s : j ≡ k = omega (arith, l, ge) in
            let a = ap (λ i. (at ds i).c) (ap g s ∙ this) in
            let c = ap (λ i. layer ds (suc (suc i)) (f (suc i))) s ∙ ap (layer ds (suc (suc k))) last in
            let d = ap (λ i. layer ds (suc i) (t.f i)) s ∙ ap (layer ds (suc k)) t.top in
            let v = b.value in
            same_in _ _ (omega (arith, ints, here, a, c, d, v)))
            (cases_lt j k);
      }

  grows : (i k x : ℕ) → layer ds i x ≤ℤ layer ds (i + k) x
  grows i zero x = let e = ap (λ j. layer ds j x) (let s : i + 0 ≡ i = omega arith in s) in omega (arith, ints, e)
  grows i (suc k) x =
      let a = grows i k x in
      let b = (round (i + k)).up x in
      let e = ap (λ j. layer ds j x) (let s : i + suc k ≡ suc (i + k) = omega arith in s) in
      omega (arith, ints, a, b, e)

  -- the constraints g i, g (i + 1), .., k + 1 of them
  abbrev stretch : (ℕ → ℕ) → ℕ → ℕ → List ℕ
  stretch g i zero = g i ∷ []
  stretch g i (suc k) = g i ∷ stretch g (suc i) k

  length-stretch : (g : ℕ → ℕ) (i k : ℕ) → length (stretch g i k) ≡ suc k
  length-stretch g i zero = refl
  length-stretch g i (suc k) = ap suc (length-stretch g (suc i) k)

  module _ (k y : ℕ) (t : Trace k y) where
    stretch_within : (i j : ℕ) → i + j < k → AllByRecursion (λ i. i < length ds) (stretch t.g i j)
    stretch_within i zero l = (t.within i (omega arith), tt)
    stretch_within i (suc j) l = (t.within i (omega arith), stretch_within (suc i) j (omega arith))

    stretch_closes : (i j x : ℕ) → i + j < k → t.f (suc (i + j)) ≡ x → Closes x (named ds (stretch t.g i j))
    stretch_closes i zero x l e = t.to i (omega arith) ∙ ap t.f (let s : suc i ≡ suc (i + 0) = omega arith in s) ∙ e
    stretch_closes i (suc zero) x l e = (t.to i (omega arith) ∙ sym (t.from (suc i) (omega arith)), stretch_closes (suc i) zero x (omega arith) (ap t.f (let s : suc (suc i + 0) ≡ suc (i + 1) = omega arith in s) ∙ e))
    stretch_closes i (suc (suc j)) x l e = (t.to i (omega arith) ∙ sym (t.from (suc i) (omega arith)), stretch_closes (suc i) (suc j) x (omega arith) (ap t.f (let s : suc (suc i + suc j) ≡ suc (i + suc (suc j)) = omega arith in s) ∙ e))

    stretch_sum : (i j : ℕ) → i + j < k → sum_ℤ (map (λ d. d.c) (named ds (stretch t.g i j))) ≡ layer ds (suc i) (t.f i) -ℤ layer ds (suc (suc (i + j))) (t.f (suc (i + j)))
    stretch_sum i zero l =
        let v = t.value i (omega arith) in
        let e = ap (λ z. layer ds (suc (suc z)) (t.f (suc z))) (let s : i + 0 ≡ i = omega arith in s) in
        same_in _ _ (omega (arith, ints, v, e))
    stretch_sum i (suc j) l =
        let v = t.value i (omega arith) in
        let r = stretch_sum (suc i) j (omega arith) in
        let e = ap (λ z. layer ds (suc (suc z)) (t.f (suc z))) (let s : i + suc j ≡ suc i + j = omega arith in s) in
        same_in _ _ (omega (arith, ints, v, r, e))

    stretch_cycle : (i j : ℕ) → i + j < k → t.f (suc (i + j)) ≡ t.f i → IsCycle (named ds (stretch t.g i j))
    stretch_cycle i zero l e = stretch_closes i zero (at ds (t.g i)).x l (e ∙ sym (t.from i (omega arith)))
    stretch_cycle i (suc j) l e = stretch_closes i (suc j) (at ds (t.g i)).x l (e ∙ sym (t.from i (omega arith)))

    stretch_negative : (i j : ℕ) → i + j < k → t.f (suc (i + j)) ≡ t.f i → sum_ℤ (map (λ d. d.c) (named ds (stretch t.g i j))) <ℤ pos 0
    stretch_negative i j l same =
        let up = grows (suc i) j (t.f i) in
        let late = t.late (suc (i + j)) (omega arith) in
        let e = ap (layer ds (suc (i + j))) same in
        let e' = ap (layer ds (suc (suc (i + j)))) same in
        let sum = stretch_sum i j l in
        let s = ap (λ z. layer ds z (t.f i)) (let z : suc i + j ≡ suc (i + j) = omega arith in z) in
        omega (arith, ints, sum, up, late, e, e', s)

  -- only a variable of the list is raised
  raised_low : (n k x : ℕ) → InRange n ds → IsRaised k x → x < n
  raised_low n k x range h =
      ⊎_elim
      (λ (e : layer ds (suc k) x ≡ layer ds k x). absurd (omega (arith, ints, e, h)))
      (λ (t : (i : ℕ) × (i < length ds) × ((at ds i).y ≡ x) × (layer ds (suc k) x ≡ forced (layer ds k) (at ds i))).
      let low = (range t.0 (diff 0 0 (pos 0)) t.1).1 in
      omega (arith, low, t.2))
      ((round k).tight x)

  -- a value that n rounds do not settle
  late_cycle : (n y : ℕ) → InRange n ds → IsRaised n y → (refs : List ℕ) × NegativeCycle ds refs × (1 ≤ length refs) × (length refs ≤ n)
  late_cycle n y range h =
      let t = trace n y h in
      let w = two_alike n t.f (λ i li. raised_low n i (t.f i) range (t.late i (omega (arith, li)))) in
      let i = w.0 in
      let j = w.1 - suc i in
      let fits : i + j < n = omega (arith, w.2, w.3) in
      let end : suc (i + j) ≡ w.1 = omega (arith, w.2) in
      let same : t.f (suc (i + j)) ≡ t.f i = ap t.f end ∙ sym w.4 in
      let refs = stretch t.g i j in (
        refs,
        record {
          within = All-from_recursion (λ i. i < length ds) refs (stretch_within n y t i j fits);
          closed = stretch_cycle n y t i j fits same;
          negative = stretch_negative n y t i j fits same;
        },
        omega (arith, length-stretch t.g i j),
        omega (arith, length-stretch t.g i j),
      )

-- one of the first n is raised, or none
look : (n : ℕ) (v w : ℕ → ℤ) → ((x : ℕ) × (v x <ℤ w x)) ⊎ ((x : ℕ) → x < n → w x ≤ℤ v x)
look zero v w = inr (λ x l. absurd (omega arith))
look (suc n) v w =
    by_lt_z {P = ((x : ℕ) × (v x <ℤ w x)) ⊎ ((x : ℕ) → x < suc n → w x ≤ℤ v x)} (v n) (w n)
    (λ less. inl (n, less))
    (λ ge. ⊎_elim
    (λ (h : (x : ℕ) × (v x <ℤ w x)). inl h)
    (λ (h : (x : ℕ) → x < n → w x ≤ℤ v x). inr (λ x l. ⊎_elim
    (λ (less : x < n). h x less)
    (λ (high : n ≤ x). subst (λ i. w i ≤ℤ v i) (let e : n ≡ x = omega (arith, l, high) in e) ge)
    (cases_lt x n)))
    (look n v w))

pub least_or_cycle : LeastOrCycle
least_or_cycle n ds range =
    ⊎_elim
    (λ (h : (x : ℕ) × IsRaised ds n x). inr (late_cycle ds n h.0 range h.1))
    (λ (h : (x : ℕ) → x < n → layer ds (suc n) x ≤ℤ layer ds n x). inl (
      layer ds n,
      settled ds n (λ x.
          by_lt_z {P = layer ds (suc n) x ≤ℤ layer ds n x} (layer ds n x) (layer ds (suc n) x)
          (λ less. h x (raised_low ds n n x range less))
          (λ ge. ge)),
    ))
    (look n (layer ds n) (layer ds (suc n)))

pub least_unique : LeastUnique
least_unique ds v w a b x =
    let low = a.least w b.solves b.from_zero x in
    let high = b.least v a.solves a.from_zero x in
    same_in _ _ (omega (arith, ints, low, high))
