-- Of n + 1 numbers below n two are one
use Rattle.std.proofs.Common.{◌≡◌, ◌≢◌, ℕ, zero, suc, ◌<◌, ◌≤◌, cond, eqb, true, false, sym, ◌∙◌, ap, arith, ◌⊎◌, inl, inr, ⊎_elim}
use Rattle.std.proofs.lemmas.Bool.{cases_eq, cases_lt, cases_Bool, eqb-true, eqb-false, cond-true, cond-false}

-- the first n of f have the value x, or not
look : (f : ℕ → ℕ) (x n : ℕ) → ((i : ℕ) × (i < n) × (f i ≡ x)) ⊎ ((i : ℕ) → i < n → f i ≡ x → ⊥)
look f x zero = inr (λ i l e. absurd (omega arith))
look f x (suc n) =
    ⊎_elim
    (λ (e : f n ≡ x). inl (n, omega arith, e))
    (λ (ne : f n ≡ x → ⊥). ⊎_elim
    (λ (w : (i : ℕ) × (i < n) × (f i ≡ x)). inl (w.0, omega (arith, w.1), w.2))
    (λ (none : (i : ℕ) → i < n → f i ≡ x → ⊥). inr (λ i l e. ⊎_elim (λ (less : i < n). none i less e) (λ (ge : n ≤ i). ne (ap f (let s : n ≡ i = omega arith in s) ∙ e)) (cases_lt i n)))
    (look f x n))
    (cases_eq (f n) x)

-- f without the value x: what is n is put in its place
abbrev squeezed : (ℕ → ℕ) → ℕ → ℕ → ℕ → ℕ
squeezed f n x i = cond (eqb (f i) n) x (f i)

pub two_alike : (n : ℕ) (f : ℕ → ℕ) → ((i : ℕ) → i < suc n → f i < n) → (i j : ℕ) × (i < j) × (j < suc n) × (f i ≡ f j)
two_alike zero f h = absurd (let l = h 0 (omega arith) in omega arith)
two_alike (suc n) f h =
    ⊎_elim
    (λ (w : (i : ℕ) × (i < suc n) × (f i ≡ f (suc n))). (w.0, suc n, w.1, omega arith, w.2))
    (λ (none : (i : ℕ) → i < suc n → f i ≡ f (suc n) → ⊥).
    let x = f (suc n) in
    let g = squeezed f n x in
    let below : (i : ℕ) → i < suc n → g i < n = λ i l. ⊎_elim
    (λ (e : eqb (f i) n ≡ true).
    let is = cond-true (eqb (f i) n) x (f i) e in
    let at = eqb-true (f i) n e in
    let top = h (suc n) (omega arith) in
    let ne : x ≢ n = λ (q : x ≡ n). none i l (at ∙ sym q) in
    omega (arith, is, top, ne))
    (λ (e : eqb (f i) n ≡ false).
    let is = cond-false (eqb (f i) n) x (f i) e in
    let ne : f i ≢ n = eqb-false (f i) n e in
    omega (arith, is, h i (omega arith), ne))
    (cases_Bool (eqb (f i) n)) in
    let w = two_alike n g below in
    (w.0, w.1, w.2, omega (arith, w.3), apart f n x w.0 w.1 (none w.0 (omega (arith, w.2, w.3))) (none w.1 w.3) w.4))
    (look f (f (suc n)) (suc n))
  where
    apart : (f : ℕ → ℕ) (n x i j : ℕ) → (f i ≡ x → ⊥) → (f j ≡ x → ⊥) → squeezed f n x i ≡ squeezed f n x j → f i ≡ f j
    apart f n x i j a b e =
        ⊎_elim
        (λ (p : eqb (f i) n ≡ true). ⊎_elim
        (λ (q : eqb (f j) n ≡ true). eqb-true (f i) n p ∙ sym (eqb-true (f j) n q))
        (λ (q : eqb (f j) n ≡ false). absurd (b (sym (cond-false (eqb (f j) n) x (f j) q) ∙ sym e ∙ cond-true (eqb (f i) n) x (f i) p)))
        (cases_Bool (eqb (f j) n)))
        (λ (p : eqb (f i) n ≡ false). ⊎_elim
        (λ (q : eqb (f j) n ≡ true). absurd (a (sym (cond-false (eqb (f i) n) x (f i) p) ∙ e ∙ cond-true (eqb (f j) n) x (f j) q)))
        (λ (q : eqb (f j) n ≡ false). sym (cond-false (eqb (f i) n) x (f i) p) ∙ e ∙ cond-false (eqb (f j) n) x (f j) q)
        (cases_Bool (eqb (f j) n)))
        (cases_Bool (eqb (f i) n))
