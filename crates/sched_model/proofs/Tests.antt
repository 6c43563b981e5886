-- Tests on lists, and the items that pass
use Rattle.std.proofs.Common.{◌≡◌, ℕ, zero, suc, ◌<◌, Bool, true, false, eqb, List, [], ◌∷◌, length, get_or, map, refl, sym, ◌∙◌, ap, arith, ⊎_elim}
use Rattle.std.specs.List.{list_any, filter}
use Rattle.std.proofs.lemmas.Bool.{or_cases, or_left, or_right, cases_Bool, eq-eqb, eqb-true, cond-true, cond-false}
use Rattle.sched_model.specs.Numbers.{below, has}
use Rattle.sched_model.proofs.Lists.{length-below, get_or-below}

-- ---- some item passes
pub passed : {X : Type 0} (t : X → Bool) (xs : List X) (d : X) → list_any t xs ≡ true → (k : ℕ) × (k < length xs) × (t (get_or xs k d) ≡ true)
passed t [] d e = absurd cc
passed t (x ∷ xs) d e =
    ⊎_elim (λ (h : t x ≡ true). (0, omega arith, h))
    (λ (h : list_any t xs ≡ true). let r = passed t xs d h in (suc r.0, omega (arith, r.1), r.2))
    (or_cases (t x) (list_any t xs) e)

pub passes : {X : Type 0} (t : X → Bool) (xs : List X) (d : X) (k : ℕ) → k < length xs → t (get_or xs k d) ≡ true → list_any t xs ≡ true
passes t [] d k l e = absurd (omega arith)
passes t (x ∷ xs) d zero l e = or_left (t x) (list_any t xs) e
passes t (x ∷ xs) d (suc k) l e = or_right (t x) (list_any t xs) (passes t xs d k (omega arith) e)

pub passed_below : (t : ℕ → Bool) (n : ℕ) → list_any t (below n) ≡ true → (k : ℕ) × (k < n) × (t k ≡ true)
passed_below t n e =
    let r = passed t (below n) 0 e in
    let l : r.0 < n = omega (arith, r.1, length-below n) in
    (r.0, l, ap t (sym (get_or-below n r.0 0 l)) ∙ r.2)

pub passes_below : (t : ℕ → Bool) (n k : ℕ) → k < n → t k ≡ true → list_any t (below n) ≡ true
passes_below t n k l e = passes t (below n) 0 k (omega (arith, l, length-below n)) (ap t (get_or-below n k 0 l) ∙ e)

-- ---- a number stands among those of the items that pass
kept_out : (t : ℕ → Bool) (f : ℕ → ℕ) (xs : List ℕ) (x : ℕ) → has (map f (filter t xs)) x ≡ true → (k : ℕ) × (k < length xs) × (t (get_or xs k 0) ≡ true) × (x ≡ f (get_or xs k 0))
kept_out t f [] x e = absurd cc
kept_out t f (y ∷ xs) x e =
    ⊎_elim
    (λ (yes : t y ≡ true).
    let e' = ap (λ l. has (map f l) x) (cond-true (t y) (y ∷ filter t xs) (filter t xs) yes) in
    ⊎_elim
    (λ (h : eqb x (f y) ≡ true). (0, omega arith, yes, eqb-true x (f y) h))
    (λ (h : has (map f (filter t xs)) x ≡ true). let r = kept_out t f xs x h in (suc r.0, omega (arith, r.1), r.2, r.3))
    (or_cases (eqb x (f y)) (has (map f (filter t xs)) x) (sym e' ∙ e)))
    (λ (no : t y ≡ false).
    let e' = ap (λ l. has (map f l) x) (cond-false (t y) (y ∷ filter t xs) (filter t xs) no) in
    let r = kept_out t f xs x (sym e' ∙ e) in (suc r.0, omega (arith, r.1), r.2, r.3))
    (cases_Bool (t y))

kept_in : (t : ℕ → Bool) (f : ℕ → ℕ) (xs : List ℕ) (k : ℕ) → k < length xs → t (get_or xs k 0) ≡ true → has (map f (filter t xs)) (f (get_or xs k 0)) ≡ true
kept_in t f [] k l e = absurd (omega arith)
kept_in t f (y ∷ xs) zero l e =
    ap (λ b. has (map f b) (f y)) (cond-true (t y) (y ∷ filter t xs) (filter t xs) e) ∙ or_left (eqb (f y) (f y)) (has (map f (filter t xs)) (f y)) (eq-eqb (f y) (f y) refl)
kept_in t f (y ∷ xs) (suc k) l e =
    let x = f (get_or xs k 0) in
    let r = kept_in t f xs k (omega arith) e in
    ⊎_elim
    (λ (yes : t y ≡ true). ap (λ b. has (map f b) x) (cond-true (t y) (y ∷ filter t xs) (filter t xs) yes) ∙ or_right (eqb x (f y)) (has (map f (filter t xs)) x) r)
    (λ (no : t y ≡ false). ap (λ b. has (map f b) x) (cond-false (t y) (y ∷ filter t xs) (filter t xs) no) ∙ r)
    (cases_Bool (t y))

pub kept_out_below : (t : ℕ → Bool) (f : ℕ → ℕ) (n x : ℕ) → has (map f (filter t (below n))) x ≡ true → (i : ℕ) × (i < n) × (t i ≡ true) × (x ≡ f i)
kept_out_below t f n x e =
    let r = kept_out t f (below n) x e in
    let l : r.0 < n = omega (arith, r.1, length-below n) in
    let g = get_or-below n r.0 0 l in
    (r.0, l, ap t (sym g) ∙ r.2, r.3 ∙ ap f g)

pub kept_in_below : (t : ℕ → Bool) (f : ℕ → ℕ) (n i : ℕ) → i < n → t i ≡ true → has (map f (filter t (below n))) (f i) ≡ true
kept_in_below t f n i l e =
    let g = get_or-below n i 0 l in
    ap (λ y. has (map f (filter t (below n))) (f y)) (sym g) ∙ kept_in t f (below n) i (omega (arith, l, length-below n)) (ap t g ∙ e)
