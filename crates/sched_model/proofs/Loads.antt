-- A table made from choices has no number twice, and no more numbers than its round was chosen
use Rattle.std.proofs.Common.{◌≡◌, ℕ, zero, suc, ◌+◌, ◌-◌, ◌%◌, ◌<◌, ◌≤◌, Bool, true, false, cond, not, eqb, ◌||◌, List, [], ◌∷◌, ◌++◌, length, get_or, map, drop, refl, sym, ◌∙◌, ap, arith, ◌⊎◌, inl, inr, ⊎_elim, ℤ, pos, length-append}
use Rattle.std.specs.List.{filter, flat_map}
use Rattle.std.proofs.lemmas.Bool.{cases_Bool, false_from_ne_true, or_cases, eqb-false, and_parts, and_from, not_from_false, not-true, or_parts, cond-true, cond-false, eq-eqb, eqb-true}
use Rattle.std.proofs.lemmas.List.{map-append, length-map, get_or-drop, append-nil, length-drop}
use Rattle.std.proofs.lemmas.List.Elements.{filter-append}
use Rattle.sched_model.specs.PlainMode.{PlainMode, message_at, copy_count}
use Rattle.sched_model.specs.Numbers.{below, has, natural, distinct}
use Rattle.sched_model.specs.ConstraintProblem.{Decision, serve, order, serves, orders, decisions, choice, load, load_of}
use Rattle.sched_model.specs.PrintedSchedule.{names, table_of}
use Rattle.sched_model.proofs.Lists.{flat_below-suc, get_or-map_below}
use Rattle.sched_model.proofs.Tests.{passed_below, kept_out_below}
use Rattle.sched_model.proofs.Places.{length-serves}

-- ---- no number twice
has-push : (xs : List ℕ) (y x : ℕ) → has (xs ++ y ∷ []) x ≡ true → (has xs x ≡ true) ⊎ (x ≡ y)
has-push [] y x e = ⊎_elim (λ (h : eqb x y ≡ true). inr (eqb-true x y h)) (λ (h : false ≡ true). absurd cc) (or_cases (eqb x y) false e)
has-push (z ∷ xs) y x e =
    ⊎_elim (λ (h : eqb x z ≡ true). inl (ap (λ b. b || has xs x) h))
    (λ (h : has (xs ++ y ∷ []) x ≡ true). ⊎_elim (λ (g : has xs x ≡ true). inl (either (eqb x z) (has xs x) g)) inr (has-push xs y x h))
    (or_cases (eqb x z) (has (xs ++ y ∷ []) x) e)
  where
    either : (a b : Bool) → b ≡ true → (a || b) ≡ true
    either true b h = refl
    either false b h = h

distinct-push : (xs : List ℕ) (y : ℕ) → distinct xs ≡ true → has xs y ≡ false → distinct (xs ++ y ∷ []) ≡ true
distinct-push [] y d h = refl
distinct-push (x ∷ xs) y d h =
    let a = and_parts (not (has xs x)) (distinct xs) d in
    let b = or_parts (eqb y x) (has xs y) h in
    and_from (not (has (xs ++ y ∷ []) x)) (distinct (xs ++ y ∷ []))
    (not_from_false (has (xs ++ y ∷ []) x) (false_from_ne_true (has (xs ++ y ∷ []) x) (λ e.
    ⊎_elim (λ (g : has xs x ≡ true). absurd (let n = not-true (has xs x) a.0 in cc)) (λ (g : x ≡ y). eqb-false y x b.0 (sym g)) (has-push xs y x e))))
    (distinct-push xs y a.1 b.1)

pub distinct_table : (t : ℕ → Bool) (f : ℕ → ℕ) (n : ℕ) → ((i j : ℕ) → i < n → j < n → f i ≡ f j → i ≡ j) → distinct (map f (filter t (below n))) ≡ true
distinct_table t f zero inj = refl
distinct_table t f (suc n) inj =
    let rest = distinct_table t f n (λ i j l k. inj i j (omega arith) (omega arith)) in
    let e = ap (map f) (filter-append t (below n) (n ∷ [])) in
    ⊎_elim
    (λ (yes : t n ≡ true).
    let e' = e ∙ ap (λ l. map f (filter t (below n) ++ l)) (cond-true (t n) (n ∷ []) [] yes) ∙ map-append f (filter t (below n)) (n ∷ []) in
    let fresh : has (map f (filter t (below n))) (f n) ≡ false = false_from_ne_true _ (λ h.
    let k = kept_out_below t f n (f n) h in
    let same = inj n k.0 (omega arith) (omega (arith, k.1)) k.3 in
    omega (arith, k.1, same)) in
    ap distinct e' ∙ distinct-push (map f (filter t (below n))) (f n) rest fresh)
    (λ (no : t n ≡ false).
    let e' = e ∙ ap (λ l. map f (filter t (below n) ++ l)) (cond-false (t n) (n ∷ []) [] no) ∙ ap (map f) (append-nil (filter t (below n))) in
    ap distinct e' ∙ rest)
    (cases_Bool (t n))

-- ---- no more than the choices of the round
load-none : (r j : ℕ) (ds : List Decision) → load_of r j ds [] ≡ 0
load-none r j [] = refl
load-none r j (d ∷ ds) = refl

pub load-append : (r j : ℕ) (cs ds : List Decision) (p : List ℤ) → load_of r j (cs ++ ds) p ≡ load_of r j cs p + load_of r j ds (drop (length cs) p)
load-append r j [] ds p = omega arith
load-append r j (serve i k ∷ cs) ds [] = omega (arith, load-none r j ds)
load-append r j (order a b ∷ cs) ds [] = omega (arith, load-none r j ds)
load-append r j (serve i k ∷ cs) ds (x ∷ p) = omega (arith, load-append r j cs ds p)
load-append r j (order a b ∷ cs) ds (x ∷ p) = load-append r j cs ds p

load_some : (r j : ℕ) (ds : List Decision) (p : List ℤ) (x i k : ℕ) → x < length ds → x < length p → get_or ds x (order 0 0) ≡ serve i k → (natural (get_or p x (pos 0)) - 1) % r ≡ j → 1 ≤ load_of r j ds p
load_some r j [] p x i k l h e f = absurd (omega arith)
load_some r j (d ∷ ds) [] x i k l h e f = absurd (omega arith)
load_some r j (serve a b ∷ ds) (z ∷ p) zero i k l h e f =
    let t : ◌≡◌ {A = ℕ} (cond (eqb ((natural z - 1) % r) j) 1 0) 1 = cond-true (eqb ((natural z - 1) % r) j) 1 0 (eq-eqb ((natural z - 1) % r) j f) in omega (arith, t)
load_some r j (order a b ∷ ds) (z ∷ p) zero i k l h e f = absurd cc
load_some r j (serve a b ∷ ds) (z ∷ p) (suc x) i k l h e f = omega (arith, load_some r j ds p x i k (omega arith) (omega arith) e f)
load_some r j (order a b ∷ ds) (z ∷ p) (suc x) i k l h e f = load_some r j ds p x i k (omega arith) (omega arith) e f

named_load : (m : PlainMode) (r j : ℕ) (p : List ℤ) (n : ℕ) → length (flat_map (serves m) (below n)) ≤ length p → length (filter (names m r p j) (below n)) ≤ load_of r j (flat_map (serves m) (below n)) p
named_load m r j p zero le = omega arith
named_load m r j p (suc n) le =
    let t = names m r p j in
    let cs = flat_map (serves m) (below n) in
    let ds = serves m n in
    let q = drop (length cs) p in
    let split = ap length (flat_below-suc (serves m) n) ∙ length-append cs ds in
    let ls = ap (λ l. load_of r j l p) (flat_below-suc (serves m) n) ∙ load-append r j cs ds p in
    let rest = named_load m r j p n (omega (arith, split)) in
    let e = ap length (filter-append t (below n) (n ∷ [])) ∙ length-append (filter t (below n)) (cond (t n) (n ∷ []) []) in
    ⊎_elim
    (λ (yes : t n ≡ true).
    let one = ap length (cond-true (t n) (n ∷ []) [] yes) in
    let k = passed_below (λ k. eqb ((choice m p n k - 1) % r) j) (copy_count m (message_at m n)) yes in
    let count = length-serves m n in
    let drops = length-drop (length cs) p in
    let some = load_some r j ds q k.0 n k.0 (omega (arith, count, k.1)) (omega (arith, count, k.1, drops, split)) (get_or-map_below (serve n) (copy_count m (message_at m n)) k.0 (order 0 0) k.1)
    (ap (λ z. (natural z - 1) % r) (get_or-drop (length cs) p k.0 (pos 0)) ∙ eqb-true ((choice m p n k.0 - 1) % r) j k.2) in
    omega (arith, rest, e, ls, one, some))
    (λ (no : t n ≡ false).
    let none = ap length (cond-false (t n) (n ∷ []) [] no) in
    omega (arith, rest, e, ls, none))
    (cases_Bool (t n))

pub table_load : (m : PlainMode) (r j : ℕ) (p : List ℤ) → length p ≡ length (decisions m) → length (table_of m r p j) ≤ load m r j p
unfolding decisions
table_load m r j p full =
    let cs = flat_map (serves m) (below (length m.messages)) in
    let ds = flat_map (orders m) (below (length m.tasks)) in
    let e = length-append cs ds in
    let n = named_load m r j p (length m.messages) (omega (arith, full, e)) in
    let l = length-map (filter (names m r p j) (below (length m.messages))) (λ i. (message_at m i).number) in
    omega (arith, n, l, load-append r j cs ds p)
