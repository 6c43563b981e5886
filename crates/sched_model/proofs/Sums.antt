-- Sums and counts over the numbers below n
use Rattle.std.proofs.Common.{◌≡◌, ℕ, zero, suc, ◌+◌, ◌-◌, ◌*◌, ◌%◌, ◌<◌, ◌≤◌, Bool, true, false, cond, eqb, ◌||◌, List, [], ◌∷◌, ◌++◌, length, get_or, map, drop, refl, sym, ◌∙◌, ap, arith, ⊎_elim, ℤ, pos}
use Rattle.std.specs.List.{flat_map, sum_by}
use Rattle.std.proofs.lemmas.Bool.{cases_Bool, eqb-true, eq-eqb, ne_eqb, cond-true, cond-false, cases_eq}
use Rattle.std.proofs.lemmas.List.{map-append, drop_more, length-map}
use Rattle.std.proofs.lemmas.List.Sums.{sum_by-append}
use Rattle.sched_model.specs.PlainMode.{PlainMode, message_at, copy_count, instances}
use Rattle.sched_model.specs.Numbers.{below, has, natural}
use Rattle.sched_model.specs.ConstraintProblem.{Decision, serve, order, serves, orders, decisions, load_of}
pub use Rattle.sched_model.specs.ServedCounts.{one_if}
use Rattle.sched_model.proofs.Lists.{length-below}
use Rattle.sched_model.proofs.Loads.{load-append}
use Rattle.sched_model.proofs.Lists.{flat_below-suc}

pub one_true : (b : Bool) → b ≡ true → one_if b ≡ 1
one_true b e = cond-true b 1 0 e

pub one_false : (b : Bool) → b ≡ false → one_if b ≡ 0
one_false b e = cond-false b 1 0 e

pub one_most : (b : Bool) → one_if b ≤ 1
one_most true = omega arith
one_most false = omega arith

abbrev pub sum_to : (ℕ → ℕ) → ℕ → ℕ
sum_to f zero = 0
sum_to f (suc n) = sum_to f n + f n

pub sum_most : (f : ℕ → ℕ) (b n : ℕ) → ((j : ℕ) → j < n → f j ≤ b) → sum_to f n ≤ n * b
sum_most f b zero h = omega arith
sum_most f b (suc n) h = omega (arith, sum_most f b n (λ j l. h j (omega arith)), h n (omega arith))

pub sum_under : (f g : ℕ → ℕ) (n : ℕ) → ((j : ℕ) → j < n → f j ≤ g j) → sum_to f n ≤ sum_to g n
sum_under f g zero h = omega arith
sum_under f g (suc n) h = omega (arith, sum_under f g n (λ j l. h j (omega arith)), h n (omega arith))

sum-add : (f g : ℕ → ℕ) (n : ℕ) → sum_to (λ j. f j + g j) n ≡ sum_to f n + sum_to g n
sum-add f g zero = refl
sum-add f g (suc n) = omega (arith, sum-add f g n)

none_at : (x n : ℕ) → n ≤ x → sum_to (λ j. one_if (eqb x j)) n ≡ 0
none_at x zero h = refl
none_at x (suc n) h = omega (arith, none_at x n (omega arith), one_false (eqb x n) (ne_eqb x n (λ e. omega (arith, e))))

one_at : (x n : ℕ) → x < n → sum_to (λ j. one_if (eqb x j)) n ≡ 1
one_at x zero h = absurd (omega arith)
one_at x (suc n) h =
    ⊎_elim
    (λ (e : x ≡ n). omega (arith, none_at x n (omega arith), one_true (eqb x n) (eq-eqb x n e)))
    (λ (ne : x ≡ n → ⊥). omega (arith, one_at x n (omega arith), one_false (eqb x n) (ne_eqb x n ne)))
    (cases_eq x n)

-- a number is passed by few where each two that pass are one
pub most_one : (t : ℕ → Bool) (n : ℕ) → ((i j : ℕ) → i < j → j < n → t i ≡ true → t j ≡ true → ⊥) → sum_to (λ i. one_if (t i)) n ≤ 1
most_one t zero h = omega arith
most_one t (suc n) h =
    ⊎_elim
    (λ (yes : t n ≡ true). omega (arith, one_most (t n), sum_most (λ i. one_if (t i)) 0 n (λ j l. none j l yes)))
    (λ (no : t n ≡ false). omega (arith, one_false (t n) no, most_one t n (λ i j a b. h i j a (omega arith))))
    (cases_Bool (t n))
  where
    none : (j : ℕ) → j < n → t n ≡ true → one_if (t j) ≤ 0
    none j l p = ⊎_elim (λ (e : t j ≡ true). absurd (h j n l (omega arith) e p)) (λ (e : t j ≡ false). omega (arith, one_false (t j) e)) (cases_Bool (t j))

-- numbers that differ stand in a list at most as often as it is long
pub few_in : (f : ℕ → ℕ) (n : ℕ) (xs : List ℕ) → ((i j : ℕ) → i < n → j < n → f i ≡ f j → i ≡ j) → sum_to (λ i. one_if (has xs (f i))) n ≤ length xs
few_in f n [] inj = omega (arith, sum_most (λ i. one_if (has [] (f i))) 0 n (λ j l. omega arith))
few_in f n (x ∷ xs) inj =
    let a = few_in f n xs inj in
    let b = most_one (λ i. eqb (f i) x) n (λ i j less l p q. let same = inj i j (omega arith) l (eqb-true (f i) x p ∙ sym (eqb-true (f j) x q)) in omega (arith, less, same)) in
    let c = sum_under (λ i. one_if (has (x ∷ xs) (f i))) (λ i. one_if (eqb (f i) x) + one_if (has xs (f i))) n (λ i l. either (eqb (f i) x) (has xs (f i))) in
    omega (arith, a, b, c, sum-add (λ i. one_if (eqb (f i) x)) (λ i. one_if (has xs (f i))) n)
  where
    either : (a b : Bool) → one_if (a || b) ≤ one_if a + one_if b
    either true b = omega arith
    either false b = omega arith

-- ---- the choices of one message
pub load-serves : (r j i n : ℕ) (q : List ℤ) → n ≤ length q → load_of r j (map (serve i) (below n)) q ≡ sum_to (λ k. one_if (eqb ((natural (get_or q k (pos 0)) - 1) % r) j)) n
load-serves r j i zero q h = refl
load-serves r j i (suc n) q h =
    let cs = map (serve i) (below n) in
    let len : length cs ≡ n = length-map (below n) (serve i) ∙ length-below n in
    let e = ap (λ ds. load_of r j ds q) (map-append (serve i) (below n) (n ∷ [])) ∙ load-append r j cs (serve i n ∷ []) q in
    let d : drop (length cs) q ≡ get_or q n (pos 0) ∷ drop (n + 1) q = ap (λ x. drop x q) len ∙ drop_more q n (pos 0) (omega arith) in
    let f = ap (λ l. load_of r j (serve i n ∷ []) l) d in
    omega (arith, e, f, load-serves r j i n q (omega arith))

-- ---- all rounds together are chosen once for each instance
abbrev pub serving_count : List Decision → ℕ
serving_count [] = 0
serving_count (serve i k ∷ ds) = suc (serving_count ds)
serving_count (order a b ∷ ds) = serving_count ds

pub all_loads : (r : ℕ) (ds : List Decision) (p : List ℤ) → 1 ≤ r → ((x : ℕ) → x % r < r) → length ds ≤ length p → sum_to (λ j. load_of r j ds p) r ≡ serving_count ds
all_loads r [] p some low h = omega (arith, sum_most (λ j. load_of r j [] p) 0 r (λ j l. omega arith))
all_loads r (d ∷ ds) [] some low h = absurd (omega arith)
all_loads r (serve i k ∷ ds) (z ∷ p) some low h =
    let x = (natural z - 1) % r in
    omega (arith, sum-add (λ j. one_if (eqb x j)) (λ j. load_of r j ds p) r, one_at x r (low (natural z - 1)), all_loads r ds p some low (omega arith))
all_loads r (order a b ∷ ds) (z ∷ p) some low h = all_loads r ds p some low (omega arith)

count-append : (cs ds : List Decision) → serving_count (cs ++ ds) ≡ serving_count cs + serving_count ds
count-append [] ds = omega arith
count-append (serve i k ∷ cs) ds = omega (arith, count-append cs ds)
count-append (order a b ∷ cs) ds = count-append cs ds

count-serves : (i : ℕ) (ks : List ℕ) → serving_count (map (serve i) ks) ≡ length ks
count-serves i [] = refl
count-serves i (k ∷ ks) = ap suc (count-serves i ks)

count_messages : (m : PlainMode) (n : ℕ) → sum_by (λ i. copy_count m (message_at m i)) (below n) ≡ serving_count (flat_map (serves m) (below n))
count_messages m zero = refl
count_messages m (suc n) =
    let a = sum_by-append (λ i. copy_count m (message_at m i)) (below n) (n ∷ []) in
    let b = ap serving_count (flat_below-suc (serves m) n) ∙ count-append (flat_map (serves m) (below n)) (serves m n) in
    let c = count-serves n (below (copy_count m (message_at m n))) in
    omega (arith, a, b, c, count_messages m n, length-below (copy_count m (message_at m n)))

pub instances_counted : (m : PlainMode) → instances m ≤ serving_count (decisions m)
unfolding decisions
instances_counted m = omega (arith, count_messages m (length m.messages), count-append (flat_map (serves m) (below (length m.messages))) (flat_map (orders m) (below (length m.tasks))))
