-- What holds of each item of a list made of others
use Rattle.std.proofs.Common.{◌≡◌, ℕ, zero, suc, ◌+◌, ◌<◌, ◌≤◌, Bool, true, false, cond, List, [], ◌∷◌, ◌++◌, length, get_or, map, refl, ◌∙◌, ap, subst, arith, ⊎_elim, length-append, append-nil}
use Rattle.std.specs.List.{AllByRecursion, flat_map}
use Rattle.std.proofs.lemmas.Bool.{cases_lt}
use Rattle.std.proofs.lemmas.List.{get_or_append_left, get_or-append-add, get_or_at, length_push, get_or-map}
use Rattle.std.proofs.lemmas.Grind.{flat_map-append}
use Rattle.sched_model.specs.Numbers.{below}

pub all_left : {X : Type 0} (P : X → Type 0) (xs ys : List X) → AllByRecursion P (xs ++ ys) → AllByRecursion P xs
all_left P [] ys h = tt
all_left P (x ∷ xs) ys h = (h.0, all_left P xs ys h.1)

pub all_right : {X : Type 0} (P : X → Type 0) (xs ys : List X) → AllByRecursion P (xs ++ ys) → AllByRecursion P ys
all_right P [] ys h = h
all_right P (x ∷ xs) ys h = all_right P xs ys h.1

pub all_both : {X : Type 0} (P : X → Type 0) (xs ys : List X) → AllByRecursion P xs → AllByRecursion P ys → AllByRecursion P (xs ++ ys)
all_both P [] ys h k = k
all_both P (x ∷ xs) ys h k = (h.0, all_both P xs ys h.1 k)

pub all_flat : {X Y : Type 0} (P : Y → Type 0) (f : X → List Y) (xs : List X) → AllByRecursion P (flat_map f xs) → AllByRecursion (λ x. AllByRecursion P (f x)) xs
all_flat P f [] h = tt
all_flat P f (x ∷ xs) h = (all_left P (f x) _ h, all_flat P f xs (all_right P (f x) _ h))

pub flat_all : {X Y : Type 0} (P : Y → Type 0) (f : X → List Y) (xs : List X) → AllByRecursion (λ x. AllByRecursion P (f x)) xs → AllByRecursion P (flat_map f xs)
flat_all P f [] h = tt
flat_all P f (x ∷ xs) h = all_both P (f x) _ h.0 (flat_all P f xs h.1)

pub all_below : (P : ℕ → Type 0) (n : ℕ) → AllByRecursion P (below n) → (i : ℕ) → i < n → P i
all_below P zero h i l = absurd (omega arith)
all_below P (suc n) h i l =
    ⊎_elim
    (λ (less : i < n). all_below P n (all_left P (below n) (n ∷ []) h) i less)
    (λ (le : n ≤ i). subst P (let e : n ≡ i = omega arith in e) (all_right P (below n) (n ∷ []) h).0)
    (cases_lt i n)

pub below_all : (P : ℕ → Type 0) (n : ℕ) → ((i : ℕ) → i < n → P i) → AllByRecursion P (below n)
below_all P zero h = tt
below_all P (suc n) h = all_both P (below n) (n ∷ []) (below_all P n (λ i l. h i (omega arith))) (h n (omega arith), tt)

pub all_cond : {X : Type 0} (P : X → Type 0) (b : Bool) (xs : List X) → AllByRecursion P (cond b xs []) → b ≡ true → AllByRecursion P xs
all_cond P true xs h e = h
all_cond P false xs h e = absurd (cc)

pub cond_all : {X : Type 0} (P : X → Type 0) (b : Bool) (xs : List X) → (b ≡ true → AllByRecursion P xs) → AllByRecursion P (cond b xs [])
cond_all P true xs h = h refl
cond_all P false xs h = tt

pub length-below : (n : ℕ) → length (below n) ≡ n
length-below zero = refl
length-below (suc n) = omega (arith, length_push (below n) n, length-below n)

pub get_or-below : (n i d : ℕ) → i < n → get_or (below n) i d ≡ i
get_or-below zero i d l = absurd (omega arith)
get_or-below (suc n) i d l =
    ⊎_elim
    (λ (less : i < n). get_or_append_left (below n) (n ∷ []) d i (omega (arith, length-below n)) ∙ get_or-below n i d less)
    (λ (le : n ≤ i). let e : n ≡ i = omega arith in get_or_at (below n) n [] d i (length-below n ∙ e) ∙ e)
    (cases_lt i n)

-- place i of the numbers below n, under a function
pub get_or-map_below : {X : Type 0} (f : ℕ → X) (n i : ℕ) (d : X) → i < n → get_or (map f (below n)) i d ≡ f i
get_or-map_below f n i d l = get_or-map f (below n) i 0 d (omega (arith, length-below n)) ∙ ap f (get_or-below n i 0 l)

pub flat_below-suc : {X : Type 0} (f : ℕ → List X) (n : ℕ) → flat_map f (below (suc n)) ≡ flat_map f (below n) ++ f n
flat_below-suc f n = flat_map-append f (below n) (n ∷ []) ∙ ap (λ l. flat_map f (below n) ++ l) (append-nil (f n))

pub part_fits : {X : Type 0} (f : ℕ → List X) (n i : ℕ) → i < n → length (flat_map f (below i)) + length (f i) ≤ length (flat_map f (below n))
part_fits f zero i l = absurd (omega arith)
part_fits f (suc n) i l =
    let e = ap length (flat_below-suc f n) ∙ length-append (flat_map f (below n)) (f n) in
    ⊎_elim
    (λ (less : i < n). omega (arith, e, part_fits f n i less))
    (λ (le : n ≤ i). subst (λ j. length (flat_map f (below j)) + length (f j) ≤ length (flat_map f (below (suc n)))) (let same : n ≡ i = omega arith in same) (omega (arith, e)))
    (cases_lt i n)

-- place k of part i of a list made of parts
pub get_or-flat_below : {X : Type 0} (f : ℕ → List X) (n i k : ℕ) (d : X) → i < n → k < length (f i) → get_or (flat_map f (below n)) (length (flat_map f (below i)) + k) d ≡ get_or (f i) k d
get_or-flat_below f zero i k d l h = absurd (omega arith)
get_or-flat_below f (suc n) i k d l h =
    ap (λ xs. get_or xs (length (flat_map f (below i)) + k) d) (flat_below-suc f n)
    ∙ ⊎_elim
    (λ (less : i < n). get_or_append_left (flat_map f (below n)) (f n) d (length (flat_map f (below i)) + k) (omega (arith, part_fits f n i less)) ∙ get_or-flat_below f n i k d less h)
    (λ (le : n ≤ i). subst (λ j. get_or (flat_map f (below n) ++ f n) (length (flat_map f (below j)) + k) d ≡ get_or (f j) k d) (let same : n ≡ i = omega arith in same) (get_or-append-add (flat_map f (below n)) (f n) k d))
    (cases_lt i n)
