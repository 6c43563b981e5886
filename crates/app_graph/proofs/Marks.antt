-- Sets of elements of a list as numbers
use Rattle.std.proofs.Common.{◌≡◌, ◌≢◌, ℕ, zero, suc, ◌+◌, ◌-◌, ◌*◌, ◌/◌, ◌%◌, ◌^◌, ◌<◌, ◌≤◌, min, max, Bool, true, false, cond, not, eqb, ◌&&◌, ◌||◌, List, [], ◌∷◌, ◌++◌, length, get_or, take, refl, sym, ◌∙◌, ap, subst, arith, ⊎_elim, bit_and, bit_or}
use Rattle.std.specs.Int.{w128}
use Rattle.std.specs.Int.{bit_at}
use Rattle.std.specs.List.{list_any}
use Rattle.std.proofs.lemmas.Bool.{cases_lt, cases_eq, ne_eqb}
use Rattle.std.proofs.lemmas.List.{take_more, length-take}
use Rattle.std.proofs.lemmas.Nat.Bits.{bit_at_lowest, bit_at-suc, bit_at-zero, bit_at_and, bit_at_or, bit_at_ones, bit_at_set_same, bit_at_set_other, same_from_bits}
use Rattle.app_graph.specs.Masks.{mask_of}

-- whether there is an element at the place, and it passes
abbrev pub at : {A : Type 0} → (A → Bool) → List A → ℕ → Bool
at p [] j = false
at p (x ∷ xs) zero = p x
at p (x ∷ xs) (suc j) = at p xs j

pub bit_at-mask_of : {A : Type 0} (p : A → Bool) (xs : List A) (j : ℕ) → bit_at (mask_of p xs) j ≡ cond (at p xs j) 1 0
bit_at-mask_of p [] j = bit_at-zero j
bit_at-mask_of p (x ∷ xs) zero = bit_at_lowest (mask_of p (x ∷ xs)) ∙ low (p x) (mask_of p xs)
  where
    low : (b : Bool) (m : ℕ) → (cond b 1 0 + 2 * m) % 2 ≡ cond b 1 0
    low true m = omega arith
    low false m = omega arith
bit_at-mask_of p (x ∷ xs) (suc j) = bit_at-suc (mask_of p (x ∷ xs)) j ∙ ap (λ n. bit_at n j) (half (p x) (mask_of p xs)) ∙ bit_at-mask_of p xs j
  where
    half : (b : Bool) (m : ℕ) → (cond b 1 0 + 2 * m) / 2 ≡ m
    half true m = omega arith
    half false m = omega arith

pub at-past : {A : Type 0} (p : A → Bool) (xs : List A) (j : ℕ) → length xs ≤ j → at p xs j ≡ false
at-past p [] j l = refl
at-past p (x ∷ xs) zero l = absurd (omega arith)
at-past p (x ∷ xs) (suc j) l = at-past p xs j (omega arith)

pub at-end : {A : Type 0} (p : A → Bool) (xs : List A) (y : A) → at p (xs ++ y ∷ []) (length xs) ≡ p y
at-end p [] y = refl
at-end p (x ∷ xs) y = at-end p xs y

pub at-other : {A : Type 0} (p : A → Bool) (xs : List A) (y : A) (j : ℕ) → j ≢ length xs → at p (xs ++ y ∷ []) j ≡ at p xs j
at-other p [] y zero n = absurd (n refl)
at-other p [] y (suc j) n = refl
at-other p (x ∷ xs) y zero n = refl
at-other p (x ∷ xs) y (suc j) n = at-other p xs y j (λ e. n (ap suc e))

-- two sets with the same elements are one number
pub same_masks : {A B : Type 0} (p : A → Bool) (q : B → Bool) (xs : List A) (ys : List B) → ((j : ℕ) → at p xs j ≡ at q ys j) → mask_of p xs ≡ mask_of q ys
same_masks p q xs ys h = same_from_bits (mask_of p xs) (mask_of q ys) (λ j. bit_at-mask_of p xs j ∙ ap (λ b. cond b 1 0) (h j) ∙ sym (bit_at-mask_of q ys j))

-- one more element, which passes
pub mask_of-yes : {A : Type 0} (p : A → Bool) (xs : List A) (y : A) → length xs < 128 → p y ≡ true
    → bit_or (mask_of p xs) (1 * 2 ^ length xs % 2 ^ 128) ≡ mask_of p (xs ++ y ∷ [])
mask_of-yes {A} p xs y l e = same_from_bits _ _ (λ j. ⊎_elim
    (λ (same : j ≡ length xs). subst (λ (k : ℕ). bit_at (bit_or (mask_of p xs) (1 * 2 ^ length xs % 2 ^ 128)) k ≡ bit_at (mask_of p (xs ++ y ∷ [])) k) (sym same)
    (bit_at_set_same w128 (mask_of p xs) (length xs) l ∙ sym (bit_at-mask_of p (xs ++ y ∷ []) (length xs) ∙ ap (λ b. cond b 1 0) (at-end p xs y ∙ e))))
    (λ (other : j ≡ length xs → ⊥). bit_at_set_other w128 (mask_of p xs) (length xs) l j other
    ∙ bit_at-mask_of p xs j ∙ ap (λ b. cond b 1 0) (sym (at-other p xs y j other)) ∙ sym (bit_at-mask_of p (xs ++ y ∷ []) j))
    (cases_eq j (length xs)))

-- one more element, which fails
pub mask_of-no : {A : Type 0} (p : A → Bool) (xs : List A) (y : A) → p y ≡ false → mask_of p xs ≡ mask_of p (xs ++ y ∷ [])
mask_of-no p xs y e = same_masks p p xs (xs ++ y ∷ []) (λ j. ⊎_elim
    (λ (same : j ≡ length xs). at-past p xs j (omega (arith, same)) ∙ sym (ap (at p (xs ++ y ∷ [])) same ∙ at-end p xs y ∙ e))
    (λ (other : j ≡ length xs → ⊥). sym (at-other p xs y j other))
    (cases_eq j (length xs)))

at-and : {A : Type 0} (p q : A → Bool) (xs : List A) (j : ℕ) → min (cond (at p xs j) 1 0) (cond (at q xs j) 1 0) ≡ cond (at (λ x. p x && q x) xs j) 1 0
at-and p q [] j = refl
at-and p q (x ∷ xs) zero = both (p x) (q x)
  where
    both : (a b : Bool) → min (cond a 1 0) (cond b 1 0) ≡ cond (a && b) 1 0
    both true true = refl
    both true false = refl
    both false true = refl
    both false false = refl
at-and p q (x ∷ xs) (suc j) = at-and p q xs j

at-or : {A : Type 0} (p q : A → Bool) (xs : List A) (j : ℕ) → max (cond (at p xs j) 1 0) (cond (at q xs j) 1 0) ≡ cond (at (λ x. p x || q x) xs j) 1 0
at-or p q [] j = refl
at-or p q (x ∷ xs) zero = both (p x) (q x)
  where
    both : (a b : Bool) → max (cond a 1 0) (cond b 1 0) ≡ cond (a || b) 1 0
    both true true = refl
    both true false = refl
    both false true = refl
    both false false = refl
at-or p q (x ∷ xs) (suc j) = at-or p q xs j

pub and_masks : {A : Type 0} (p q : A → Bool) (xs : List A) → bit_and (mask_of p xs) (mask_of q xs) ≡ mask_of (λ x. p x && q x) xs
and_masks p q xs = same_from_bits _ _ (λ j.
    bit_at_and (mask_of p xs) (mask_of q xs) j
    ∙ ap (λ n. min n (bit_at (mask_of q xs) j)) (bit_at-mask_of p xs j) ∙ ap (λ n. min (cond (at p xs j) 1 0) n) (bit_at-mask_of q xs j)
    ∙ at-and p q xs j ∙ sym (bit_at-mask_of (λ x. p x && q x) xs j))

pub or_masks : {A : Type 0} (p q : A → Bool) (xs : List A) → bit_or (mask_of p xs) (mask_of q xs) ≡ mask_of (λ x. p x || q x) xs
or_masks p q xs = same_from_bits _ _ (λ j.
    bit_at_or (mask_of p xs) (mask_of q xs) j
    ∙ ap (λ n. max n (bit_at (mask_of q xs) j)) (bit_at-mask_of p xs j) ∙ ap (λ n. max (cond (at p xs j) 1 0) n) (bit_at-mask_of q xs j)
    ∙ at-or p q xs j ∙ sym (bit_at-mask_of (λ x. p x || q x) xs j))

-- all of 128 bits leave a set as it is
pub and_ones : {A : Type 0} (p : A → Bool) (xs : List A) → length xs ≤ 128 → bit_and (mask_of p xs) (2 ^ 128 - 1) ≡ mask_of p xs
and_ones p xs l = same_from_bits _ _ (λ j. bit_at_and (mask_of p xs) (2 ^ 128 - 1) j ∙ ⊎_elim
    (λ (less : j < 128). ap (λ n. min (bit_at (mask_of p xs) j) n) (bit_at_ones 128 j less) ∙ ap (λ n. min n 1) (bit_at-mask_of p xs j) ∙ small (at p xs j) ∙ sym (bit_at-mask_of p xs j))
    (λ (ge : 128 ≤ j). ap (λ n. min n (bit_at (2 ^ 128 - 1) j)) (none j ge) ∙ least (bit_at (2 ^ 128 - 1) j) ∙ sym (none j ge))
    (cases_lt j 128))
  where
    none : (j : ℕ) → 128 ≤ j → bit_at (mask_of p xs) j ≡ 0
    none j ge = bit_at-mask_of p xs j ∙ ap (λ b. cond b 1 0) (at-past p xs j (omega arith))

    small : (b : Bool) → min (cond b 1 0) 1 ≡ cond b 1 0
    small true = refl
    small false = refl

    least : (n : ℕ) → min 0 n ≡ 0
    least n = omega arith

-- a set is empty where no element passes
pub mask_of-zero : {A : Type 0} (p : A → Bool) (xs : List A) → eqb (mask_of p xs) 0 ≡ not (list_any p xs)
mask_of-zero p [] = refl
mask_of-zero p (x ∷ xs) = head (p x) (mask_of p xs) (list_any p xs) (mask_of-zero p xs)
  where
    twice : (m : ℕ) → eqb (0 + 2 * m) 0 ≡ eqb m 0
    twice zero = refl
    twice (suc m) = ne_eqb (0 + 2 * suc m) 0 (λ e. omega (arith, e)) ∙ sym (ne_eqb (suc m) 0 (λ e. omega (arith, e)))

    head : (b : Bool) (m : ℕ) (r : Bool) → eqb m 0 ≡ not r → eqb (cond b 1 0 + 2 * m) 0 ≡ not (b || r)
    head true m r e = ne_eqb (1 + 2 * m) 0 (λ z. omega (arith, z))
    head false m r e = twice m ∙ e

pub mask_same : {A : Type 0} (p q : A → Bool) (xs : List A) → ((x : A) → p x ≡ q x) → mask_of p xs ≡ mask_of q xs
mask_same p q [] h = refl
mask_same p q (x ∷ xs) h = ap (λ b. cond b 1 0 + 2 * mask_of p xs) (h x) ∙ ap (λ n. cond (q x) 1 0 + 2 * n) (mask_same p q xs h)

pub mask_none : {A : Type 0} (xs : List A) → mask_of (λ _. false) xs ≡ 0
mask_none [] = refl
mask_none (x ∷ xs) = ap (λ n. 0 + 2 * n) (mask_none xs)

-- the set of the first places, with one more
pub mask_more_yes : {A : Type 0} (p : A → Bool) (xs : List A) (i : ℕ) (x : A) (m : ℕ) → i < length xs → length xs ≤ 128 → x ≡ get_or xs i x → p x ≡ true
    → m ≡ mask_of p (take i xs) → bit_or m (1 * 2 ^ i % 2 ^ 128) ≡ mask_of p (take (i + 1) xs)
mask_more_yes {A} p xs i x m l most e passes h =
    let size : length (take i xs) ≡ i = omega (arith, length-take i xs) in
    ap (λ n. bit_or n (1 * 2 ^ i % 2 ^ 128)) h
    ∙ ap (λ n. bit_or (mask_of p (take i xs)) (1 * 2 ^ n % 2 ^ 128)) (sym size)
    ∙ mask_of-yes p (take i xs) x (omega (arith, size)) passes
    ∙ ap (λ (y : A). mask_of p (take i xs ++ y ∷ [])) e
    ∙ ap (mask_of p) (sym (take_more xs i x l))

pub mask_more_no : {A : Type 0} (p : A → Bool) (xs : List A) (i : ℕ) (x : A) (m : ℕ) → i < length xs → x ≡ get_or xs i x → p x ≡ false
    → m ≡ mask_of p (take i xs) → m ≡ mask_of p (take (i + 1) xs)
mask_more_no {A} p xs i x m l e fails h =
    h ∙ mask_of-no p (take i xs) x fails
    ∙ ap (λ (y : A). mask_of p (take i xs ++ y ∷ [])) e
    ∙ ap (mask_of p) (sym (take_more xs i x l))
