-- Sets of the places below a number
use Rattle.std.proofs.Common.{◌≡◌, ℕ, zero, suc, ◌+◌, ◌*◌, ◌%◌, ◌^◌, ◌<◌, ◌≤◌, Bool, true, false, cond, not, eqb, ◌&&◌, ◌||◌, List, [], ◌∷◌, ◌++◌, length, get_or, take, map, refl, sym, ◌∙◌, ap, subst, arith, ⊎_elim, bit_and, bit_or}
use Rattle.std.specs.Int.{w128, bit_at}
use Rattle.std.specs.Int.Bits.{or_zero_l}
use Rattle.std.specs.List.{list_any}
use Rattle.std.proofs.lemmas.Bool.{cases_lt, cases_eq, eq-eqb, ne_eqb}
use Rattle.std.proofs.lemmas.Nat.Bits.{bit_at_set_same, bit_at_set_other, same_from_bits}
use Rattle.std.proofs.lemmas.List.{map-append, take_more}
use Rattle.std.proofs.lemmas.List.Folds.{list_any-append}
use Rattle.app_graph.specs.Masks.{mask_of}
use Rattle.app_graph.proofs.Marks.{at, bit_at-mask_of, at-past, at-end, at-other, and_masks, mask_of-zero, mask_none, mask_same}
use Rattle.sched_model.specs.Numbers.{below, has}
use Rattle.sched_model.specs.Links.{set_of}
use Rattle.sched_model.proofs.Lists.{length-below}

-- the element at a place
at-below : (p : ℕ → Bool) (n j : ℕ) → j < n → at p (below n) j ≡ p j
at-below p zero j l = absurd (omega (arith, l))
at-below p (suc n) j l =
    ⊎_elim
    (λ (same : j ≡ length (below n)). ap (at p (below n ++ n ∷ [])) same ∙ at-end p (below n) n ∙ ap p (let e : n ≡ j = omega (arith, same, length-below n) in e))
    (λ (other : j ≡ length (below n) → ⊥). at-other p (below n) n j other ∙ at-below p n j (⊎_elim (λ (less : j < n). less) (λ (le : n ≤ j). absurd (other (omega (arith, le, l, length-below n)))) (cases_lt j n)))
    (cases_eq j (length (below n)))

pub or_false : (b : Bool) → (b || false) ≡ b
or_false true = refl
or_false false = refl

or_true : (b : Bool) → (b || true) ≡ true
or_true true = refl
or_true false = refl

pub and_true : (b : Bool) → (b && true) ≡ b
and_true true = refl
and_true false = refl

pub and_false : (b : Bool) → (b && false) ≡ false
and_false true = refl
and_false false = refl

-- one more place of the set
pub one_more : (p : ℕ → Bool) (n a : ℕ) → a < n → n ≤ 128 → bit_or (mask_of p (below n)) (1 * 2 ^ a % 2 ^ 128) ≡ mask_of (λ x. p x || eqb x a) (below n)
one_more p n a l most = same_from_bits _ _ (λ j. ⊎_elim
    (λ (same : j ≡ a). subst (λ k. bit_at (bit_or (mask_of p (below n)) (1 * 2 ^ a % 2 ^ 128)) k ≡ bit_at (mask_of (λ x. p x || eqb x a) (below n)) k) (sym same)
    (bit_at_set_same w128 (mask_of p (below n)) a (omega (arith, l, most))
    ∙ sym (bit_at-mask_of (λ x. p x || eqb x a) (below n) a ∙ ap (λ b. cond b 1 0) (at-below (λ x. p x || eqb x a) n a l ∙ ap (λ b. p a || b) (eq-eqb a a refl) ∙ or_true (p a)))))
    (λ (other : j ≡ a → ⊥). bit_at_set_other w128 (mask_of p (below n)) a (omega (arith, l, most)) j other
    ∙ bit_at-mask_of p (below n) j ∙ ap (λ b. cond b 1 0) (there j other) ∙ sym (bit_at-mask_of (λ x. p x || eqb x a) (below n) j))
    (cases_eq j a))
  where
    there : (j : ℕ) → (j ≡ a → ⊥) → at p (below n) j ≡ at (λ x. p x || eqb x a) (below n) j
    there j other = ⊎_elim
        (λ (less : j < n). at-below p n j less ∙ sym (at-below (λ x. p x || eqb x a) n j less ∙ ap (λ b. p j || b) (ne_eqb j a other) ∙ or_false (p j)))
        (λ (le : n ≤ j). at-past p (below n) j (omega (arith, le, length-below n)) ∙ sym (at-past (λ x. p x || eqb x a) (below n) j (omega (arith, le, length-below n))))
        (cases_lt j n)

-- the set of one place
pub single : (n a : ℕ) → a < n → n ≤ 128 → 1 * 2 ^ a % 2 ^ 128 ≡ mask_of (λ x. eqb x a) (below n)
single n a l most = sym (or_zero_l (1 * 2 ^ a % 2 ^ 128)) ∙ ap (λ z. bit_or z (1 * 2 ^ a % 2 ^ 128)) (sym (mask_none (below n))) ∙ one_more (λ _. false) n a l most

any_one : (p : ℕ → Bool) (n a : ℕ) → a < n → list_any (λ x. p x && eqb x a) (below n) ≡ p a
any_one p zero a l = absurd (omega arith)
any_one p (suc n) a l =
    list_any-append (λ x. p x && eqb x a) (below n) (n ∷ [])
    ∙ ⊎_elim
    (λ (less : a < n). ap (λ b. b || ((p n && eqb n a) || false)) (any_one p n a less)
    ∙ ap (λ b. p a || ((p n && b) || false)) (ne_eqb n a (λ e. absurd (omega (arith, e, less)))) ∙ ap (λ b. p a || (b || false)) (and_false (p n)) ∙ or_false (p a))
    (λ (le : n ≤ a). let same : n ≡ a = omega arith in
    ap (λ b. b || ((p n && eqb n a) || false)) (past n le) ∙ or_false (p n && eqb n a)
    ∙ ap (λ b. p n && b) (eq-eqb n a same) ∙ and_true (p n) ∙ ap p same)
    (cases_lt a n)
  where
    past : (k : ℕ) → k ≤ a → list_any (λ x. p x && eqb x a) (below k) ≡ false
    past zero h = refl
    past (suc k) h = list_any-append (λ x. p x && eqb x a) (below k) (k ∷ [])
        ∙ ap (λ b. b || ((p k && eqb k a) || false)) (past k (omega (arith, h)))
        ∙ or_false (p k && eqb k a) ∙ ap (λ b. p k && b) (ne_eqb k a (λ e. absurd (omega (arith, e, h)))) ∙ and_false (p k)

not_not : (b : Bool) → not (not b) ≡ b
not_not true = refl
not_not false = refl

-- whether a place is in the set
pub is_in : (set a : ℕ) (p : ℕ → Bool) (n : ℕ) → a < n → n ≤ 128 → set ≡ mask_of p (below n) → not (eqb (bit_and set (1 * 2 ^ a % 2 ^ 128)) 0) ≡ p a
is_in set a p n l most e =
    ap (λ s. not (eqb (bit_and s (1 * 2 ^ a % 2 ^ 128)) 0)) e
    ∙ ap (λ s. not (eqb (bit_and (mask_of p (below n)) s) 0)) (single n a l most)
    ∙ ap (λ s. not (eqb s 0)) (and_masks p (λ x. eqb x a) (below n))
    ∙ ap not (mask_of-zero (λ x. p x && eqb x a) (below n))
    ∙ not_not (list_any (λ x. p x && eqb x a) (below n))
    ∙ any_one p n a l

-- the set of no place
pub no_places : (f : ℕ → ℕ) (n : ℕ) → 0 ≡ set_of n (map f [])
no_places f n = sym (mask_none (below n))

-- one more place that is listed
pub more_places : (f : ℕ → ℕ) (numbers : List ℕ) (k place n mask : ℕ) → k < length numbers → place ≡ f (get_or numbers k 0) → place < n → n ≤ 128
    → mask ≡ set_of n (map f (take k numbers)) → bit_or mask (1 * 2 ^ place % 2 ^ 128) ≡ set_of n (map f (take (k + 1) numbers))
more_places f numbers k place n mask lk e l most h =
    let xs = map f (take k numbers) in
    ap (λ s. bit_or s (1 * 2 ^ place % 2 ^ 128)) h
    ∙ one_more (has xs) n place l most
    ∙ mask_same (λ x. has xs x || eqb x place) (has (xs ++ place ∷ [])) (below n)
    (λ x. ap (λ b. has xs x || b) (sym (or_false (eqb x place))) ∙ sym (list_any-append (eqb x) xs (place ∷ [])))
    ∙ ap (λ y. set_of n (xs ++ y ∷ [])) e
    ∙ ap (set_of n) (sym (map-append f (take k numbers) (get_or numbers k 0 ∷ [])))
    ∙ ap (λ ys. set_of n (map f ys)) (sym (take_more numbers k 0 lk))
