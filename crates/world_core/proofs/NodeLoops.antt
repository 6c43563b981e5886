-- A loop over all nodes, place by place
use Rattle.std.proofs.Common.{◌≡◌, ℕ, zero, suc, ◌+◌, ◌^◌, ◌<◌, ◌≤◌, Bool, true, false, cond, List, [], ◌∷◌, ◌++◌, length, map, take, drop, refl, sym, ◌∙◌, ap, arith, length-append, append-nil, subst, position, Some, None}
use Rattle.std.specs.Prelude.{filter, slice_set, slice_index_or}
use Rattle.std.specs.List.{position_from}
use Rattle.std.proofs.lemmas.Bool.{cond-true, cond-false}
use Rattle.std.proofs.lemmas.Iterator.Adapters.{position_from-zero}
use Rattle.std.proofs.lemmas.List.{map-append, length-map}
use Rattle.std.proofs.lemmas.List.Elements.{filter-append}
use Rattle.sched_model.specs.Numbers.{below}
use Rattle.sched_model.proofs.Lists.{length-below}
use Rattle.world_core.specs.Happened.{bits_of}

-- ---- a list that is written from its front

-- the first n places are those of f, and the others are as they were
abbrev pub so_far : {X : Type 0} → (ℕ → X) → ℕ → List X → List X
so_far f n old = map f (below n) ++ drop n old

-- the rest of a list from a place of it on
rest_is : {X : Type 0} (old : List X) (n : ℕ) (d : X) → n < length old → drop n old ≡ slice_index_or old n d ∷ drop (suc n) old
rest_is [] n d l = absurd (omega (arith, l))
rest_is (y ∷ old) zero d l = refl
rest_is (y ∷ old) (suc n) d l = rest_is old n d (omega (arith, l))

set_seam : {X : Type 0} (xs zs : List X) (z x : X) (n : ℕ) → length xs ≡ n → slice_set (xs ++ z ∷ zs) n x ≡ xs ++ x ∷ zs
set_seam [] zs z x n e = subst (λ m. slice_set (z ∷ zs) m x ≡ x ∷ zs) e refl
set_seam (y ∷ xs) zs z x zero e = absurd (omega (arith, e))
set_seam (y ∷ xs) zs z x (suc n) e = ap (λ l. y ∷ l) (set_seam xs zs z x n (omega (arith, e)))

at_seam : {X : Type 0} (xs zs : List X) (z d : X) (n : ℕ) → length xs ≡ n → slice_index_or (xs ++ z ∷ zs) n d ≡ z
at_seam [] zs z d n e = subst (λ m. slice_index_or (z ∷ zs) m d ≡ z) e refl
at_seam (y ∷ xs) zs z d zero e = absurd (omega (arith, e))
at_seam (y ∷ xs) zs z d (suc n) e = at_seam xs zs z d n (omega (arith, e))

push_behind : {X : Type 0} (xs zs : List X) (x : X) → xs ++ x ∷ zs ≡ (xs ++ x ∷ []) ++ zs
push_behind [] zs x = refl
push_behind (y ∷ xs) zs x = ap (λ l. y ∷ l) (push_behind xs zs x)

length_first : {X : Type 0} (f : ℕ → X) (n : ℕ) → length (map f (below n)) ≡ n
length_first f n = length-map (below n) f ∙ length-below n

-- the first places and one more
first_next : {X : Type 0} (f : ℕ → X) (n : ℕ) (zs : List X) → map f (below n) ++ f n ∷ zs ≡ map f (below (suc n)) ++ zs
first_next f n zs = push_behind (map f (below n)) zs (f n) ∙ ap (λ l. l ++ zs) (sym (map-append f (below n) (n ∷ [])))

pub written_next : {X : Type 0} (f : ℕ → X) (n : ℕ) (old : List X) (d x : X) → n < length old → x ≡ f n → slice_set (so_far f n old) n x ≡ so_far f (suc n) old
written_next f n old d x l e =
    ap (λ zs. slice_set (map f (below n) ++ zs) n x) (rest_is old n d l)
    ∙ set_seam (map f (below n)) (drop (suc n) old) (slice_index_or old n d) x n (length_first f n)
    ∙ ap (λ z. map f (below n) ++ z ∷ drop (suc n) old) e
    ∙ first_next f n (drop (suc n) old)

pub place_unwritten : {X : Type 0} (f : ℕ → X) (n : ℕ) (old : List X) (d e : X) → n < length old → slice_index_or (so_far f n old) n d ≡ slice_index_or old n e
place_unwritten f n old d e l =
    ap (λ zs. slice_index_or (map f (below n) ++ zs) n d) (rest_is old n e l)
    ∙ at_seam (map f (below n)) (drop (suc n) old) (slice_index_or old n e) d n (length_first f n)

pub kept_next : {X : Type 0} (f : ℕ → X) (n : ℕ) (old : List X) (d : X) → n < length old → f n ≡ slice_index_or old n d → so_far f n old ≡ so_far f (suc n) old
kept_next f n old d l e =
    ap (λ zs. map f (below n) ++ zs) (rest_is old n d l)
    ∙ ap (λ z. map f (below n) ++ z ∷ drop (suc n) old) (sym e)
    ∙ first_next f n (drop (suc n) old)

drop_all : {X : Type 0} (old : List X) → drop (length old) old ≡ []
drop_all [] = refl
drop_all (x ∷ old) = drop_all old

pub all_written : {X : Type 0} (f : ℕ → X) (old : List X) → so_far f (length old) old ≡ map f (below (length old))
all_written f old = ap (λ zs. map f (below (length old)) ++ zs) (drop_all old) ∙ append-nil (map f (below (length old)))

length_rest : {X : Type 0} (old : List X) (n : ℕ) → n ≤ length old → n + length (drop n old) ≡ length old
length_rest old zero l = omega arith
length_rest [] (suc n) l = absurd (omega (arith, l))
length_rest (x ∷ old) (suc n) l = omega (arith, length_rest old n (omega (arith, l)))

pub length_so_far : {X : Type 0} (f : ℕ → X) (n : ℕ) (old : List X) → n ≤ length old → length (so_far f n old) ≡ length old
length_so_far f n old l = omega (arith, length-append (map f (below n)) (drop n old), length_first f n, length_rest old n l)

-- ---- a set of nodes that is collected

bits_push : (xs : List ℕ) (x : ℕ) → bits_of (xs ++ x ∷ []) ≡ bits_of xs + 2 ^ x
bits_push [] x = omega arith
bits_push (y ∷ xs) x = omega (arith, bits_push xs x)

one_picked : (t : ℕ → Bool) (n : ℕ) (b : Bool) → t n ≡ b → filter t (n ∷ []) ≡ cond b (n ∷ []) []
one_picked t n b e = subst (λ c. cond c (n ∷ []) [] ≡ cond b (n ∷ []) []) (sym e) refl

picked : (t : ℕ → Bool) (n : ℕ) (b : Bool) → t n ≡ b → filter t (below (suc n)) ≡ filter t (below n) ++ cond b (n ∷ []) []
picked t n b e = filter-append t (below n) (n ∷ []) ∙ ap (λ l. filter t (below n) ++ l) (one_picked t n b e)

pub bits_next : (t : ℕ → Bool) (n : ℕ) (b : Bool) → t n ≡ b → bits_of (filter t (below (suc n))) ≡ bits_of (filter t (below n)) + cond b (2 ^ n) 0
bits_next t n true e = ap bits_of (picked t n true e) ∙ bits_push (filter t (below n)) n
bits_next t n false e = ap bits_of (picked t n false e ∙ append-nil (filter t (below n))) ∙ (let z : bits_of (filter t (below n)) ≡ bits_of (filter t (below n)) + 0 = omega arith in z)

bits_more : (t : ℕ → Bool) (n : ℕ) (b : Bool) → t n ≡ b → bits_of (filter t (below n)) < 2 ^ n → bits_of (filter t (below (suc n))) < 2 ^ suc n
bits_more t n true e l = omega (arith, bits_next t n true e, l)
bits_more t n false e l = omega (arith, bits_next t n false e, l)

pub bits_below : (t : ℕ → Bool) (n : ℕ) → bits_of (filter t (below n)) < 2 ^ n
bits_below t zero = omega arith
bits_below t (suc n) = bits_more t n (t n) refl (bits_below t n)

-- ---- a list whose items are changed in place, one after the other

pub mapped_next : {X : Type 0} (g : X → X) (n : ℕ) (old : List X) (d x : X) → n < length old → x ≡ g (slice_index_or old n d) →
    slice_set (map g (take n old) ++ drop n old) n x ≡ map g (take (suc n) old) ++ drop (suc n) old
mapped_next g n [] d x l e = absurd (omega (arith, l))
mapped_next g zero (y ∷ old) d x l e = ap (λ z. z ∷ old) e
mapped_next g (suc n) (y ∷ old) d x l e = ap (λ rest. g y ∷ rest) (mapped_next g n old d x (omega (arith, l)) e)

pub unmapped_place : {X : Type 0} (g : X → X) (n : ℕ) (old : List X) (d e : X) → n < length old → slice_index_or (map g (take n old) ++ drop n old) n d ≡ slice_index_or old n e
unmapped_place g n [] d e l = absurd (omega (arith, l))
unmapped_place g zero (y ∷ old) d e l = refl
unmapped_place g (suc n) (y ∷ old) d e l = unmapped_place g n old d e (omega (arith, l))

pub all_mapped : {X : Type 0} (g : X → X) (old : List X) → map g (take (length old) old) ++ drop (length old) old ≡ map g old
all_mapped g [] = refl
all_mapped g (y ∷ old) = ap (λ rest. g y ∷ rest) (all_mapped g old)

-- ---- the first item that meets a test

none_from : {X : Type 0} (t : X → Bool) (xs : List X) (d : X) (i : ℕ) → ((u : ℕ) → u < length xs → t (slice_index_or xs u d) ≡ false) → position_from t i xs ≡ None
none_from t [] d i f = refl
none_from t (x ∷ xs) d i f =
    cond-false (t x) (Some i) (position_from t (i + 1) xs) (f 0 (omega arith))
    ∙ none_from t xs d (i + 1) (λ u l. f (suc u) (omega (arith, l)))

pub none_sends : {X : Type 0} (t : X → Bool) (xs : List X) (d : X) → ((u : ℕ) → u < length xs → t (slice_index_or xs u d) ≡ false) → position t xs ≡ None
none_sends t xs d f = position_from-zero t xs ∙ none_from t xs d 0 f

first_from : {X : Type 0} (t : X → Bool) (xs : List X) (d : X) (i n : ℕ) → n < length xs → ((u : ℕ) → u < n → t (slice_index_or xs u d) ≡ false) → t (slice_index_or xs n d) ≡ true → position_from t i xs ≡ Some (i + n)
first_from t [] d i n l f e = absurd (omega (arith, l))
first_from t (x ∷ xs) d i zero l f e = cond-true (t x) (Some i) (position_from t (i + 1) xs) e ∙ ap Some (let z : i ≡ i + 0 = omega arith in z)
first_from t (x ∷ xs) d i (suc n) l f e =
    cond-false (t x) (Some i) (position_from t (i + 1) xs) (f 0 (omega arith))
    ∙ first_from t xs d (i + 1) n (omega (arith, l)) (λ u m. f (suc u) (omega (arith, m))) e
    ∙ ap Some (let z : i + 1 + n ≡ i + suc n = omega arith in z)

pub first_sends : {X : Type 0} (t : X → Bool) (xs : List X) (d : X) (n : ℕ) → n < length xs → ((u : ℕ) → u < n → t (slice_index_or xs u d) ≡ false) → t (slice_index_or xs n d) ≡ true → position t xs ≡ Some n
first_sends t xs d n l f e = position_from-zero t xs ∙ first_from t xs d 0 n l f e ∙ ap Some (let z : 0 + n ≡ n = omega arith in z)

default_free : {X : Type 0} (xs : List X) (n : ℕ) (d e : X) → n < length xs → slice_index_or xs n d ≡ slice_index_or xs n e
default_free [] n d e l = absurd (omega (arith, l))
default_free (x ∷ xs) zero d e l = refl
default_free (x ∷ xs) (suc n) d e l = default_free xs n d e (omega (arith, l))

-- an item that was read at a place is the one there
pub at_is : {X : Type 0} (xs : List X) (n : ℕ) (x d : X) → n < length xs → x ≡ slice_index_or xs n x → slice_index_or xs n d ≡ x
at_is xs n x d l e = default_free xs n d x l ∙ sym e
