-- Tests and lengths of lists that are joined end to end
use Rattle.std.proofs.Common.{◌≡◌, ℕ, ◌+◌, ◌<◌, Bool, ◌||◌, List, [], ◌∷◌, ◌++◌, length, get_or, take, refl, sym, ◌∙◌, ap, arith, length-append}
use Rattle.std.specs.List.{list_any, flat_map, sum_by}
use Rattle.std.proofs.lemmas.List.Concat.{length-flat_map}
use Rattle.std.proofs.lemmas.List.Sums.{sum_by-append, sum_by-cons, sum_by_more}
use Rattle.std.proofs.lemmas.List.Folds.{list_any-append}

pub list_any-flat_map : {X A : Type 0} (p : A → Bool) (f : X → List A) (xs : List X) → list_any p (flat_map f xs) ≡ list_any (λ x. list_any p (f x)) xs
list_any-flat_map p f [] = refl
list_any-flat_map p f (x ∷ xs) = list_any-append p (f x) (flat_map f xs) ∙ ap (λ b. list_any p (f x) || b) (list_any-flat_map p f xs)

pub any_joined : {X A : Type 0} (p : A → Bool) (f : X → List A) (xs : List X) (ys : List A) → list_any p (flat_map f xs ++ ys) ≡ (list_any (λ x. list_any p (f x)) xs || list_any p ys)
any_joined p f xs ys = list_any-append p (flat_map f xs) ys ∙ ap (λ b. b || list_any p ys) (list_any-flat_map p f xs)

pub length_joined : {X A : Type 0} (f : X → List A) (xs : List X) (ys : List A) → length (flat_map f xs ++ ys) ≡ sum_by (λ x. length (f x)) xs + length ys
length_joined f xs ys = length-append (flat_map f xs) ys ∙ ap (λ n. n + length ys) (length-flat_map f xs)

pub sum_by-flat_map : {X A : Type 0} (g : A → ℕ) (f : X → List A) (xs : List X) → sum_by g (flat_map f xs) ≡ sum_by (λ x. sum_by g (f x)) xs
sum_by-flat_map g f [] = refl
sum_by-flat_map g f (x ∷ xs) = sum_by-append g (f x) (flat_map f xs) ∙ ap (λ n. sum_by g (f x) + n) (sum_by-flat_map g f xs) ∙ sym (sum_by-cons (λ y. sum_by g (f y)) x xs)

pub sum_joined : {X A : Type 0} (g : A → ℕ) (f : X → List A) (ys : List A) (xs : List X) → sum_by g (ys ++ flat_map f xs) ≡ sum_by g ys + sum_by (λ x. sum_by g (f x)) xs
sum_joined g f ys xs = sum_by-append g ys (flat_map f xs) ∙ ap (λ n. sum_by g ys + n) (sum_by-flat_map g f xs)

-- the pieces of the first places, with one more
pub length_flat_more : {X A : Type 0} (f : X → List A) (xs : List X) (i : ℕ) (x : X) → i < length xs → x ≡ get_or xs i x
    → length (flat_map f (take (i + 1) xs)) ≡ length (flat_map f (take i xs)) + length (f x)
length_flat_more {X} f xs i x l e =
    omega (arith, length-flat_map f (take (i + 1) xs), length-flat_map f (take i xs), sum_by_more (λ y. length (f y)) xs i x l, ap (λ (y : X). length (f y)) e)
