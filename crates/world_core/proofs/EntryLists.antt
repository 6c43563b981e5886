-- Lists made of others
use Rattle.std.proofs.Common.{◌≡◌, ℕ, zero, suc, ◌+◌, ◌<◌, ◌≤◌, Bool, true, false, cond, List, [], ◌∷◌, ◌++◌, length, get_or, map, filter, refl, sym, ◌∙◌, ap, arith, append-nil}
use Rattle.std.specs.List.{flat_map, AllByRecursion}
use Rattle.std.proofs.lemmas.List.{map-append}
use Rattle.std.proofs.lemmas.Grind.{flat_map-append}
use Rattle.sched_model.specs.Numbers.{below}
use Rattle.sched_model.proofs.Lists.{flat_below-suc}

pub map_flat : {X Y Z : Type 0} (f : Y → Z) (g : X → List Y) (xs : List X) → map f (flat_map g xs) ≡ flat_map (λ x. map f (g x)) xs
map_flat f g [] = refl
map_flat {X} {Y} {Z} f g (x ∷ xs) = map-append f (g x) (flat_map g xs) ∙ ap (λ (l : List Z). map f (g x) ++ l) (map_flat f g xs)

pub flat_flat : {X Y Z : Type 0} (f : Y → List Z) (g : X → List Y) (xs : List X) → flat_map f (flat_map g xs) ≡ flat_map (λ x. flat_map f (g x)) xs
flat_flat f g [] = refl
flat_flat {X} {Y} {Z} f g (x ∷ xs) = flat_map-append f (g x) (flat_map g xs) ∙ ap (λ (l : List Z). flat_map f (g x) ++ l) (flat_flat f g xs)

pub flat_eq : {X Y : Type 0} (f g : X → List Y) (xs : List X) → ((x : X) → f x ≡ g x) → flat_map f xs ≡ flat_map g xs
flat_eq f g [] h = refl
flat_eq {X} {Y} f g (x ∷ xs) h = ap (λ (l : List Y). l ++ flat_map f xs) (h x) ∙ ap (λ (l : List Y). g x ++ l) (flat_eq f g xs h)

-- parts that are all empty
pub flat_empty : {X Y : Type 0} (f : X → List Y) (xs : List X) → AllByRecursion (λ x. f x ≡ []) xs → flat_map f xs ≡ []
flat_empty f [] h = refl
flat_empty {X} {Y} f (x ∷ xs) h = ap (λ (l : List Y). l ++ flat_map f xs) h.0 ∙ flat_empty f xs h.1

-- empty parts may be left out
pub flat_skip : {X : Type 0} (f : ℕ → List X) (k d : ℕ) → ((u : ℕ) → k ≤ u → u < k + d → f u ≡ []) → flat_map f (below (k + d)) ≡ flat_map f (below k)
flat_skip {X} f k zero h = ap (λ n. flat_map f (below n)) (let e : k + 0 ≡ k = omega arith in e)
flat_skip {X} f k (suc d) h =
    ap (λ n. flat_map f (below n)) (let e : k + suc d ≡ suc (k + d) = omega arith in e)
    ∙ flat_below-suc f (k + d)
    ∙ ap (λ (l : List X). flat_map f (below (k + d)) ++ l) (h (k + d) (omega arith) (omega arith))
    ∙ append-nil (flat_map f (below (k + d)))
    ∙ flat_skip f k d (λ u l b. h u l (omega (arith, b)))

-- what passes a test in a list
pub filter_all : {X : Type 0} (P : X → Type 0) (t : X → Bool) (xs : List X) → AllByRecursion P xs → AllByRecursion P (filter t xs)
filter_all P t [] h = tt
filter_all {X} P t (x ∷ xs) h = by_test (t x) (filter_all P t xs h.1)
  where
    by_test : (b : Bool) → AllByRecursion P (filter t xs) → AllByRecursion P (cond b (x ∷ filter t xs) (filter t xs))
    by_test true k = (h.0, k)
    by_test false k = k

pub map_cond : {X Y : Type 0} (f : X → Y) (b : Bool) (xs : List X) → map f (cond b xs []) ≡ cond b (map f xs) []
map_cond f true xs = refl
map_cond f false xs = refl

pub map_map : {X Y Z : Type 0} (f : Y → Z) (g : X → Y) (xs : List X) → map f (map g xs) ≡ map (λ x. f (g x)) xs
map_map f g [] = refl
map_map {X} {Y} {Z} f g (x ∷ xs) = ap (λ (l : List Z). f (g x) ∷ l) (map_map f g xs)

-- the first place, and the others
map_first : {X : Type 0} (f : ℕ → X) (n : ℕ) → map f (below (suc n)) ≡ f 0 ∷ map (λ k. f (suc k)) (below n)
map_first f zero = refl
map_first {X} f (suc n) =
    map-append f (below (suc n)) (suc n ∷ []) ∙ ap (λ (l : List X). l ++ f (suc n) ∷ []) (map_first f n)
    ∙ ap (λ (l : List X). f 0 ∷ l) (sym (map-append (λ k. f (suc k)) (below n) (n ∷ [])))

-- a list is what stands at its places
pub map_places : {X Y : Type 0} (f : X → Y) (xs : List X) (d : X) → map f xs ≡ map (λ k. f (get_or xs k d)) (below (length xs))
map_places f [] d = refl
map_places {X} {Y} f (x ∷ xs) d = ap (λ (l : List Y). f x ∷ l) (map_places f xs d) ∙ sym (map_first (λ k. f (get_or (x ∷ xs) k d)) (length xs))

-- one place more
pub map_push : {X : Type 0} (f : ℕ → X) (n : ℕ) (old new : List X) (x : X) → old ≡ map f (below n) → new ≡ old ++ x ∷ [] → x ≡ f n → new ≡ map f (below (n + 1))
map_push {X} f n old new x h add is =
    add ∙ ap (λ (l : List X). l ++ x ∷ []) h ∙ ap (λ (y : X). map f (below n) ++ y ∷ []) is ∙ sym (map-append f (below n) (n ∷ []))
    ∙ ap (λ k. map f (below k)) (let e : suc n ≡ n + 1 = omega arith in e)
