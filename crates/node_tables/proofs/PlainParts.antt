-- What a node keeps of a mode, out of its applications, is its part of the mode's plan
use Rattle.std.proofs.Common.{◌≡◌, ℕ, zero, suc, ◌<◌, Bool, true, false, cond, List, [], ◌∷◌, ◌++◌, length, get_or, map, filter, refl, sym, ◌∙◌, ap, arith, append_assoc}
use Rattle.std.specs.List.{flat_map}
use Rattle.std.proofs.lemmas.List.{map-append}
use Rattle.sched_model.specs.Numbers.{below}
use Rattle.sched_model.proofs.Lists.{flat_below-suc}

-- ---- lists by places

pub flat_same : {X : Type 0} (f g : ℕ → List X) (n : ℕ) → ((a : ℕ) → a < n → f a ≡ g a) → flat_map f (below n) ≡ flat_map g (below n)
flat_same f g zero h = refl
flat_same {X} f g (suc n) h =
    flat_below-suc f n ∙ ap (λ (l : List X). l ++ f n) (flat_same f g n (λ a l. h a (omega (arith, l))))
    ∙ ap (λ (l : List X). flat_map g (below n) ++ l) (h n (omega arith)) ∙ sym (flat_below-suc g n)

pub map_same : {X : Type 0} (f g : ℕ → X) (n : ℕ) → ((a : ℕ) → a < n → f a ≡ g a) → map f (below n) ≡ map g (below n)
map_same f g zero h = refl
map_same {X} f g (suc n) h =
    map-append f (below n) (n ∷ []) ∙ ap (λ (l : List X). l ++ f n ∷ []) (map_same f g n (λ a l. h a (omega (arith, l))))
    ∙ ap (λ (x : X). map g (below n) ++ x ∷ []) (h n (omega arith)) ∙ sym (map-append g (below n) (n ∷ []))

-- the first part, and the others
pub flat_first : {X : Type 0} (f : ℕ → List X) (n : ℕ) → flat_map f (below (suc n)) ≡ f 0 ++ flat_map (λ k. f (suc k)) (below n)
flat_first f zero = refl
flat_first {X} f (suc n) =
    flat_below-suc f (suc n) ∙ ap (λ (l : List X). l ++ f (suc n)) (flat_first f n)
    ∙ append_assoc (f 0) (flat_map (λ k. f (suc k)) (below n)) (f (suc n))
    ∙ ap (λ (l : List X). f 0 ++ l) (sym (flat_below-suc (λ k. f (suc k)) n))

-- a list is what stands at its places
pub flat_places : {X Y : Type 0} (h : X → List Y) (xs : List X) (d : X) → flat_map h xs ≡ flat_map (λ k. h (get_or xs k d)) (below (length xs))
flat_places h [] d = refl
flat_places {X} {Y} h (x ∷ xs) d = ap (λ (l : List Y). h x ++ l) (flat_places h xs d) ∙ sym (flat_first (λ k. h (get_or (x ∷ xs) k d)) (length xs))

kept_one : {X Y Z : Type 0} (f : Y → Z) (g : X → Y) (b : Bool) (x : X) (xs : List X) → map f (map g (cond b (x ∷ xs) xs)) ≡ cond b (f (g x) ∷ []) [] ++ map f (map g xs)
kept_one f g true x xs = refl
kept_one f g false x xs = refl

-- what passes a test, one after another
pub kept : {X Y Z : Type 0} (f : Y → Z) (g : X → Y) (t : X → Bool) (xs : List X) → map f (map g (filter t xs)) ≡ flat_map (λ x. cond (t x) (f (g x) ∷ []) []) xs
kept f g t [] = refl
kept {X} {Y} {Z} f g t (x ∷ xs) = kept_one f g (t x) x (filter t xs) ∙ ap (λ (l : List Z). cond (t x) (f (g x) ∷ []) [] ++ l) (kept f g t xs)
