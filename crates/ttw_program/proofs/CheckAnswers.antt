-- The lines of modes, and the answer to a plan
use Rattle.std.proofs.Common.{◌≡◌, ℕ, ◌+◌, ◌<◌, ◌≤◌, List, [], ◌∷◌, ◌++◌, length, get_or, map, take, refl, sym, ◌∙◌, ap, arith, append_assoc, append-nil}
use Rattle.std.specs.List.{flat_map}
use Rattle.std.proofs.lemmas.List.{take_more, take_all}
use Rattle.std.proofs.lemmas.Grind.{flat_map-append}
use Rattle.ttw_program.specs.Commands.{none, command, of_three, of_two}

-- one item's text more
pub text_more : {X : Type 0} (f : X → List ℕ) (xs : List X) (i : ℕ) (x : X) (start old new : List ℕ) → i < length xs → x ≡ get_or xs i x
    → old ≡ start ++ flat_map f (take i xs) → new ≡ old ++ f x → new ≡ start ++ flat_map f (take (i + 1) xs)
text_more {X} f xs i x start old new l e h s =
    s ∙ ap (λ (y : List ℕ). y ++ f x) h ∙ append_assoc start (flat_map f (take i xs)) (f x)
    ∙ ap (λ (y : List ℕ). start ++ (flat_map f (take i xs) ++ y)) (sym (append-nil (f x)))
    ∙ ap (λ (y : List ℕ). start ++ y) (sym (flat_map-append f (take i xs) (x ∷ [])))
    ∙ ap (λ (y : X). start ++ flat_map f (take i xs ++ y ∷ [])) e
    ∙ ap (λ (y : List X). start ++ flat_map f y) (sym (take_more xs i x l))

-- the text of all
pub text_whole : {X : Type 0} (f : X → List ℕ) (xs : List X) (n : ℕ) (start new : List ℕ) → length xs ≤ n → new ≡ start ++ flat_map f (take n xs) → new ≡ start ++ flat_map f xs
text_whole {X} f xs n start new l h = h ∙ ap (λ (y : List X). start ++ flat_map f y) (take_all n xs l)

-- fewer than two words are no command
pub few_words : (words : List (List ℕ)) → length words < 2 → command words ≡ none
few_words [] l = refl
few_words (a ∷ []) l = refl
few_words (a ∷ b ∷ words) l = absurd (omega (arith, l))

-- and so are more than four
pub many_words : (words : List (List ℕ)) → 5 ≤ length words → command words ≡ none
many_words [] l = refl
many_words (a ∷ []) l = refl
many_words (a ∷ b ∷ []) l = absurd (omega (arith, l))
many_words (a ∷ b ∷ c ∷ []) l = absurd (omega (arith, l))
many_words (a ∷ b ∷ c ∷ d ∷ []) l = absurd (omega (arith, l))
many_words (a ∷ b ∷ c ∷ d ∷ e ∷ words) l = refl

pub two_are : {A : Type 0} (f : A → List ℕ) (xs : List A) (d : A) → 2 ≤ length xs → length xs < 3 → command (map f xs) ≡ of_two (f (get_or xs 0 d)) (f (get_or xs 1 d))
two_are f [] d l m = absurd (omega (arith, l))
two_are f (a ∷ []) d l m = absurd (omega (arith, l))
two_are f (a ∷ b ∷ []) d l m = refl
two_are f (a ∷ b ∷ c ∷ xs) d l m = absurd (omega (arith, m))

pub three_are : {A : Type 0} (f : A → List ℕ) (xs : List A) (d : A) → 3 ≤ length xs → length xs < 4 → command (map f xs) ≡ of_three (f (get_or xs 0 d)) (f (get_or xs 1 d)) (f (get_or xs 2 d))
three_are f [] d l m = absurd (omega (arith, l))
three_are f (a ∷ []) d l m = absurd (omega (arith, l))
three_are f (a ∷ b ∷ []) d l m = absurd (omega (arith, l))
three_are f (a ∷ b ∷ c ∷ []) d l m = refl
three_are f (a ∷ b ∷ c ∷ e ∷ xs) d l m = absurd (omega (arith, m))
