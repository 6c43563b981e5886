-- The text of elements, one more at a time
use Rattle.std.proofs.Common.{◌≡◌, ℕ, ◌+◌, List, [], ◌∷◌, ◌++◌, map, refl, sym, ◌∙◌, ap, add-one, append_assoc, append-nil}
use Rattle.std.specs.List.{flat_map}
use Rattle.std.proofs.lemmas.Grind.{flat_map-append}
use Rattle.std.proofs.lemmas.List.{map-append}
use Rattle.time_chart.specs.Drawing.{below}
use Rattle.time_chart.specs.Elements.{Element, element_text, svg}

-- the numbers below k + 1
pub below_more : (k : ℕ) → below (k + 1) ≡ below k ++ k ∷ []
unfolding below
below_more k = rw (add-one k) refl

pub below_none : below 0 ≡ []
unfolding below
below_none = refl

-- text of one list after another
pub svg-append : (xs ys : List Element) → svg (xs ++ ys) ≡ svg xs ++ svg ys
svg-append xs ys = flat_map-append element_text xs ys

-- one element more
pub one_more : (f : ℕ → Element) (k : ℕ) (start old new : List ℕ) → old ≡ start ++ svg (map f (below k)) → new ≡ old ++ element_text (f k) → new ≡ start ++ svg (map f (below (k + 1)))
one_more f k start old new h s =
    s ∙ ap (λ (y : List ℕ). y ++ element_text (f k)) h ∙ append_assoc start (svg (map f (below k))) (element_text (f k))
    ∙ ap (λ (y : List ℕ). start ++ (svg (map f (below k)) ++ y)) (sym (append-nil (element_text (f k))))
    ∙ ap (λ (y : List ℕ). start ++ y) (sym (svg-append (map f (below k)) (f k ∷ [])))
    ∙ ap (λ (y : List Element). start ++ svg y) (sym (map-append f (below k) (k ∷ [])))
    ∙ ap (λ (y : List ℕ). start ++ svg (map f y)) (sym (below_more k))

-- one list of elements more
pub list_more : (f : ℕ → List Element) (k : ℕ) (start old new : List ℕ) → old ≡ start ++ svg (flat_map f (below k)) → new ≡ old ++ svg (f k) → new ≡ start ++ svg (flat_map f (below (k + 1)))
list_more f k start old new h s =
    s ∙ ap (λ (y : List ℕ). y ++ svg (f k)) h ∙ append_assoc start (svg (flat_map f (below k))) (svg (f k))
    ∙ ap (λ (y : List ℕ). start ++ y) (sym (svg-append (flat_map f (below k)) (f k)))
    ∙ ap (λ (y : List Element). start ++ svg (flat_map f (below k) ++ y)) (sym (append-nil (f k)))
    ∙ ap (λ (y : List Element). start ++ svg y) (sym (flat_map-append f (below k) (k ∷ [])))
    ∙ ap (λ (y : List ℕ). start ++ svg (flat_map f y)) (sym (below_more k))

-- none yet
pub none_yet : (f : ℕ → Element) (start : List ℕ) → start ≡ start ++ svg (map f (below 0))
none_yet f start = sym (append-nil start) ∙ ap (λ (y : List ℕ). start ++ svg (map f y)) (sym below_none)

pub no_list_yet : (f : ℕ → List Element) (start : List ℕ) → start ≡ start ++ svg (flat_map f (below 0))
no_list_yet f start = sym (append-nil start) ∙ ap (λ (y : List ℕ). start ++ svg (flat_map f y)) (sym below_none)
