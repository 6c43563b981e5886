-- Texts that are added one behind the other
use Rattle.std.proofs.Common.{◌≡◌, ℕ, suc, ◌+◌, ◌<◌, ◌≤◌, List, [], ◌∷◌, ◌++◌, length, get_or, take, drop, sym, ◌∙◌, ap, subst, add-one, append_assoc, append-nil, drop-cons}
use Rattle.std.specs.Prelude.{Result, Ok, Err, OnOk}
use Rattle.std.specs.List.{flat_map}
use Rattle.std.proofs.lemmas.Grind.{flat_map-append}
use Rattle.std.proofs.lemmas.List.{take_more, take_all, drop_all}
use Rattle.time_chart.specs.declared.chart.Row.{Row}
use Rattle.time_chart.specs.declared.chart.Section.{Section}
use Rattle.time_chart.specs.Drawing.{row_elements, rows_from, section_elements, sections_from, chart_height}
use Rattle.time_chart.specs.Elements.{Element, svg}
use Rattle.time_chart.proofs.Pieces.{svg-append}

-- what holds at an Ok
pub on_ok : {A E : Type 0} (r : Result A E) (P Q : Type 0) → (P → Q) → OnOk r P → OnOk r Q
on_ok (Ok a) P Q f p = f p
on_ok (Err e) P Q f p = tt

two : (o a b s t : List ℕ) → s ≡ o ++ a → t ≡ s ++ b → t ≡ o ++ (a ++ b)
two o a b s t p q = q ∙ ap (λ (x : List ℕ). x ++ b) p ∙ append_assoc o a b

three : (o a b c s t u : List ℕ) → s ≡ o ++ a → t ≡ s ++ b → u ≡ t ++ c → u ≡ o ++ (a ++ (b ++ c))
three o a b c s t u p q r = two o a (b ++ c) s u p (two s b c t u q r)

four : (o a b c d s t u v : List ℕ) → s ≡ o ++ a → t ≡ s ++ b → u ≡ t ++ c → v ≡ u ++ d → v ≡ o ++ (a ++ (b ++ (c ++ d)))
four o a b c d s t u v p q r e = two o a (b ++ (c ++ d)) s v p (three s b c d t u v q r e)

-- four texts, the last of which is added where there is memory
pub four_texts : {A E : Type 0} (o a b c d s t u v : List ℕ) (x : Result A E) → s ≡ o ++ a → t ≡ s ++ b → u ≡ t ++ c → OnOk x (v ≡ u ++ d) → OnOk x (v ≡ o ++ (a ++ (b ++ (c ++ d))))
four_texts o a b c d s t u v x p q r e = on_ok x (v ≡ u ++ d) (v ≡ o ++ (a ++ (b ++ (c ++ d)))) (λ e. four o a b c d s t u v p q r e) e

three_texts : {A E : Type 0} (o a b c s t u : List ℕ) (x : Result A E) → s ≡ o ++ a → t ≡ s ++ b → OnOk x (u ≡ t ++ c) → OnOk x (u ≡ o ++ (a ++ (b ++ c)))
three_texts o a b c s t u x p q e = on_ok x (u ≡ t ++ c) (u ≡ o ++ (a ++ (b ++ c))) (λ e. three o a b c s t u p q e) e

svg_three : (a b c : List Element) → svg a ++ (svg b ++ svg c) ≡ svg (a ++ (b ++ c))
svg_three a b c = ap (λ (x : List ℕ). svg a ++ x) (sym (svg-append b c)) ∙ sym (svg-append a (b ++ c))

svg_four : (a b c d : List Element) → svg a ++ (svg b ++ (svg c ++ svg d)) ≡ svg (a ++ (b ++ (c ++ d)))
svg_four a b c d = ap (λ (x : List ℕ). svg a ++ x) (svg_three b c d) ∙ sym (svg-append a (b ++ (c ++ d)))

-- the elements of two, three and four lists
pub two_lists : {A E : Type 0} (o : List ℕ) (a b : List Element) (s t : List ℕ) (x : Result A E) → s ≡ o ++ svg a → OnOk x (t ≡ s ++ svg b) → OnOk x (t ≡ o ++ svg (a ++ b))
two_lists o a b s t x p e = on_ok x (t ≡ s ++ svg b) (t ≡ o ++ svg (a ++ b)) (λ e. two o (svg a) (svg b) s t p e ∙ ap (λ (y : List ℕ). o ++ y) (sym (svg-append a b))) e

pub three_lists : {A E : Type 0} (o : List ℕ) (a b c : List Element) (s t u : List ℕ) (x : Result A E) → s ≡ o ++ svg a → t ≡ s ++ svg b → OnOk x (u ≡ t ++ svg c) → OnOk x (u ≡ o ++ svg (a ++ (b ++ c)))
three_lists o a b c s t u x p q e = on_ok x (u ≡ t ++ svg c) (u ≡ o ++ svg (a ++ (b ++ c))) (λ e. three o (svg a) (svg b) (svg c) s t u p q e ∙ ap (λ (y : List ℕ). o ++ y) (svg_three a b c)) e

pub four_lists : {A E : Type 0} (o : List ℕ) (a b c d : List Element) (s t u v : List ℕ) (x : Result A E) → s ≡ o ++ svg a → t ≡ s ++ svg b → u ≡ t ++ svg c → OnOk x (v ≡ u ++ svg d) → OnOk x (v ≡ o ++ svg (a ++ (b ++ (c ++ d))))
four_lists o a b c d s t u v x p q r e = on_ok x (v ≡ u ++ svg d) (v ≡ o ++ svg (a ++ (b ++ (c ++ d)))) (λ e. four o (svg a) (svg b) (svg c) (svg d) s t u v p q r e ∙ ap (λ (y : List ℕ). o ++ y) (svg_four a b c d)) e

-- the elements of one item more
pub item_more : {X : Type 0} (f : X → List Element) (xs : List X) (i : ℕ) (x : X) (start old new : List ℕ) → i < length xs → x ≡ get_or xs i x
    → old ≡ start ++ svg (flat_map f (take i xs)) → new ≡ old ++ svg (f x) → new ≡ start ++ svg (flat_map f (take (i + 1) xs))
item_more {X} f xs i x start old new l e h s =
    two start (svg (flat_map f (take i xs))) (svg (f x)) old new h s
    ∙ ap (λ (y : List ℕ). start ++ y) (sym (svg-append (flat_map f (take i xs)) (f x)))
    ∙ ap (λ (y : List Element). start ++ svg (flat_map f (take i xs) ++ y)) (sym (append-nil (f x)))
    ∙ ap (λ (y : List Element). start ++ svg y) (sym (flat_map-append f (take i xs) (x ∷ [])))
    ∙ ap (λ (y : X). start ++ svg (flat_map f (take i xs ++ y ∷ []))) e
    ∙ ap (λ (y : List X). start ++ svg (flat_map f y)) (sym (take_more xs i x l))

pub items_whole : {X : Type 0} (f : X → List Element) (xs : List X) (n : ℕ) (start new : List ℕ) → length xs ≤ n → new ≡ start ++ svg (flat_map f (take n xs)) → new ≡ start ++ svg (flat_map f xs)
items_whole {X} f xs n start new l h = h ∙ ap (λ (y : List X). start ++ svg (flat_map f y)) (take_all n xs l)

-- ---- what is left, from y down

-- what was written, and what is left, is the whole
on : (a rest : List Element) (old new whole : List ℕ) → old ++ svg (a ++ rest) ≡ whole → new ≡ old ++ svg a → new ++ svg rest ≡ whole
on a rest old new whole h s = ap (λ (y : List ℕ). y ++ svg rest) s ∙ append_assoc old (svg a) (svg rest) ∙ ap (λ (y : List ℕ). old ++ y) (sym (svg-append a rest)) ∙ h

pub rows_on : (hyper top i : ℕ) (rows : List Row) (row : Row) (old new whole : List ℕ) → i < length rows → row ≡ get_or rows i row
    → old ++ svg (rows_from hyper top (drop i rows)) ≡ whole → new ≡ old ++ svg (row_elements hyper top row) → new ++ svg (rows_from hyper (top + 24) (drop (i + 1) rows)) ≡ whole
rows_on hyper top i rows row old new whole l e h s =
    let begins : drop i rows ≡ row ∷ drop (i + 1) rows = drop-cons rows i row l ∙ ap (λ (r : Row). r ∷ drop (suc i) rows) (sym e) ∙ ap (λ n. row ∷ drop n rows) (sym (add-one i)) in
    let here = subst (λ (rs : List Row). old ++ svg (rows_from hyper top rs) ≡ whole) begins h in
    on (row_elements hyper top row) (rows_from hyper (top + 24) (drop (i + 1) rows)) old new whole here s

pub rows_done : (hyper top n : ℕ) (rows : List Row) (new whole : List ℕ) → length rows ≤ n → new ++ svg (rows_from hyper top (drop n rows)) ≡ whole → new ≡ whole
rows_done hyper top n rows new whole l h =
    sym (append-nil new) ∙ subst (λ (rs : List Row). new ++ svg (rows_from hyper top rs) ≡ whole) (drop_all n rows l) h

pub sections_on : (top i : ℕ) (ss : List Section) (s : Section) (old new whole : List ℕ) → i < length ss → s ≡ get_or ss i s
    → old ++ svg (sections_from top (drop i ss)) ≡ whole → new ≡ old ++ svg (section_elements top s) → new ++ svg (sections_from (top + chart_height s.chart) (drop (i + 1) ss)) ≡ whole
sections_on top i ss s old new whole l e h w =
    let begins : drop i ss ≡ s ∷ drop (i + 1) ss = drop-cons ss i s l ∙ ap (λ (r : Section). r ∷ drop (suc i) ss) (sym e) ∙ ap (λ n. s ∷ drop n ss) (sym (add-one i)) in
    let here = subst (λ (rs : List Section). old ++ svg (sections_from top rs) ≡ whole) begins h in
    on (section_elements top s) (sections_from (top + chart_height s.chart) (drop (i + 1) ss)) old new whole here w

pub sections_done : (top n : ℕ) (ss : List Section) (new whole : List ℕ) → length ss ≤ n → new ++ svg (sections_from top (drop n ss)) ≡ whole → new ≡ whole
sections_done top n ss new whole l h =
    sym (append-nil new) ∙ subst (λ (rs : List Section). new ++ svg (sections_from top rs) ≡ whole) (drop_all n ss l) h
