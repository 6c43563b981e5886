-- The lines that are cut off a document are those of its bytes
use Rattle.std.proofs.Common.{◌≡◌, ℕ, ◌+◌, ◌≤◌, Bool, true, false, not, ◌&&◌, cond, leb, List, [], ◌∷◌, ◌++◌, length, refl, sym, ap, subst, ◌∙◌, arith, length-append}
use Rattle.std.specs.Prelude.{Option, Some, None}
use Rattle.std.specs.Option.{option_and_then}
use Rattle.std.specs.List.{slice_split, onto_first, list_all, join_with_byte, AllByRecursion}
use Rattle.std.proofs.lemmas.Bool.{eqb-true, eq-eqb, le-leb, false≢true}
use Rattle.std.proofs.lemmas.List.Sums.{AllPass-from_list_all}
use Rattle.ttw_text.specs.Lines.{lines}
use Rattle.ttw_text.proofs.LineLemmas.{is_feed, without_feed-append, without_feed-none}
use Rattle.proof_tree.specs.Items.{Item, first_word, other_words}
use Rattle.proof_tree.specs.Grammar.{item_of}
use Rattle.proof_tree.specs.Spelled.{Says}
use Rattle.cert_checker.specs.Refusals.{FitsLine}
use Rattle.proof_tree.specs.TreeLines.{Items}
use Rattle.proof_tree.specs.Accepting.{limit, longest, line_item, items_from, items_of}
use Rattle.cert_checker.specs.DocumentLines.{line_read, items_left}

-- the parts between line feeds, as lines with their line feeds
joined : List (List ℕ) → List (List ℕ)
joined [] = []
joined ([] ∷ []) = []
joined ((c ∷ cs) ∷ []) = (c ∷ cs) ∷ []
joined (l ∷ m ∷ ms) = (l ++ 10 ∷ []) ∷ joined (m ∷ ms)

-- no line feed is in the text
abbrev unfed : List ℕ → Bool
unfed text = list_all (λ b. not (is_feed b)) text

-- one part or more, without line feeds
abbrev Parts : List (List ℕ) → Type 0
Parts ps = (p : List ℕ) × (rest : List (List ℕ)) × (ps ≡ p ∷ rest) × AllByRecursion (λ l. unfed l ≡ true) ps

parts_of : (text : List ℕ) → Parts (slice_split is_feed text)
parts_of [] = ([], [], refl, (refl, tt))
parts_of (b ∷ bs) = here (is_feed b) refl (parts_of bs)
  where
    here : (t : Bool) → is_feed b ≡ t → Parts (slice_split is_feed bs) → Parts (cond t ([] ∷ slice_split is_feed bs) (onto_first b (slice_split is_feed bs)))
    here true is w = ([], slice_split is_feed bs, refl, (refl, w.3))
    here false is (p, rest, e, all) =
        let split : onto_first b (slice_split is_feed bs) ≡ (b ∷ p) ∷ rest = ap (onto_first b) e in
        let parts = subst (λ (ps : List (List ℕ)). AllByRecursion (λ l. unfed l ≡ true) ps) e all in
        (b ∷ p, rest, split, subst (λ (ps : List (List ℕ)). AllByRecursion (λ l. unfed l ≡ true) ps) (sym split) (ap (λ t. not t && unfed p) is ∙ parts.0, parts.1))

-- a byte before the lines of some parts
onto_joined : (b : ℕ) (p : List ℕ) (rest : List (List ℕ)) → onto_first b (joined (p ∷ rest)) ≡ joined ((b ∷ p) ∷ rest)
unfolding joined
onto_joined b [] [] = refl
onto_joined b (c ∷ cs) [] = refl
onto_joined b p (m ∷ ms) = refl

lines_joined : (text : List ℕ) → lines text ≡ joined (slice_split is_feed text)
unfolding joined
lines_joined [] = refl
lines_joined (b ∷ bs) = here (is_feed b) refl (parts_of bs) (lines_joined bs)
  where
    here : (t : Bool) → is_feed b ≡ t → Parts (slice_split is_feed bs) → lines bs ≡ joined (slice_split is_feed bs)
        → cond t ((b ∷ []) ∷ lines bs) (onto_first b (lines bs)) ≡ joined (cond t ([] ∷ slice_split is_feed bs) (onto_first b (slice_split is_feed bs)))
    here true is (p, rest, e, all) h =
        let feed : b ≡ 10 = eqb-true b 10 is in
        ap (λ (l : List (List ℕ)). (b ∷ []) ∷ l) (h ∙ ap joined e) ∙ ap (λ k. (k ∷ []) ∷ joined (p ∷ rest)) feed ∙ sym (ap (λ (ps : List (List ℕ)). joined ([] ∷ ps)) e)
    here false is (p, rest, e, all) h =
        ap (onto_first b) (h ∙ ap joined e) ∙ onto_joined b p rest ∙ sym (ap (λ (ps : List (List ℕ)). joined (onto_first b ps)) e)

-- a line with its line feed
fed_read : (at : ℕ) (l : List ℕ) → line_read (at + length (l ++ 10 ∷ [])) (l ++ 10 ∷ []) ≡ line_item (at + length l + 1) l
fed_read at l =
    let end : at + length (l ++ 10 ∷ []) ≡ at + length l + 1 = omega (arith, length-append l (10 ∷ [])) in
    ap (option_and_then (line_item (at + length (l ++ 10 ∷ [])))) (without_feed-append l) ∙ ap (λ n. line_item n l) end

-- a last line without one
last_read : (end : ℕ) (l : List ℕ) → unfed l ≡ true → line_read end l ≡ None
last_read end l u = ap (option_and_then (line_item end)) (without_feed-none l (λ k d below e. false≢true (sym (ap not (eq-eqb _ 10 e)) ∙ AllPass-from_list_all (λ b. not (is_feed b)) l u k d below)))

items_joined : (at : ℕ) (ps : List (List ℕ)) → AllByRecursion (λ l. unfed l ≡ true) ps → items_from at ps ≡ items_left at (joined ps)
unfolding joined
items_joined at [] all = refl
items_joined at ([] ∷ []) all = refl
items_joined at ((c ∷ cs) ∷ []) all = ap (λ (o : Option Item). o ∷ []) (sym (last_read (at + length (c ∷ cs)) (c ∷ cs) all.0))
items_joined at (l ∷ m ∷ ms) all =
    let end : at + length (l ++ 10 ∷ []) ≡ at + length l + 1 = omega (arith, length-append l (10 ∷ [])) in
    one l m ms at
    ∙ ap (λ (o : Option Item). o ∷ items_from (at + length l + 1) (m ∷ ms)) (sym (fed_read at l))
    ∙ ap (λ (r : Items). line_read (at + length (l ++ 10 ∷ [])) (l ++ 10 ∷ []) ∷ r) (items_joined (at + length l + 1) (m ∷ ms) all.1)
    ∙ ap (λ n. line_read (at + length (l ++ 10 ∷ [])) (l ++ 10 ∷ []) ∷ items_left n (joined (m ∷ ms))) (sym end)
  where
    one : (l m : List ℕ) (ms : List (List ℕ)) (at : ℕ) → items_from at (l ∷ m ∷ ms) ≡ line_item (at + length l + 1) l ∷ items_from (at + length l + 1) (m ∷ ms)
    one [] m ms at = refl
    one (c ∷ cs) m ms at = refl

-- what the lines of a text say
pub text_items : (text : List ℕ) → items_of text ≡ items_left 0 (lines text)
text_items text = items_joined 0 (slice_split is_feed text) (parts_of text).3 ∙ ap (items_left 0) (sym (lines_joined text))

-- ---- what a line says has no more words than the line has bytes

words_few : (w : List ℕ) (ws : List (List ℕ)) → length ws ≤ length (join_with_byte 32 (w ∷ ws))
words_few w [] = omega arith
words_few w (v ∷ vs) = let h = words_few v vs in omega (arith, h, length-append w (32 ∷ join_with_byte 32 (v ∷ vs)))

pub fits_line : (line : List ℕ) (i : Item) → Says line i → length line ≤ 4096 → FitsLine i
fits_line line i says short = record {
  writable = says.writable;
  short = omega (arith, short, words_few (first_word i) (other_words i), ap length says.words);
}

pub read_here : (end : ℕ) (line : List ℕ) (i : Item) → Some i ≡ item_of line → length line ≤ longest → end ≤ limit → line_item end line ≡ Some i
read_here end line i e short within =
    ap (λ t. cond t (cond (leb end limit) (item_of line) None) None) (le-leb (length line) longest short)
    ∙ ap (λ t. cond t (item_of line) None) (le-leb end limit within) ∙ sym e
