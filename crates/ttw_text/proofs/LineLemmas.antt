-- The first line of a text, by the place of its line feed.
use Rattle.std.proofs.Common.{◌≡◌, ℕ, suc, ◌+◌, ◌-◌, ◌<◌, ◌≤◌, ◌↔◌, Bool, true, false, not, eqb, cond, List, [], ◌∷◌, ◌++◌, length, length-append, get_or, take, drop, ◌≢◌, Some, None, refl, sym, ap, ◌∙◌, arith}
use Rattle.std.proofs.lemmas.Bool.{cond-true, cond-false, eq-eqb, eqb-true, ne_eqb}
use Rattle.std.proofs.lemmas.List.{get_or_at, take_all, take_at, take_more}
use Rattle.std.proofs.lemmas.Option.{cond_some, none-some}
use Rattle.std.specs.List.{position, position_or_len, onto_first, concat, All}
use Rattle.ttw_text.specs.Lines.{lines, without_feed}
use Rattle.ttw_text.proofs.PlaceLemmas.{place_is, none_passes}

abbrev pub is_feed : ℕ → Bool
is_feed b = eqb b 10

-- the place of the first line feed behind a byte
abbrev after : Bool → List ℕ → ℕ
after feed bs = cond (not feed) (1 + position_or_len is_feed bs) 0

-- the lines of a text that begins with this byte
abbrev begun : Bool → ℕ → List ℕ → List (List ℕ)
begun feed b bs = cond feed ((b ∷ []) ∷ lines bs) (onto_first b (lines bs))

abbrev pub HasFirst : List ℕ → ℕ → Type 0
HasFirst text at = lines text ≡ take (at + 1) text ∷ lines (drop (at + 1) text)

first_behind : (feed : Bool) (b : ℕ) (bs : List ℕ) → (position_or_len is_feed bs < length bs → HasFirst bs (position_or_len is_feed bs)) → after feed bs < suc (length bs) →
    begun feed b bs ≡ take (after feed bs + 1) (b ∷ bs) ∷ lines (drop (after feed bs + 1) (b ∷ bs))
first_behind true b bs rest in_text = refl
first_behind false b bs rest in_text =
    let e : 1 + position_or_len is_feed bs + 1 ≡ suc (position_or_len is_feed bs + 1) = omega arith in
    rw (e, rest (omega arith)) refl

-- a text whose first line feed is at this place
lines_at_feed : (text : List ℕ) → position_or_len is_feed text < length text → HasFirst text (position_or_len is_feed text)
lines_at_feed [] in_text = absurd (omega arith)
lines_at_feed (b ∷ bs) in_text = first_behind (is_feed b) b bs (lines_at_feed bs) in_text

whole_behind : (feed : Bool) (b d : ℕ) (ds : List ℕ) → (length (d ∷ ds) ≤ position_or_len is_feed (d ∷ ds) → lines (d ∷ ds) ≡ (d ∷ ds) ∷ []) → length (b ∷ d ∷ ds) ≤ after feed (d ∷ ds) →
    begun feed b (d ∷ ds) ≡ (b ∷ d ∷ ds) ∷ []
whole_behind true b d ds rest none = absurd (omega arith)
whole_behind false b d ds rest none = rw (rest (omega arith)) refl

alone : (feed : Bool) (b : ℕ) → begun feed b [] ≡ (b ∷ []) ∷ []
alone true b = refl
alone false b = refl

-- a text without a line feed
lines_without_feed : (text : List ℕ) → 0 < length text → length text ≤ position_or_len is_feed text → lines text ≡ text ∷ []
lines_without_feed [] some none = absurd (omega arith)
lines_without_feed (b ∷ []) some none = alone (is_feed b) b
lines_without_feed (b ∷ d ∷ ds) some none = whole_behind (is_feed b) b d ds (lines_without_feed (d ∷ ds) (omega arith)) none

pub lines_at : (text : List ℕ) (at : ℕ) → position is_feed text ≡ Some at → HasFirst text at
lines_at text at found = let place = place_is is_feed text at found in rw (← place.1) (lines_at_feed text place.0)

pub lines_at_end : (text : List ℕ) → 0 < length text → position is_feed text ≡ None → lines text ≡ text ∷ []
lines_at_end text some none = lines_without_feed text some (none_passes is_feed text none)

-- ---- the laws of lines

concat-begun : (feed : Bool) (b : ℕ) (bs : List ℕ) → concat (lines bs) ≡ bs → concat (begun feed b bs) ≡ b ∷ bs
concat-begun true b bs e = ap (λ (xs : List ℕ). b ∷ xs) e
concat-begun false b bs e = onto (lines bs) e
  where
    onto : (ls : List (List ℕ)) → concat ls ≡ bs → concat (onto_first b ls) ≡ b ∷ bs
    onto [] h = ap (λ (xs : List ℕ). b ∷ xs) h
    onto (l ∷ ls) h = ap (λ (xs : List ℕ). b ∷ xs) h

pub concat-lines : (text : List ℕ) → concat (lines text) ≡ text
concat-lines [] = refl
concat-lines (b ∷ bs) = concat-begun (is_feed b) b bs (concat-lines bs)

pub lines-append : (line rest : List ℕ) → All (λ b. b ≢ 10) line → lines (line ++ 10 ∷ rest) ≡ (line ++ 10 ∷ []) ∷ lines rest
lines-append [] rest others = refl
lines-append (b ∷ bs) rest others =
    let other : is_feed b ≡ false = ne_eqb b 10 (others 0 b (omega arith)) in
    ap (λ (f : Bool). cond f ((b ∷ []) ∷ lines (bs ++ 10 ∷ rest)) (onto_first b (lines (bs ++ 10 ∷ rest)))) other
    ∙ ap (onto_first b) (lines-append bs rest (λ k d below. others (suc k) d (omega arith)))

-- ---- a line without its line feed

pub without_feed-append : (text : List ℕ) → without_feed (text ++ 10 ∷ []) ≡ Some text
without_feed-append text =
    let line = text ++ 10 ∷ [] in
    let last : length line - 1 ≡ length text = omega (arith, length-append text (10 ∷ [])) in
    let feed : get_or line (length line - 1) 0 ≡ 10 = ap (λ i. get_or line i 0) last ∙ get_or_at text 10 [] 0 (length text) refl in
    cond-true _ _ _ (eq-eqb _ 10 feed) ∙ ap (λ i. Some (take i line)) last ∙ ap Some (take_at text (10 ∷ []) (length text) refl)

pub without_feed-none : (line : List ℕ) → All (λ b. b ≢ 10) line → without_feed line ≡ None
without_feed-none [] others = refl
without_feed-none (b ∷ bs) others = cond-false _ _ _ (ne_eqb _ 10 (others (length (b ∷ bs) - 1) 0 (omega arith)))

without_feed-only : (line text : List ℕ) → without_feed line ≡ Some text → line ≡ text ++ 10 ∷ []
without_feed-only [] text found = absurd (none-some text found)
without_feed-only (b ∷ bs) text found =
    let line = b ∷ bs in
    let n = length line - 1 in
    let is = cond_some (is_feed (get_or line n 0)) (take n line) text found in
    let below : n < length line = omega arith in
    sym (take_all (n + 1) line (omega arith)) ∙ take_more line n 0 below ∙ ap (λ k. take n line ++ k ∷ []) (eqb-true _ 10 is.0) ∙ ap (λ (front : List ℕ). front ++ 10 ∷ []) is.1

pub without_feed_is : (line text : List ℕ) → (without_feed line ≡ Some text) ↔ (line ≡ text ++ 10 ∷ [])
without_feed_is line text = (without_feed-only line text, λ e. ap without_feed e ∙ without_feed-append text)
