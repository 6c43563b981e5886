-- A script past its limit has the same fault where it is read up to one byte past it, or further
use Rattle.std.proofs.Common.{◌≡◌, ◌≢◌, ℕ, zero, suc, ◌+◌, ◌-◌, ◌<◌, ◌≤◌, Bool, true, false, ◌&&◌, nat_le, cond, List, [], ◌∷◌, ◌++◌, length, take, Some, refl, sym, ap, ◌∙◌, arith, subst, length-append, append_assoc, All, sum_by, ◌⊎◌, inl, inr}
use Rattle.std.specs.List.{concat, onto_first}
use Rattle.std.proofs.lemmas.Bool.{cases_lt, cases_eq, ne_eqb, lt-leb}
use Rattle.std.proofs.lemmas.List.Elements.{All-nil, All-cons, All-take}
use Rattle.std.proofs.lemmas.List.{append-nil, take_all, take-append-le, length-take}
use Rattle.std.proofs.lemmas.List.Folds.{concat-append}
use Rattle.std.proofs.Math.Seq.{take-append-add}
use Rattle.app_graph.specs.declared.mode_set.ModeSet.{ModeSet}
use Rattle.app_graph.specs.Rules.{Rule, unless, first_of, each_after}
use Rattle.app_graph.proofs.Walks.{first_of_broken}
use Rattle.ttw_text.specs.Lines.{lines}
use Rattle.ttw_text.proofs.LineLemmas.{lines-append}
use Rattle.replay_script.specs.declared.fault.ScriptFault.{ScriptFault}
use Rattle.replay_script.specs.declared.fault.ScriptFault.TheVariants.{TooMany}
use Rattle.replay_script.specs.Script.{fault_behind, first_fault, steps}

-- it is no line feed
abbrev NotFeed : ℕ → Type 0
NotFeed b = b ≢ 10

-- a text has no line feed, or a first one
view : (text : List ℕ) → (All NotFeed text) ⊎ ((line : List ℕ) × (rest : List ℕ) × All NotFeed line × (text ≡ line ++ 10 ∷ rest))
view [] = inl (All-nil NotFeed)
view (b ∷ bs) = elim (cases_eq b 10) [
  | inl feed ↦ inr ([], bs, All-nil NotFeed, ap (λ (n : ℕ). n ∷ bs) feed)
  | inr other ↦ elim (view bs) [
    | inl all ↦ inl (All-cons NotFeed b bs other all)
    | inr w ↦ inr (b ∷ w.0, w.1, All-cons NotFeed b w.0 other w.2, ap (λ (xs : List ℕ). b ∷ xs) w.3)
  ]
]

-- a text without a line feed is one line
lines_alone : (text : List ℕ) → 0 < length text → All NotFeed text → lines text ≡ text ∷ []
lines_alone [] some all = absurd (omega arith)
lines_alone (b ∷ []) some all = ap (λ (f : Bool). cond f ((b ∷ []) ∷ lines []) (onto_first b (lines []))) (ne_eqb b 10 (all 0 b (omega arith)))
lines_alone (b ∷ d ∷ ds) some all =
    ap (λ (f : Bool). cond f ((b ∷ []) ∷ lines (d ∷ ds)) (onto_first b (lines (d ∷ ds)))) (ne_eqb b 10 (all 0 b (omega arith)))
    ∙ ap (onto_first b) (lines_alone (d ∷ ds) (omega arith) (λ k e below. all (suc k) e (omega arith)))

-- one of three tests fails
middle : (a b c : Bool) → b ≡ false → (a && b && c) ≡ false
middle true false c e = refl
middle false false c e = refl
middle a true c e = absurd cc

-- a line that ends past the limit
past : (set : ModeSet) (earlier : List (List ℕ)) (line : List ℕ) (others : List (List ℕ)) → 1048576 < length (concat earlier) + length line
    → each_after (fault_behind set) earlier (line ∷ others) ≡ Some (TooMany (length earlier + 1))
past set earlier line others far =
    let n = length earlier + 1 in
    let end = length (concat (earlier ++ line ∷ [])) in
    let sum = sum_by steps (earlier ++ line ∷ []) in
    first_of_broken (fault_behind set earlier line) (each_after (fault_behind set) (earlier ++ line ∷ []) others ∷ []) (TooMany n)
    (first_of_broken (unless (nat_le n 10000 && nat_le end 1048576 && nat_le sum 1000000) (TooMany n)) _ (TooMany n)
    (ap (λ (b : Bool). unless b (TooMany n)) (middle (nat_le n 10000) (nat_le end 1048576) (nat_le sum 1000000) (not_le end (is earlier line) far))))
  where
    is : (earlier : List (List ℕ)) (line : List ℕ) → length (concat (earlier ++ line ∷ [])) ≡ length (concat earlier) + length line
    is earlier line = ap length (concat-append earlier (line ∷ [])) ∙ length-append (concat earlier) (concat (line ∷ [])) ∙ ap (λ n. length (concat earlier) + n) (ap length (append-nil line))

    not_le : (end : ℕ) → end ≡ length (concat earlier) + length line → 1048576 < length (concat earlier) + length line → nat_le end 1048576 ≡ false
    not_le end e far = lt-leb end 1048576 (omega (arith, e, far))

-- two texts whose first lines end past the limit
both_past : (set : ModeSet) (earlier : List (List ℕ)) (line other : List ℕ) (rest others : List (List ℕ)) → 1048576 < length (concat earlier) + length line → 1048576 < length (concat earlier) + length other
    → each_after (fault_behind set) earlier (line ∷ rest) ≡ each_after (fault_behind set) earlier (other ∷ others)
both_past set earlier line other rest others far far_too = past set earlier line rest far ∙ sym (past set earlier other others far_too)

-- the same where the text is longer, and has no line feed
cut_alone : (set : ModeSet) (earlier : List (List ℕ)) (text : List ℕ) (k : ℕ) → k < length text → length (concat earlier) ≤ 1048576 → 1048576 < length (concat earlier) + k → All NotFeed text
    → each_after (fault_behind set) earlier (lines (take k text)) ≡ each_after (fault_behind set) earlier (lines text)
cut_alone set earlier text k longer near far all =
    let size : length (take k text) ≡ k = omega (arith, length-take k text) in
    ap (each_after (fault_behind set) earlier) (lines_alone (take k text) (omega (arith, size)) (All-take NotFeed k text all))
    ∙ both_past set earlier (take k text) text [] [] (omega (arith, size)) (omega arith)
    ∙ sym (ap (each_after (fault_behind set) earlier) (lines_alone text (omega arith) all))

-- or its first line feed is cut off
cut_first : (set : ModeSet) (earlier : List (List ℕ)) (line rest : List ℕ) (k : ℕ) → k ≤ length line → length (concat earlier) ≤ 1048576 → 1048576 < length (concat earlier) + k → All NotFeed line
    → each_after (fault_behind set) earlier (lines (take k (line ++ 10 ∷ rest))) ≡ each_after (fault_behind set) earlier (lines (line ++ 10 ∷ rest))
cut_first set earlier line rest k within near far all =
    let size : length (take k line) ≡ k = omega (arith, length-take k line) in
    let longer : length (line ++ 10 ∷ []) ≡ length line + 1 = length-append line (10 ∷ []) in
    ap (λ (t : List ℕ). each_after (fault_behind set) earlier (lines t)) (take-append-le k line (10 ∷ rest) within)
    ∙ ap (each_after (fault_behind set) earlier) (lines_alone (take k line) (omega (arith, size)) (All-take NotFeed k line all))
    ∙ both_past set earlier (take k line) (line ++ 10 ∷ []) [] (lines rest) (omega (arith, size)) (omega (arith, longer))
    ∙ sym (ap (each_after (fault_behind set) earlier) (lines-append line rest all))

-- or the cut is behind it
cut_behind : (set : ModeSet) (earlier : List (List ℕ)) (line rest : List ℕ) (j : ℕ)
    → ((before : List (List ℕ)) → length (concat before) ≤ 1048576 → 1048576 < length (concat before) + j
    → each_after (fault_behind set) before (lines (take j rest)) ≡ each_after (fault_behind set) before (lines rest))
    → 1048576 < length (concat earlier) + (length line + 1 + j) → All NotFeed line
    → each_after (fault_behind set) earlier (lines (take (length line + 1 + j) (line ++ 10 ∷ rest))) ≡ each_after (fault_behind set) earlier (lines (line ++ 10 ∷ rest))
cut_behind set earlier line rest j same far all =
    let l = line ++ 10 ∷ [] in
    let size : length l ≡ length line + 1 = length-append line (10 ∷ []) in
    let end : length (concat (earlier ++ l ∷ [])) ≡ length (concat earlier) + length l =
    ap length (concat-append earlier (l ∷ [])) ∙ length-append (concat earlier) (concat (l ∷ [])) ∙ ap (λ n. length (concat earlier) + n) (ap length (append-nil l)) in
    let cut : take (length line + 1 + j) (line ++ 10 ∷ rest) ≡ line ++ 10 ∷ take j rest =
    ap (λ n. take (n + j) (line ++ 10 ∷ rest)) (sym size) ∙ ap (take (length l + j)) (sym (append_assoc line (10 ∷ []) rest)) ∙ take-append-add l rest j ∙ append_assoc line (10 ∷ []) (take j rest) in
    ap (λ (t : List ℕ). each_after (fault_behind set) earlier (lines t)) cut
    ∙ ap (each_after (fault_behind set) earlier) (lines-append line (take j rest) all)
    ∙ elim (cases_lt 1048576 (length (concat earlier) + length l)) [
      | inl away ↦ both_past set earlier l l (lines (take j rest)) (lines rest) away away
      | inr near ↦ ap (λ (r : Rule ScriptFault). first_of (fault_behind set earlier l ∷ r ∷ [])) (same (earlier ++ l ∷ []) (omega (arith, end, near)) (omega (arith, end, size, far)))
    ]
    ∙ sym (ap (each_after (fault_behind set) earlier) (lines-append line rest all))

-- the first line feed is cut off, or not
cut_fed : (set : ModeSet) (earlier : List (List ℕ)) (line rest : List ℕ) (k : ℕ)
    → ((j : ℕ) (before : List (List ℕ)) → length (concat before) ≤ 1048576 → 1048576 < length (concat before) + j
    → each_after (fault_behind set) before (lines (take j rest)) ≡ each_after (fault_behind set) before (lines rest))
    → length (concat earlier) ≤ 1048576 → 1048576 < length (concat earlier) + k → All NotFeed line → (length line < k) ⊎ (k ≤ length line)
    → each_after (fault_behind set) earlier (lines (take k (line ++ 10 ∷ rest))) ≡ each_after (fault_behind set) earlier (lines (line ++ 10 ∷ rest))
cut_fed set earlier line rest k same near far all (inr cut) = cut_first set earlier line rest k cut near far all
cut_fed set earlier line rest k same near far all (inl behind) =
    let is : length line + 1 + (k - (length line + 1)) ≡ k = omega (arith, behind) in
    subst (λ (n : ℕ). each_after (fault_behind set) earlier (lines (take n (line ++ 10 ∷ rest))) ≡ each_after (fault_behind set) earlier (lines (line ++ 10 ∷ rest))) is
    (cut_behind set earlier line rest (k - (length line + 1)) (same (k - (length line + 1))) (omega (arith, far, behind)) all)

-- wherever the cut is, behind the limit
cut_from : (fuel : ℕ) (set : ModeSet) (earlier : List (List ℕ)) (text : List ℕ) (k : ℕ) → length text ≤ fuel → length (concat earlier) ≤ 1048576 → 1048576 < length (concat earlier) + k
    → each_after (fault_behind set) earlier (lines (take k text)) ≡ each_after (fault_behind set) earlier (lines text)
cut_from zero set earlier text k shorter near far = ap (λ (t : List ℕ). each_after (fault_behind set) earlier (lines t)) (take_all k text (omega arith))
cut_from (suc fuel) set earlier text k shorter near far = elim (cases_lt k (length text)) [
  | inr whole ↦ ap (λ (t : List ℕ). each_after (fault_behind set) earlier (lines t)) (take_all k text whole)
  | inl longer ↦ elim (view text) [
    | inl all ↦ cut_alone set earlier text k longer near far all
    | inr w ↦ subst (λ (t : List ℕ). each_after (fault_behind set) earlier (lines (take k t)) ≡ each_after (fault_behind set) earlier (lines t)) (sym w.3)
        (cut_fed set earlier w.0 w.1 k (λ j before. cut_from fuel set before w.1 j (omega (arith, ap length w.3, length-append w.0 (10 ∷ w.1)))) near far w.2 (cases_lt (length w.0) k))
  ]
]

pub cut_same : (set : ModeSet) (text : List ℕ) (k : ℕ) → 1048576 < k → first_fault set (take k text) ≡ first_fault set text
cut_same set text k far = cut_from (length text) set [] text k (omega arith) (omega arith) (omega (arith, far))
