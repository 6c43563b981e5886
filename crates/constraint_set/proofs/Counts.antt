-- The counts of the rounds once the last choice is taken back
use Rattle.std.proofs.Common.{◌≡◌, ℕ, suc, ◌+◌, ◌<◌, cond, List, [], ◌∷◌, ◌++◌, length, get_or, take, All, Option, None, sym, ◌∙◌, ap, subst, arith}
use Rattle.std.proofs.lemmas.List.{take_all, take_more}
use Rattle.std.proofs.lemmas.List.Elements.{All-take}
use Rattle.std.proofs.lemmas.List.Sums.{sum_by_push}
use Rattle.constraint_set.specs.Loads.{is_round, times, Within, IsCounted}

-- how often a round is named by all but the last choice, and by the last one
pub times_last : (j : ℕ) (named : List (Option ℕ)) (k : ℕ) → length named ≡ suc k → times j named ≡ times j (take k named) + cond (is_round j (get_or named k None)) 1 0
times_last j named k e =
    let split : named ≡ take k named ++ get_or named k None ∷ [] = sym (take_all (k + 1) named (omega (arith, e))) ∙ take_more named k None (omega (arith, e)) in
    ap (λ (xs : List (Option ℕ)). times j xs) split ∙ sum_by_push (λ o. cond (is_round j o) 1 0) (take k named) (get_or named k None)

pub counted_pop : (old new : List ℕ) (named named' : List (Option ℕ)) (k : ℕ) (round : Option ℕ) → IsCounted old named → length named ≡ suc k → round ≡ get_or named k None → named' ≡ take k named → length new ≡ length old
    → ((q : ℕ) → q < length old → get_or new q 0 + cond (is_round (q + 1) round) 1 0 ≡ get_or old q 0) → IsCounted new named'
counted_pop old new named named' k round t top is e len more =
    subst (λ (xs : List (Option ℕ)). IsCounted new xs) (sym e) (record {
      within = subst (λ n. All (Within n) (take k named)) (sym len) (All-take (Within (length old)) k named t.within);
      each = λ q l.
          let less : q < length old = omega (arith, l, len) in
          let last : ◌≡◌ {A = ℕ} (cond (is_round (q + 1) round) 1 0) (cond (is_round (q + 1) (get_or named k None)) 1 0) = ap (λ o. cond (is_round (q + 1) o) 1 0) is in
          omega (arith, more q less, t.each q less, times_last (q + 1) named k top, last);
    })
