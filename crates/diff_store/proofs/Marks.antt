-- Marks on the chain of causes from x down
use Rattle.std.proofs.Common.{◌≡◌, ◌≢◌, ℕ, zero, suc, ◌-◌, ◌<◌, ◌≤◌, Bool, true, false, List, length, set, replicate, refl, sym, ◌∙◌, ap, subst, arith, ⊎_elim, ℤ, pos, ◌<ℤ◌}
use Rattle.std.proofs.lemmas.Bool.{cases_eq, cases_lt, both_ways}
use Rattle.std.proofs.lemmas.List.{length-set, get_or-set_same, get_or-set_other, get_or-replicate, get_or_past, length-replicate}
use Rattle.tick_num.specs.declared.differences.Diff.{Diff}
use Rattle.tick_num.specs.Differences.{diff, InRange, listed}
use Rattle.diff_store.specs.Leasts.{at}
use Rattle.diff_store.specs.Causes.{beside, marked, IsCause, HeldByFirst, Descends, Chain}

-- as far as the chain is marked: down to a variable
pub record Marking (n : ℕ) (ds : List Diff) (vs : List ℤ) (cs : List ℕ) (x : ℕ) (chain : List Bool) (variable : ℕ) : Type 0 where
  pub size : length chain ≡ n
  pub low : variable < n
  pub own : marked chain x ≡ true
  pub here : marked chain variable ≡ true
  pub chained : Chain ds (listed vs) (beside cs) chain x

none_marked : (n y : ℕ) → marked (replicate n false) y ≡ false
none_marked n y = ⊎_elim
    (λ (l : y < n). get_or-replicate n y false false l)
    (λ (past : n ≤ y). get_or_past (replicate n false) y false (let e = length-replicate n false in omega (arith, e, past)))
    (cases_lt y n)

pub marking_first : (n : ℕ) (ds : List Diff) (vs : List ℤ) (cs : List ℕ) (x : ℕ) → x < n → Marking n ds vs cs x (set (replicate n false) x true) x
marking_first n ds vs cs x low =
    let own = get_or-set_same (replicate n false) x true false (let e = length-replicate n false in omega (arith, e, low)) in
    record {
      size = length-set (replicate n false) x true ∙ length-replicate n false;
      low = low;
      own = own;
      here = own;
      chained = λ y m. (
        0,
        ⊎_elim
            (λ (e : y ≡ x). sym e)
            (λ (ne : y ≡ x → ⊥). let ne' : y ≢ x = ne in absurd (both_ways (marked (set (replicate n false) x true) y) (get_or-set_other (replicate n false) x y true false ne' ∙ none_marked n y) m))
            (cases_eq y x),
      );
    }

module _ (n : ℕ) (ds : List Diff) (vs : List ℤ) (cs : List ℕ) (x : ℕ) (chain : List Bool) (variable : ℕ) (m : Marking n ds vs cs x chain variable) (held : HeldByFirst (length ds - 1) ds (listed vs) (beside cs)) (positive : pos 0 <ℤ listed vs variable) where
  cause : IsCause (length ds - 1) ds (listed vs) held.time (beside cs variable) variable
  cause = held.caused variable positive

  pub cause_low : beside cs variable < length ds
  cause_low = let w = cause.within in omega (arith, w)

  abbrev next : ℕ
  next = (at ds (beside cs variable)).x

  abbrev chain' : List Bool
  chain' = set chain next true

  module _ (range : InRange n ds) where
    next_low : next < n
    next_low = (range (beside cs variable) (diff 0 0 (pos 0)) cause_low).0

    -- what was marked is still
    still : (y : ℕ) → marked chain y ≡ true → marked chain' y ≡ true
    still y e = ⊎_elim
        (λ (s : y ≡ next). ap (marked chain') s ∙ get_or-set_same chain next true false (let l = next_low in let z = m.size in omega (arith, l, z)))
        (λ (ne : y ≡ next → ⊥). let ne' : y ≢ next = ne in get_or-set_other chain next y true false ne' ∙ e)
        (cases_eq y next)

    descends_still : (k a y : ℕ) → Descends ds (listed vs) (beside cs) chain k a y → Descends ds (listed vs) (beside cs) chain' k a y
    descends_still zero a y e = e
    descends_still (suc k) a y d = (still a d.0, d.1, d.2, descends_still k (at ds (beside cs a)).x y d.3)

    -- one step further down
    further : (k a : ℕ) → Descends ds (listed vs) (beside cs) chain' k a variable → Descends ds (listed vs) (beside cs) chain' (suc k) a next
    further zero a e = subst (λ b. Descends ds (listed vs) (beside cs) chain' 1 b next) (sym e) (still variable m.here, positive, cause.within, refl)
    further (suc k) a d = (d.0, d.1, d.2, further k (at ds (beside cs a)).x d.3)

    pub marking_more : Marking n ds vs cs x chain' next
    marking_more = record {
      size = length-set chain next true ∙ m.size;
      low = next_low;
      own = still x m.own;
      here = get_or-set_same chain next true false (let l = next_low in let z = m.size in omega (arith, l, z));
      chained = λ y e. ⊎_elim
          (λ (s : y ≡ next).
          let d = m.chained variable m.here in
          subst (λ z. (k : ℕ) × Descends ds (listed vs) (beside cs) chain' k x z) (sym s) (suc d.0, further d.0 x (descends_still d.0 x variable d.1)))
          (λ (ne : y ≡ next → ⊥).
          let ne' : y ≢ next = ne in
          let d = m.chained y (sym (get_or-set_other chain next y true false ne') ∙ e) in
          (d.0, descends_still d.0 x y d.1))
          (cases_eq y next);
    }
