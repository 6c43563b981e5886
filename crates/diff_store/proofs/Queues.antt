-- A queue that has each waiting variable once: one more, one less, and that there is room
use Rattle.std.proofs.Common.{◌≡◌, ◌≢◌, ℕ, zero, suc, ◌<◌, ◌≤◌, Bool, true, false, List, [], ◌∷◌, ◌++◌, length, set, sym, ◌∙◌, ap, subst, arith, ◌⊎◌, inl, inr, ⊎_elim}
use Rattle.std.specs.List.{Contains}
use Rattle.std.proofs.lemmas.Bool.{cases_eq, cases_lt, cases_Bool, both_ways}
use Rattle.std.proofs.lemmas.List.{length-append, get_or_append_left, get_or_push, get_or-set_same, get_or-set_other, get_or_past}
use Rattle.std.proofs.lemmas.List.Elements.{Contains-push, Contains-append_left}
use Rattle.tick_num.proofs.Pigeons.{two_alike}
use Rattle.diff_store.specs.Causes.{beside}
use Rattle.diff_store.specs.Raising.{waits_in, NoneWaits}
use Rattle.diff_store.specs.Queued.{Queued}

waits_low : (ws : List Bool) (x : ℕ) → waits_in ws x ≡ true → x < length ws
waits_low ws x h =
    ⊎_elim
    (λ (l : x < length ws). l)
    (λ (past : length ws ≤ x). absurd (both_ways (waits_in ws x) (get_or_past ws x false past) h))
    (cases_lt x (length ws))

-- ---- a variable that does not wait comes last
module _ (q : List ℕ) (ws : List Bool) (x : ℕ) (low : x < length ws) (idle : waits_in ws x ≡ false) (h : Queued q ws) where
  -- x is not in the queue
  absent : (i : ℕ) → i < length q → beside q i ≡ x → ⊥
  absent i l e = both_ways (waits_in ws x) idle (sym (ap (waits_in ws) e) ∙ h.marked i l)

  here_or_last : (i : ℕ) → i < length (q ++ x ∷ []) → (i < length q) ⊎ (length q ≡ i)
  here_or_last i l =
      let size = length-append q (x ∷ []) in
      ⊎_elim
      (λ (less : i < length q). inl less)
      (λ (ge : length q ≤ i). inr (omega (arith, l, ge, size)))
      (cases_lt i (length q))

  pub queued_more : Queued (q ++ x ∷ []) (set ws x true)
  queued_more = record {
    marked = λ i l. ⊎_elim
        (λ (less : i < length q).
        let ne : beside q i ≢ x = absent i less in
        ap (waits_in (set ws x true)) (get_or_append_left q (x ∷ []) 0 i less) ∙ get_or-set_other ws x (beside q i) true false ne ∙ h.marked i less)
        (λ (last : length q ≡ i). ap (waits_in (set ws x true)) (get_or_push q x 0 i last) ∙ get_or-set_same ws x true false low)
        (here_or_last i l);
    once = λ i j less l e. ⊎_elim
        (λ (j_less : j < length q).
        let i_less : i < length q = omega (arith, less, j_less) in
        h.once i j less j_less (sym (get_or_append_left q (x ∷ []) 0 i i_less) ∙ e ∙ get_or_append_left q (x ∷ []) 0 j j_less))
        (λ (last : length q ≡ j).
        let i_less : i < length q = omega (arith, less, last) in
        absent i i_less (sym (get_or_append_left q (x ∷ []) 0 i i_less) ∙ e ∙ get_or_push q x 0 j last))
        (here_or_last j l);
    queued = λ y w. ⊎_elim
        (λ (e : y ≡ x). subst (Contains (q ++ x ∷ [])) (sym e) (Contains-push q x))
        (λ (ne : y ≡ x → ⊥).
        let ne' : y ≢ x = ne in
        Contains-append_left q (x ∷ []) y (h.queued y (sym (get_or-set_other ws x y true false ne') ∙ w)))
        (cases_eq y x);
  }

  -- x is in none of the places that are taken
  pub queue_room : length q < length ws
  queue_room = ⊎_elim
      (λ (l : length q < length ws). l)
      (λ (full : length ws ≤ length q).
      let w = two_alike (length ws) (beside (x ∷ q)) (small full) in
      absurd (apart w.0 w.1 w.2 (omega (arith, w.3, full)) w.4))
      (cases_lt (length q) (length ws))
    where
      small : length ws ≤ length q → (i : ℕ) → i < suc (length ws) → beside (x ∷ q) i < length ws
      small full zero l = low
      small full (suc i) l = waits_low ws (beside q i) (h.marked i (omega (arith, full, l)))

      apart : (i j : ℕ) → i < j → j < suc (length q) → beside (x ∷ q) i ≡ beside (x ∷ q) j → ⊥
      apart i zero less l e = omega (arith, less)
      apart zero (suc j) less l e = absent j (omega (arith, l)) (sym e)
      apart (suc i) (suc j) less l e = h.once i j (omega (arith, less)) (omega (arith, l)) e

-- ---- the first variable is taken
module _ (x : ℕ) (us : List ℕ) (ws : List Bool) (h : Queued (x ∷ us) ws) where
  pub first_waits : waits_in ws x ≡ true
  first_waits = h.marked 0 (omega arith)

  pub first_low : x < length ws
  first_low = waits_low ws x first_waits

  others : (i : ℕ) → i < length us → beside us i ≢ x
  others i l e = h.once 0 (suc i) (omega arith) (omega (arith, l)) (sym e)

  left : (y : ℕ) → y ≢ x → Contains (x ∷ us) y → Contains us y
  left y ne (zero, l, e) = absurd (ne (sym e))
  left y ne (suc i, l, e) = (i, omega (arith, l), e)

  pub first_taken : Queued us (set ws x false)
  first_taken = record {
    marked = λ i l. get_or-set_other ws x (beside us i) false false (others i l) ∙ h.marked (suc i) (omega (arith, l));
    once = λ i j less l e. h.once (suc i) (suc j) (omega (arith, less)) (omega (arith, l)) e;
    queued = λ y w. ⊎_elim
        (λ (e : y ≡ x). absurd (both_ways (waits_in (set ws x false) y) (ap (waits_in (set ws x false)) e ∙ get_or-set_same ws x false false first_low) w))
        (λ (ne : y ≡ x → ⊥).
        let ne' : y ≢ x = ne in
        left y ne' (h.queued y (sym (get_or-set_other ws x y false false ne') ∙ w)))
        (cases_eq y x);
  }

-- where the queue is empty none waits
pub none_left : (q : List ℕ) (ws : List Bool) → length q ≡ 0 → Queued q ws → NoneWaits ws
none_left q ws none h x = ⊎_elim
    (λ (yes : waits_in ws x ≡ true). absurd (let l = (h.queued x yes).1 in omega (arith, l, none)))
    (λ (no : waits_in ws x ≡ false). no)
    (cases_Bool (waits_in ws x))
