-- Going down the levels of the open prefix.
use Rattle.std.proofs.Common.{◌≡◌, ℕ, suc, ◌-◌, ◌<◌, ◌≤◌, true, false, ℤ, pos, ◌+ℤ◌, List, [], ◌∷◌, ◌++◌, length, take, set, get_or, refl, sym, ap, ◌∙◌, arith}
use Rattle.std.specs.Prelude.{int_lt}
use Rattle.std.proofs.lemmas.List.{length-take, get_or-take, take-take, drop_all, set_split}
use Rattle.branch_search.specs.Stacks.{Due, Complete, at_, next_due}

-- what is left of the lists after some levels were left
pub record Popped (old_c old_g c g : List ℤ) : Type 0 where
  pub short : length c ≤ length old_c
  pub chosen : c ≡ take (length c) old_c
  pub greatest : g ≡ take (length c) old_g
  pub same : length c ≡ length g
  pub next : next_due (length c) old_c old_g ≡ next_due (length old_c) old_c old_g

-- the top of what is left, in the lists as they were
top_is : (k n : ℕ) (old xs : List ℤ) (x : ℤ) → n ≡ suc k → xs ≡ take n old → length xs ≡ n → x ≡ at_ xs k → at_ old k ≡ x
top_is k n old xs x n-is e len h =
    sym (get_or-take n old k (pos 0) (omega arith)) ∙ ap (λ (l : List ℤ). get_or l k (pos 0)) (sym e) ∙ sym h

pub popped_due : (old_c old_g c g : List ℤ) (k : ℕ) (x y : ℤ) → Popped old_c old_g c g → k ≡ length c - 1 → 0 < length c → x ≡ at_ c k → y ≡ at_ g k → true ≡ int_lt x y
    → next_due (length old_c) old_c old_g ≡ Due (set c k (x +ℤ pos 1)) g
popped_due old_c old_g c g k x y p k-is some hx hy lt =
    let n : length c ≡ suc k = omega arith in
    let ex = top_is k (length c) old_c c x n p.chosen refl hx in
    let ey = top_is k (length c) old_g g y n p.greatest (sym p.same) hy in
    let front : take k old_c ≡ take k c = sym (take-take k (suc k) old_c (omega arith)) ∙ ap (take k) (sym (p.chosen ∙ ap (λ (m : ℕ). take m old_c) n)) in
    let split : set c k (x +ℤ pos 1) ≡ take k c ++ (x +ℤ pos 1) ∷ [] = set_split c k (x +ℤ pos 1) (omega arith) ∙ ap (λ (r : List ℤ). take k c ++ (x +ℤ pos 1) ∷ r) (drop_all (suc k) c (omega arith)) in
    let here : next_due (suc k) old_c old_g ≡ Due (take k c ++ (x +ℤ pos 1) ∷ []) (take (suc k) old_g) = rw (ex, ey, ← lt, front) refl in
    sym p.next ∙ ap (λ (m : ℕ). next_due m old_c old_g) n ∙ here ∙ rw split (ap (λ (l : List ℤ). Due (take k c ++ (x +ℤ pos 1) ∷ []) l) (sym (p.greatest ∙ ap (λ (m : ℕ). take m old_g) n)))

pub popped_down : (old_c old_g c g c' g' : List ℤ) (k : ℕ) (x y : ℤ) → Popped old_c old_g c g → k ≡ length c - 1 → 0 < length c → x ≡ at_ c k → y ≡ at_ g k → false ≡ int_lt x y
    → c' ≡ take k c → g' ≡ take k g → Popped old_c old_g c' g'
popped_down old_c old_g c g c' g' k x y p k-is some hx hy lt ec eg =
    let n : length c ≡ suc k = omega arith in
    let ex = top_is k (length c) old_c c x n p.chosen refl hx in
    let ey = top_is k (length c) old_g g y n p.greatest (sym p.same) hy in
    let len : length c' ≡ k = rw ec (omega (arith, length-take k c)) in
    let front : take k c ≡ take k old_c = ap (take k) (p.chosen ∙ ap (λ (m : ℕ). take m old_c) n) ∙ take-take k (suc k) old_c (omega arith) in
    let gfront : take k g ≡ take k old_g = ap (take k) (p.greatest ∙ ap (λ (m : ℕ). take m old_g) n) ∙ take-take k (suc k) old_g (omega arith) in
    let here : next_due (suc k) old_c old_g ≡ next_due k old_c old_g = rw (ex, ey, ← lt) refl in
    record {
      short = omega (arith, len, p.short);
      chosen = ec ∙ front ∙ ap (λ (m : ℕ). take m old_c) (sym len);
      greatest = eg ∙ gfront ∙ ap (λ (m : ℕ). take m old_g) (sym len);
      same = omega (arith, len, p.same, ap (length {A = ℤ}) eg, length-take k g);
      next = ap (λ (m : ℕ). next_due m old_c old_g) len ∙ sym here ∙ ap (λ (m : ℕ). next_due m old_c old_g) (sym n) ∙ p.next;
    }

-- nothing is left
pub popped_all : (old_c old_g c g : List ℤ) → Popped old_c old_g c g → length c ≡ 0 → next_due (length old_c) old_c old_g ≡ Complete
popped_all old_c old_g c g p e = sym p.next ∙ ap (λ (m : ℕ). next_due m old_c old_g) e
