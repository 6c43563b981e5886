-- What is still to be read of a tree, as nodes are read
use Rattle.std.proofs.Common.{◌≡◌, ℕ, zero, suc, ◌-◌, List, [], ◌∷◌, ◌++◌, length, get_or, take, Ok, Err, refl, sym, ◌∙◌, ap, arith, ℤ, pos, negsuc, ◌+ℤ◌, ◌-ℤ◌, ◌≤ℤ◌, ◌<ℤ◌, length-append}
use Rattle.std.proofs.lemmas.Int.{ints}
use borrow.Author.Differences.{same_in}
use Rattle.std.proofs.lemmas.List.{take_at, take_all, take-take, get_or-take, get_or_at, length-take-le}
use Rattle.sched_model.specs.Numbers.{natural, counted, span}
use Rattle.sched_model.specs.PlainMode.{PlainMode}
use Rattle.sched_model.specs.ConstraintProblem.{decisions}
use Rattle.proof_tree.specs.Reading.{Place, Read, ◌>>=◌, next_item, tree_at}
use Rattle.cert_checker.specs.TreeStack.{at_, trees_for, beside, tree_due}

pub bind_assoc : {A B C : Type 0} (r : Read A) (f : A × Place → Read B) (h : B × Place → Read C) → ((r >>= f) >>= h) ≡ (r >>= λ x. f x >>= h)
bind_assoc (Ok x) f h = refl
bind_assoc (Err e) f h = refl

pub bind_same : {A B : Type 0} (r : Read A) (f h : A × Place → Read B) → ((x : A × Place) → f x ≡ h x) → (r >>= f) ≡ (r >>= h)
bind_same (Ok x) f h e = e x
bind_same (Err r) f h e = refl

-- ---- spans

difference : (low z : ℤ) → low ≤ℤ z → (k : ℕ) × (z ≡ low +ℤ pos k)
difference low z h = (natural (z -ℤ low), at (z -ℤ low) refl)
  where
    at : (d : ℤ) → d ≡ z -ℤ low → z ≡ low +ℤ pos (natural d)
    at (pos n) e = same_in _ _ (omega (arith, ints, e))
    at (negsuc n) e = absurd (omega (arith, ints, e))

natural_none : (z : ℤ) → z ≤ℤ pos 0 → natural z ≡ 0
natural_none (pos n) h = omega (arith, ints)
natural_none (negsuc n) h = refl

pub span_first : (low high : ℤ) → low ≤ℤ high → span low high ≡ low ∷ span (low +ℤ pos 1) high
span_first low high le =
    let d = difference low high le in
    let a : ((high +ℤ pos 1) -ℤ low) ≡ pos (suc d.0) = same_in _ _ (omega (arith, ints, d.1)) in
    let b : ((high +ℤ pos 1) -ℤ (low +ℤ pos 1)) ≡ pos d.0 = same_in _ _ (omega (arith, ints, d.1)) in
    ap (λ (z : ℤ). counted low (natural z)) a ∙ sym (ap (λ (z : ℤ). low ∷ counted (low +ℤ pos 1) (natural z)) b)

pub span_none : (low high : ℤ) → high <ℤ low → span low high ≡ []
span_none low high lt = ap (counted low) (natural_none ((high +ℤ pos 1) -ℤ low) (omega (arith, ints)))

-- ---- fronts

shorter : (k : ℕ) (p q : List ℤ) → take (suc k) p ≡ take (suc k) q → take k p ≡ take k q
shorter k p q e = sym (take-take k (suc k) p (omega arith)) ∙ ap (take k) e ∙ take-take k (suc k) q (omega arith)

top_same : (k : ℕ) (p q : List ℤ) → take (suc k) p ≡ take (suc k) q → at_ p k ≡ at_ q k
top_same k p q e = sym (get_or-take (suc k) p k (pos 0) (omega arith)) ∙ ap (λ (l : List ℤ). get_or l k (pos 0)) e ∙ get_or-take (suc k) q k (pos 0) (omega arith)

module _ (o : ℕ) (m : PlainMode) (r : ℕ) where
  abbrev D : ℕ
  D = length (decisions m)

  -- what is due beside the first k choices depends on these alone
  pub beside_same : (k : ℕ) (p q g h : List ℤ) → take k p ≡ take k q → take k g ≡ take k h → (at : Place) → beside o m r p g k at ≡ beside o m r q h k at
  beside_same zero p q g h e f at = refl
  beside_same (suc k) p q g h e f at =
      ap (λ (z : List ℤ). trees_for o m r (D - suc k) z (span (at_ p k +ℤ pos 1) (at_ g k)) at >>= λ x. beside o m r p g k x.1) (shorter k p q e)
      ∙ ap (λ (z : ℤ). trees_for o m r (D - suc k) (take k q) (span (z +ℤ pos 1) (at_ g k)) at >>= λ x. beside o m r p g k x.1) (top_same k p q e)
      ∙ ap (λ (z : ℤ). trees_for o m r (D - suc k) (take k q) (span (at_ q k +ℤ pos 1) z) at >>= λ x. beside o m r p g k x.1) (top_same k g h f)
      ∙ bind_same (trees_for o m r (D - suc k) (take k q) (span (at_ q k +ℤ pos 1) (at_ h k)) at) _ _ (λ x. beside_same k p q g h (shorter k p q e) (shorter k g h f) x.1)

  -- a tree for one choice more, and then those beside it, are the trees for this choice and the later ones
  pub first_due : (k : ℕ) (p g p' g' : List ℤ) (v h : ℤ) → length p ≡ k → length g ≡ k → p' ≡ p ++ v ∷ [] → g' ≡ g ++ h ∷ [] → (at : Place) →
      tree_due o m r p' g' at ≡ (trees_for o m r (D - suc k) p (v ∷ span (v +ℤ pos 1) h) at >>= λ x. beside o m r p g k x.1)
  first_due k p g p' g' v h lp lg ep eg at =
      let q = p ++ v ∷ [] in
      let i = g ++ h ∷ [] in
      let len : length q ≡ suc k = omega (arith, lp, length-append p (v ∷ [])) in
      let front : take k q ≡ p = take_at p (v ∷ []) k lp in
      let front-g : take k i ≡ g = take_at g (h ∷ []) k lg in
      let v-is : at_ q k ≡ v = get_or_at p v [] (pos 0) k lp in
      let h-is : at_ i k ≡ h = get_or_at g h [] (pos 0) k lg in
      let same : (x : Place) → beside o m r q i k x ≡ beside o m r p g k x = λ x. beside_same k q p i g (front ∙ sym (all_of k p lp)) (front-g ∙ sym (all_of k g lg)) x in
      let rest : (x : Place) → beside o m r q i (suc k) x ≡ (trees_for o m r (D - suc k) p (span (v +ℤ pos 1) h) x >>= λ y. beside o m r p g k y.1) =
      λ x. ap (λ (z : List ℤ). trees_for o m r (D - suc k) z (span (at_ q k +ℤ pos 1) (at_ i k)) x >>= λ y. beside o m r q i k y.1) front
      ∙ ap (λ (z : ℤ). trees_for o m r (D - suc k) p (span (z +ℤ pos 1) (at_ i k)) x >>= λ y. beside o m r q i k y.1) v-is
      ∙ ap (λ (z : ℤ). trees_for o m r (D - suc k) p (span (v +ℤ pos 1) z) x >>= λ y. beside o m r q i k y.1) h-is
      ∙ bind_same (trees_for o m r (D - suc k) p (span (v +ℤ pos 1) h) x) _ _ (λ y. same y.1) in
      let one = tree_at o m r (D - suc k) q at (next_item at.rest) in
      ap (λ (z : List ℤ). tree_due o m r z g' at) ep ∙ ap (λ (z : List ℤ). tree_due o m r q z at) eg
      ∙ ap (λ n. tree_at o m r (D - n) q at (next_item at.rest) >>= λ x. beside o m r q i n x.1) len
      ∙ bind_same one _ _ (λ x. rest x.1)
      ∙ bind_same one _ _ (λ x. sym (bind_assoc (trees_for o m r (D - suc k) p (span (v +ℤ pos 1) h) x.1) (λ y. Ok (x.0 ∷ y.0, y.1)) (λ y. beside o m r p g k y.1)))
      ∙ sym (bind_assoc one (λ x. trees_for o m r (D - suc k) p (span (v +ℤ pos 1) h) x.1 >>= λ y. Ok (x.0 ∷ y.0, y.1)) (λ y. beside o m r p g k y.1))
    where
      all_of : (k : ℕ) (p : List ℤ) → length p ≡ k → take k p ≡ p
      all_of k p e = take_all k p (omega (arith, e))

  -- the last of k + 1 choices had no later alternative
  pub down_due : (k : ℕ) (p g p' g' : List ℤ) → p' ≡ take k p → g' ≡ take k g → at_ g k ≤ℤ at_ p k → (at : Place) → beside o m r p g (suc k) at ≡ beside o m r p' g' k at
  down_due k p g p' g' ep eg none at =
      ap (λ (z : List ℤ). trees_for o m r (D - suc k) (take k p) z at >>= λ x. beside o m r p g k x.1) (span_none (at_ p k +ℤ pos 1) (at_ g k) (omega (arith, ints, none)))
      ∙ beside_same k p p' g g' (sym (ap (take k) ep ∙ take-take k k p (omega arith))) (sym (ap (take k) eg ∙ take-take k k g (omega arith))) at

  -- it had one, and the tree for that is due
  pub next_due : (k : ℕ) (p g p' g' : List ℤ) (v : ℤ) → length p ≡ suc k → length g ≡ suc k → v ≡ at_ p k +ℤ pos 1 → v ≤ℤ at_ g k → p' ≡ take k p ++ v ∷ [] → g' ≡ take k g ++ at_ g k ∷ [] → (at : Place) →
      tree_due o m r p' g' at ≡ beside o m r p g (suc k) at
  next_due k p g p' g' v lp lg ev le ep eg at =
      let fp = length-take-le k p (omega (arith, lp)) in
      let fg = length-take-le k g (omega (arith, lg)) in
      first_due k (take k p) (take k g) p' g' v (at_ g k) fp fg ep eg at
      ∙ ap (λ (z : List ℤ). trees_for o m r (D - suc k) (take k p) z at >>= λ x. beside o m r (take k p) (take k g) k x.1) (sym (span_first v (at_ g k) le))
      ∙ ap (λ (z : ℤ). trees_for o m r (D - suc k) (take k p) (span z (at_ g k)) at >>= λ x. beside o m r (take k p) (take k g) k x.1) ev
      ∙ bind_same (trees_for o m r (D - suc k) (take k p) (span (at_ p k +ℤ pos 1) (at_ g k)) at) _ _ (λ x. beside_same k (take k p) p (take k g) g (take-take k k p (omega arith)) (take-take k k g (omega arith)) x.1)
