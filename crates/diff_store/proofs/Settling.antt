-- From the least values of the older constraints to those of the whole list, by raises along chains
use Rattle.std.proofs.Common.{◌≡◌, ◌≢◌, ℕ, ◌+◌, ◌-◌, ◌<◌, ◌≤◌, Bool, true, false, List, length, set, Option, Some, refl, ◌∙◌, ap, subst, arith, ◌⊎◌, inl, inr, ⊎_elim, ℤ}
use Rattle.std.proofs.lemmas.Int.{ints}
use Rattle.std.proofs.lemmas.Bool.{cases_lt, cases_eq, both_ways}
use Rattle.std.proofs.lemmas.List.{length-set, get_or-set_other}
use Rattle.tick_num.specs.declared.differences.Diff.{Diff}
use Rattle.tick_num.specs.Differences.{Meets, listed}
use Rattle.diff_store.specs.Leasts.{at, MeetsFirst, LeastOfFirst, Low}
use Rattle.diff_store.specs.declared.chains.Links.{Links}
use Rattle.diff_store.specs.Chains.{IsEarliest, Chained, linked, begin}
use Rattle.diff_store.specs.Causes.{beside, marked, newest, Chain, HeldByFirst}
use Rattle.diff_store.specs.Raising.{waits_in, NoneWaits, Raising, Awaits, left_to_do}

-- the same values, with other constraints left to look at
left_to : (ds : List Diff) (vs : List ℤ) (cs : List ℕ) (chain ws ws' : List Bool) (x b x' b' : ℕ) → length ws' ≡ length vs → ((i : ℕ) → i < length ds → Awaits ds vs ws' x' b' i) → Raising ds vs cs chain ws x b → Raising ds vs cs chain ws' x' b'
left_to ds vs cs chain ws ws' x b x' b' size awaits s = record {
  some = s.some;
  causes_size = s.causes_size;
  waits_size = size;
  base = s.base;
  least = s.least;
  low = s.low;
  above = s.above;
  under = s.under;
  awaits = awaits;
  own = s.own;
  kept = s.kept;
  descends = s.descends;
  held = s.held;
}

module _ (ds : List Diff) (vs : List ℤ) (cs : List ℕ) (chain ws : List Bool) where
  -- only the constraints of the chain are left
  pub narrowed : (x b : ℕ) (link : Option ℕ) → IsEarliest ds x b link → Raising ds vs cs chain ws x b → Raising ds vs cs chain ws x (begin ds link)
  narrowed x b link earliest s = left_to ds vs cs chain ws ws x b x (begin ds link) s.waits_size
      (λ i l. ⊎_elim
      (λ (m : Meets (listed vs) (at ds i)). inl m)
      (λ (o : (waits_in ws (at ds i).x ≡ true) ⊎ (((at ds i).x ≡ x) × (b ≤ i))). ⊎_elim
      (λ (w : waits_in ws (at ds i).x ≡ true). inr (inl w))
      (λ (e : ((at ds i).x ≡ x) × (b ≤ i)). ⊎_elim
      (λ (less : i < begin ds link). absurd (earliest.none_between i e.1 less e.0))
      (λ (ge : begin ds link ≤ i). inr (inr (e.0, ge)))
      (cases_lt i (begin ds link)))
      o)
      (s.awaits i l))
      s

  -- none is left
  pub looked_at : (x x' : ℕ) → Raising ds vs cs chain ws x (length ds) → Raising ds vs cs chain ws x' (length ds)
  looked_at x x' s = left_to ds vs cs chain ws ws x (length ds) x' (length ds) s.waits_size
      (λ i l. ⊎_elim
      (λ (m : Meets (listed vs) (at ds i)). inl m)
      (λ (o : (waits_in ws (at ds i).x ≡ true) ⊎ (((at ds i).x ≡ x) × (length ds ≤ i))). ⊎_elim
      (λ (w : waits_in ws (at ds i).x ≡ true). inr (inl w))
      (λ (e : ((at ds i).x ≡ x) × (length ds ≤ i)). absurd (let e1 = e.1 in omega (arith, e1, l)))
      o)
      (s.awaits i l))
      s

  -- a waiting variable is taken
  pub taken : (x : ℕ) → Raising ds vs cs chain ws 0 (length ds) → Raising ds vs cs chain (set ws x false) x 0
  taken x s = left_to ds vs cs chain ws (set ws x false) 0 (length ds) x 0 (length-set ws x false ∙ s.waits_size)
      (λ i l. ⊎_elim
      (λ (e : (at ds i).x ≡ x). inr (inr (e, omega arith)))
      (λ (ne : (at ds i).x ≡ x → ⊥). ⊎_elim
      (λ (m : Meets (listed vs) (at ds i)). inl m)
      (λ (o : (waits_in ws (at ds i).x ≡ true) ⊎ (((at ds i).x ≡ 0) × (length ds ≤ i))). ⊎_elim
      (λ (w : waits_in ws (at ds i).x ≡ true). inr (inl (let ne' : (at ds i).x ≢ x = ne in get_or-set_other ws x (at ds i).x false false ne' ∙ w)))
      (λ (e : ((at ds i).x ≡ 0) × (length ds ≤ i)). absurd (let e1 = e.1 in omega (arith, e1, l)))
      o)
      (s.awaits i l))
      (cases_eq (at ds i).x x))
      s

  -- nothing waits any more
  pub settled : NoneWaits ws → Raising ds vs cs chain ws 0 (length ds) → LeastOfFirst (length ds) ds (listed vs)
  settled none s = record {
    solves = λ i l. ⊎_elim
        (λ (m : Meets (listed vs) (at ds i)). m)
        (λ (o : (waits_in ws (at ds i).x ≡ true) ⊎ (((at ds i).x ≡ 0) × (length ds ≤ i))). ⊎_elim
        (λ (w : waits_in ws (at ds i).x ≡ true). absurd (both_ways (waits_in ws (at ds i).x) (none (at ds i).x) w))
        (λ (e : ((at ds i).x ≡ 0) × (length ds ≤ i)). absurd (let e1 = e.1 in omega (arith, e1, l)))
        o)
        (s.awaits i l);
    from_zero = λ x. let z = s.least.from_zero x in let a = s.above x in omega (arith, ints, z, a);
    least = λ w m z x.
        let some = s.some in
        let older : MeetsFirst (length ds - 1) ds w = λ i l. m i (omega (arith, l)) in
        let up = s.least.least w older z (newest ds).x in
        let last = m (length ds - 1) (omega (arith, some)) in
        s.under w older z (omega (arith, ints, up, last)) x;
  }

-- causes among the first j constraints are among the first k
pub held_more : (j k : ℕ) (ds : List Diff) (v : ℕ → ℤ) (c : ℕ → ℕ) → j ≤ k → HeldByFirst j ds v c → HeldByFirst k ds v c
held_more j k ds v c le h = record {
  time = h.time;
  now = h.now;
  earlier = h.earlier;
  caused = λ y up. let i = h.caused y up in let w = i.within in record { within = omega (arith, w, le); ends = i.ends; forces = i.forces };
}

-- before the newest constraint is looked at
pub raising_init : (ds : List Diff) (vs : List ℤ) (cs : List ℕ) (chain ws : List Bool) → 0 < length ds → LeastOfFirst (length ds - 1) ds (listed vs) → Low (listed vs) → HeldByFirst (length ds - 1) ds (listed vs) (beside cs) → length cs ≡ length vs → length ws ≡ length vs →
    marked chain (newest ds).x ≡ true → Chain ds (listed vs) (beside cs) chain (newest ds).x → Raising ds vs cs chain ws (newest ds).x (length ds - 1)
raising_init ds vs cs chain ws some least low held ec ew own descends = record {
  some = some;
  causes_size = ec;
  waits_size = ew;
  base = listed vs;
  least = least;
  low = low;
  above = λ y. omega (arith, ints);
  under = λ w m z n y. least.least w m z y;
  awaits = λ i l. ⊎_elim
      (λ (older : i < length ds - 1). inl (least.solves i older))
      (λ (last : length ds - 1 ≤ i). let e : i ≡ length ds - 1 = omega (arith, last, l) in inr (inr (ap (λ j. (at ds j).x) e, omega (arith, e))))
      (cases_lt i (length ds - 1));
  own = own;
  kept = λ y m. refl;
  descends = descends;
  held = held_more (length ds - 1) (length ds) ds (listed vs) (beside cs) (omega arith) held;
}

-- the least values meet the newest constraint too
pub least_met : (ds : List Diff) (v : ℕ → ℤ) → 0 < length ds → LeastOfFirst (length ds - 1) ds v → Meets v (newest ds) → LeastOfFirst (length ds) ds v
least_met ds v some h met = record {
  solves = λ i l. ⊎_elim
      (λ (older : i < length ds - 1). h.solves i older)
      (λ (last : length ds - 1 ≤ i). subst (λ j. Meets v (at ds j)) (let e : length ds - 1 ≡ i = omega (arith, last, l) in e) met)
      (cases_lt i (length ds - 1));
  from_zero = h.from_zero;
  least = λ w m z x. h.least w (λ i l. m i (omega (arith, l))) z x;
}

-- ---- along the chain of x
pub record Along (ds : List Diff) (x : ℕ) (link : Option ℕ) (vs : List ℤ) (cs : List ℕ) (chain ws : List Bool) (most size : ℕ) : Type 0 where
  pub bound : ℕ
  pub earliest : IsEarliest ds x bound link
  pub state : Raising ds vs cs chain ws x (begin ds link)
  pub falls : left_to_do vs ws ≤ most
  pub waits : length ws ≡ size

pub along_init : (n : ℕ) (ds : List Diff) (links : Links) (x : ℕ) (vs : List ℤ) (cs : List ℕ) (chain ws : List Bool) → Chained n ds links → x < n → Raising ds vs cs chain ws x 0 → Along ds x (linked links.firsts.items x) vs cs chain ws (left_to_do vs ws) (length ws)
along_init n ds links x vs cs chain ws chained low s = record {
  bound = 0;
  earliest = chained.first x low;
  state = narrowed ds vs cs chain ws x 0 (linked links.firsts.items x) (chained.first x low) s;
  falls = omega arith;
  waits = refl;
}

module _ (ds : List Diff) (x i : ℕ) (vs : List ℤ) (cs : List ℕ) (chain ws : List Bool) (most size : ℕ) (a : Along ds x (Some i) vs cs chain ws most size) where
  pub along_more : (n : ℕ) (links : Links) (vs' : List ℤ) (cs' : List ℕ) (ws' : List Bool) → Chained n ds links → Raising ds vs' cs' chain ws' (at ds i).x (i + 1) → left_to_do vs' ws' ≤ left_to_do vs ws → length ws' ≡ length ws → Along ds x (linked links.newer.items i) vs' cs' chain ws' most size
  along_more n links vs' cs' ws' chained s less same =
      let earliest = subst (λ y. IsEarliest ds y (i + 1) (linked links.newer.items i)) a.earliest.same (chained.newer i a.earliest.within) in
      record {
        bound = i + 1;
        earliest = earliest;
        state = narrowed ds vs' cs' chain ws' x (i + 1) (linked links.newer.items i) earliest (subst (λ y. Raising ds vs' cs' chain ws' y (i + 1)) a.earliest.same s);
        falls = let f = a.falls in omega (arith, less, f);
        waits = same ∙ a.waits;
      }

  pub along_falls : (n : ℕ) (links : Links) → Chained n ds links → length ds - begin ds (linked links.newer.items i) < length ds - i
  along_falls n links chained = let f = (chained.newer i a.earliest.within).from in let w = a.earliest.within in omega (arith, f, w)

-- ---- until none waits
pub record Settling (ds : List Diff) (vs : List ℤ) (cs : List ℕ) (chain ws : List Bool) (size : ℕ) : Type 0 where
  pub state : Raising ds vs cs chain ws 0 (length ds)
  pub waits : length ws ≡ size
