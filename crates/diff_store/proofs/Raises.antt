-- What a raise keeps: values stay above the least ones of the older constraints, below what the newest one forces, and caused
use Rattle.std.proofs.Common.{◌≡◌, ℕ, zero, suc, ◌+◌, ◌-◌, ◌<◌, ◌≤◌, Bool, true, false, cond, eqb, List, length, set, All, refl, sym, ◌∙◌, ap, subst, arith, ◌⊎◌, inl, inr, ⊎_elim, ℤ, pos, ◌+ℤ◌, ◌-ℤ◌, ◌≤ℤ◌, ◌<ℤ◌}
use Rattle.std.proofs.lemmas.Int.{ints, by_lt_z}
use Rattle.std.proofs.lemmas.Bool.{cases_lt, cases_eq, eq-eqb, ne_eqb, cond-true, cond-false}
use Rattle.std.proofs.lemmas.List.{length-set, get_or-set_same, get_or-set_other}
use Rattle.tick_num.specs.declared.differences.Diff.{Diff}
use Rattle.tick_num.specs.Differences.{diff, Meets, listed}
use Rattle.diff_store.specs.Bounds.{Small}
use Rattle.diff_store.specs.Leasts.{at, MeetsFirst, FromZero}
use Rattle.diff_store.specs.Causes.{beside, marked, newest, IsCause, HeldByFirst, Descends, LeadsHome}
use Rattle.diff_store.specs.Raising.{waits_in, Raising, Awaits}
use Rattle.diff_store.proofs.Ticks.{Modest}

-- f with the value w at y
put : (ℕ → ℕ) → ℕ → ℕ → ℕ → ℕ
put f y w x = cond (eqb x y) w (f x)

put_here : (f : ℕ → ℕ) (y w : ℕ) → put f y w y ≡ w
unfolding put
put_here f y w = cond-true (eqb y y) w (f y) (eq-eqb y y refl)

put_else : (f : ℕ → ℕ) (y w x : ℕ) → (x ≡ y → ⊥) → put f y w x ≡ f x
unfolding put
put_else f y w x ne = cond-false (eqb x y) w (f x) (ne_eqb x y ne)

-- what stands at two places that are one
here : {A : Type 0} (f : ℕ → A) (x y : ℕ) (a : A) → f y ≡ a → x ≡ y → f x ≡ a
here f x y a h e = ap f e ∙ h

-- the three lists after a raise of y, place by place
record Places (y : ℕ) (w : ℤ) (i : ℕ) (vs : List ℤ) (cs : List ℕ) (ws : List Bool) (vs' : List ℤ) (cs' : List ℕ) (ws' : List Bool) : Type 0 where
  value : listed vs' y ≡ w
  cause : beside cs' y ≡ i
  wait : waits_in ws' y ≡ true
  values : (x : ℕ) → (x ≡ y → ⊥) → listed vs' x ≡ listed vs x
  causes : (x : ℕ) → (x ≡ y → ⊥) → beside cs' x ≡ beside cs x
  waits : (x : ℕ) → (x ≡ y → ⊥) → waits_in ws' x ≡ waits_in ws x

places : (y : ℕ) (w : ℤ) (i : ℕ) (vs : List ℤ) (cs : List ℕ) (ws : List Bool) → y < length vs → length cs ≡ length vs → length ws ≡ length vs → Places y w i vs cs ws (set vs y w) (set cs y i) (set ws y true)
places y w i vs cs ws l ec ew = record {
  value = get_or-set_same vs y w (pos 0) l;
  cause = get_or-set_same cs y i 0 (omega (arith, l, ec));
  wait = get_or-set_same ws y true false (omega (arith, l, ew));
  values = λ x ne. get_or-set_other vs y x w (pos 0) ne;
  causes = λ x ne. get_or-set_other cs y x i 0 ne;
  waits = λ x ne. get_or-set_other ws y x true false ne;
}

module _ (ds : List Diff) (i : ℕ) (vs : List ℤ) (cs : List ℕ) (chain ws : List Bool) (within : i < length ds) (state : Raising ds vs cs chain ws (at ds i).x i) where
  abbrev forced : ℤ
  forced = listed vs (at ds i).x -ℤ (at ds i).c

  -- what the constraint forces is not above what solutions have
  forced_under : (w : ℕ → ℤ) → MeetsFirst (length ds - 1) ds w → FromZero w → (state.base (newest ds).x -ℤ (newest ds).c) ≤ℤ w (newest ds).y → forced ≤ℤ w (at ds i).y
  forced_under w m z n = ⊎_elim
      (λ (older : i < length ds - 1). let u = state.under w m z n (at ds i).x in let meets = m i older in omega (arith, ints, u, meets))
      (λ (last : length ds - 1 ≤ i).
      let e : length ds - 1 ≡ i = omega (arith, last, within) in
      subst (λ j. (listed vs (at ds j).x -ℤ (at ds j).c) ≤ℤ w (at ds j).y) e (let k = state.kept (newest ds).x state.own in omega (arith, ints, k, n)))
      (cases_lt i (length ds - 1))

  -- what is not above solutions is not above the least values of the older constraints, all raised alike
  module _ (small : All Small ds) (z : ℤ) (y : ℕ) (under : (w : ℕ → ℤ) → MeetsFirst (length ds - 1) ds w → FromZero w → (state.base (newest ds).x -ℤ (newest ds).c) ≤ℤ w (newest ds).y → z ≤ℤ w y) where
    lifted : (d : ℤ) → pos 0 ≤ℤ d → (state.base (newest ds).x -ℤ (newest ds).c) ≤ℤ (state.base (newest ds).y +ℤ d) → z ≤ℤ (state.base y +ℤ d)
    lifted d up n = under (λ y. state.base y +ℤ d)
        (λ j l. let m = state.least.solves j l in omega (arith, ints, m))
        (λ x. let f = state.least.from_zero x in omega (arith, ints, f, up))
        n

    topped : z ≤ℤ pos 8_100_000_000_000_000_000
    topped =
        let n = newest ds in
        let base = state.base in
        let low_x = state.low n.x in
        let low_y = state.low y in
        let zero_y = state.least.from_zero n.y in
        let s = (small (length ds - 1) (diff 0 0 (pos 0)) (let some = state.some in omega (arith, some))).0 in
        by_lt_z {P = z ≤ℤ pos 8_100_000_000_000_000_000} (base n.y) (base n.x -ℤ n.c)
        (λ less. let t = lifted (base n.x -ℤ n.c -ℤ base n.y) (omega (arith, ints, less)) (omega (arith, ints)) in omega (arith, ints, low_x, low_y, zero_y, s, t))
        (λ ge. let t = lifted (pos 0) (omega (arith, ints)) (omega (arith, ints, ge)) in omega (arith, ints, low_y, t))

  module _ (small : All Small ds) where
    pub forced_top : forced ≤ℤ pos 8_100_000_000_000_000_000
    forced_top = topped small forced (at ds i).y forced_under

    -- numbers that are far from the range's ends
    pub value_top : (y : ℕ) → listed vs y ≤ℤ pos 8_100_000_000_000_000_000
    value_top y = topped small (listed vs y) y (λ w m z n. state.under w m z n y)

    pub value_zero : (y : ℕ) → pos 0 ≤ℤ listed vs y
    value_zero y = let z = state.least.from_zero y in let a = state.above y in omega (arith, ints, z, a)

    pub modest : Modest (listed vs (at ds i).x) (at ds i).c
    modest = record {
      from_zero = value_zero (at ds i).x;
      top = forced_top;
      low = (small i (diff 0 0 (pos 0)) within).0;
      high = (small i (diff 0 0 (pos 0)) within).1;
    }

  -- a constraint that is met
  pub met_state : Meets (listed vs) (at ds i) → Raising ds vs cs chain ws (at ds i).x (i + 1)
  met_state m = record {
    some = state.some;
    causes_size = state.causes_size;
    waits_size = state.waits_size;
    base = state.base;
    least = state.least;
    low = state.low;
    above = state.above;
    under = state.under;
    own = state.own;
    kept = state.kept;
    descends = state.descends;
    held = state.held;
    awaits = λ j l. ⊎_elim
        (λ (e : Meets (listed vs) (at ds j)). inl e)
        (λ (o : (waits_in ws (at ds j).x ≡ true) ⊎ (((at ds j).x ≡ (at ds i).x) × (i ≤ j))). ⊎_elim
        (λ (e : waits_in ws (at ds j).x ≡ true). inr (inl e))
        (λ (e : ((at ds j).x ≡ (at ds i).x) × (i ≤ j)). ⊎_elim
        (λ (less : j < i + 1). let e1 = e.1 in inl (subst (λ k. Meets (listed vs) (at ds k)) (let s : i ≡ j = omega (arith, e1, less) in s) m))
        (λ (ge : i + 1 ≤ j). inr (inr (e.0, ge)))
        (cases_lt j (i + 1)))
        o)
        (state.awaits j l);
  }

  module _ (less : listed vs (at ds i).y <ℤ forced) where
    -- a variable of the chain would have to rise
    pub stopped_home : All Small ds → marked chain (at ds i).y ≡ true → LeadsHome ds cs i
    stopped_home small on = record {
      base = state.base;
      solves = state.least.solves;
      from_zero = state.least.from_zero;
      values = listed vs;
      above = state.above;
      top = value_top small;
      time = state.held.time;
      caused = state.held.caused;
      chain = chain;
      own = state.own;
      kept = state.kept;
      descends = state.descends;
      within = within;
      ends = on;
      forces = less;
    }

    module _ (ne : marked chain (at ds i).y ≡ true → ⊥) (vs' : List ℤ) (cs' : List ℕ) (ws' : List Bool) (p : Places (at ds i).y forced i vs cs ws vs' cs' ws') where
      -- no value falls
      rises : (x : ℕ) → listed vs x ≤ℤ listed vs' x
      rises x = ⊎_elim
          (λ (e : x ≡ (at ds i).y). let a = here (listed vs') x _ _ p.value e in let b = ap (listed vs) e in omega (arith, ints, less, a, b))
          (λ (o : x ≡ (at ds i).y → ⊥). let a = p.values x o in omega (arith, ints, a))
          (cases_eq x (at ds i).y)

      abbrev time' : ℕ → ℕ
      time' = put state.held.time (at ds i).y state.held.now

      -- the cause of y
      caused_here : IsCause (length ds) ds (listed vs') time' i (at ds i).y
      caused_here = record {
        within = within;
        ends = refl;
        forces = ⊎_elim
            (λ (e : (at ds i).x ≡ (at ds i).y). inl (let a = here (listed vs') _ _ _ p.value e in let b = ap (listed vs) e in let v = p.value in omega (arith, ints, a, b, v, less)))
            (λ (o : (at ds i).x ≡ (at ds i).y → ⊥). inr (
              let a = p.values _ o in let v = p.value in omega (arith, ints, a, v),
              let a = put_else state.held.time (at ds i).y state.held.now _ o in let b = put_here state.held.time (at ds i).y state.held.now in let l = state.held.earlier (at ds i).x in omega (arith, a, b, l),
            ))
            (cases_eq (at ds i).x (at ds i).y);
      }

      -- the cause of another
      caused_else : (z j : ℕ) → (z ≡ (at ds i).y → ⊥) → IsCause (length ds) ds (listed vs) state.held.time j z → IsCause (length ds) ds (listed vs') time' j z
      caused_else z j o h = record {
        within = h.within;
        ends = h.ends;
        forces =
            let same = p.values z o in
            let s = put_else state.held.time (at ds i).y state.held.now z o in
            ⊎_elim
            (λ (e : (at ds j).x ≡ (at ds i).y). inl (
            let a = here (listed vs') _ _ _ p.value e in
            let b = ap (listed vs) e in
            ⊎_elim
            (λ (f : listed vs z <ℤ (listed vs (at ds j).x -ℤ (at ds j).c)). omega (arith, ints, a, b, f, same, less))
            (λ (f : (listed vs z ≤ℤ (listed vs (at ds j).x -ℤ (at ds j).c)) × (state.held.time (at ds j).x < state.held.time z)). let f0 = f.0 in omega (arith, ints, a, b, f0, same, less))
            h.forces))
            (λ (n : (at ds j).x ≡ (at ds i).y → ⊥).
            let a = p.values (at ds j).x n in
            let t = put_else state.held.time (at ds i).y state.held.now (at ds j).x n in
            ⊎_elim
            (λ (f : listed vs z <ℤ (listed vs (at ds j).x -ℤ (at ds j).c)). inl (omega (arith, ints, a, f, same)))
            (λ (f : (listed vs z ≤ℤ (listed vs (at ds j).x -ℤ (at ds j).c)) × (state.held.time (at ds j).x < state.held.time z)). inr (let f0 = f.0 in omega (arith, ints, a, f0, same), let f1 = f.1 in omega (arith, t, f1, s)))
            h.forces)
            (cases_eq (at ds j).x (at ds i).y);
      }

      -- the constraint itself is met where its x is another than its y
      met_here : ((at ds i).x ≡ (at ds i).y → ⊥) → Meets (listed vs') (at ds i)
      met_here o = let a = p.values (at ds i).x o in let v = p.value in omega (arith, ints, a, v)

      awaits_after : (j : ℕ) → j < length ds → Awaits ds vs' ws' (at ds i).x (i + 1) j
      awaits_after j l = ⊎_elim
          (λ (e : (at ds j).x ≡ (at ds i).y). inr (inl (here (waits_in ws') _ _ _ p.wait e)))
          (λ (n : (at ds j).x ≡ (at ds i).y → ⊥). ⊎_elim
          (λ (m : Meets (listed vs) (at ds j)). inl (let a = p.values (at ds j).x n in let b = rises (at ds j).y in omega (arith, ints, a, b, m)))
          (λ (o : (waits_in ws (at ds j).x ≡ true) ⊎ (((at ds j).x ≡ (at ds i).x) × (i ≤ j))). ⊎_elim
          (λ (e : waits_in ws (at ds j).x ≡ true). inr (inl (p.waits (at ds j).x n ∙ e)))
          (λ (e : ((at ds j).x ≡ (at ds i).x) × (i ≤ j)). ⊎_elim
          (λ (less' : j < i + 1).
          let e1 = e.1 in
          let s : i ≡ j = omega (arith, e1, less') in
          inl (subst (λ k. Meets (listed vs') (at ds k)) s (met_here (λ f. n (e.0 ∙ f)))))
          (λ (ge : i + 1 ≤ j). inr (inr (e.0, ge)))
          (cases_lt j (i + 1)))
          o)
          (state.awaits j l))
          (cases_eq (at ds j).x (at ds i).y)

      raised_held : HeldByFirst (length ds) ds (listed vs') (beside cs')
      raised_held = record {
        time = time';
        now = state.held.now + 1;
        earlier = λ x. ⊎_elim
            (λ (e : x ≡ (at ds i).y). let a = here time' x _ _ (put_here state.held.time (at ds i).y state.held.now) e in omega (arith, a))
            (λ (o : x ≡ (at ds i).y → ⊥). let a = put_else state.held.time (at ds i).y state.held.now x o in let b = state.held.earlier x in omega (arith, a, b))
            (cases_eq x (at ds i).y);
        caused = λ x up. ⊎_elim
            (λ (e : x ≡ (at ds i).y). subst (λ k. IsCause (length ds) ds (listed vs') time' k x) (sym (here (beside cs') x _ _ p.cause e)) (subst (IsCause (length ds) ds (listed vs') time' i) (sym e) caused_here))
            (λ (o : x ≡ (at ds i).y → ⊥).
            let a = p.values x o in
            subst (λ k. IsCause (length ds) ds (listed vs') time' k x) (sym (p.causes x o)) (caused_else x (beside cs x) o (state.held.caused x (omega (arith, ints, a, up)))))
            (cases_eq x (at ds i).y);
      }

      -- the chain stands
      descends_still : (k x z : ℕ) → Descends ds (listed vs) (beside cs) chain k x z → Descends ds (listed vs') (beside cs') chain k x z
      descends_still zero x z e = e
      descends_still (suc k) x z d =
          let o : x ≡ (at ds i).y → ⊥ = λ e. ne (subst (λ u. marked chain u ≡ true) e d.0) in
          let a = p.values x o in
          let c = p.causes x o in
          let up = d.1 in
          let older = d.2 in (
            d.0,
            omega (arith, ints, a, up),
            omega (arith, c, older),
            subst (λ j. Descends ds (listed vs') (beside cs') chain k (at ds j).x z) (sym c) (descends_still k (at ds (beside cs x)).x z d.3),
          )

      raised_state : length cs' ≡ length vs' → length ws' ≡ length vs' → Raising ds vs' cs' chain ws' (at ds i).x (i + 1)
      raised_state ec ew = record {
        some = state.some;
        causes_size = ec;
        waits_size = ew;
        base = state.base;
        least = state.least;
        low = state.low;
        above = λ x. let a = rises x in let b = state.above x in omega (arith, ints, a, b);
        under = λ w m z n x. ⊎_elim
            (λ (e : x ≡ (at ds i).y).
            let a = here (listed vs') x _ _ p.value e in
            let b = ap w e in
            let u = forced_under w m z n in
            omega (arith, ints, a, b, u))
            (λ (o : x ≡ (at ds i).y → ⊥). let a = p.values x o in let u = state.under w m z n x in omega (arith, ints, a, u))
            (cases_eq x (at ds i).y);
        awaits = awaits_after;
        own = state.own;
        kept = λ x m. p.values x (λ e. ne (subst (λ z. marked chain z ≡ true) e m)) ∙ state.kept x m;
        descends = λ x m. let d = state.descends x m in (d.0, descends_still d.0 (newest ds).x x d.1);
        held = raised_held;
      }

    -- y rises to what is forced, and waits
    pub rises_state : (marked chain (at ds i).y ≡ true → ⊥) → (at ds i).y < length vs → Raising ds (set vs (at ds i).y forced) (set cs (at ds i).y i) chain (set ws (at ds i).y true) (at ds i).x (i + 1)
    rises_state ne low = raised_state ne _ _ _
        (places (at ds i).y forced i vs cs ws low state.causes_size state.waits_size)
        (length-set cs (at ds i).y i ∙ state.causes_size ∙ sym (length-set vs (at ds i).y forced))
        (length-set ws (at ds i).y true ∙ state.waits_size ∙ sym (length-set vs (at ds i).y forced))
