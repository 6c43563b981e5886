-- The causes lead from the last constraint back to the variable that it would raise: no variable comes twice on the way, and round the cycle the bounds sum below 0
use Rattle.std.proofs.Common.{◌≡◌, ℕ, zero, suc, ◌+◌, ◌-◌, ◌<◌, ◌≤◌, Bool, true, false, cond, List, [], ◌∷◌, length, map, set, drop, refl, sym, ◌∙◌, ap, subst, arith, ◌⊎◌, inl, inr, ⊎_elim, ℤ, pos, ◌-ℤ◌, ◌≤ℤ◌, ◌<ℤ◌}
use Rattle.std.specs.Prelude.{int_lt}
use Rattle.std.specs.List.{AllByRecursion}
use Rattle.std.proofs.lemmas.Int.{ints}
use Rattle.std.proofs.lemmas.Bool.{cases_lt}
use Rattle.std.proofs.lemmas.List.{length-set, drop-set, drop_all}
use Rattle.std.proofs.lemmas.List.Elements.{All-from_recursion}
use Rattle.tick_num.specs.declared.differences.Diff.{Diff}
use Rattle.tick_num.specs.Differences.{diff, InRange, NegativeCycle, named, sum_ℤ, Closes}
use Rattle.tick_num.proofs.Pigeons.{two_alike}
use Rattle.diff_store.specs.Leasts.{at}
use Rattle.diff_store.specs.Causes.{beside, marked, IsCause, Descends, LeadsHome}

-- the variable k causes back from x
unfoldable pub back : List Diff → List ℕ → ℕ → ℕ → ℕ
back ds causes x zero = x
back ds causes x (suc k) = (at ds (beside causes (back ds causes x k))).x

-- ---- the order along causes
-- how far a variable rose; one that did not counts as above all that did
abbrev pub gain : (ℕ → ℤ) → (ℕ → ℤ) → ℕ → ℤ
gain base v y = cond (int_lt (base y) (v y)) (v y -ℤ base y) (pos 9_000_000_000_000_000_000)

gain_is : (base v : ℕ → ℤ) (y : ℕ) → ((base y <ℤ v y) × (gain base v y ≡ v y -ℤ base y)) ⊎ ((v y ≤ℤ base y) × (gain base v y ≡ pos 9_000_000_000_000_000_000))
gain_is base v y = by (int_lt (base y) (v y)) refl
  where
    by : (t : Bool) → int_lt (base y) (v y) ≡ t → ((base y <ℤ v y) × (cond t (v y -ℤ base y) (pos 9_000_000_000_000_000_000) ≡ v y -ℤ base y)) ⊎ ((v y ≤ℤ base y) × (cond t (v y -ℤ base y) (pos 9_000_000_000_000_000_000) ≡ pos 9_000_000_000_000_000_000))
    by true e = inl (omega (arith, ints), refl)
    by false e = inr (omega (arith, ints), refl)

gain_raised : (base v : ℕ → ℤ) (y : ℕ) → base y <ℤ v y → gain base v y ≡ v y -ℤ base y
gain_raised base v y h = ⊎_elim
    (λ (a : (base y <ℤ v y) × (gain base v y ≡ v y -ℤ base y)). a.1)
    (λ (b : (v y ≤ℤ base y) × (gain base v y ≡ pos 9_000_000_000_000_000_000)). absurd (let b0 = b.0 in omega (arith, ints, h, b0)))
    (gain_is base v y)

gain_kept : (base v : ℕ → ℤ) (y : ℕ) → v y ≡ base y → gain base v y ≡ pos 9_000_000_000_000_000_000
gain_kept base v y h = ⊎_elim
    (λ (a : (base y <ℤ v y) × (gain base v y ≡ v y -ℤ base y)). absurd (let a0 = a.0 in omega (arith, ints, h, a0)))
    (λ (b : (v y ≤ℤ base y) × (gain base v y ≡ pos 9_000_000_000_000_000_000)). b.1)
    (gain_is base v y)

-- a rose more than y, or as much and y was raised after it
abbrev pub Precedes : (ℕ → ℤ) → (ℕ → ℕ) → ℕ → ℕ → Type 0
Precedes g time a y = (g y <ℤ g a) ⊎ ((g y ≤ℤ g a) × (time a < time y))

abbrev one_more : (ℕ → ℕ) → ℕ → ℕ → ℕ
one_more f y zero = y
one_more f y (suc k) = f k

module _ (g : ℕ → ℤ) (time : ℕ → ℕ) where
  precedes_trans : (a b c : ℕ) → Precedes g time a b → Precedes g time b c → Precedes g time a c
  precedes_trans a b c h k =
      ⊎_elim
      (λ (f : g b <ℤ g a). inl (⊎_elim
      (λ (f' : g c <ℤ g b). omega (arith, ints, f, f'))
      (λ (f' : (g c ≤ℤ g b) × (time b < time c)). let f0 = f'.0 in omega (arith, ints, f, f0))
      k))
      (λ (f : (g b ≤ℤ g a) × (time a < time b)). let f0 = f.0 in ⊎_elim
      (λ (f' : g c <ℤ g b). inl (omega (arith, ints, f0, f')))
      (λ (f' : (g c ≤ℤ g b) × (time b < time c)). inr (let g0 = f'.0 in omega (arith, ints, f0, g0), let f1 = f.1 in let g1 = f'.1 in omega (arith, f1, g1)))
      k)
      h

  precedes_not_same : (a b : ℕ) → a ≡ b → Precedes g time a b → ⊥
  precedes_not_same a b e h =
      let eg = ap g e in
      let et = ap time e in
      ⊎_elim
      (λ (f : g b <ℤ g a). omega (arith, ints, f, eg))
      (λ (f : (g b ≤ℤ g a) × (time a < time b)). let f1 = f.1 in omega (arith, f1, et))
      h

  -- along a walk f of which each variable precedes the one before it
  precedes_on : (f : ℕ → ℕ) (n : ℕ) → ((k : ℕ) → k < n → Precedes g time (f (suc k)) (f k)) → (i m : ℕ) → i + suc m ≤ n → Precedes g time (f (i + suc m)) (f i)
  precedes_on f n h i zero l = subst (λ j. Precedes g time (f j) (f i)) (let e : suc i ≡ i + 1 = omega arith in e) (h i (omega (arith, l)))
  precedes_on f n h i (suc m) l =
      subst (λ j. Precedes g time (f j) (f i)) (let e : suc (i + suc m) ≡ i + suc (suc m) = omega arith in e)
      (precedes_trans (f (suc (i + suc m))) (f (i + suc m)) (f i) (h (i + suc m) (omega (arith, l))) (precedes_on f n h i m (omega (arith, l))))

  -- a walk of n + 1 variables and one more do not fit among n + 1 variables
  module _ (f : ℕ → ℕ) (n y : ℕ) (h : (k : ℕ) → k < n → Precedes g time (f (suc k)) (f k)) (low : (k : ℕ) → k ≤ n → f k < suc n) (low_y : y < suc n) (apart : (k : ℕ) → k ≤ n → f k ≡ y → ⊥) where
    one_low : (k : ℕ) → k < suc (suc n) → one_more f y k < suc n
    one_low zero l = low_y
    one_low (suc k) l = low k (omega (arith, l))

    twice : (i j : ℕ) → i < j → j < suc (suc n) → one_more f y i ≡ one_more f y j → ⊥
    twice i zero less l e = omega (arith, less)
    twice zero (suc j) less l e = apart j (omega (arith, l)) (sym e)
    twice (suc i) (suc j) less l e =
        let m = j - suc i in
        let s : i + suc m ≡ j = omega (arith, less) in
        precedes_not_same (f (i + suc m)) (f i) (ap f s ∙ sym e) (precedes_on f n h i m (omega (arith, l, s)))

    no_room : ⊥
    no_room = let w = two_alike (suc n) (one_more f y) one_low in twice w.0 w.1 w.2 w.3 w.4

-- ---- constraints in a row
module _ (ds : List Diff) where
  -- the constraints lead from x to z
  abbrev pub Joins : ℕ → List ℕ → ℕ → Type 0
  Joins x [] z = x ≡ z
  Joins x (i ∷ is) z = ((at ds i).x ≡ x) × Joins (at ds i).y is z

  abbrev pub sum_of : List ℕ → ℤ
  sum_of refs = sum_ℤ (map (λ d. d.c) (named ds refs))

  closes : (x z i : ℕ) (refs : List ℕ) → Joins x (i ∷ refs) z → Closes z (named ds (i ∷ refs))
  closes x z i [] j = j.1
  closes x z i (k ∷ refs) j = (sym j.1.0, closes (at ds i).y z k refs j.1)

  cycle_of : (z i : ℕ) (refs : List ℕ) → AllByRecursion (λ i. i < length ds) (i ∷ refs) → Joins z (i ∷ refs) z → sum_of (i ∷ refs) <ℤ pos 0 → NegativeCycle ds (i ∷ refs)
  cycle_of z i refs within joins negative = record {
    within = All-from_recursion (λ i. i < length ds) (i ∷ refs) within;
    closed = subst (λ u. Closes u (named ds (i ∷ refs))) (sym joins.0) (closes z z i refs joins);
    negative = negative;
  }

-- ---- the cycle as far as it is written, from its end
pub record Writing (ds : List Diff) (causes cycle : List ℕ) (last variable start : ℕ) : Type 0 where
  pub size : length cycle ≡ length causes
  pub starts : start < length causes
  pub home : LeadsHome ds causes last
  pub reached : variable ≡ back ds causes (at ds last).x (length causes - 1 - start)
  pub low : (k : ℕ) → k ≤ length causes - 1 - start → back ds causes (at ds last).x k < length causes
  pub apart : (k : ℕ) → k < length causes - 1 - start → back ds causes (at ds last).x k ≡ (at ds last).y → ⊥
  pub steps : (k : ℕ) → k < length causes - 1 - start → Precedes (gain home.base home.values) home.time (back ds causes (at ds last).x (suc k)) (back ds causes (at ds last).x k)
  -- the variable was raised, or the chain leads from it down to that one
  pub place : (home.base variable <ℤ home.values variable) ⊎ ((k : ℕ) × Descends ds home.values (beside causes) home.chain k variable (at ds last).y)
  pub within : AllByRecursion (λ i. i < length ds) (drop start cycle)
  pub joins : Joins ds variable (drop start cycle) (at ds last).y
  pub sums : sum_of ds (drop start cycle) <ℤ (home.values variable -ℤ home.values (at ds last).y)

module _ (ds : List Diff) (causes : List ℕ) (last : ℕ) (home : LeadsHome ds causes last) where
  -- what a constraint that forces more starts from was raised, or it is the newest one, from whose x the chain leads down
  came_from : (i y : ℕ) → i < length ds → home.base y ≤ℤ home.values y → (home.values y <ℤ (home.values (at ds i).x -ℤ (at ds i).c)) ⊎ ((home.base y <ℤ home.values y) × (home.values y ≤ℤ (home.values (at ds i).x -ℤ (at ds i).c))) → (at ds i).y ≡ y →
      (home.base (at ds i).x <ℤ home.values (at ds i).x) ⊎ ((k : ℕ) × Descends ds home.values (beside causes) home.chain k (at ds i).x (at ds last).y)
  came_from i y l up f ends = ⊎_elim
      (λ (older : i < length ds - 1).
      let m = home.solves i older in
      let e = ap home.base ends in
      inl (⊎_elim
      (λ (more : home.values y <ℤ (home.values (at ds i).x -ℤ (at ds i).c)). omega (arith, ints, m, e, up, more))
      (λ (r : (home.base y <ℤ home.values y) × (home.values y ≤ℤ (home.values (at ds i).x -ℤ (at ds i).c))). let r0 = r.0 in let r1 = r.1 in omega (arith, ints, m, e, r0, r1))
      f))
      (λ (newest : length ds - 1 ≤ i).
      let e : length ds - 1 ≡ i = omega (arith, newest, l) in
      inr (subst (λ j. (k : ℕ) × Descends ds home.values (beside causes) home.chain k (at ds j).x (at ds last).y) e (home.descends (at ds last).y home.ends)))
      (cases_lt i (length ds - 1))

pub writing_first : (ds : List Diff) (causes cycle : List ℕ) (last start : ℕ) → length cycle ≡ length causes → InRange (length causes) ds → start + 1 ≡ length cycle → LeadsHome ds causes last → Writing ds causes (set cycle start last) last (at ds last).x start
unfolding back
writing_first ds causes cycle last start size range at_end h =
    let none : length causes - 1 - start ≡ 0 = omega (arith, size, at_end) in
    let written : drop start (set cycle start last) ≡ last ∷ [] = drop-set cycle start last (omega (arith, at_end)) ∙ ap (λ us. last ∷ us) (drop_all (start + 1) cycle (omega (arith, at_end))) in
    let x = (at ds last).x in
    let y = (at ds last).y in
    let up = h.above y in
    record {
      size = length-set cycle start last ∙ size;
      starts = omega (arith, size, at_end);
      home = h;
      reached = ap (back ds causes x) (sym none);
      low = λ k l. subst (λ j. back ds causes x j < length causes) (let e : 0 ≡ k = omega (arith, l, none) in e) (range last (diff 0 0 (pos 0)) h.within).0;
      apart = λ k l. absurd (omega (arith, l, none));
      steps = λ k l. absurd (omega (arith, l, none));
      place = came_from ds causes last h last y h.within up (inl h.forces) refl;
      within = subst (AllByRecursion (λ i. i < length ds)) (sym written) (h.within, tt);
      joins = subst (λ refs. Joins ds x refs y) (sym written) (refl, refl);
      sums = subst (λ refs. sum_of ds refs <ℤ (h.values x -ℤ h.values y)) (sym written) (let f = h.forces in omega (arith, ints, f));
    }

module _ (ds : List Diff) (causes cycle : List ℕ) (last variable start : ℕ) (w : Writing ds causes cycle last variable start) where
  pub writing_low : variable < length causes
  writing_low = subst (λ x. x < length causes) (sym w.reached) (w.low (length causes - 1 - start) (omega arith))

  -- at the variable that would be raised
  pub writing_done : variable ≡ (at ds last).y → NegativeCycle ds (drop start cycle)
  writing_done e = closed (drop start cycle) w.within w.joins w.sums
    where
      closed : (refs : List ℕ) → AllByRecursion (λ i. i < length ds) refs → Joins ds variable refs (at ds last).y → sum_of ds refs <ℤ (w.home.values variable -ℤ w.home.values (at ds last).y) → NegativeCycle ds refs
      closed [] within joins sums = absurd (let v = ap w.home.values e in omega (arith, ints, sums, v))
      closed (i ∷ refs) within joins sums =
          let v = ap w.home.values e in
          subst (λ z. NegativeCycle ds (i ∷ refs)) e
          (cycle_of ds (at ds last).y i refs within (subst (λ x. Joins ds x (i ∷ refs) (at ds last).y) e joins) (omega (arith, ints, sums, v)))

  module _ (range : InRange (length causes) ds) (ne : variable ≡ (at ds last).y → ⊥) where
    abbrev place : ℕ
    place = beside causes variable

    -- the variable has a value above 0, so it has a cause
    positive : pos 0 <ℤ w.home.values variable
    positive = ⊎_elim
        (λ (r : w.home.base variable <ℤ w.home.values variable). let z = w.home.from_zero variable in omega (arith, ints, r, z))
        (λ (d : (k : ℕ) × Descends ds w.home.values (beside causes) w.home.chain k variable (at ds last).y). on_chain d.0 d.1)
        w.place
      where
        on_chain : (k : ℕ) → Descends ds w.home.values (beside causes) w.home.chain k variable (at ds last).y → pos 0 <ℤ w.home.values variable
        on_chain zero d = absurd (ne d)
        on_chain (suc k) d = d.1

    cause : IsCause (length ds) ds w.home.values w.home.time place variable
    cause = w.home.caused variable positive

    pub place_low : place < length ds
    place_low = cause.within

    -- at most as much as the bound
    at_least : w.home.values variable ≤ℤ (w.home.values (at ds place).x -ℤ (at ds place).c)
    at_least = ⊎_elim
        (λ (f : w.home.values variable <ℤ (w.home.values (at ds place).x -ℤ (at ds place).c)). omega (arith, ints, f))
        (λ (f : (w.home.values variable ≤ℤ (w.home.values (at ds place).x -ℤ (at ds place).c)) × (w.home.time (at ds place).x < w.home.time variable)). f.0)
        cause.forces

    abbrev Placed : ℕ → Type 0
    Placed x = (w.home.base x <ℤ w.home.values x) ⊎ ((k : ℕ) × Descends ds w.home.values (beside causes) w.home.chain k x (at ds last).y)

    -- the next variable, and that it precedes
    abbrev Next : Type 0
    Next = Placed (at ds place).x × Precedes (gain w.home.base w.home.values) w.home.time (at ds place).x variable

    next_raised : w.home.base variable <ℤ w.home.values variable → Next
    next_raised r =
        let v = w.home.values in
        let b = w.home.base in
        let x = (at ds place).x in
        let up = w.home.above variable in
        let least = at_least in
        let to = came_from ds causes last w.home place variable cause.within up (inr (r, least)) cause.ends in
        let gy = gain_raised b v variable r in
        let zero = w.home.from_zero variable in
        let top = w.home.top variable in (
          to,
          ⊎_elim
              (λ (older : place < length ds - 1).
              let m = w.home.solves place older in
              let e = ap b cause.ends in
              let rx : b x <ℤ v x = omega (arith, ints, m, e, r, least) in
              let gx = gain_raised b v x rx in
              ⊎_elim
              (λ (f : v variable <ℤ (v x -ℤ (at ds place).c)). inl (omega (arith, ints, m, e, f, gx, gy)))
              (λ (f : (v variable ≤ℤ (v x -ℤ (at ds place).c)) × (w.home.time x < w.home.time variable)). inr (let f0 = f.0 in omega (arith, ints, m, e, f0, gx, gy), f.1))
              cause.forces)
              (λ (newest : length ds - 1 ≤ place).
              let w1 = cause.within in
              let e : length ds - 1 ≡ place = omega (arith, newest, w1) in
              let kept : v x ≡ b x = subst (λ j. v (at ds j).x ≡ b (at ds j).x) e (w.home.kept _ w.home.own) in
              let gx = gain_kept b v x kept in
              inl (omega (arith, ints, gx, gy, zero, top)))
              (cases_lt place (length ds - 1)),
        )

    next_on_chain : (k : ℕ) → Descends ds w.home.values (beside causes) w.home.chain k variable (at ds last).y → Next
    next_on_chain zero d = absurd (ne d)
    next_on_chain (suc k) d =
        let v = w.home.values in
        let b = w.home.base in
        let x = (at ds place).x in
        let m = w.home.solves place d.2 in
        let e = ap b cause.ends in
        let kept_y = w.home.kept variable d.0 in
        let kept_x = kept_next k x d.3 in
        let gy = gain_kept b v variable kept_y in
        let gx = gain_kept b v x kept_x in (
          inr (k, d.3),
          ⊎_elim
              (λ (f : v variable <ℤ (v x -ℤ (at ds place).c)). absurd (omega (arith, ints, m, e, f, kept_x, kept_y)))
              (λ (f : (v variable ≤ℤ (v x -ℤ (at ds place).c)) × (w.home.time x < w.home.time variable)). inr (omega (arith, ints, gx, gy), f.1))
              cause.forces,
        )
      where
        kept_next : (k x : ℕ) → Descends ds w.home.values (beside causes) w.home.chain k x (at ds last).y → w.home.values x ≡ w.home.base x
        kept_next zero x d = w.home.kept x (subst (λ z. marked w.home.chain z ≡ true) (sym d) w.home.ends)
        kept_next (suc k) x d = w.home.kept x d.0

    next : Next
    next = ⊎_elim
        (λ (r : w.home.base variable <ℤ w.home.values variable). next_raised r)
        (λ (d : (k : ℕ) × Descends ds w.home.values (beside causes) w.home.chain k variable (at ds last).y). next_on_chain d.0 d.1)
        w.place

    apart_now : (k : ℕ) → k ≤ length causes - 1 - start → back ds causes (at ds last).x k ≡ (at ds last).y → ⊥
    apart_now k l e = ⊎_elim
        (λ (less : k < length causes - 1 - start). w.apart k less e)
        (λ (ge : length causes - 1 - start ≤ k).
        let s : k ≡ length causes - 1 - start = omega (arith, l, ge) in
        ne (w.reached ∙ ap (back ds causes (at ds last).x) (sym s) ∙ e))
        (cases_lt k (length causes - 1 - start))

    -- there is a place left
    pub place_left : 0 < start
    place_left = ⊎_elim
        (λ (none : start < 1).
        let s = w.starts in
        let end : length causes - 1 - start ≡ length causes - 1 = omega (arith, none) in
        let size : suc (length causes - 1) ≡ length causes = omega (arith, s) in
        absurd (no_room (gain w.home.base w.home.values) w.home.time (back ds causes (at ds last).x) (length causes - 1) (at ds last).y
        (λ k l. w.steps k (omega (arith, l, end)))
        (λ k l. let a = w.low k (omega (arith, l, end)) in omega (arith, a, size))
        (let r = (range last (diff 0 0 (pos 0)) w.home.within).1 in omega (arith, r, size))
        (λ k l e. apart_now k (omega (arith, l, end)) e)))
        (λ (more : 1 ≤ start). omega (arith, more))
        (cases_lt start 1)

    next_back : (at ds place).x ≡ back ds causes (at ds last).x (suc (length causes - 1 - start))
    unfolding back
    next_back = ap (λ y. (at ds (beside causes y)).x) w.reached

    module _ (i : ℕ) (before : i + 1 ≡ start) where
      abbrev written : List ℕ
      written = set cycle i place

      is_written : drop i written ≡ place ∷ drop start cycle
      is_written = drop-set cycle i place (let a = w.size in let b = w.starts in omega (arith, a, b, before)) ∙ ap (λ k. place ∷ drop k cycle) before

      one_step : length causes - 1 - i ≡ suc (length causes - 1 - start)
      one_step = let s = w.starts in omega (arith, s, before)

      pub writing_more : Writing ds causes written last (at ds place).x i
      unfolding back
      writing_more =
          let s = w.starts in
          let more = one_step in
          let m = length causes - 1 - start in
          let n = next in
          let x = (at ds last).x in
          record {
            size = length-set cycle i place ∙ w.size;
            starts = omega (arith, s, before);
            home = w.home;
            reached = next_back ∙ ap (back ds causes x) (sym more);
            low = λ k l. ⊎_elim
                (λ (less : k < suc m). w.low k (omega (arith, less)))
                (λ (ge : suc m ≤ k).
                subst (λ j. back ds causes x j < length causes) (let e : suc m ≡ k = omega (arith, l, ge, more) in e)
                (subst (λ z. z < length causes) next_back ((range place (diff 0 0 (pos 0)) cause.within).0)))
                (cases_lt k (suc m));
            apart = λ k l. apart_now k (omega (arith, l, more));
            steps = λ k l. ⊎_elim
                (λ (less : k < m). w.steps k less)
                (λ (ge : m ≤ k).
                subst (λ j. Precedes (gain w.home.base w.home.values) w.home.time (back ds causes x (suc j)) (back ds causes x j)) (let e : m ≡ k = omega (arith, l, ge, more) in e)
                (subst (λ y. Precedes (gain w.home.base w.home.values) w.home.time (back ds causes x (suc m)) y) w.reached
                (subst (λ a. Precedes (gain w.home.base w.home.values) w.home.time a variable) next_back n.1)))
                (cases_lt k m);
            place = n.0;
            within = subst (AllByRecursion (λ i. i < length ds)) (sym is_written) (cause.within, w.within);
            joins = subst (λ refs. Joins ds (at ds place).x refs (at ds last).y) (sym is_written) (refl, subst (λ u. Joins ds u (drop start cycle) (at ds last).y) (sym cause.ends) w.joins);
            sums = subst (λ refs. sum_of ds refs <ℤ (w.home.values (at ds place).x -ℤ w.home.values (at ds last).y)) (sym is_written) (let a = at_least in let b = w.sums in omega (arith, ints, a, b));
          }
