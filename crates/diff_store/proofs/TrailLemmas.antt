-- What variables had before: entries that are added, and entries that are put back
use Rattle.std.proofs.Common.{◌≡◌, ◌≢◌, ℕ, zero, suc, ◌+◌, ◌*◌, ◌-◌, ◌<◌, ◌≤◌, Bool, true, false, cond, eqb, List, [], ◌∷◌, ◌++◌, length, set, take, drop, get_or, All, refl, sym, ◌∙◌, ap, subst, arith, inl, inr, ⊎_elim, ℤ, pos}
use Rattle.std.specs.List.{count_by}
use Rattle.std.proofs.lemmas.Bool.{cases_eq, cases_lt, eq-eqb, ne_eqb, cond-true, cond-false}
use Rattle.std.proofs.lemmas.List.{length-append, length-set, length-take-le, get_or_default, get_or_past, get_or-take, take-append-drop, get_or-set_same, get_or-set_other, drop-append-le, drop_all, take-take, take_all}
use Rattle.std.proofs.lemmas.List.Elements.{All-push}
use Rattle.std.proofs.lemmas.List.Sums.{sum_by-set, count_by-le-length}
use Rattle.tick_num.specs.Differences.{listed}
use Rattle.diff_store.specs.declared.trail.Was.{Was}
use Rattle.diff_store.specs.Causes.{beside, marked}
use Rattle.diff_store.specs.Trails.{Trailing, since, value_before, cause_before, SamePast, Replaces, HasEntry, Kept, KeepsPast, Ordered}

-- ---- what was before
value_same : (ws : List Was) (v v' : ℕ → ℤ) (y : ℕ) → v y ≡ v' y → value_before ws v y ≡ value_before ws v' y
value_same [] v v' y e = e
value_same (w ∷ ws) v v' y e = ap (cond (eqb y w.variable) w.value) (value_same ws v v' y e)

cause_same : (ws : List Was) (c c' : ℕ → ℕ) (y : ℕ) → c y ≡ c' y → cause_before ws c y ≡ cause_before ws c' y
cause_same [] c c' y e = e
cause_same (w ∷ ws) c c' y e = ap (cond (eqb y w.variable) w.cause) (cause_same ws c c' y e)

value_append : (us ws : List Was) (v : ℕ → ℤ) (y : ℕ) → value_before (us ++ ws) v y ≡ value_before us (value_before ws v) y
value_append [] ws v y = refl
value_append (u ∷ us) ws v y = ap (cond (eqb y u.variable) u.value) (value_append us ws v y)

cause_append : (us ws : List Was) (c : ℕ → ℕ) (y : ℕ) → cause_before (us ++ ws) c y ≡ cause_before us (cause_before ws c) y
cause_append [] ws c y = refl
cause_append (u ∷ us) ws c y = ap (cond (eqb y u.variable) u.cause) (cause_append us ws c y)

-- where there is an entry, it says what was before, whatever is now
value_has : (ws : List Was) (v v' : ℕ → ℤ) (y : ℕ) → HasEntry y ws → value_before ws v y ≡ value_before ws v' y
value_has [] v v' y h = absurd h
value_has (w ∷ ws) v v' y (inl e) = cond-true (eqb y w.variable) w.value _ (eq-eqb y w.variable e) ∙ sym (cond-true (eqb y w.variable) w.value _ (eq-eqb y w.variable e))
value_has (w ∷ ws) v v' y (inr h) = ap (cond (eqb y w.variable) w.value) (value_has ws v v' y h)

cause_has : (ws : List Was) (c c' : ℕ → ℕ) (y : ℕ) → HasEntry y ws → cause_before ws c y ≡ cause_before ws c' y
cause_has [] c c' y h = absurd h
cause_has (w ∷ ws) c c' y (inl e) = cond-true (eqb y w.variable) w.cause _ (eq-eqb y w.variable e) ∙ sym (cond-true (eqb y w.variable) w.cause _ (eq-eqb y w.variable e))
cause_has (w ∷ ws) c c' y (inr h) = ap (cond (eqb y w.variable) w.cause) (cause_has ws c c' y h)

has_left : (us ws : List Was) (y : ℕ) → HasEntry y us → HasEntry y (us ++ ws)
has_left [] ws y h = absurd h
has_left (u ∷ us) ws y (inl e) = inl e
has_left (u ∷ us) ws y (inr h) = inr (has_left us ws y h)

has_right : (us ws : List Was) (y : ℕ) → HasEntry y ws → HasEntry y (us ++ ws)
has_right [] ws y h = h
has_right (u ∷ us) ws y h = inr (has_right us ws y h)

has_part : (k : ℕ) (ws : List Was) (y : ℕ) → HasEntry y (drop k ws) → HasEntry y ws
has_part zero ws y h = h
has_part (suc k) [] y h = absurd h
has_part (suc k) (w ∷ ws) y h = inr (has_part k ws y h)

has_longer : (j k : ℕ) (ws : List Was) (y : ℕ) → j ≤ k → HasEntry y (drop k ws) → HasEntry y (drop j ws)
has_longer zero k ws y le h = has_part k ws y h
has_longer (suc j) zero ws y le h = absurd (omega (arith, le))
has_longer (suc j) (suc k) [] y le h = absurd h
has_longer (suc j) (suc k) (w ∷ ws) y le h = has_longer j k ws y (omega (arith, le)) h

-- one entry more
value_last : (us : List Was) (w : Was) (v v' : ℕ → ℤ) → v w.variable ≡ w.value → ((x : ℕ) → (x ≡ w.variable → ⊥) → v' x ≡ v x) → (x : ℕ) → value_before (us ++ w ∷ []) v' x ≡ value_before us v x
value_last us w v v' e else' x =
    value_append us (w ∷ []) v' x
    ∙ value_same us (value_before (w ∷ []) v') v x (⊎_elim
    (λ (s : x ≡ w.variable). cond-true (eqb x w.variable) w.value (v' x) (eq-eqb x w.variable s) ∙ sym e ∙ ap v (sym s))
    (λ (ne : x ≡ w.variable → ⊥). cond-false (eqb x w.variable) w.value (v' x) (ne_eqb x w.variable ne) ∙ else' x ne)
    (cases_eq x w.variable))

cause_last : (us : List Was) (w : Was) (c c' : ℕ → ℕ) → c w.variable ≡ w.cause → ((x : ℕ) → (x ≡ w.variable → ⊥) → c' x ≡ c x) → (x : ℕ) → cause_before (us ++ w ∷ []) c' x ≡ cause_before us c x
cause_last us w c c' e else' x =
    cause_append us (w ∷ []) c' x
    ∙ cause_same us (cause_before (w ∷ []) c') c x (⊎_elim
    (λ (s : x ≡ w.variable). cond-true (eqb x w.variable) w.cause (c' x) (eq-eqb x w.variable s) ∙ sym e ∙ ap c (sym s))
    (λ (ne : x ≡ w.variable → ⊥). cond-false (eqb x w.variable) w.cause (c' x) (ne_eqb x w.variable ne) ∙ else' x ne)
    (cases_eq x w.variable))

-- ---- a variable is kept
abbrev one : Bool → ℕ
one k = cond k 1 0

count_added : (ks : List Bool) (x : ℕ) → x < length ks → marked ks x ≡ false → count_by (λ k. k) (set ks x true) ≡ count_by (λ k. k) ks + 1
count_added ks x l h =
    let s = sum_by-set one ks x true false l in
    let e = ap one h in
    omega (arith, s, e)

abbrev start_of : Trailing → ℕ → ℕ
start_of t j = get_or t.starts j (length t.entries)

start_is : (t : Trailing) (j : ℕ) → j < length t.starts → start_of t j ≡ beside t.starts j
start_is t j l = get_or_default t.starts j (length t.entries) 0 l

module _ (n : ℕ) (t : Trailing) (o : Ordered n t) (k : Kept t) (y : ℕ) (value : ℤ) (cause : ℕ) where
  pub already : HasEntry y (since t (length t.starts - 1)) → (v v' : ℕ → ℤ) (c c' : ℕ → ℕ) → Replaces y value cause v v' c c' → KeepsPast t t v v' c c'
  already h v v' c c' r =
      let has : (j : ℕ) → j ≤ length t.starts - 1 → HasEntry y (since t j) = (λ j l.
      let some = k.some in
      let a = start_is t j (omega (arith, l, some)) in
      let b = start_is t (length t.starts - 1) (omega (arith, some)) in
      let rise = o.rise j (length t.starts - 1) l (omega (arith, some)) in
      has_longer (start_of t j) (start_of t (length t.starts - 1)) t.entries y (omega (arith, a, b, rise)) h) in
      record {
        kept = k;
        past = record {
          values = λ j l x. ⊎_elim
              (λ (s : x ≡ y). subst (λ z. value_before (since t j) v' z ≡ value_before (since t j) v z) (sym s) (value_has (since t j) v' v y (has j l)))
              (λ (ne : x ≡ y → ⊥). value_same (since t j) v' v x (r.values x ne))
              (cases_eq x y);
          causes = λ j l x. ⊎_elim
              (λ (s : x ≡ y). subst (λ z. cause_before (since t j) c' z ≡ cause_before (since t j) c z) (sym s) (cause_has (since t j) c' c y (has j l)))
              (λ (ne : x ≡ y → ⊥). cause_same (since t j) c' c x (r.causes x ne))
              (cases_eq x y);
        };
        starts = refl;
        pushes = refl;
        size = refl;
      }

  abbrev entry : Was
  entry = record { variable = y; cause = cause; value = value }

  abbrev added : Trailing
  added = record { pushes = t.pushes; entries = t.entries ++ entry ∷ []; starts = t.starts; kept = set t.kept y true }

  module _ (size : length t.kept ≡ n) (low : y < n) (free : marked t.kept y ≡ false) where
    count_more : count_by (λ k. k) (set t.kept y true) ≡ count_by (λ k. k) t.kept + 1
    count_more = count_added t.kept y (omega (arith, low, size)) free

    pub entries_room : length t.entries < n * length t.starts
    entries_room =
        let some = k.some in
        let few = k.few in
        let room = o.room (length t.starts - 1) (omega (arith, some)) in
        let c = count_more in
        let all = count_by-le-length (λ k. k) (set t.kept y true) in
        let s = length-set t.kept y true in
        let e : n * length t.starts ≡ n * (length t.starts - 1) + n = times n (length t.starts) some in
        omega (arith, few, room, c, all, s, e, size)
      where
        times : (n m : ℕ) → 0 < m → n * m ≡ n * (m - 1) + n
        times n m l = let e : m ≡ m - 1 + 1 = omega (arith, l) in let p = ap (λ k. n * k) e in omega (arith, p)

    pub added_ordered : Ordered n added
    added_ordered =
        let l = length-append t.entries (entry ∷ []) in
        let r = entries_room in
        record {
          rise = o.rise;
          within = λ j lj. let w = o.within j lj in omega (arith, w, l);
          room = o.room;
          filled = omega (arith, l, r);
          low = All-push (λ (w : Was). w.variable < n) t.entries entry o.low low;
        }

    since_added : (j : ℕ) → j ≤ length t.starts - 1 → since added j ≡ since t j ++ entry ∷ []
    since_added j l =
        let some = k.some in
        let in' : j < length t.starts = omega (arith, l, some) in
        let w = o.within j in' in
        let e = start_is t j in' in
        ap (λ i. drop i (t.entries ++ entry ∷ [])) (start_is added j in' ∙ sym e)
        ∙ drop-append-le (start_of t j) t.entries (entry ∷ []) (omega (arith, e, w))

    added_kept : Kept added
    added_kept = record {
      some = k.some;
      entry = λ x m. subst (HasEntry x) (sym (since_added (length t.starts - 1) (omega arith))) (⊎_elim
          (λ (s : x ≡ y). has_right (since t (length t.starts - 1)) (entry ∷ []) x (inl s))
          (λ (ne : x ≡ y → ⊥). let ne' : x ≢ y = ne in has_left (since t (length t.starts - 1)) (entry ∷ []) x (k.entry x (sym (get_or-set_other t.kept y x true false ne') ∙ m)))
          (cases_eq x y));
      few = let l = length-append t.entries (entry ∷ []) in let c = count_more in let f = k.few in omega (arith, l, c, f);
    }

    pub added_keeps : (v v' : ℕ → ℤ) (c c' : ℕ → ℕ) → Replaces y value cause v v' c c' → KeepsPast t added v v' c c'
    added_keeps v v' c c' r = record {
      kept = added_kept;
      past = record {
        values = λ j l x. ap (λ (ws : List Was). value_before ws v' x) (since_added j l) ∙ value_last (since t j) entry v v' r.value_was r.values x;
        causes = λ j l x. ap (λ (ws : List Was). cause_before ws c' x) (since_added j l) ∙ cause_last (since t j) entry c c' r.cause_was r.causes x;
      };
      starts = refl;
      pushes = refl;
      size = length-set t.kept y true;
    }

-- ---- entries are put back
split_last : (k : ℕ) (ws : List Was) (d : Was) → length ws ≡ k + 1 → ws ≡ take k ws ++ get_or ws k d ∷ []
split_last k [] d e = absurd (omega (arith, e))
split_last zero (w ∷ []) d e = refl
split_last zero (w ∷ u ∷ ws) d e = absurd (omega (arith, e))
split_last (suc k) (w ∷ ws) d e = ap (λ us. w ∷ us) (split_last k ws d (omega (arith, e)))

pub record PuttingBack (start : ℕ) (ws ws' : List Was) (vs vs' : List ℤ) (cs cs' : List ℕ) : Type 0 where
  pub front : ws' ≡ take (length ws') ws
  pub fits : length ws' ≤ length ws
  pub more : start ≤ length ws'
  pub values_size : length vs' ≡ length vs
  pub causes_size : length cs' ≡ length cs
  pub values : (y : ℕ) → value_before (drop start ws') (listed vs') y ≡ value_before (drop start ws) (listed vs) y
  pub causes : (y : ℕ) → cause_before (drop start ws') (beside cs') y ≡ cause_before (drop start ws) (beside cs) y

pub putting_none : (start : ℕ) (ws : List Was) (vs : List ℤ) (cs : List ℕ) → start ≤ length ws → PuttingBack start ws ws vs vs cs cs
putting_none start ws vs cs l = record {
  front = sym (take_all (length ws) ws (omega arith));
  fits = omega arith;
  more = l;
  values_size = refl;
  causes_size = refl;
  values = λ y. refl;
  causes = λ y. refl;
}

module _ (start : ℕ) (ws ws' : List Was) (vs vs' : List ℤ) (cs cs' : List ℕ) (b : PuttingBack start ws ws' vs vs' cs cs') where
  pub put_back_done : length ws' ≤ start → (ws' ≡ take start ws) × ((y : ℕ) → listed vs' y ≡ value_before (drop start ws) (listed vs) y) × ((y : ℕ) → beside cs' y ≡ cause_before (drop start ws) (beside cs) y)
  put_back_done le =
      let m = b.more in
      let none : drop start ws' ≡ [] = drop_all start ws' le in (
        b.front ∙ ap (λ k. take k ws) (let e : length ws' ≡ start = omega (arith, le, m) in e),
        λ y. ap (λ (us : List Was). value_before us (listed vs') y) (sym none) ∙ b.values y,
        λ y. ap (λ (us : List Was). cause_before us (beside cs') y) (sym none) ∙ b.causes y,
      )

  module _ (k : ℕ) (w : Was) (longer : length ws' ≡ k + 1) (le : start ≤ k) (is : w ≡ get_or ws' k w) (low : All (λ (u : Was). u.variable < length vs) ws) (size : length cs ≡ length vs) where
    pub last_low : w.variable < length vs
    last_low =
        let f = b.fits in
        let e = ap (λ (us : List Was). get_or us k w) b.front ∙ get_or-take (length ws') ws k w (omega (arith, longer)) in
        subst (λ (u : Was). u.variable < length vs) (sym (is ∙ e)) (low k w (omega (arith, longer, f)))

    whole : drop start ws' ≡ drop start (take k ws') ++ w ∷ []
    whole =
        let l = length-take-le k ws' (omega (arith, longer)) in
        ap (drop start) (split_last k ws' w longer ∙ ap (λ (u : Was). take k ws' ++ u ∷ []) (sym is))
        ∙ drop-append-le start (take k ws') (w ∷ []) (omega (arith, l, le))

    pub putting_more : PuttingBack start ws (take k ws') vs (set vs' w.variable w.value) cs (set cs' w.variable w.cause)
    putting_more =
        let l = length-take-le k ws' (omega (arith, longer)) in
        let f = b.fits in
        let low' = last_low in
        record {
          front = ap (take k) b.front ∙ take-take k (length ws') ws (omega (arith, longer)) ∙ ap (λ j. take j ws) (sym l);
          fits = omega (arith, l, longer, f);
          more = omega (arith, l, le);
          values_size = length-set vs' w.variable w.value ∙ b.values_size;
          causes_size = length-set cs' w.variable w.cause ∙ b.causes_size;
          values = λ y.
              sym (value_last (drop start (take k ws')) w (listed (set vs' w.variable w.value)) (listed vs')
              (get_or-set_same vs' w.variable w.value (pos 0) (let s = b.values_size in omega (arith, s, low')))
              (λ x ne. sym (get_or-set_other vs' w.variable x w.value (pos 0) ne)) y)
              ∙ ap (λ (us : List Was). value_before us (listed vs') y) (sym whole)
              ∙ b.values y;
          causes = λ y.
              sym (cause_last (drop start (take k ws')) w (beside (set cs' w.variable w.cause)) (beside cs')
              (get_or-set_same cs' w.variable w.cause 0 (let s = b.causes_size in omega (arith, s, low', size)))
              (λ x ne. sym (get_or-set_other cs' w.variable x w.cause 0 ne)) y)
              ∙ ap (λ (us : List Was). cause_before us (beside cs') y) (sym whole)
              ∙ b.causes y;
        }

module _ (n : ℕ) (t : Trailing) (o : Ordered n t) (entries : List Was) (starts : List ℕ) (kept : List Bool) (v v' : ℕ → ℤ) (c c' : ℕ → ℕ) (last start : ℕ) (some : length t.starts ≡ last + 1)
    (is : start ≡ beside t.starts last) (left : starts ≡ take last t.starts) (front : entries ≡ take start t.entries)
    (values : (y : ℕ) → v' y ≡ value_before (drop start t.entries) v y) (causes : (y : ℕ) → c' y ≡ cause_before (drop start t.entries) c y) where
  abbrev undone : Trailing
  undone = record { pushes = t.pushes; entries = entries; starts = starts; kept = kept }

  start_low : start ≤ length t.entries
  start_low = let w = o.within last (omega (arith, some)) in omega (arith, w, is)

  starts_size : length starts ≡ last
  starts_size = ap length left ∙ length-take-le last t.starts (omega (arith, some))

  start_undone : (j : ℕ) → j ≤ last → start_of undone j ≡ beside t.starts j
  start_undone j l = ⊎_elim
      (λ (less : j < last).
      get_or_default starts j (length entries) 0 (let s = starts_size in omega (arith, s, less))
      ∙ ap (λ ss. beside ss j) left
      ∙ get_or-take last t.starts j 0 less)
      (λ (ge : last ≤ j).
      let e : j ≡ last = omega (arith, l, ge) in
      get_or_past starts j (length entries) (let s = starts_size in omega (arith, s, ge))
      ∙ ap length front
      ∙ length-take-le start t.entries start_low
      ∙ is
      ∙ ap (beside t.starts) (sym e))
      (cases_lt j last)

  since_undone : (j : ℕ) → j ≤ last → since t j ≡ since undone j ++ drop start t.entries
  since_undone j l =
      let rise = o.rise j last l (omega (arith, some)) in
      let a = start_is t j (omega (arith, l, some)) in
      let b = start_undone j l in
      let e : start_of t j ≡ start_of undone j = a ∙ sym b in
      let size = length-take-le start t.entries start_low in
      ap (λ k. drop k t.entries) e
      ∙ ap (drop (start_of undone j)) (sym (take-append-drop start t.entries))
      ∙ drop-append-le (start_of undone j) (take start t.entries) (drop start t.entries) (omega (arith, b, size, is, rise))
      ∙ ap (λ (ws : List Was). drop (start_of undone j) ws ++ drop start t.entries) (sym front)

  pub undone_past : SamePast (length starts) t undone v v' c c'
  undone_past = let s = starts_size in record {
    values = λ j l y.
        value_same (since undone j) v' (value_before (drop start t.entries) v) y (values y)
        ∙ sym (ap (λ (ws : List Was). value_before ws v y) (since_undone j (omega (arith, l, s))) ∙ value_append (since undone j) (drop start t.entries) v y);
    causes = λ j l y.
        cause_same (since undone j) c' (cause_before (drop start t.entries) c) y (causes y)
        ∙ sym (ap (λ (ws : List Was). cause_before ws c y) (since_undone j (omega (arith, l, s))) ∙ cause_append (since undone j) (drop start t.entries) c y);
  }

-- ---- one step after the other
pub keeps_none : (t : Trailing) (v : ℕ → ℤ) (c : ℕ → ℕ) → Kept t → KeepsPast t t v v c c
keeps_none t v c k = record {
  kept = k;
  past = record { values = λ j l y. refl; causes = λ j l y. refl };
  starts = refl;
  pushes = refl;
  size = refl;
}

pub keeps_on : (t t1 t2 : Trailing) (v v1 v2 : ℕ → ℤ) (c c1 c2 : ℕ → ℕ) → KeepsPast t t1 v v1 c c1 → KeepsPast t1 t2 v1 v2 c1 c2 → KeepsPast t t2 v v2 c c2
keeps_on t t1 t2 v v1 v2 c c1 c2 a b =
    let same : length t1.starts ≡ length t.starts = ap length a.starts in
    record {
      kept = b.kept;
      past = record {
        values = λ j l y. b.past.values j (omega (arith, l, same)) y ∙ a.past.values j l y;
        causes = λ j l y. b.past.causes j (omega (arith, l, same)) y ∙ a.past.causes j l y;
      };
      starts = b.starts ∙ a.starts;
      pushes = b.pushes ∙ a.pushes;
      size = b.size ∙ a.size;
    }

pub past_on : (k : ℕ) (t t1 t2 : Trailing) (v v1 v2 : ℕ → ℤ) (c c1 c2 : ℕ → ℕ) → SamePast k t t1 v v1 c c1 → SamePast k t1 t2 v1 v2 c1 c2 → SamePast k t t2 v v2 c c2
past_on k t t1 t2 v v1 v2 c c1 c2 a b = record {
  values = λ j l y. b.values j l y ∙ a.values j l y;
  causes = λ j l y. b.causes j l y ∙ a.causes j l y;
}
