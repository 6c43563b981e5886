-- What a round keeps: each raise keeps the values from 0 on, below every solution and caused
use Rattle.std.proofs.Common.{◌≡◌, ℕ, ◌+◌, ◌<◌, ◌≤◌, cond, eqb, List, length, refl, sym, ◌∙◌, ap, subst, arith, inl, inr, ⊎_elim, ℤ, pos, ◌-ℤ◌, ◌≤ℤ◌, ◌<ℤ◌}
use Rattle.std.proofs.lemmas.Int.{ints}
use Rattle.std.proofs.lemmas.Bool.{cases_lt, cases_eq, eq-eqb, ne_eqb, cond-true, cond-false}
use Rattle.std.proofs.lemmas.List.{length-set, get_or-set_same, get_or-set_other, get_or_default}
use Rattle.tick_num.specs.declared.differences.Diff.{Diff}
use Rattle.tick_num.specs.Differences.{diff, Meets, listed, InRange}
use Rattle.diff_solver.specs.declared.rounds.Swept.{Swept}
use Rattle.diff_solver.specs.declared.rounds.Swept.TheVariants.{Settled, Raised, TooHigh}
use Rattle.diff_solver.specs.Causes.{at, beside, before, IsCause}
use Rattle.diff_solver.specs.Raising.{StandsAfter, Within, Awaits, Pending, Raises, Keeps, IsSwept}

-- f with the value w at y
put : (ℕ → ℕ) → ℕ → ℕ → ℕ → ℕ
put f y w x = cond (eqb x y) w (f x)

put_here : (f : ℕ → ℕ) (y w : ℕ) → put f y w y ≡ w
unfolding put
put_here f y w = cond-true (eqb y y) w (f y) (eq-eqb y y refl)

put_else : (f : ℕ → ℕ) (y w x : ℕ) → (x ≡ y → ⊥) → put f y w x ≡ f x
unfolding put
put_else f y w x ne = cond-false (eqb x y) w (f x) (ne_eqb x y ne)

-- the three lists after a raise of y, place by place
record Places (y : ℕ) (w : ℤ) (round i : ℕ) (vs : List ℤ) (rs cs : List ℕ) (vs' : List ℤ) (rs' cs' : List ℕ) : Type 0 where
  value : listed vs' y ≡ w
  mark : beside rs' y ≡ round
  cause : beside cs' y ≡ i
  values : (x : ℕ) → (x ≡ y → ⊥) → listed vs' x ≡ listed vs x
  marks : (x : ℕ) → (x ≡ y → ⊥) → beside rs' x ≡ beside rs x
  causes : (x : ℕ) → (x ≡ y → ⊥) → beside cs' x ≡ beside cs x

places : (d : Diff) (i round : ℕ) (vs : List ℤ) (rs cs : List ℕ) (vs' : List ℤ) (rs' cs' : List ℕ) → d.y < length vs → length rs ≡ length vs → length cs ≡ length vs →
    Raises d i round vs rs cs vs' rs' cs' → Places d.y (listed vs d.x -ℤ d.c) round i vs rs cs vs' rs' cs'
places d i round vs rs cs vs' rs' cs' l er ec h =
    let w = listed vs d.x -ℤ d.c in
    record {
      value = ap (λ (us : List ℤ). listed us d.y) h.value ∙ get_or-set_same vs d.y w (pos 0) l;
      mark = ap (λ (us : List ℕ). beside us d.y) h.marked ∙ get_or-set_same rs d.y round 0 (omega (arith, l, er));
      cause = ap (λ (us : List ℕ). beside us d.y) h.cause ∙ get_or-set_same cs d.y i 0 (omega (arith, l, ec));
      values = λ x ne. ap (λ (us : List ℤ). listed us x) h.value ∙ get_or-set_other vs d.y x w (pos 0) ne;
      marks = λ x ne. ap (λ (us : List ℕ). beside us x) h.marked ∙ get_or-set_other rs d.y x round 0 ne;
      causes = λ x ne. ap (λ (us : List ℕ). beside us x) h.cause ∙ get_or-set_other cs d.y x i 0 ne;
    }

-- what stands at two places that are one
here : {A : Type 0} (f : ℕ → A) (x y : ℕ) (a : A) → f y ≡ a → x ≡ y → f x ≡ a
here f x y a h e = ap f e ∙ h

module _ (ds : List Diff) (i round : ℕ) (vs : List ℤ) (rs cs : List ℕ) (vs' : List ℤ) (rs' cs' : List ℕ) (within : i < length ds) (recent : round ≤ beside rs (at ds i).x) (state : StandsAfter ds (round + 1) vs rs cs)
    (less : listed vs (at ds i).y <ℤ (listed vs (at ds i).x -ℤ (at ds i).c))
    (p : Places (at ds i).y (listed vs (at ds i).x -ℤ (at ds i).c) (round + 1) i vs rs cs vs' rs' cs') where
  -- no value falls, and no mark
  rises : (x : ℕ) → listed vs x ≤ℤ listed vs' x
  rises x = ⊎_elim
      (λ (e : x ≡ (at ds i).y). let a = here (listed vs') x _ _ p.value e in let b = ap (listed vs) e in omega (arith, ints, less, a, b))
      (λ (ne : x ≡ (at ds i).y → ⊥). let a = p.values x ne in omega (arith, ints, a))
      (cases_eq x (at ds i).y)

  marked : (x : ℕ) → beside rs x ≤ beside rs' x
  marked x = ⊎_elim
      (λ (e : x ≡ (at ds i).y). let a = here (beside rs') x _ _ p.mark e in let b = state.past x in omega (arith, a, b))
      (λ (ne : x ≡ (at ds i).y → ⊥). let a = p.marks x ne in omega (arith, a))
      (cases_eq x (at ds i).y)

  abbrev time' : ℕ → ℕ
  time' = put state.time (at ds i).y state.now

  -- the cause of y
  caused_here : IsCause ds (listed vs') time' i (at ds i).y
  caused_here = record {
    within = within;
    ends = refl;
    forces = ⊎_elim
        (λ (e : (at ds i).x ≡ (at ds i).y). inl (let a = here (listed vs') _ _ _ p.value e in let b = ap (listed vs) e in let v = p.value in omega (arith, ints, a, b, v, less)))
        (λ (ne : (at ds i).x ≡ (at ds i).y → ⊥). inr (
          let a = p.values _ ne in let v = p.value in omega (arith, ints, a, v),
          let a = put_else state.time (at ds i).y state.now _ ne in let b = put_here state.time (at ds i).y state.now in let l = state.earlier (at ds i).x in omega (arith, a, b, l),
        ))
        (cases_eq (at ds i).x (at ds i).y);
  }

  -- the cause of another
  caused_else : (z j : ℕ) → (z ≡ (at ds i).y → ⊥) → IsCause ds (listed vs) state.time j z → IsCause ds (listed vs') time' j z
  caused_else z j ne h = record {
    within = h.within;
    ends = h.ends;
    forces =
        let same = p.values z ne in
        let s = put_else state.time (at ds i).y state.now z ne in
        ⊎_elim
        (λ (e : (at ds j).x ≡ (at ds i).y). inl (
        let a = here (listed vs') _ _ _ p.value e in
        let b = ap (listed vs) e in
        ⊎_elim
        (λ (f : listed vs z <ℤ (listed vs (at ds j).x -ℤ (at ds j).c)). omega (arith, ints, a, b, f, same, less))
        (λ (f : (listed vs z ≤ℤ (listed vs (at ds j).x -ℤ (at ds j).c)) × (state.time (at ds j).x < state.time z)). let f0 = f.0 in omega (arith, ints, a, b, f0, same, less))
        h.forces))
        (λ (o : (at ds j).x ≡ (at ds i).y → ⊥).
        let a = p.values (at ds j).x o in
        let t = put_else state.time (at ds i).y state.now (at ds j).x o in
        ⊎_elim
        (λ (f : listed vs z <ℤ (listed vs (at ds j).x -ℤ (at ds j).c)). inl (omega (arith, ints, a, f, same)))
        (λ (f : (listed vs z ≤ℤ (listed vs (at ds j).x -ℤ (at ds j).c)) × (state.time (at ds j).x < state.time z)). inr (let f0 = f.0 in omega (arith, ints, a, f0, same), let f1 = f.1 in omega (arith, t, f1, s)))
        h.forces)
        (cases_eq (at ds j).x (at ds i).y);
  }

  near_here : round + 1 ≤ beside rs' (at ds i).x + 1
  near_here = let m = marked (at ds i).x in omega (arith, recent, m)

  raised_state : length rs' ≡ length vs' → length cs' ≡ length vs' → StandsAfter ds (round + 1) vs' rs' cs'
  raised_state er ec = record {
    rounds_size = er;
    causes_size = ec;
    from_zero = λ x. let a = rises x in let b = state.from_zero x in omega (arith, ints, a, b);
    under = λ w m z x. ⊎_elim
        (λ (e : x ≡ (at ds i).y).
        let a = here (listed vs') x _ _ p.value e in
        let b = ap w e in
        let u = state.under w m z (at ds i).x in
        let meets = m i (diff 0 0 (pos 0)) within in
        omega (arith, ints, a, b, u, meets))
        (λ (ne : x ≡ (at ds i).y → ⊥). let a = p.values x ne in let u = state.under w m z x in omega (arith, ints, a, u))
        (cases_eq x (at ds i).y);
    past = λ x. ⊎_elim
        (λ (e : x ≡ (at ds i).y). let a = here (beside rs') x _ _ p.mark e in omega (arith, a))
        (λ (ne : x ≡ (at ds i).y → ⊥). let a = p.marks x ne in let b = state.past x in omega (arith, a, b))
        (cases_eq x (at ds i).y);
    raised = λ x some. ⊎_elim
        (λ (e : x ≡ (at ds i).y). let a = here (beside rs') x _ _ p.mark e in omega (arith, a))
        (λ (ne : x ≡ (at ds i).y → ⊥). let a = p.marks x ne in let v = p.values x ne in let b = state.raised x (omega (arith, ints, v, some)) in omega (arith, a, b))
        (cases_eq x (at ds i).y);
    near = λ x some. ⊎_elim
        (λ (e : x ≡ (at ds i).y).
        let a = here (beside rs') x _ _ p.mark e in
        let c = ap (λ k. beside rs' (at ds k).x) (here (beside cs') x _ _ p.cause e) in
        let n = near_here in
        omega (arith, a, c, n))
        (λ (ne : x ≡ (at ds i).y → ⊥).
        let a = p.marks x ne in
        let c = ap (λ k. beside rs' (at ds k).x) (p.causes x ne) in
        let n = state.near x (omega (arith, a, some)) in
        let m = marked (before ds cs x) in
        omega (arith, a, c, n, m))
        (cases_eq x (at ds i).y);
    time = time';
    now = state.now + 1;
    earlier = λ x. ⊎_elim
        (λ (e : x ≡ (at ds i).y). let a = here time' x _ _ (put_here state.time (at ds i).y state.now) e in omega (arith, a))
        (λ (ne : x ≡ (at ds i).y → ⊥). let a = put_else state.time (at ds i).y state.now x ne in let b = state.earlier x in omega (arith, a, b))
        (cases_eq x (at ds i).y);
    caused = λ x some. ⊎_elim
        (λ (e : x ≡ (at ds i).y). subst (λ k. IsCause ds (listed vs') time' k x) (sym (here (beside cs') x _ _ p.cause e)) (subst (IsCause ds (listed vs') time' i) (sym e) caused_here))
        (λ (ne : x ≡ (at ds i).y → ⊥).
        let a = p.marks x ne in
        subst (λ k. IsCause ds (listed vs') time' k x) (sym (p.causes x ne)) (caused_else x (beside cs x) ne (state.caused x (omega (arith, a, some)))))
        (cases_eq x (at ds i).y);
  }

  -- what awaits the round still does
  awaits_after : (k : ℕ) (d : Diff) → k ≤ round + 1 → Awaits k vs rs d → Awaits k vs' rs' d
  awaits_after k d l h = ⊎_elim
      (λ (e : d.x ≡ (at ds i).y). inr (let a = here (beside rs') d.x _ _ p.mark e in omega (arith, a, l)))
      (λ (ne : d.x ≡ (at ds i).y → ⊥). ⊎_elim
      (λ (m : Meets (listed vs) d). inl (let a = p.values d.x ne in let b = rises d.y in omega (arith, ints, a, b, m)))
      (λ (m : k ≤ beside rs d.x). inr (let a = marked d.x in omega (arith, a, m)))
      h)
      (cases_eq d.x (at ds i).y)

  awaits_here : Awaits (round + 1) vs' rs' (at ds i)
  awaits_here = ⊎_elim
      (λ (e : (at ds i).x ≡ (at ds i).y). inr (let a = here (beside rs') (at ds i).x _ _ p.mark e in omega (arith, a)))
      (λ (ne : (at ds i).x ≡ (at ds i).y → ⊥). inl (let a = p.values (at ds i).x ne in let b = p.value in omega (arith, ints, a, b)))
      (cases_eq (at ds i).x (at ds i).y)

  within_after : Within vs → listed vs' (at ds i).y ≤ℤ pos 7_680_000_000_000_000 → Within vs'
  within_after h l x = ⊎_elim
      (λ (e : x ≡ (at ds i).y). let a = ap (listed vs') e in omega (arith, ints, a, l))
      (λ (ne : x ≡ (at ds i).y → ⊥). let a = p.values x ne in let b = h x in omega (arith, ints, a, b))
      (cases_eq x (at ds i).y)

-- ---- the round as far as a position
-- the variable last raised has the mark of this round, or none has it
abbrev pub IsLast : ℕ → ℕ → List ℕ → Swept → Type 0
IsLast round n rs Settled = (y : ℕ) → beside rs y ≤ round
IsLast round n rs (Raised y) = (y < n) × (round + 1 ≤ beside rs y)
IsLast round n rs (TooHigh y) = ⊥

pub record Sweeping (ds : List Diff) (round : ℕ) (vs : List ℤ) (rs cs : List ℕ) (swept : Swept) (position : ℕ) : Type 0 where
  pub state : StandsAfter ds (round + 1) vs rs cs
  pub within : Within vs
  pub done : (j : ℕ) → j < position → Awaits (round + 1) vs rs (at ds j)
  pub due : Pending round ds vs rs
  pub last : IsLast round (length vs) rs swept

state_next : (ds : List Diff) (round : ℕ) (vs : List ℤ) (rs cs : List ℕ) → StandsAfter ds round vs rs cs → StandsAfter ds (round + 1) vs rs cs
state_next ds round vs rs cs h = record {
  rounds_size = h.rounds_size;
  causes_size = h.causes_size;
  from_zero = h.from_zero;
  under = h.under;
  past = λ y. let a = h.past y in omega (arith, a);
  raised = h.raised;
  near = h.near;
  time = h.time;
  now = h.now;
  earlier = h.earlier;
  caused = h.caused;
}

pub sweeping_init : (ds : List Diff) (round : ℕ) (vs : List ℤ) (rs cs : List ℕ) → StandsAfter ds round vs rs cs → Within vs → Pending round ds vs rs → Sweeping ds round vs rs cs Settled 0
sweeping_init ds round vs rs cs h within due = record {
  state = state_next ds round vs rs cs h;
  within = within;
  due = due;
  done = λ j l. absurd (omega (arith, l));
  last = h.past;
}

-- the facts below i, and at i
more : (P : ℕ → Type 0) (i : ℕ) → ((j : ℕ) → j < i → P j) → P i → (j : ℕ) → j < i + 1 → P j
more P i below this j l = ⊎_elim (λ (less : j < i). below j less) (λ (ge : i ≤ j). subst P (let e : i ≡ j = omega (arith, l, ge) in e) this) (cases_lt j i)

module _ (ds : List Diff) (round : ℕ) (vs : List ℤ) (rs cs : List ℕ) (swept : Swept) (i : ℕ) (s : Sweeping ds round vs rs cs swept i) where
  -- a constraint that is met
  pub sweeping_met : Meets (listed vs) (at ds i) → Sweeping ds round vs rs cs swept (i + 1)
  sweeping_met m = record {
    state = s.state;
    within = s.within;
    due = s.due;
    last = s.last;
    done = more (λ j. Awaits (round + 1) vs rs (at ds j)) i s.done (inl m);
  }

  -- a constraint from a variable that was not raised of late
  pub sweeping_skips : i < length ds → beside rs (at ds i).x < round → Sweeping ds round vs rs cs swept (i + 1)
  sweeping_skips l old = ⊎_elim
      (λ (m : Meets (listed vs) (at ds i)). sweeping_met m)
      (λ (recent : round ≤ beside rs (at ds i).x). absurd (omega (arith, old, recent)))
      (s.due i l)

  pub sweeping_keeps : (vs' : List ℤ) (rs' cs' : List ℕ) → Keeps (at ds i) vs rs cs vs' rs' cs' → Sweeping ds round vs' rs' cs' swept (i + 1)
  sweeping_keeps vs' rs' cs' k =
      subst (λ (us : List ℤ). Sweeping ds round us rs' cs' swept (i + 1)) (sym k.value)
      (subst (λ (us : List ℕ). Sweeping ds round vs us cs' swept (i + 1)) (sym k.marked)
      (subst (λ (us : List ℕ). Sweeping ds round vs rs us swept (i + 1)) (sym k.cause) (sweeping_met k.met)))

  module _ (n : ℕ) (size : length vs ≡ n) (range : InRange n ds) (l : i < length ds) (recent : round ≤ beside rs (at ds i).x)
      (vs' : List ℤ) (rs' cs' : List ℕ) (h : Raises (at ds i) i (round + 1) vs rs cs vs' rs' cs') where
    low : (at ds i).y < length vs
    low = let r = range i (diff 0 0 (pos 0)) l in let r1 = r.1 in omega (arith, r1, size)

    at_places : Places (at ds i).y (listed vs (at ds i).x -ℤ (at ds i).c) (round + 1) i vs rs cs vs' rs' cs'
    at_places = places (at ds i) i (round + 1) vs rs cs vs' rs' cs' low s.state.rounds_size s.state.causes_size h

    size' : length vs' ≡ length vs
    size' = ap length h.value ∙ length-set vs (at ds i).y (listed vs (at ds i).x -ℤ (at ds i).c)

    pub raises_state : StandsAfter ds (round + 1) vs' rs' cs'
    raises_state = raised_state ds i round vs rs cs vs' rs' cs' l recent s.state h.less at_places
        (ap length h.marked ∙ length-set rs (at ds i).y (round + 1) ∙ s.state.rounds_size ∙ sym size')
        (ap length h.cause ∙ length-set cs (at ds i).y i ∙ s.state.causes_size ∙ sym size')

    pub sweeping_raises : listed vs' (at ds i).y ≤ℤ pos 7_680_000_000_000_000 → Sweeping ds round vs' rs' cs' (Raised (at ds i).y) (i + 1)
    sweeping_raises top = record {
      state = raises_state;
      within = within_after ds i round vs rs cs vs' rs' cs' l recent s.state h.less at_places s.within top;
      done = more (λ j. Awaits (round + 1) vs' rs' (at ds j)) i
          (λ j lj. awaits_after ds i round vs rs cs vs' rs' cs' l recent s.state h.less at_places (round + 1) (at ds j) (omega arith) (s.done j lj))
          (awaits_here ds i round vs rs cs vs' rs' cs' l recent s.state h.less at_places);
      due = λ j lj. awaits_after ds i round vs rs cs vs' rs' cs' l recent s.state h.less at_places round (at ds j) (omega arith) (s.due j lj);
      last = (let a = low in omega (arith, a, size'), let a = at_places.mark in omega (arith, a));
    }

    pub too_high : pos 7_680_000_000_000_000 <ℤ listed vs' (at ds i).y → IsSwept ds (round + 1) vs' rs' (TooHigh (at ds i).y)
    too_high top = (let a = low in omega (arith, a, size'), top)

-- the whole round
pub swept_whole : (ds : List Diff) (round : ℕ) (vs : List ℤ) (rs cs : List ℕ) (swept : Swept) (i : ℕ) → length ds ≤ i → Sweeping ds round vs rs cs swept i → IsSwept ds (round + 1) vs rs swept
swept_whole ds round vs rs cs Settled i l s = λ j d lj. subst (Meets (listed vs)) (get_or_default ds j (diff 0 0 (pos 0)) d lj)
    (⊎_elim
    (λ (m : Meets (listed vs) (at ds j)). m)
    (λ (late : round + 1 ≤ beside rs (at ds j).x). absurd (let old = s.last (at ds j).x in omega (arith, late, old)))
    (s.done j (omega (arith, l, lj))))
swept_whole ds round vs rs cs (Raised y) i l s = (s.last.0, s.last.1, λ j lj. s.done j (omega (arith, l, lj)), s.within)
swept_whole ds round vs rs cs (TooHigh y) i l s = absurd s.last
