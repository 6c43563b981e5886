-- What a store keeps: shorter lists keep their least values, and the whole list has its own or a cycle
use Rattle.std.proofs.Common.{◌≡◌, ℕ, zero, suc, None, false, replicate, w64, to_z, of_z, ◌-◌, ◌<◌, ◌≤◌, List, [], ◌∷◌, ◌++◌, length, take, drop, All, refl, sym, ◌∙◌, ap, subst, arith, ◌⊎◌, inl, inr, ⊎_elim, ℤ, pos, ◌-ℤ◌, ◌≤ℤ◌, ◌<ℤ◌}
use Rattle.std.proofs.lemmas.Int.{ints}
use Rattle.std.proofs.lemmas.Bool.{cases_lt}
use Rattle.std.proofs.lemmas.List.{get_or_append_left, get_or-take, get_or_past, drop_all, length-replicate, get_or_default, length_push}
use Rattle.std.proofs.lemmas.List.Elements.{All-push}
use Rattle.tick_num.specs.declared.differences.Diff.{Diff}
use Rattle.tick_num.specs.Differences.{diff, Meets, MeetsAll, LeastValues, NegativeCycle, InRange, listed}
use Rattle.tick_num.proofs.Cycles.{cycles_exclude}
use Rattle.tick_num.proofs.Layers.{least_unique}
use Rattle.diff_store.specs.declared.trail.Was.{Was}
use Rattle.diff_store.specs.Bounds.{Small}
use Rattle.diff_store.specs.Leasts.{at, MeetsFirst, LeastOfFirst}
use Rattle.diff_store.specs.Causes.{beside, IsCause, HeldByFirst}
use Rattle.diff_store.specs.declared.chains.Links.{Links}
use Rattle.diff_store.specs.Chains.{IsLatest, IsEarliest, Chained, linked}
use Rattle.diff_store.specs.Raising.{NoneWaits}
use Rattle.diff_store.specs.Trails.{Trailing, since, value_before, cause_before, SamePast}
use Rattle.diff_store.specs.Standing.{Solved, Answered}
use Rattle.diff_store.proofs.Bounded.{low_values}
use Rattle.diff_store.proofs.Ticks.{tick_is}

-- ---- the first constraints and the whole list
pub meets_all : (ds : List Diff) (v : ℕ → ℤ) → MeetsFirst (length ds) ds v → MeetsAll v ds
meets_all ds v h k d l = subst (Meets v) (get_or_default ds k (diff 0 0 (pos 0)) d l) (h k l)

pub meets_first : (ds : List Diff) (v : ℕ → ℤ) → MeetsAll v ds → MeetsFirst (length ds) ds v
meets_first ds v h i l = h i (diff 0 0 (pos 0)) l

pub least_values : (ds : List Diff) (v : ℕ → ℤ) → LeastOfFirst (length ds) ds v → LeastValues ds v
least_values ds v h = record {
  solves = meets_all ds v h.solves;
  from_zero = h.from_zero;
  least = λ w m. h.least w (meets_first ds w m);
}

-- lists that agree as far as k
same_first : (k : ℕ) (ds ds' : List Diff) (v : ℕ → ℤ) → ((i : ℕ) → i < k → at ds i ≡ at ds' i) → LeastOfFirst k ds v → LeastOfFirst k ds' v
same_first k ds ds' v agree h = record {
  solves = λ i l. subst (Meets v) (agree i l) (h.solves i l);
  from_zero = h.from_zero;
  least = λ w m. h.least w (λ i l. subst (Meets w) (sym (agree i l)) (m i l));
}

-- ---- values and causes that are the same
values_same : (k : ℕ) (ds : List Diff) (v v' : ℕ → ℤ) → ((y : ℕ) → v' y ≡ v y) → LeastOfFirst k ds v → LeastOfFirst k ds v'
values_same k ds v v' same h = record {
  solves = λ i l. let m = h.solves i l in let a = same (at ds i).x in let b = same (at ds i).y in omega (arith, ints, m, a, b);
  from_zero = λ x. let z = h.from_zero x in let a = same x in omega (arith, ints, z, a);
  least = λ w m z x. let l = h.least w m z x in let a = same x in omega (arith, ints, l, a);
}

held_same : (k : ℕ) (ds : List Diff) (v v' : ℕ → ℤ) (c c' : ℕ → ℕ) → ((y : ℕ) → v' y ≡ v y) → ((y : ℕ) → c' y ≡ c y) → HeldByFirst k ds v c → HeldByFirst k ds v' c'
held_same k ds v v' c c' same same_c h = record {
  time = h.time;
  now = h.now;
  earlier = h.earlier;
  caused = λ y up.
      let a = same y in
      let i = h.caused y (omega (arith, ints, up, a)) in
      let b = same (at ds (c y)).x in
      subst (λ j. IsCause k ds v' h.time j y) (sym (same_c y)) (record {
        within = i.within;
        ends = i.ends;
        forces = ⊎_elim
            (λ (f : v y <ℤ (v (at ds (c y)).x -ℤ (at ds (c y)).c)). inl (omega (arith, ints, f, a, b)))
            (λ (f : (v y ≤ℤ (v (at ds (c y)).x -ℤ (at ds (c y)).c)) × (h.time (at ds (c y)).x < h.time y)). inr (let f0 = f.0 in omega (arith, ints, f0, a, b), f.1))
            i.forces;
      });
}

-- lists that agree as far as k
held_first : (k : ℕ) (ds ds' : List Diff) (v : ℕ → ℤ) (c : ℕ → ℕ) → ((i : ℕ) → i < k → at ds i ≡ at ds' i) → HeldByFirst k ds v c → HeldByFirst k ds' v c
held_first k ds ds' v c agree h = record {
  time = h.time;
  now = h.now;
  earlier = h.earlier;
  caused = λ y up.
      let i = h.caused y up in
      let e = agree (c y) i.within in
      record {
        within = i.within;
        ends = subst (λ (d : Diff). d.y ≡ y) e i.ends;
        forces = subst (λ (d : Diff). (v y <ℤ (v d.x -ℤ d.c)) ⊎ ((v y ≤ℤ (v d.x -ℤ d.c)) × (h.time d.x < h.time y))) e i.forces;
      };
}

agree_longer : (ds ds' : List Diff) (d : Diff) → ds' ≡ ds ++ d ∷ [] → (i : ℕ) → i < length ds → at ds i ≡ at ds' i
agree_longer ds ds' d e i l = sym (ap (λ es. at es i) e ∙ get_or_append_left ds (d ∷ []) (diff 0 0 (pos 0)) i l)

agree_shorter : (m : ℕ) (ds ds' : List Diff) → ds' ≡ take m ds → (i : ℕ) → i < m → at ds i ≡ at ds' i
agree_shorter m ds ds' e i l = sym (ap (λ es. at es i) e ∙ get_or-take m ds i (diff 0 0 (pos 0)) l)

solved_same : (k m : ℕ) (ds ds' : List Diff) (t t' : Trailing) (v v' : ℕ → ℤ) (c c' : ℕ → ℕ) → ((i : ℕ) → i < k → at ds i ≡ at ds' i) → k ≤ m → SamePast m t t' v v' c c' → Solved ds t v c k → Solved ds' t' v' c' k
solved_same k m ds ds' t t' v v' c c' agree le past s = record {
  least = values_same k ds' (value_before (since t k) v) (value_before (since t' k) v') (past.values k le) (same_first k ds ds' (value_before (since t k) v) agree s.least);
  held = held_same k ds' (value_before (since t k) v) (value_before (since t' k) v') (cause_before (since t k) c) (cause_before (since t' k) c') (past.values k le) (past.causes k le)
      (held_first k ds ds' (value_before (since t k) v) (cause_before (since t k) c) agree s.held);
}

-- ---- the answer
since_all : (t : Trailing) (k : ℕ) → length t.starts ≡ k → since t k ≡ []
since_all t k e =
    ap (λ i. drop i t.entries) (get_or_past t.starts k (length t.entries) (omega (arith, e)))
    ∙ drop_all (length t.entries) t.entries (omega arith)

pub solved_now : (ds : List Diff) (t : Trailing) (v : ℕ → ℤ) (c : ℕ → ℕ) → length t.starts ≡ length ds → LeastOfFirst (length ds) ds v → HeldByFirst (length ds) ds v c → Solved ds t v c (length ds)
solved_now ds t v c e l h = let none = sym (since_all t (length ds) e) in record {
  least = subst (λ (ws : List Was). LeastOfFirst (length ds) ds (value_before ws v)) none l;
  held = subst (λ (ws : List Was). HeldByFirst (length ds) ds (value_before ws v) (cause_before ws c)) none h;
}

module _ (ds : List Diff) (t : Trailing) (vs : List ℤ) (cs cycle : List ℕ) (h : Answered ds t vs cs cycle) where
  pub now_solved : (v : ℕ → ℤ) × MeetsAll v ds → Solved ds t (listed vs) (beside cs) (length ds)
  now_solved s = ⊎_elim
      (λ (a : Solved ds t (listed vs) (beside cs) (length ds)). a)
      (λ (c : NegativeCycle ds cycle). absurd (cycles_exclude ds cycle c s.0 s.1))
      h.now

  module _ (e : length t.starts ≡ length ds) where
    pub now_least : (v : ℕ → ℤ) × MeetsAll v ds → LeastOfFirst (length ds) ds (listed vs)
    now_least s = subst (λ (ws : List Was). LeastOfFirst (length ds) ds (value_before ws (listed vs))) (since_all t (length ds) e) (now_solved s).least

    pub now_held : (v : ℕ → ℤ) × MeetsAll v ds → HeldByFirst (length ds) ds (listed vs) (beside cs)
    now_held s = subst (λ (ws : List Was). HeldByFirst (length ds) ds (value_before ws (listed vs)) (cause_before ws (beside cs))) (since_all t (length ds) e) (now_solved s).held

    pub now_cycle : ((v : ℕ → ℤ) → MeetsAll v ds → ⊥) → NegativeCycle ds cycle
    now_cycle none = ⊎_elim
        (λ (a : Solved ds t (listed vs) (beside cs) (length ds)). absurd (none (listed vs) (meets_all ds (listed vs) (subst (λ (ws : List Was). LeastOfFirst (length ds) ds (value_before ws (listed vs))) (since_all t (length ds) e) a.least).solves)))
        (λ (c : NegativeCycle ds cycle). c)
        h.now

-- ---- a push
module _ (ds ds' : List Diff) (d : Diff) (e : ds' ≡ ds ++ d ∷ []) where
  longer : length ds ≡ length ds' - 1
  longer = let a = ap length e in let b = length_push ds d in omega (arith, a, b)

  pub least_of_older : (vs vs' : List ℤ) → vs' ≡ vs → LeastOfFirst (length ds) ds (listed vs) → LeastOfFirst (length ds' - 1) ds' (listed vs')
  least_of_older vs vs' ev h =
      subst (λ (us : List ℤ). LeastOfFirst (length ds' - 1) ds' (listed us)) (sym ev)
      (subst (λ k. LeastOfFirst k ds' (listed vs)) longer (same_first (length ds) ds ds' (listed vs) (agree_longer ds ds' d e) h))

  pub held_of_older : (vs vs' : List ℤ) (cs cs' : List ℕ) → vs' ≡ vs → cs' ≡ cs → HeldByFirst (length ds) ds (listed vs) (beside cs) → HeldByFirst (length ds' - 1) ds' (listed vs') (beside cs')
  held_of_older vs vs' cs cs' ev ec h =
      subst (λ (us : List ℤ). HeldByFirst (length ds' - 1) ds' (listed us) (beside cs')) (sym ev)
      (subst (λ (us : List ℕ). HeldByFirst (length ds' - 1) ds' (listed vs) (beside us)) (sym ec)
      (subst (λ k. HeldByFirst k ds' (listed vs) (beside cs)) longer (held_first (length ds) ds ds' (listed vs) (beside cs) (agree_longer ds ds' d e) h)))

  pub pushed_answered : (t t' : Trailing) (vs vs' : List ℤ) (cs cs' cycle cycle' : List ℕ) → Answered ds t vs cs cycle → Solved ds t (listed vs) (beside cs) (length ds) → length t.starts ≡ length ds →
      SamePast (length t.starts) t t' (listed vs) (listed vs') (beside cs) (beside cs') → Solved ds' t' (listed vs') (beside cs') (length ds') ⊎ NegativeCycle ds' cycle' → Answered ds' t' vs' cs' cycle'
  pushed_answered t t' vs vs' cs cs' cycle cycle' h now size past now' = record {
    before = λ k l.
        let m = longer in
        solved_same k (length t.starts) ds ds' t t' (listed vs) (listed vs') (beside cs) (beside cs')
        (λ i li. agree_longer ds ds' d e i (omega (arith, l, li, m)))
        (omega (arith, l, m, size)) past
        (⊎_elim
        (λ (less : k < length ds). h.before k less)
        (λ (ge : length ds ≤ k). subst (Solved ds t (listed vs) (beside cs)) (let s : length ds ≡ k = omega (arith, l, ge, m) in s) now)
        (cases_lt k (length ds)));
    now = now';
  }

-- ---- a pop
pub popped : (ds ds' : List Diff) (t t' : Trailing) (vs vs' : List ℤ) (cs cs' cycle : List ℕ) → Answered ds t vs cs cycle → 0 < length ds → ds' ≡ take (length ds - 1) ds → length ds' ≡ length ds - 1 → length t'.starts ≡ length ds' →
    SamePast (length t'.starts) t t' (listed vs) (listed vs') (beside cs) (beside cs') → Answered ds' t' vs' cs' cycle
popped ds ds' t t' vs vs' cs cs' cycle h some e shorter size past =
    let at_most : (k : ℕ) → k ≤ length ds' → Solved ds' t' (listed vs') (beside cs') k = (λ k l.
    solved_same k (length t'.starts) ds ds' t t' (listed vs) (listed vs') (beside cs) (beside cs')
    (λ i li. agree_shorter (length ds - 1) ds ds' e i (omega (arith, l, li, shorter)))
    (omega (arith, l, size)) past
    (h.before k (omega (arith, l, some, shorter)))) in
    record {
      before = λ k l. at_most k (omega (arith, l));
      now = inl (at_most (length ds') (omega arith));
    }

pub pushed_range : (n : ℕ) (ds ds' : List Diff) (d : Diff) → ds' ≡ ds ++ d ∷ [] → InRange n ds → d.x < n → d.y < n → InRange n ds'
pushed_range n ds ds' d e h x y = subst (InRange n) (sym e) (All-push (λ (c : Diff). (c.x < n) × (c.y < n)) ds d h (x, y))

pub pushed_small : (ds ds' : List Diff) (d : Diff) → ds' ≡ ds ++ d ∷ [] → All Small ds → Small d → All Small ds'
pushed_small ds ds' d e h s = subst (λ (cs : List Diff). All Small cs) (sym e) (All-push Small ds d h s)

-- ---- what is shown
module _ (n : ℕ) (ds : List Diff) (values : List ℤ) (few : n ≤ 400_000) (range : InRange n ds) (small : All Small ds) (h : LeastOfFirst (length ds) ds (listed values)) (x : ℕ) (t : ℤ) (is : t ≡ listed values x) where
  pub least_at : (v : ℕ → ℤ) × LeastValues ds v × (to_z w64 (of_z w64 t) ≡ v x)
  least_at =
      let low = low_values n (length ds) ds values few (omega arith) range small h x in
      (listed values, least_values ds (listed values) h, ap (λ u. to_z w64 (of_z w64 u)) is ∙ tick_is (listed values x) (h.from_zero x) low)

  pub least_is : (v : ℕ → ℤ) → LeastValues ds v → to_z w64 (of_z w64 t) ≡ v x
  least_is v least = let a = least_at in a.2 ∙ least_unique ds a.0 v a.1 least x

-- ---- at the start
listed-zeros : (n y : ℕ) → listed (replicate n (pos 0)) y ≡ pos 0
listed-zeros zero y = refl
listed-zeros (suc n) zero = refl
listed-zeros (suc n) (suc y) = listed-zeros n y

linked-none : (n x : ℕ) → linked (replicate n None) x ≡ None
linked-none zero x = refl
linked-none (suc n) zero = refl
linked-none (suc n) (suc x) = linked-none n x

pub empty_chained : (n : ℕ) (links : Links) → links.firsts.items ≡ replicate n None → links.lasts.items ≡ replicate n None → Chained n [] links
empty_chained n links firsts lasts = record {
  firsts_size = ap length firsts ∙ length-replicate n None;
  lasts_size = ap length lasts ∙ length-replicate n None;
  newer_room = omega arith;
  older_room = omega arith;
  first = λ x l. subst (IsEarliest [] x 0) (sym (ap (λ os. linked os x) firsts ∙ linked-none n x)) (record { within = tt; from = omega arith; same = tt; none_between = λ i a b e. omega (arith, b) });
  last = λ x l. subst (IsLatest [] x 0) (sym (ap (λ os. linked os x) lasts ∙ linked-none n x)) (record { within = omega arith; same = tt; none_between = λ i a b e. omega (arith, b) });
  newer = λ i l. absurd (omega (arith, l));
  older = λ i l. absurd (omega (arith, l));
}

pub empty_answered : (t : Trailing) (cs cycle : List ℕ) (n : ℕ) → t.starts ≡ [] → Answered [] t (replicate n (pos 0)) cs cycle
empty_answered t cs cycle n none = record {
  before = λ k l. absurd (omega (arith, l));
  now = inl (solved_now [] t (listed (replicate n (pos 0))) (beside cs) (ap length none) (record {
    solves = λ i l. absurd (omega (arith, l));
    from_zero = λ x. let a = listed-zeros n x in omega (arith, ints, a);
    least = λ w m z x. let a = listed-zeros n x in let b = z x in omega (arith, ints, a, b);
  }) (record {
    time = λ y. 0;
    now = 1;
    earlier = λ y. omega arith;
    caused = λ y up. absurd (let a = listed-zeros n y in omega (arith, ints, a, up));
  }));
}

pub none_waits : (n : ℕ) → NoneWaits (replicate n false)
none_waits zero x = refl
none_waits (suc n) zero = refl
none_waits (suc n) (suc x) = none_waits n x
