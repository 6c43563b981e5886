-- Walks back along causes: n steps among n variables come to a cycle, and the causes round it sum below 0
use Rattle.std.proofs.Common.{◌≡◌, ◌≢◌, ℕ, zero, suc, ◌+◌, ◌-◌, ◌<◌, ◌≤◌, List, [], ◌∷◌, length, map, set, drop, refl, sym, ◌∙◌, ap, subst, arith, ◌⊎◌, inl, inr, ⊎_elim, ℤ, pos, ◌-ℤ◌, ◌≤ℤ◌, ◌<ℤ◌}
use Rattle.std.specs.List.{AllByRecursion}
use Rattle.std.proofs.lemmas.Int.{ints}
use Rattle.std.proofs.Math.Seq.{drop-length}
use Rattle.std.proofs.lemmas.Bool.{cases_eq}
use Rattle.std.proofs.lemmas.List.{length-set, drop-set}
use Rattle.std.proofs.lemmas.List.Elements.{All-from_recursion}
use Rattle.tick_num.specs.declared.differences.Diff.{Diff}
use Rattle.tick_num.specs.Differences.{diff, InRange, NegativeCycle, named, sum_ℤ, Closes}
use Rattle.tick_num.proofs.Pigeons.{two_alike}
use Rattle.diff_solver.specs.Causes.{at, beside, before, back, IsCause, LeadsBack, ComesRound}

module _ (ds : List Diff) (causes : List ℕ) where
  pub back_start : (y : ℕ) → y ≡ back ds causes y 0
  unfolding back
  back_start y = refl

  pub back_next : (y k : ℕ) → before ds causes (back ds causes y k) ≡ back ds causes y (k + 1)
  unfolding back
  back_next y k = ap (back ds causes y) (let e : suc k ≡ k + 1 = omega arith in e)

  back-add : (y j k : ℕ) → back ds causes (back ds causes y j) k ≡ back ds causes y (j + k)
  unfolding back
  back-add y j zero = ap (back ds causes y) (let e : j ≡ j + 0 = omega arith in e)
  back-add y j (suc k) = ap (before ds causes) (back-add y j k) ∙ ap (back ds causes y) (let e : suc (j + k) ≡ j + suc k = omega arith in e)

  module _ (n y : ℕ) (range : InRange n ds) (low : y < n) (b : LeadsBack ds causes n y) where
    pub back_low : (k : ℕ) → k ≤ n → back ds causes y k < n
    unfolding back
    back_low zero l = low
    back_low (suc k) l = (range (beside causes (back ds causes y k)) (diff 0 0 (pos 0)) (b.caused k (omega (arith, l))).within).0

    -- from the first place of a repeat on the walk repeats
    repeats : (i p : ℕ) → back ds causes y (i + p) ≡ back ds causes y i → (k : ℕ) → back ds causes y (i + k + p) ≡ back ds causes y (i + k)
    unfolding back
    repeats i p e zero = ap (back ds causes y) (let f : i + 0 + p ≡ i + p = omega arith in f) ∙ e ∙ ap (back ds causes y) (let f : i ≡ i + 0 = omega arith in f)
    repeats i p e (suc k) =
        ap (back ds causes y) (let f : i + suc k + p ≡ suc (i + k + p) = omega arith in f)
        ∙ ap (before ds causes) (repeats i p e k)
        ∙ ap (back ds causes y) (let f : suc (i + k) ≡ i + suc k = omega arith in f)

    round_from : (i p : ℕ) → 1 ≤ p → i + p ≤ n → back ds causes y (i + p) ≡ back ds causes y i → ComesRound ds causes n (back ds causes y n)
    round_from i p some fits e = record {
      values = b.values;
      time = b.time;
      steps = p;
      some = some;
      few = omega (arith, fits);
      caused = λ k l.
          let m = n - p + k in
          let same : back ds causes y m ≡ back ds causes (back ds causes y n) k =
          sym (back-add y n k
          ∙ ap (back ds causes y) (let f : n + k ≡ i + (n - p - i + k) + p = omega (arith, fits) in f)
          ∙ repeats i p e (n - p - i + k)
          ∙ ap (back ds causes y) (let f : i + (n - p - i + k) ≡ n - p + k = omega (arith, fits) in f)) in
          subst (λ z. IsCause ds b.values b.time (beside causes z) z) same (b.caused m (omega (arith, l, fits)));
      closed =
          back-add y n p
          ∙ ap (back ds causes y) (let f : n + p ≡ i + (n - i) + p = omega (arith, fits) in f)
          ∙ repeats i p e (n - i)
          ∙ ap (back ds causes y) (let f : i + (n - i) ≡ n = omega (arith, fits) in f);
    }

    pub comes_round : ComesRound ds causes n (back ds causes y n)
    comes_round =
        let w = two_alike n (back ds causes y) (λ k l. back_low k (omega (arith, l))) in
        let p = w.1 - w.0 in
        round_from w.0 p (omega (arith, w.2)) (omega (arith, w.2, w.3)) (ap (back ds causes y) (let f : w.0 + p ≡ w.1 = omega (arith, w.2) in f) ∙ sym w.4)

  module _ (v : ℕ → ℤ) (time : ℕ → ℕ) where
    -- the constraints lead from x to z
    abbrev pub Joins : ℕ → List ℕ → ℕ → Type 0
    Joins x [] z = x ≡ z
    Joins x (i ∷ is) z = ((at ds i).x ≡ x) × Joins (at ds i).y is z

    abbrev pub sum_of : List ℕ → ℤ
    sum_of refs = sum_ℤ (map (λ d. d.c) (named ds refs))

    -- causes that lead from x to z: their bounds sum to no more than the values fall, and to less, or else x was raised before z
    pub record Walked (x z : ℕ) (refs : List ℕ) : Type 0 where
      pub within : AllByRecursion (λ i. i < length ds) refs
      pub joins : Joins x refs z
      pub falls : (sum_of refs <ℤ (v x -ℤ v z)) ⊎ ((sum_of refs ≤ℤ (v x -ℤ v z)) × (time x + length refs ≤ time z))

    pub walked_none : (x : ℕ) → Walked x x []
    walked_none x = record { within = tt; joins = refl; falls = inr (omega (arith, ints), omega arith) }

    pub walked_more : (i y z : ℕ) (refs : List ℕ) → IsCause ds v time i y → Walked y z refs → Walked (at ds i).x z (i ∷ refs)
    walked_more i y z refs c w = record {
      within = (c.within, w.within);
      joins = (refl, subst (λ u. Joins u refs z) (sym c.ends) w.joins);
      falls = ⊎_elim
          (λ (f : v y <ℤ (v (at ds i).x -ℤ (at ds i).c)). inl (⊎_elim
          (λ (g : sum_of refs <ℤ (v y -ℤ v z)). omega (arith, ints, f, g))
          (λ (g : (sum_of refs ≤ℤ (v y -ℤ v z)) × (time y + length refs ≤ time z)). let g0 = g.0 in omega (arith, ints, f, g0))
          w.falls))
          (λ (f : (v y ≤ℤ (v (at ds i).x -ℤ (at ds i).c)) × (time (at ds i).x < time y)). let f0 = f.0 in ⊎_elim
          (λ (g : sum_of refs <ℤ (v y -ℤ v z)). inl (omega (arith, ints, f0, g)))
          (λ (g : (sum_of refs ≤ℤ (v y -ℤ v z)) × (time y + length refs ≤ time z)). inr (let g0 = g.0 in omega (arith, ints, f0, g0), let f1 = f.1 in let g1 = g.1 in omega (arith, f1, g1)))
          w.falls)
          c.forces;
    }

    closes : (x z i : ℕ) (refs : List ℕ) → Joins x (i ∷ refs) z → Closes z (named ds (i ∷ refs))
    closes x z i [] j = j.1
    closes x z i (k ∷ refs) j = (sym j.1.0, closes (at ds i).y z k refs j.1)

    -- round a cycle
    pub cycle_of : (z i : ℕ) (refs : List ℕ) → Walked z z (i ∷ refs) → NegativeCycle ds (i ∷ refs)
    cycle_of z i refs w = record {
      within = All-from_recursion (λ i. i < length ds) (i ∷ refs) w.within;
      closed = subst (λ u. Closes u (named ds (i ∷ refs))) (sym w.joins.0) (closes z z i refs w.joins);
      negative = ⊎_elim
          (λ (f : sum_of (i ∷ refs) <ℤ (v z -ℤ v z)). omega (arith, ints, f))
          (λ (f : (sum_of (i ∷ refs) ≤ℤ (v z -ℤ v z)) × (time z + length (i ∷ refs) ≤ time z)). absurd (let f1 = f.1 in omega (arith, f1)))
          w.falls;
    }

-- ---- the cycle as far as it is written, from its end
pub record Writing (ds : List Diff) (causes cycle : List ℕ) (end variable start : ℕ) : Type 0 where
  pub size : length cycle ≡ length causes
  pub low : variable < length causes
  pub starts : start ≤ length causes
  pub round : ComesRound ds causes (length causes) end
  pub going : length causes - start < round.steps
  pub reached : variable ≡ back ds causes end (length causes - start)
  pub walked : Walked ds causes round.values round.time variable end (drop start cycle)

pub writing_none : (ds : List Diff) (causes cycle : List ℕ) (end : ℕ) → length cycle ≡ length causes → end < length causes → ComesRound ds causes (length causes) end → Writing ds causes cycle end end (length causes)
writing_none ds causes cycle end size low r =
    let none : length causes - length causes ≡ 0 = omega arith in
    record {
      size = size;
      low = low;
      starts = omega arith;
      round = r;
      going = omega (arith, none, r.some);
      reached = back_start ds causes end ∙ ap (back ds causes end) (sym none);
      walked = subst (Walked ds causes r.values r.time end end) (sym (ap (λ k. drop k cycle) (sym size) ∙ drop-length cycle)) (walked_none ds causes r.values r.time end);
    }

module _ (ds : List Diff) (causes cycle : List ℕ) (end variable start : ℕ) (range : InRange (length causes) ds) (w : Writing ds causes cycle end variable start) where
  pub writing_cause : IsCause ds w.round.values w.round.time (beside causes variable) variable
  writing_cause = subst (λ z. IsCause ds w.round.values w.round.time (beside causes z) z) (sym w.reached) (w.round.caused (length causes - start) w.going)

  module _ (i : ℕ) (next : i + 1 ≡ start) where
    abbrev written : List ℕ
    written = set cycle i (beside causes variable)

    is_written : drop i written ≡ beside causes variable ∷ drop start cycle
    is_written = drop-set cycle i (beside causes variable) (let a = w.size in let b = w.starts in omega (arith, a, b, next)) ∙ ap (λ k. beside causes variable ∷ drop k cycle) next

    walked_after : Walked ds causes w.round.values w.round.time (before ds causes variable) end (beside causes variable ∷ drop start cycle)
    walked_after = walked_more ds causes w.round.values w.round.time (beside causes variable) variable end (drop start cycle) writing_cause w.walked

    -- back at the end
    pub written_cycle : before ds causes variable ≡ end → NegativeCycle ds (drop i written)
    written_cycle e = subst (NegativeCycle ds) (sym is_written)
        (cycle_of ds causes w.round.values w.round.time end (beside causes variable) (drop start cycle)
        (subst (λ x. Walked ds causes w.round.values w.round.time x end (beside causes variable ∷ drop start cycle)) e walked_after))

    reached_after : before ds causes variable ≡ back ds causes end (length causes - i)
    reached_after =
        ap (before ds causes) w.reached ∙ back_next ds causes end (length causes - start)
        ∙ ap (back ds causes end) (let s = w.starts in let f : length causes - start + 1 ≡ length causes - i = omega (arith, s, next) in f)

    pub writing_more : (before ds causes variable ≡ end → ⊥) → Writing ds causes written end (before ds causes variable) i
    writing_more ne = record {
      size = length-set cycle i (beside causes variable) ∙ w.size;
      low = (range (beside causes variable) (diff 0 0 (pos 0)) writing_cause.within).0;
      starts = let s = w.starts in omega (arith, s, next);
      round = w.round;
      going =
          let s = w.starts in
          let g = w.going in
          ⊎_elim
          (λ (e : length causes - i ≡ w.round.steps). absurd (ne (reached_after ∙ ap (back ds causes end) e ∙ w.round.closed)))
          (λ (o : length causes - i ≡ w.round.steps → ⊥). let o' : length causes - i ≢ w.round.steps = o in omega (arith, s, g, next, o'))
          (cases_eq (length causes - i) w.round.steps);
      reached = reached_after;
      walked = subst (Walked ds causes w.round.values w.round.time (before ds causes variable) end) (sym is_written) walked_after;
    }

  pub writing_ends : start ≡ 0 → ⊥
  writing_ends e = let g = w.going in let f = w.round.few in omega (arith, e, g, f)
