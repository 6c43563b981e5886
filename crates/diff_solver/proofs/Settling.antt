-- Rounds from 0 on: they end with the least values, or the causes lead back from a variable
use Rattle.std.proofs.Common.{◌≡◌, ℕ, zero, suc, ◌+◌, ◌*◌, ◌<◌, ◌≤◌, List, length, replicate, All, refl, sym, ◌∙◌, subst, arith, ◌⊎◌, inl, inr, ⊎_elim, ℤ, pos, ◌+ℤ◌, ◌-ℤ◌, ◌≤ℤ◌, ◌<ℤ◌}
use Rattle.std.proofs.lemmas.Int.{ints}
use Rattle.std.proofs.lemmas.List.{length-replicate}
use Rattle.tick_num.specs.declared.differences.Diff.{Diff}
use Rattle.tick_num.specs.Differences.{diff, MeetsAll, LeastValues, listed}
use Rattle.diff_solver.specs.Bounds.{Small}
use Rattle.diff_solver.specs.Causes.{at, beside, back, LeadsBack}
use Rattle.diff_solver.specs.Raising.{StandsAfter, Within, Pending}

-- ---- before the first round
listed-zeros : (n y : ℕ) → listed (replicate n (pos 0)) y ≡ pos 0
listed-zeros zero y = refl
listed-zeros (suc n) zero = refl
listed-zeros (suc n) (suc y) = listed-zeros n y

beside-zeros : (n y : ℕ) → beside (replicate n 0) y ≡ 0
beside-zeros zero y = refl
beside-zeros (suc n) zero = refl
beside-zeros (suc n) (suc y) = beside-zeros n y

state_zeros : (ds : List Diff) (n : ℕ) (cs : List ℕ) → length cs ≡ n → StandsAfter ds 0 (replicate n (pos 0)) (replicate n 0) cs
state_zeros ds n cs size = record {
  rounds_size = length-replicate n 0 ∙ sym (length-replicate n (pos 0));
  causes_size = size ∙ sym (length-replicate n (pos 0));
  from_zero = λ y. let a = listed-zeros n y in omega (arith, ints, a);
  under = λ w m z y. let a = listed-zeros n y in let b = z y in omega (arith, ints, a, b);
  past = λ y. let a = beside-zeros n y in omega (arith, a);
  raised = λ y h. absurd (let a = listed-zeros n y in omega (arith, ints, a, h));
  near = λ y h. absurd (let a = beside-zeros n y in omega (arith, a, h));
  time = λ y. 0;
  now = 1;
  earlier = λ y. omega arith;
  caused = λ y h. absurd (let a = beside-zeros n y in omega (arith, a, h));
}

-- ---- between rounds
pub record Settling (ds : List Diff) (n round : ℕ) (vs : List ℤ) (rs cs : List ℕ) (last : ℕ) : Type 0 where
  pub size : length vs ≡ n
  pub state : StandsAfter ds round vs rs cs
  pub within : Within vs
  pub pending : Pending round ds vs rs
  pub late : (round ≡ 0) ⊎ ((last < n) × (round ≤ beside rs last))

pub settling_init : (ds : List Diff) (n : ℕ) (vs : List ℤ) (rs cs : List ℕ) (last : ℕ) → vs ≡ replicate n (pos 0) → rs ≡ replicate n 0 → length cs ≡ n → Settling ds n 0 vs rs cs last
settling_init ds n vs rs cs last ev er size = subst (λ (us : List ℤ). Settling ds n 0 us rs cs last) (sym ev) (subst (λ (us : List ℕ). Settling ds n 0 (replicate n (pos 0)) us cs last) (sym er) (record {
  size = length-replicate n (pos 0);
  state = state_zeros ds n cs size;
  within = λ y. let a = listed-zeros n y in omega (arith, ints, a);
  pending = λ i l. inr (omega arith);
  late = inl refl;
}))

pub least_values : (ds : List Diff) (round : ℕ) (vs : List ℤ) (rs cs : List ℕ) → StandsAfter ds round vs rs cs → MeetsAll (listed vs) ds → LeastValues ds (listed vs)
least_values ds round vs rs cs h m = record { solves = m; from_zero = h.from_zero; least = h.under }

module _ (ds : List Diff) (round : ℕ) (vs : List ℤ) (rs cs : List ℕ) (h : StandsAfter ds round vs rs cs) (y : ℕ) where
  -- a variable that was raised after n rounds
  late_back : (n : ℕ) → n ≤ beside rs y → (k : ℕ) → k < n → n ≤ beside rs (back ds cs y k) + k
  unfolding back
  late_back n late zero l = omega (arith, late)
  late_back n late (suc k) l =
      let a = late_back n late k (omega (arith, l)) in
      let b = h.near (back ds cs y k) (omega (arith, a, l)) in
      omega (arith, a, b)

  pub late_leads : (n : ℕ) → n ≤ beside rs y → LeadsBack ds cs n y
  late_leads n late = record {
    values = listed vs;
    time = h.time;
    caused = λ k l. h.caused (back ds cs y k) (let a = late_back n late k l in omega (arith, a, l));
  }

  module _ (small : All Small ds) (high : pos 7_680_000_000_000_000 <ℤ listed vs y) where
    some_back : (k : ℕ) → k ≤ 768 → pos 7_680_000_000_000_000 <ℤ (listed vs (back ds cs y k) +ℤ pos (k * 10_000_000_000_000)) → 1 ≤ beside rs (back ds cs y k)
    some_back k l a = h.raised (back ds cs y k) (omega (arith, ints, a, l))

    -- a variable that was raised above the limit
    high_back : (k : ℕ) → k ≤ 768 → pos 7_680_000_000_000_000 <ℤ (listed vs (back ds cs y k) +ℤ pos (k * 10_000_000_000_000))
    unfolding back
    high_back zero l = omega (arith, ints, high)
    high_back (suc k) l =
        let a = high_back k (omega (arith, l)) in
        let c = h.caused (back ds cs y k) (some_back k (omega (arith, l)) a) in
        let s = small (beside cs (back ds cs y k)) (diff 0 0 (pos 0)) c.within in
        let s0 = s.0 in
        ⊎_elim
        (λ (f : listed vs (back ds cs y k) <ℤ (listed vs (back ds cs y (suc k)) -ℤ (at ds (beside cs (back ds cs y k))).c)). omega (arith, ints, a, s0, f))
        (λ (f : (listed vs (back ds cs y k) ≤ℤ (listed vs (back ds cs y (suc k)) -ℤ (at ds (beside cs (back ds cs y k))).c)) × (h.time (back ds cs y (suc k)) < h.time (back ds cs y k))). let f0 = f.0 in omega (arith, ints, a, s0, f0))
        c.forces

    pub high_leads : (n : ℕ) → n ≤ 768 → LeadsBack ds cs n y
    high_leads n few = record {
      values = listed vs;
      time = h.time;
      caused = λ k l. h.caused (back ds cs y k) (some_back k (omega (arith, l, few)) (high_back k (omega (arith, l, few))));
    }
