-- The copies of a window are counted round by round
use Rattle.std.proofs.Common.{◌≡◌, ℕ, zero, suc, ◌+◌, ◌≤◌, ◌<◌, ⊎_elim, Bool, true, false, cond, ◌&&◌, ◌||◌, List, [], ◌∷◌, length, length-append, get_or, refl, sym, ◌∙◌, ap, arith, int_le, ℤ, pos, negsuc, ◌+ℤ◌, ◌-ℤ◌, ◌≤ℤ◌, to_z, of_z, w64, FitsSigned, to_z-of_z}
use Rattle.std.specs.List.{filter, flat_map}
use Rattle.std.proofs.lemmas.Int.{ints}
use Rattle.std.proofs.lemmas.Bool.{cases_lt}
use Rattle.std.proofs.lemmas.List.Elements.{All-get_or, filter-append}
use Rattle.sched_model.specs.declared.schedule.Schedule.{Schedule}
use Rattle.sched_model.specs.Numbers.{below, has}
use Rattle.sched_model.specs.ServedCounts.{one_if, how_many}
use Rattle.sched_model.specs.TimeLimits.{HasTimes, IsTime}
use Rattle.sched_model.proofs.Lists.{flat_below-suc}
use Rattle.runtime_model.specs.Copies.{copy_of}
use Rattle.node_tables.specs.OwnParts.{counts, counted_at}
use Rattle.node_tables.proofs.Images.{fits_between}
use Rattle.node_tables.proofs.PartLists.{same_time}

-- the length of a list with an element for each number that passes is a count
count_is : (t : ℤ → Bool) (b : ℕ → Bool) (g : ℕ → ℤ) (n : ℕ) → length (filter t (flat_map (λ j. cond (b j) (g j ∷ []) []) (below n))) ≡ how_many (λ j. b j && t (g j)) n
count_is t b g zero = refl
count_is t b g (suc n) =
    let part = λ (j : ℕ). cond (b j) (g j ∷ []) [] in
    let all = ap (λ (xs : List ℤ). length (filter t xs)) (flat_below-suc part n)
    ∙ ap (λ (xs : List ℤ). length xs) (filter-append t (flat_map part (below n)) (part n)) ∙ length-append (filter t (flat_map part (below n))) (filter t (part n)) in
    omega (arith, all, count_is t b g n, one_more (b n) (g n))
  where
    one_more : (b : Bool) (z : ℤ) → length (filter t (cond b (z ∷ []) [])) ≡ one_if (b && t z)
    one_more true z = by_test (t z)
      where
        by_test : (c : Bool) → length (cond c (z ∷ []) []) ≡ one_if c
        by_test true = refl
        by_test false = refl
    one_more false z = refl

-- a time, a hyperperiod earlier
signed_is : (n : ℕ) → n ≤ 1000000000000 → to_z w64 n ≡ pos n
signed_is n small = omega (arith, ints, small)

earlier_is : (z : ℤ) (hyper : ℕ) → IsTime z → hyper ≤ 1000000000000 → to_z w64 (of_z w64 (z -ℤ to_z w64 hyper)) ≡ z -ℤ pos hyper
earlier_is z hyper is small =
    ap (λ (h : ℤ). to_z w64 (of_z w64 (z -ℤ h))) (signed_is hyper small)
    ∙ to_z-of_z (fits_between (z -ℤ pos hyper) (omega (arith, ints, is.0, small)) (omega (arith, ints, is.1)))

module _ (s : Schedule) (hyper number : ℕ) (low high : ℤ) where
  abbrev at : ℤ → ℕ → ℕ
  at begin n = how_many (counts s number begin low high) n

  -- the copies in the first n rounds
  abbrev pub up_to : ℕ → ℕ
  up_to n = at (pos 0 -ℤ pos hyper) n + at (pos 0) n

  pub up_to_more : (n : ℕ) → up_to (n + 1) ≡ up_to n + counted_at s hyper number low high n
  up_to_more n =
      let o : n + 1 ≡ suc n = omega arith in
      ap up_to o ∙ (let e : up_to (suc n) ≡ up_to n + counted_at s hyper number low high n = omega arith in e)

  pub up_to_rises : (n k : ℕ) → n ≤ k → up_to n ≤ up_to k
  up_to_rises n zero l = let e : n ≡ 0 = omega (arith, l) in omega (arith, ap up_to e)
  up_to_rises n (suc k) l =
      ⊎_elim
      (λ (h : n < suc k). omega (arith, up_to_rises n k (omega (arith, h))))
      (λ (h : suc k ≤ n). let e : n ≡ suc k = omega (arith, l, h) in omega (arith, ap up_to e))
      (cases_lt n (suc k))

  -- in all rounds they are the copies of the window
  pub all_copies : copy_of s hyper number low high ≡ up_to (length s.starts)
  all_copies =
      let test = λ (z : ℤ). int_le low z && int_le z high in
      let carries = λ (j : ℕ). has (get_or s.tables j []) number in
      let there = λ (begin : ℤ). count_is test carries (λ j. begin +ℤ get_or s.starts j (pos 0)) (length s.starts) in
      ap (λ (x : ℕ). x + length (filter test (flat_map (λ j. cond (carries j) ((pos 0 +ℤ get_or s.starts j (pos 0)) ∷ []) []) (below (length s.starts))))) (there (pos 0 -ℤ pos hyper))
      ∙ ap (λ (x : ℕ). at (pos 0 -ℤ pos hyper) (length s.starts) + x) (there (pos 0))

  -- a round's part, where its times are tested first
  pub record Tested (j : ℕ) (now before : Bool) : Type 0 where
    pub is : counted_at s hyper number low high j ≡ one_if (has (get_or s.tables j []) number && before) + one_if (has (get_or s.tables j []) number && now)

  -- the tests, as the code makes them
  pub tested : (j : ℕ) (now before : Bool) (starts : List ℤ) → j < length s.starts → HasTimes s → hyper ≤ 1000000000000 → FitsSigned w64 low → FitsSigned w64 high → starts ≡ s.starts
      → let time = to_z w64 (of_z w64 (get_or starts j (pos 0))) in
      let earlier = to_z w64 (of_z w64 (time -ℤ to_z w64 hyper)) in
      now ≡ (int_le (to_z w64 (of_z w64 low)) time && int_le time (to_z w64 (of_z w64 high)))
      → before ≡ (int_le (to_z w64 (of_z w64 low)) earlier && int_le earlier (to_z w64 (of_z w64 high))) → Tested j now before
  tested j now before starts l times small one two same e1 e2 =
      let z = get_or s.starts j (pos 0) in
      let c = has (get_or s.tables j []) number in
      let time = to_z w64 (of_z w64 (get_or starts j (pos 0))) in
      let earlier = to_z w64 (of_z w64 (time -ℤ to_z w64 hyper)) in
      let is : IsTime z = All-get_or IsTime s.starts j (pos 0) l times.starts in
      let here : time ≡ z = ap (λ (l : List ℤ). to_z w64 (of_z w64 (get_or l j (pos 0)))) same ∙ same_time z is in
      let gone : earlier ≡ z -ℤ pos hyper = ap (λ (t : ℤ). to_z w64 (of_z w64 (t -ℤ to_z w64 hyper))) here ∙ earlier_is z hyper is small in
      let test = λ (l h t : ℤ). int_le l t && int_le t h in
      let low' = to_z w64 (of_z w64 low) in
      let high' = to_z w64 (of_z w64 high) in
      let this : time ≡ pos 0 +ℤ z = omega (arith, ints, here) in
      let that : earlier ≡ (pos 0 -ℤ pos hyper) +ℤ z = omega (arith, ints, gone) in
      let first = e1 ∙ ap (λ (l : ℤ). test l high' time) (to_z-of_z one) ∙ ap (λ (h : ℤ). test low h time) (to_z-of_z two) ∙ ap (λ (t : ℤ). test low high t) this in
      let second = e2 ∙ ap (λ (l : ℤ). test l high' earlier) (to_z-of_z one) ∙ ap (λ (h : ℤ). test low h earlier) (to_z-of_z two) ∙ ap (λ (t : ℤ). test low high t) that in
      record {
        is = sym (ap (λ (b : Bool). one_if (c && b) + one_if (c && now)) second ∙ ap (λ (b : Bool). one_if (c && test low high ((pos 0 -ℤ pos hyper) +ℤ z)) + one_if (c && b)) first);
      }

  pub none_in_time : (j : ℕ) (now before : Bool) → Tested j now before → one_if before + one_if now ≡ 0 → 0 ≡ counted_at s hyper number low high j
  none_in_time j now before t none = none_of (has (get_or s.tables j []) number) before now none ∙ sym t.is
    where
      none_of : (c b n : Bool) → one_if b + one_if n ≡ 0 → 0 ≡ one_if (c && b) + one_if (c && n)
      none_of false b n e = refl
      none_of true b n e = sym e

  pub is_carried : (j : ℕ) (now before : Bool) → Tested j now before → has (get_or s.tables j []) number ≡ true → one_if before + one_if now ≡ counted_at s hyper number low high j
  is_carried j now before t e = sym (t.is ∙ ap (λ (c : Bool). one_if (c && before) + one_if (c && now)) e)
