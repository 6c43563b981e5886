-- The copies of a message that a window's slots carry are numbered from 1
use Rattle.std.proofs.Common.{◌≡◌, ℕ, zero, suc, ◌+◌, ◌-◌, ◌*◌, ◌/◌, ◌%◌, ◌<◌, ◌≤◌, Bool, true, false, cond, ◌&&◌, List, [], ◌∷◌, length, length-append, get_or, refl, sym, ◌∙◌, ap, subst, arith, ◌⊎◌, inl, inr, ⊎_elim, int_le, ℤ, pos, negsuc, ◌+ℤ◌, ◌-ℤ◌, ◌*ℤ◌, ◌≤ℤ◌, ◌<ℤ◌}
use Rattle.std.specs.Prelude.{nat_lt}
use Rattle.std.specs.List.{filter, flat_map}
use Rattle.std.proofs.lemmas.Int.{ints}
use Rattle.std.proofs.lemmas.Bool.{cases_lt, cond-true, cond-false, and_parts, and_from}
use Rattle.std.proofs.lemmas.Nat.{mod-mul-add, div-mul-add}
use Rattle.std.proofs.lemmas.List.Elements.{filter-append}
use Rattle.std.proofs.Math.Nat.{mul-le-mul_right}
use borrow.Author.Differences.{same_in, le-true, at_most_in, true_is_le, le_out}
use Rattle.tick_num.proofs.Floor.{sum-times}
use Rattle.sched_model.specs.Numbers.{below, has}
use Rattle.sched_model.specs.PlainMode.{hyper, message_at}
use Rattle.sched_model.specs.Rounds.{round_start, opens, start, Carries, InWindow, Serves}
use Rattle.sched_model.specs.RightSchedule.{Exactly}
use Rattle.sched_model.specs.ServedCounts.{one_if, how_many}
use Rattle.sched_model.proofs.Hyperperiods.{hyper_some}
use Rattle.sched_model.proofs.Lists.{flat_below-suc}
use Rattle.sched_model.proofs.Sums.{one_true}
use Rattle.sched_model.proofs.Exactly.{counted, in_order, same_row}
use Rattle.sched_model.proofs.OneTurn.{in_hyper}
use Rattle.runtime_model.specs.Plans.{Plan, RightPlan, Carried}
use Rattle.runtime_model.specs.Placement.{release}
use Rattle.runtime_model.specs.Copies.{copy_at, starts_between}
use Rattle.runtime_model.specs.Laws.{CopiesAreNumbered, CopiesAreNear}
use Rattle.runtime_model.proofs.Times.{at_most_from_times, round_from_zero, message_turns, in_window, narrow, is_release, window_is}

pub by_bound : {a b : ℤ} → a ≤ℤ b → int_le a b ≡ true
by_bound {a} {b} l = sym (true_is_le a b (le_out a b l))

of_bound : (a b : ℤ) → int_le a b ≡ true → a ≤ℤ b
of_bound a b e = at_most_in a b (le-true a b e)

-- ---- counts
-- the length of a list with an element for each number that passes is a count
count_is : (t : ℤ → Bool) (b : ℕ → Bool) (g : ℕ → ℤ) (n : ℕ) → length (filter t (flat_map (λ j. cond (b j) (g j ∷ []) []) (below n))) ≡ how_many (λ j. b j && t (g j)) n
count_is t b g zero = refl
count_is t b g (suc n) =
    let part = λ (j : ℕ). cond (b j) (g j ∷ []) [] in
    let all = ap (λ (xs : List ℤ). length (filter t xs)) (flat_below-suc part n)
    ∙ ap (λ (xs : List ℤ). length xs) (filter-append t (flat_map part (below n)) (part n)) ∙ length-append (filter t (flat_map part (below n))) (filter t (part n)) in
    omega (arith, all, count_is t b g n, one_more (b n) (g n))
  where
    one_more : (b : Bool) (z : ℤ) → length (filter t (cond b (z ∷ []) [])) ≡ one_if (b && t z)
    one_more true z = by_test (t z)
      where
        by_test : (c : Bool) → length (cond c (z ∷ []) []) ≡ one_if c
        by_test true = refl
        by_test false = refl
    one_more false z = refl

-- one that passes is counted, and two are
pub one_counts : (t : ℕ → Bool) (n j : ℕ) → j < n → t j ≡ true → 1 ≤ how_many t n
one_counts t zero j l e = absurd (omega (arith, l))
one_counts t (suc n) j l e =
    ⊎_elim
    (λ (less : j < n). omega (arith, one_counts t n j less e))
    (λ (le : n ≤ j). omega (arith, one_true (t n) (ap t (let z : n ≡ j = omega (arith, l, le) in z) ∙ e)))
    (cases_lt j n)

pub two_count : (t : ℕ → Bool) (n l j : ℕ) → l < j → j < n → t l ≡ true → t j ≡ true → 2 ≤ how_many t n
two_count t zero l j less h a b = absurd (omega (arith, h))
two_count t (suc n) l j less h a b =
    ⊎_elim
    (λ (k : j < n). omega (arith, two_count t n l j less k a b))
    (λ (k : n ≤ j). omega (arith, one_true (t n) (ap t (let z : n ≡ j = omega (arith, h, k) in z) ∙ b), one_counts t n l (omega (arith, less, h)) a))
    (cases_lt j n)

same_count : (t u : ℕ → Bool) (n : ℕ) → ((x : ℕ) → x < n → t x ≡ u x) → how_many t n ≡ how_many u n
same_count t u zero h = refl
same_count t u (suc n) h = omega (arith, same_count t u n (λ x l. h x (omega (arith, l))), ap one_if (h n (omega arith)))

more_count : (t : ℕ → Bool) (r n : ℕ) → how_many t (r + n) ≡ how_many t r + how_many (λ x. t (r + x)) n
more_count t r zero = let e = ap (how_many t) (let z : r + 0 ≡ r = omega arith in z) in omega (arith, e)
more_count t r (suc n) = let e = ap (how_many t) (let z : r + suc n ≡ suc (r + n) = omega arith in z) in omega (arith, e, more_count t r n)

-- one test below r, and another from r on
abbrev both_tests : (ℕ → Bool) → (ℕ → Bool) → ℕ → ℕ → Bool
both_tests t u r x = cond (nat_lt x r) (t x) (u (x - r))

is_less : (x r : ℕ) → x < r → nat_lt x r ≡ true
is_less x r l = grind (arith, l)

not_less : (x r : ℕ) → r ≤ x → nat_lt x r ≡ false
not_less x r l = grind (arith, l)

first_test : (t u : ℕ → Bool) (r x : ℕ) → x < r → both_tests t u r x ≡ t x
first_test t u r x l = cond-true (nat_lt x r) (t x) (u (x - r)) (is_less x r l)

second_test : (t u : ℕ → Bool) (r x : ℕ) → both_tests t u r (r + x) ≡ u x
second_test t u r x = cond-false (nat_lt (r + x) r) (t (r + x)) (u (r + x - r)) (not_less (r + x) r (omega arith)) ∙ ap u (let e : r + x - r ≡ x = omega arith in e)

both_count : (t u : ℕ → Bool) (r : ℕ) → how_many (both_tests t u r) (r + r) ≡ how_many t r + how_many u r
both_count t u r =
    let a = same_count (both_tests t u r) t r (first_test t u r) in
    let b = same_count (λ x. both_tests t u r (r + x)) u r (λ x l. second_test t u r x) in
    omega (arith, more_count (both_tests t u r) r r, a, b)

-- a rising row of numbers with a property is no longer than the property's count
no_longer : (c d : ℕ) (Q : ℕ → Type 0) (f : ℕ → ℕ) → Exactly c Q → ((x y : ℕ) → x < y → y < d → f x < f y) → ((x : ℕ) → x < d → Q (f x)) → d ≤ c
no_longer c d Q f e up each =
    ⊎_elim
    (λ (more : c < d).
    let b = in_order c Q e in
    let of = λ (x : ℕ) (l : x < d). b.only (f x) (each x l) in
    let same = same_row c f b.row (λ x y l h. up x y l (omega (arith, h, more))) b.rises (λ x l. let w = of x (omega (arith, l, more)) in (w.0, w.1, sym w.2)) in
    let w = of c more in
    absurd (omega (arith, up w.0 c w.1 more, same w.0 w.1, w.2)))
    (λ (le : d ≤ c). le)
    (cases_lt c d)

-- ---- a slot and the rounds about it
module _ (nodes : ℕ) (p : Plan) (ok : RightPlan nodes p) (j i : ℕ) (c : Carried p j i) where
  abbrev H : ℕ
  H = hyper p.mode

  abbrev R : ℕ
  R = length p.schedule.starts

  abbrev per : ℕ
  per = (message_at p.mode i).period

  abbrev number : ℕ
  number = (message_at p.mode i).number

  abbrev opened : ℤ
  opened = opens p.schedule i +ℤ release p j i

  before_end : (l : ℕ) → l < R → round_start p.schedule l <ℤ pos H
  before_end l ll = in_hyper p.mode ok.rounds p.schedule ok.valid ok.right.shape ok.right.s1 ok.right.s3 ok.right.s4 l ll

  short : per ≤ H
  short = at_least_one (H / per) per H (message_turns nodes p ok i c.1).1 (hyper_some p.mode)
    where
      at_least_one : (w a h : ℕ) → h ≡ w * a → 1 ≤ h → a ≤ h
      at_least_one zero a h e l = absurd (omega (arith, e, l))
      at_least_one (suc w) a h e l = omega (arith, e)

  pub near : (l : ℕ) (n : ℤ) → l < R → opened ≤ℤ (round_start p.schedule l +ℤ n *ℤ pos H) → (round_start p.schedule l +ℤ n *ℤ pos H) ≤ℤ round_start p.schedule j → (n ≡ pos 0 -ℤ pos 1) ⊎ (n ≡ pos 0)
  near l n ll low high =
      let rel = is_release nodes p ok j i c in
      let thin = narrow nodes p ok i c.1 in
      let up = at_most_from_times n (pos 0) H (omega (arith, ints, high, before_end j c.0, round_from_zero nodes p ok l ll, sum-times (pos 0) (pos 1) (pos H))) in
      let down = at_most_from_times (negsuc 0) n H
      (omega (arith, ints, low, rel.closes_after, thin, short, before_end l ll, round_from_zero nodes p ok j c.0, ok.valid.round, sum-times n (pos 1) (pos H), sum-times (negsuc 0) (pos 1) (pos H))) in
      by_sign n up down
    where
      by_sign : (n : ℤ) → n ≤ℤ pos 0 → negsuc 0 ≤ℤ n → (n ≡ pos 0 -ℤ pos 1) ⊎ (n ≡ pos 0)
      by_sign (pos n) up down = inr (ap pos (let e : n ≡ 0 = omega (arith, ints, up) in e))
      by_sign (negsuc n) up down = inl (ap negsuc (let e : n ≡ 0 = omega (arith, ints, down) in e))

  -- the rounds with the message of a hyperperiod that begins at this moment, from the window's opening to the slot
  abbrev pub counts : ℤ → ℕ → Bool
  counts begin l =
      has (get_or p.schedule.tables l []) number
      && (int_le opened (begin +ℤ round_start p.schedule l) && int_le (begin +ℤ round_start p.schedule l) (round_start p.schedule j))

  pub so_counts : (begin : ℤ) (l : ℕ) → has (get_or p.schedule.tables l []) number ≡ true → opened ≤ℤ (begin +ℤ round_start p.schedule l) → (begin +ℤ round_start p.schedule l) ≤ℤ round_start p.schedule j → counts begin l ≡ true
  so_counts begin l h low high =
      and_from (has (get_or p.schedule.tables l []) number) _ h (and_from (int_le opened (begin +ℤ round_start p.schedule l)) _ (by_bound low) (by_bound high))

  counts_so : (begin : ℤ) (l : ℕ) → counts begin l ≡ true →
      (has (get_or p.schedule.tables l []) number ≡ true) × (opened ≤ℤ (begin +ℤ round_start p.schedule l)) × ((begin +ℤ round_start p.schedule l) ≤ℤ round_start p.schedule j)
  counts_so begin l e =
      let a = and_parts (has (get_or p.schedule.tables l []) number) _ e in
      let b = and_parts (int_le opened (begin +ℤ round_start p.schedule l)) _ a.1 in
      (a.0, of_bound opened (begin +ℤ round_start p.schedule l) b.0, of_bound (begin +ℤ round_start p.schedule l) (round_start p.schedule j) b.1)

  counted_between : (begin : ℤ) → starts_between p.schedule number begin opened (round_start p.schedule j) ≡ how_many (counts begin) R
  counted_between begin =
      count_is (λ t. int_le opened t && int_le t (round_start p.schedule j)) (λ l. has (get_or p.schedule.tables l []) number) (λ l. begin +ℤ round_start p.schedule l) R

  pub copy_is : copy_at p j i ≡ how_many (counts (pos 0 -ℤ pos H)) R + how_many (counts (pos 0)) R
  copy_is = omega (arith, counted_between (pos 0 -ℤ pos H), counted_between (pos 0))

  -- the slot itself is counted
  pub own_counts : counts (pos 0) j ≡ true
  own_counts = let rel = is_release nodes p ok j i c in so_counts (pos 0) j c.2 (omega (arith, ints, rel.opens_before)) (omega (arith, ints))

  pub at_least : 1 ≤ copy_at p j i
  at_least = omega (arith, copy_is, one_counts (counts (pos 0)) R j c.0 own_counts)

  -- ---- the same some hyperperiods on, where all moments are past the first window's opening
  abbrev base : ℕ
  base = (in_window nodes p ok j i c).0

  abbrev window : ℕ
  window = (in_window nodes p ok j i c).1 + H / per

  opens_at : (opened +ℤ pos (suc base * H)) ≡ (opens p.schedule i +ℤ pos (window * per))
  opens_at =
      let w = in_window nodes p ok j i c in
      let whole = (window_is nodes p ok w.0 w.1 j i c w.2 w.3).0 in
      same_in _ _ (omega (arith, ints, whole, (message_turns nodes p ok i c.1).1))

  -- a round with the message from the opening to the slot serves the window
  serves : (n x : ℕ) → x < R → has (get_or p.schedule.tables x []) number ≡ true → (opened +ℤ pos (suc base * H)) ≤ℤ (round_start p.schedule x +ℤ pos (n * H)) →
      (round_start p.schedule x +ℤ pos (n * H)) ≤ℤ (round_start p.schedule j +ℤ pos (suc base * H)) → Serves p.mode p.schedule i window (suc (n * R + x))
  serves n x lx h low high =
      let g = suc (n * R + x) in
      let q : ((g - 1) % R ≡ x) = ap (λ z. z % R) (let e : g - 1 ≡ n * R + x = omega arith in e) ∙ mod-mul-add n R x lx in
      let d : ((g - 1) / R ≡ n) = ap (λ z. z / R) (let e : g - 1 ≡ n * R + x = omega arith in e) ∙ div-mul-add n R x lx in
      let carries : Carries p.mode p.schedule i g = subst (λ z. has (get_or p.schedule.tables z []) number ≡ true) (sym q) h in
      let at : start p.mode p.schedule g ≡ round_start p.schedule x +ℤ pos (n * H) = ap (λ z. round_start p.schedule z +ℤ pos ((g - 1) / R * H)) q ∙ ap (λ z. round_start p.schedule x +ℤ pos (z * H)) d in
      let rel = is_release nodes p ok j i c in
      let thin = narrow nodes p ok i c.1 in
      ⊎_elim
      (λ (w : (k : ℕ) × InWindow p.mode p.schedule i k g).
      let same = one_window w.0 window per (start p.mode p.schedule g) (opens p.schedule i) w.1.0 (omega (arith, ints, w.1.1, thin, ok.valid.round)) (omega (arith, ints, low, at, opens_at))
      (omega (arith, ints, high, at, opens_at, rel.closes_after, thin, ok.valid.round)) in
      (omega arith, carries, subst (λ k. InWindow p.mode p.schedule i k g) same w.1))
      (λ (early : start p.mode p.schedule g <ℤ opens p.schedule i). absurd (omega (arith, ints, early, at, low, opens_at)))
      (ok.right.s8 i g c.1 (omega arith) carries)
    where
      one_window : (k l a : ℕ) (t o : ℤ) → (o +ℤ pos (k * a)) ≤ℤ t → t <ℤ (o +ℤ pos (k * a) +ℤ pos a) → (o +ℤ pos (l * a)) ≤ℤ t → t <ℤ (o +ℤ pos (l * a) +ℤ pos a) → k ≡ l
      one_window k l a t o x y z w =
          ⊎_elim
          (λ (h : k < l). let m : suc k * a ≤ l * a = mul-le-mul_right a h in absurd (omega (arith, ints, m, y, z)))
          (λ (le : l ≤ k). ⊎_elim (λ (h : l < k). let m : suc l * a ≤ k * a = mul-le-mul_right a h in absurd (omega (arith, ints, m, x, w))) (λ (ge : k ≤ l). omega (arith, le, ge)) (cases_lt l k))
          (cases_lt k l)

  -- those that are counted
  abbrev all_counts : ℕ → Bool
  all_counts = both_tests (counts (pos 0 -ℤ pos H)) (counts (pos 0)) R

  serves_so : (x : ℕ) → x < R + R → all_counts x ≡ true → Serves p.mode p.schedule i window (suc (base * R + x))
  serves_so x l e =
      ⊎_elim
      (λ (less : x < R).
      let w = counts_so (pos 0 -ℤ pos H) x (sym (first_test (counts (pos 0 -ℤ pos H)) (counts (pos 0)) R x less) ∙ e) in
      serves base x less w.0 (omega (arith, ints, w.1)) (omega (arith, ints, w.2)))
      (λ (le : R ≤ x).
      let z = x - R in
      let is : x ≡ R + z = omega (arith, le) in
      let w = counts_so (pos 0) z (sym (second_test (counts (pos 0 -ℤ pos H)) (counts (pos 0)) R z) ∙ ap all_counts (sym is) ∙ e) in
      subst (Serves p.mode p.schedule i window) (let s : suc (suc base * R + z) ≡ suc (base * R + x) = omega (arith, is) in s)
      (serves (suc base) z (omega (arith, l, le)) w.0 (omega (arith, ints, w.1)) (omega (arith, ints, w.2))))
      (cases_lt x R)

  pub at_most : copy_at p j i ≤ (message_at p.mode i).copies
  at_most =
      let all = both_count (counts (pos 0 -ℤ pos H)) (counts (pos 0)) R in
      let n = how_many all_counts (R + R) in
      let row = in_order n (λ x. (x < R + R) × (all_counts x ≡ true)) (counted all_counts (R + R)) in
      let few = no_longer (message_at p.mode i).copies n (Serves p.mode p.schedule i window) (λ x. suc (base * R + row.row x)) (ok.right.s7.windows i window c.1)
      (λ x z l h. omega (arith, row.rises x z l h)) (λ x l. let w = row.each x l in serves_so (row.row x) w.0 w.1) in
      omega (arith, all, few, copy_is)

pub copies_are_numbered : CopiesAreNumbered
copies_are_numbered nodes p j i ok c = (at_least nodes p ok j i c, at_most nodes p ok j i c)

pub copies_are_near : CopiesAreNear
copies_are_near nodes p j i l n ok c ll low high = near nodes p ok j i c l n ll low high
