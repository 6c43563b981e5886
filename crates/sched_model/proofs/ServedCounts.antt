-- Counts of the rounds that serve windows, one round after another
use Rattle.std.proofs.Common.{◌≡◌, ℕ, zero, suc, ◌+◌, ◌*◌, ◌<◌, ◌≤◌, Bool, true, false, cond, eqb, ◌&&◌, ◌↔◌, IsTrue, List, [], length, get_or, set, replicate, refl, sym, ◌∙◌, ap, subst, arith, ⊎_elim, int_le, ℤ, pos, ◌+ℤ◌, ◌≤ℤ◌}
use Rattle.std.proofs.lemmas.Int.{ints}
use Rattle.std.proofs.lemmas.Bool.{cases_Bool, cases_eq, cond-true, cond-false, and_parts, and_from, both_ways, eqb-true, eq-eqb}
use Rattle.std.proofs.lemmas.List.{get_or-set_same, get_or-set_other, get_or-replicate}
use borrow.Author.Differences.{le-true, at_most_in, true_is_le, le_out}
use Rattle.sched_model.specs.declared.schedule.Schedule.{Schedule}
use Rattle.sched_model.specs.Numbers.{has}
use Rattle.sched_model.specs.PlainMode.{PlainMode, message_at}
use Rattle.sched_model.specs.Rounds.{closes}
use Rattle.sched_model.specs.RightSchedule.{Exactly}
use Rattle.sched_model.specs.OneHyperperiod.{Lists, first_start, window_then, EndsInWindow, ServesFirst}
use Rattle.sched_model.specs.ServedCounts.{serves_first, one_if, how_many, Counts}
use Rattle.sched_model.proofs.Sums.{one_true, one_false}
use Rattle.sched_model.proofs.Exactly.{counted, also, one_count}

pub most_count : (t : ℕ → Bool) (n : ℕ) → how_many t n ≤ n
most_count t zero = omega arith
most_count t (suc n) =
    let e = most_count t n in
    ⊎_elim (λ (yes : t n ≡ true). let c = one_true (t n) yes in omega (arith, c, e)) (λ (fails : t n ≡ false). let c = one_false (t n) fails in omega (arith, c, e)) (cases_Bool (t n))

by_bound : {a b : ℤ} → a ≤ℤ b → int_le a b ≡ true
by_bound {a} {b} l = sym (true_is_le a b (le_out a b l))

-- before the first round
pub none_yet : (n k : ℕ) → k < n → (let z : ℕ = 0 in get_or (replicate n z) k z ≡ z)
none_yet n k l = get_or-replicate n k 0 0 l

module _ (m : PlainMode) (s : Schedule) (i : ℕ) where
  pub serves_so : (k j : ℕ) → j < length s.starts → serves_first m s i k j ≡ true → ServesFirst m s i k j
  serves_so k j l e =
      let a = and_parts (has (get_or s.tables j []) (message_at m i).number) _ e in
      let b = and_parts (eqb (window_then m s i j) k) _ a.1 in
      let last = first_start m s i j +ℤ pos m.round in
      let close = closes s i +ℤ pos (window_then m s i j * (message_at m i).period) in
      record { within = l; lists = a.0; which = eqb-true (window_then m s i j) k b.0; ends = at_most_in last close (le-true last close b.1) }

  pub so_serves : (k j : ℕ) → ServesFirst m s i k j → serves_first m s i k j ≡ true
  so_serves k j f =
      and_from (has (get_or s.tables j []) (message_at m i).number) _ f.lists
      (and_from (eqb (window_then m s i j) k) _ (eq-eqb (window_then m s i j) k f.which) (by_bound f.ends))

  -- ---- one round more
  -- one that serves window base + x
  pub one_more : (base some n x : ℕ) (counts : List ℕ) → Counts m s i base some n counts → x < some → x < length counts → serves_first m s i (base + x) n ≡ true →
      ((k : ℕ) → k < some → serves_first m s i (base + k) n ≡ true → k ≡ x) → Counts m s i base some (n + 1) (set counts x (get_or counts x 0 + 1))
  one_more base some n x counts h low fits serves only k l =
      let t = serves_first m s i (base + k) in
      let more : how_many t (n + 1) ≡ how_many t n + one_if (t n) = ap (how_many t) (let z : n + 1 ≡ suc n = omega arith in z) in
      ⊎_elim
      (λ (here : k ≡ x).
      let set_here = ap (λ z. get_or (set counts x (get_or counts x 0 + 1)) z 0) here ∙ get_or-set_same counts x (get_or counts x 0 + 1) 0 fits in
      let old = ap (λ z. get_or counts z 0) (sym here) ∙ h k l in
      let yes = one_true (t n) (ap (λ z. serves_first m s i (base + z) n) here ∙ serves) in
      omega (arith, set_here, old, yes, more))
      (λ (there : k ≡ x → ⊥).
      let kept = get_or-set_other counts x k (get_or counts x 0 + 1) 0 there in
      ⊎_elim
      (λ (yes : t n ≡ true). absurd (there (only k l yes)))
      (λ (fails : t n ≡ false). let none = one_false (t n) fails in omega (arith, kept, h k l, none, more))
      (cases_Bool (t n)))
      (cases_eq k x)

  -- one that serves none of them
  pub no_more : (base some n : ℕ) (counts : List ℕ) → Counts m s i base some n counts → ((k : ℕ) → k < some → serves_first m s i (base + k) n ≡ true → ⊥) → Counts m s i base some (n + 1) counts
  no_more base some n counts h none k l =
      let t = serves_first m s i (base + k) in
      let more : how_many t (n + 1) ≡ how_many t n + one_if (t n) = ap (how_many t) (let z : n + 1 ≡ suc n = omega arith in z) in
      ⊎_elim
      (λ (yes : t n ≡ true). absurd (none k l yes))
      (λ (fails : t n ≡ false). let same = one_false (t n) fails in omega (arith, h k l, same, more))
      (cases_Bool (t n))

  -- ---- after the last round
  -- as many rounds serve a window as the count says
  pub counts_are : (k c : ℕ) → Exactly c (ServesFirst m s i k) ↔ (how_many (serves_first m s i k) (length s.starts) ≡ c)
  counts_are k c =
      let t = serves_first m s i k in
      let n = length s.starts in
      let e = also (how_many t n) (λ j. (j < n) × (t j ≡ true)) (ServesFirst m s i k) (λ j w. serves_so k j w.0 w.1) (λ j f. (f.within, so_serves k j f)) (counted t n) in
      (λ x. one_count (how_many t n) c (ServesFirst m s i k) e x, λ same. subst (λ x. Exactly x (ServesFirst m s i k)) same e)
