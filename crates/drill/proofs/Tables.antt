-- What holds of each number below n because a test of all of them computes
use Rattle.std.proofs.Common.{◌≡◌, ℕ, ◌<◌, Bool, true, is_none, Option, None, Some, refl, sym, ap, arith, ◌∙◌, nat_eq, get_or}
use Rattle.std.specs.List.{range_with_len, list_all}
use Rattle.std.proofs.lemmas.Bool.{eqb-true}
use Rattle.std.proofs.lemmas.List.Sums.{AllPass-from_list_all}
use Rattle.std.proofs.lemmas.List.FromFn.{length-range_with_len, get_or-range_with_len}

pub each_passes : (t : ℕ → Bool) (n : ℕ) → list_all t (range_with_len 0 n) ≡ true → (i : ℕ) → i < n → t i ≡ true
each_passes t n e i l =
    let here = AllPass-from_list_all t (range_with_len 0 n) e i 0 (omega (arith, length-range_with_len 0 n)) in
    let at : get_or (range_with_len 0 n) i 0 ≡ i = omega (arith, get_or-range_with_len 0 n i 0 l) in
    sym (ap t at) ∙ here

none_from : {A : Type 0} (r : Option A) → is_none r ≡ true → r ≡ None
none_from None e = refl
none_from (Some a) e = absurd (cc)

pub each_none : {A : Type 0} (r : ℕ → Option A) (n : ℕ) → list_all (λ i. is_none (r i)) (range_with_len 0 n) ≡ true → (i : ℕ) → i < n → r i ≡ None
each_none r n e i l = none_from (r i) (each_passes (λ i. is_none (r i)) n e i l)

pub each_equal : (f g : ℕ → ℕ) (n : ℕ) → list_all (λ i. nat_eq (f i) (g i)) (range_with_len 0 n) ≡ true → (i : ℕ) → i < n → f i ≡ g i
each_equal f g n e i l = eqb-true (f i) (g i) (each_passes (λ i. nat_eq (f i) (g i)) n e i l)
