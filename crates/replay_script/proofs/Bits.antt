-- Sets of nodes in 64 bits
use Rattle.std.proofs.Common.{◌≡◌, ℕ, ◌+◌, ◌*◌, ◌%◌, ◌^◌, ◌<◌, ◌≤◌, Bool, true, cond, List, [], ◌∷◌, ◌++◌, length, get_or, take, sym, ◌∙◌, ap, subst, arith, ⊎_elim, bit_or}
use Rattle.std.specs.Int.{w64, bit_at}
use Rattle.std.proofs.lemmas.Bool.{cases_eq}
use Rattle.std.proofs.lemmas.List.{take_more, length-take}
use Rattle.std.proofs.lemmas.Nat.Bits.{bit_at_set_same, bit_at_set_other, same_from_bits}
use Rattle.app_graph.specs.Masks.{mask_of}
use Rattle.app_graph.proofs.Marks.{bit_at-mask_of, at-end, at-other}

-- one more element, which passes
with_one : {A : Type 0} (p : A → Bool) (xs : List A) (y : A) → length xs < 64 → p y ≡ true
    → bit_or (mask_of p xs) (1 * 2 ^ length xs % 2 ^ 64) ≡ mask_of p (xs ++ y ∷ [])
with_one {A} p xs y l e = same_from_bits _ _ (λ j. ⊎_elim
    (λ (same : j ≡ length xs). subst (λ (k : ℕ). bit_at (bit_or (mask_of p xs) (1 * 2 ^ length xs % 2 ^ 64)) k ≡ bit_at (mask_of p (xs ++ y ∷ [])) k) (sym same)
    (bit_at_set_same w64 (mask_of p xs) (length xs) l ∙ sym (bit_at-mask_of p (xs ++ y ∷ []) (length xs) ∙ ap (λ b. cond b 1 0) (at-end p xs y ∙ e))))
    (λ (other : j ≡ length xs → ⊥). bit_at_set_other w64 (mask_of p xs) (length xs) l j other
    ∙ bit_at-mask_of p xs j ∙ ap (λ b. cond b 1 0) (sym (at-other p xs y j other)) ∙ sym (bit_at-mask_of p (xs ++ y ∷ []) j))
    (cases_eq j (length xs)))

-- the set of the first places, with one more
pub one_more : {A : Type 0} (p : A → Bool) (xs : List A) (i : ℕ) (x : A) (m : ℕ) → i < length xs → length xs ≤ 64 → x ≡ get_or xs i x → p x ≡ true
    → m ≡ mask_of p (take i xs) → bit_or m (1 * 2 ^ i % 2 ^ 64) ≡ mask_of p (take (i + 1) xs)
one_more {A} p xs i x m l most e passes h =
    let size : length (take i xs) ≡ i = omega (arith, length-take i xs) in
    ap (λ n. bit_or n (1 * 2 ^ i % 2 ^ 64)) h
    ∙ ap (λ n. bit_or (mask_of p (take i xs)) (1 * 2 ^ n % 2 ^ 64)) (sym size)
    ∙ with_one p (take i xs) x (omega (arith, size)) passes
    ∙ ap (λ (y : A). mask_of p (take i xs ++ y ∷ [])) e
    ∙ ap (mask_of p) (sym (take_more xs i x l))
