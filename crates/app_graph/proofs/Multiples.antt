-- The first multiple of a number that another one divides is their least common multiple
use Rattle.std.proofs.Common.{◌≡◌, ℕ, zero, suc, ◌+◌, ◌-◌, ◌*◌, ◌/◌, ◌%◌, ◌<◌, ◌≤◌, false, eqb, List, [], ◌∷◌, length, get_or, map, drop, sym, ◌∙◌, ap, subst, arith, ⊎_elim}
use Prim.Native.Nat.{◌∣◌}
use Rattle.std.specs.List.{fold, AllByRecursion}
use Rattle.std.proofs.lemmas.Bool.{eqb-true, eqb-false, cond_both, cases_lt}
use Rattle.std.proofs.lemmas.List.{drop_more, drop_all}
use Rattle.std.proofs.lemmas.List.Elements.{recursion_from_All, All-from_recursion}
use Rattle.std.proofs.lemmas.Nat.Gcd.{dvd_trans, dvd_refl, le_of_dvd, dvd_of_mod-eq-zero, mod-eq-zero_of_dvd}
use Rattle.std.proofs.Math.Nat.{dvd-add, dvd-mul_left, dvd-mul_right, dvd-sub, pos_of_dvd_of_pos, mul-pos}
use Rattle.tick_num.specs.Multiples.{IsLcm}
use Rattle.tick_num.proofs.Euclid.{gcd_exists}
use Rattle.tick_num.proofs.Multiples.{multiple_is_least, same_multiple}
use Rattle.app_graph.specs.Hyperperiod.{multiple_from, lcm, hyperperiod, HyperperiodLaw}

first_part : (n k a b : ℕ) → a ∣ k → a ∣ multiple_from n k a b
first_part zero k a b h = h
first_part (suc n) k a b h = cond_both (eqb (k % b) 0) k (multiple_from n (k + a) a b) (λ x. a ∣ x) (λ _. h) (λ _. first_part n (k + a) a b (dvd-add a h (dvd_refl a)))

second_part : (n j k a b : ℕ) → j ≤ n → b ∣ k + j * a → b ∣ multiple_from n k a b
second_part zero j k a b le h = subst (λ x. b ∣ x) (zero_of j le) h
  where
    zero_of : (j : ℕ) → j ≤ 0 → k + j * a ≡ k
    zero_of zero h = omega arith
    zero_of (suc j) h = absurd (omega arith)
second_part (suc n) zero k a b le h = cond_both (eqb (k % b) 0) k (multiple_from n (k + a) a b) (λ x. b ∣ x)
    (λ e. dvd_of_mod-eq-zero b (eqb-true (k % b) 0 e))
    (λ e. absurd (eqb-false (k % b) 0 e (mod-eq-zero_of_dvd b (subst (λ x. b ∣ x) (let s : k + 0 * a ≡ k = omega arith in s) h))))
second_part (suc n) (suc j) k a b le h = cond_both (eqb (k % b) 0) k (multiple_from n (k + a) a b) (λ x. b ∣ x)
    (λ e. dvd_of_mod-eq-zero b (eqb-true (k % b) 0 e))
    (λ e. second_part n j (k + a) a b (omega arith) (subst (λ x. b ∣ x) (let s : k + suc j * a ≡ k + a + j * a = omega arith in s) h))

pub lcm_left : (a b : ℕ) → a ∣ lcm a b
lcm_left a b = first_part b a a b (dvd_refl a)

pub lcm_right : (a b : ℕ) → 1 ≤ b → b ∣ lcm a b
lcm_right a b h = second_part b (b - 1) a a b (omega arith) (subst (λ x. b ∣ x) (whole (b - 1) (omega arith)) (dvd-mul_right b a))
  where
    whole : (c : ℕ) → b ≡ suc c → b * a ≡ a + c * a
    whole c e = omega (arith, ap (λ x. x * a) e)

-- a multiple of both is not passed over
not_past : (n k a b m : ℕ) → a ∣ k → a ∣ m → b ∣ m → k ≤ m → multiple_from n k a b ≤ m
not_past zero k a b m hk ha hb le = le
not_past (suc n) k a b m hk ha hb le = cond_both (eqb (k % b) 0) k (multiple_from n (k + a) a b) (λ x. x ≤ m)
    (λ _. le)
    (λ e. not_past n (k + a) a b m (dvd-add a hk (dvd_refl a)) ha hb (next e))
  where
    next : eqb (k % b) 0 ≡ false → k + a ≤ m
    next e = ⊎_elim
        (λ (less : k < m). let step : a ≤ m - k = le_of_dvd (omega arith) (dvd-sub a ha hk) in omega (arith, step, less))
        (λ (ge : m ≤ k). absurd (eqb-false (k % b) 0 e (mod-eq-zero_of_dvd b (subst (λ x. b ∣ x) (let s : m ≡ k = omega (arith, ge, le) in s) hb))))
        (cases_lt k m)

at_least : (n k a b : ℕ) → k ≤ multiple_from n k a b
at_least zero k a b = omega arith
at_least (suc n) k a b = cond_both (eqb (k % b) 0) k (multiple_from n (k + a) a b) (λ x. k ≤ x) (λ _. omega arith) (λ _. omega (arith, at_least n (k + a) a b))

pub lcm_is_least : (a b : ℕ) → 0 < a → 0 < b → IsLcm a b (lcm a b)
lcm_is_least a b p q =
    let g = gcd_exists a b p q in
    let least = multiple_is_least a b g.0 p q g.1 in
    let l = a / g.0 * b in
    let some : 0 < l = pos_of_dvd_of_pos (least.2 (a * b) (dvd-mul_right a b) (dvd-mul_left b a)) (mul-pos p q) in
    let down : lcm a b ≤ l = not_past b a a b l (dvd_refl a) least.0 least.1 (le_of_dvd some least.0) in
    let up : l ≤ lcm a b = le_of_dvd (let s : 0 < lcm a b = omega (arith, at_least b a a b) in s) (least.2 (lcm a b) (lcm_left a b) (lcm_right a b q)) in
    subst (λ n. IsLcm a b n) (let s : l ≡ lcm a b = omega (arith, down, up) in s) least

pub same_as_lcm : (a b l : ℕ) → 0 < a → 0 < b → IsLcm a b l → l ≡ lcm a b
same_as_lcm a b l p q h = same_multiple a b l (lcm a b) h (lcm_is_least a b p q)

pub lcm_some : (a b : ℕ) → 0 < a → 0 < lcm a b
lcm_some a b p = omega (arith, at_least b a a b)

-- ---- over a list of periods
pub grows : (k : ℕ) (ps : List ℕ) → k ≤ fold lcm k ps
grows k [] = omega arith
grows k (p ∷ ps) = omega (arith, at_least p k k p, grows (lcm k p) ps)

from_start : (k : ℕ) (ps : List ℕ) → k ∣ fold lcm k ps
from_start k [] = dvd_refl k
from_start k (p ∷ ps) = dvd_trans k (lcm_left k p) (from_start (lcm k p) ps)

each_divides : (k : ℕ) (ps : List ℕ) → AllByRecursion (λ p. 0 < p) ps → (m : ℕ) → fold lcm k ps ∣ m → AllByRecursion (λ p. p ∣ m) ps
each_divides k [] h m d = tt
each_divides k (p ∷ ps) h m d = (dvd_trans p (lcm_right k p h.0) (dvd_trans (lcm k p) (from_start (lcm k p) ps) d), each_divides (lcm k p) ps h.1 m d)

divides_each : (k : ℕ) (ps : List ℕ) → 0 < k → AllByRecursion (λ p. 0 < p) ps → (m : ℕ) → k ∣ m → AllByRecursion (λ p. p ∣ m) ps → fold lcm k ps ∣ m
divides_each k [] s h m d e = d
divides_each k (p ∷ ps) s h m d e = divides_each (lcm k p) ps (lcm_some k p s) h.1 m ((lcm_is_least k p s h.0).2 m d e.0) e.1

pub law : HyperperiodLaw
unfolding hyperperiod
law ps h =
    let r = recursion_from_All (λ p. 0 < p) ps h in (
      (let s : 0 < fold lcm 1 ps = omega (arith, grows 1 ps) in s),
      All-from_recursion (λ p. p ∣ fold lcm 1 ps) ps (each_divides 1 ps r (fold lcm 1 ps) (dvd_refl (fold lcm 1 ps))),
      λ m d. divides_each 1 ps (omega arith) r m (subst (λ x. 1 ∣ x) (let s : 1 * m ≡ m = omega arith in s) (dvd-mul_right 1 m)) (recursion_from_All (λ p. p ∣ m) ps d),
    )

-- one more period of the rest
pub rest_more : {A : Type 0} (f : A → ℕ) (h : ℕ) (xs : List A) (i : ℕ) (d : A) → i < length xs → fold lcm h (map f (drop i xs)) ≡ fold lcm (lcm h (f (get_or xs i d))) (map f (drop (i + 1) xs))
rest_more {A} f h xs i d l = ap (λ (ys : List A). fold lcm h (map f ys)) (drop_more xs i d l)

-- no period is left
pub rest_end : {A : Type 0} (f : A → ℕ) (h : ℕ) (xs : List A) (i : ℕ) → length xs ≤ i → fold lcm h (map f (drop i xs)) ≡ h
rest_end {A} f h xs i l = ap (λ (ys : List A). fold lcm h (map f ys)) (drop_all i xs l)

-- x is the next one, and with it the multiple is above a limit
pub rest_over : {A : Type 0} (f : A → ℕ) (h most : ℕ) (xs : List A) (i : ℕ) (x : A) → i < length xs → x ≡ get_or xs i x → most < lcm h (f x) → most < fold lcm h (map f (drop i xs))
rest_over {A} f h most xs i x l e over =
    subst (λ (n : ℕ). most < n) (ap (λ (y : A). fold lcm (lcm h (f y)) (map f (drop (i + 1) xs))) e ∙ sym (rest_more f h xs i x l))
    (omega (arith, over, grows (lcm h (f x)) (map f (drop (i + 1) xs))))

pub rest_next : {A : Type 0} (f : A → ℕ) (h : ℕ) (xs : List A) (i : ℕ) (x : A) → i < length xs → x ≡ get_or xs i x → fold lcm (lcm h (f x)) (map f (drop (i + 1) xs)) ≡ fold lcm h (map f (drop i xs))
rest_next {A} f h xs i x l e = ap (λ (y : A). fold lcm (lcm h (f y)) (map f (drop (i + 1) xs))) e ∙ sym (rest_more f h xs i x l)
