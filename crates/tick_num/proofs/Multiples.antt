use Rattle.std.proofs.Common.{◌≡◌, ℕ, ◌+◌, ◌*◌, ◌/◌, ◌<◌, sym, ap, subst, arith}
use Prim.Native.Nat.{◌∣◌}
use Rattle.std.specs.Int.{IsGcd}
use Rattle.std.proofs.lemmas.Nat.Gcd.{dvd_antisymm}
use Rattle.std.proofs.Math.Nat.{mul-div_cancel', dvd-mul_left, dvd-mul_right, dvd-add_iff_right, dvd_of_mul-dvd-mul_left, pos_of_dvd_of_pos, mul-pos}
use Rattle.tick_num.specs.Multiples.{IsLcm}
use Rattle.tick_num.proofs.Euclid.{combines, Combines}

along : (d m n : ℕ) → m ≡ n → d ∣ m → d ∣ n
along d m n e h = subst (λ k. d ∣ k) e h

-- a multiple of a and of b is one of a / g * b
divides : (a b g c m s t : ℕ) → 0 < g → a ≡ g * c → m ≡ a * s → m ≡ b * t → Combines a b g → c * b ∣ m
divides a b g c m s t some ea es et w =
    let x = w.forth.0 in
    let y = w.forth.1 in
    let all : (a * b) * (y * s) + g * m ≡ (a * b) * (x * t) = omega (arith, ap (λ n. n * m) w.forth.2, ap (λ n. x * a * n) et, ap (λ n. y * b * n) es) in
    let part : a * b ∣ g * m = (dvd-add_iff_right (a * b) (dvd-mul_right (a * b) (y * s))).1 (along (a * b) _ _ (sym all) (dvd-mul_right (a * b) (x * t))) in
    dvd_of_mul-dvd-mul_left {k = g} (c * b) some (subst (λ n. n ∣ g * m) (omega (arith, ap (λ n. n * b) ea)) part)

pub multiple_is_least : (a b g : ℕ) → 0 < a → 0 < b → IsGcd a b g → IsLcm a b (a / g * b)
multiple_is_least a b g p q h =
    let ea : g * (a / g) ≡ a = mul-div_cancel' g h.0 in
    let eb : g * (b / g) ≡ b = mul-div_cancel' g h.1 in (
      along a (a * (b / g)) (a / g * b) (omega (arith, ap (λ n. n * (b / g)) ea, ap (λ n. a / g * n) eb)) (dvd-mul_right a (b / g)),
      dvd-mul_left b (a / g),
      λ m u v. divides a b g (a / g) m (m / a) (m / b) (pos_of_dvd_of_pos h.0 p) (sym ea) (sym (mul-div_cancel' a u)) (sym (mul-div_cancel' b v)) (combines a b g p q h),
    )

pub same_multiple : (a b k l : ℕ) → IsLcm a b k → IsLcm a b l → k ≡ l
same_multiple a b k l h i = dvd_antisymm (h.2 l i.0 i.1) (i.2 k h.0 h.1)

pub same_gcd : (x y r a b g : ℕ) → x ≡ a → y ≡ b → r ≡ g → IsGcd x y r → IsGcd a b g
same_gcd x y r a b g e f h i = subst (λ n. IsGcd n b g) e (subst (λ n. IsGcd x n g) f (subst (λ n. IsGcd x y n) h i))

pub same_lcm : (x y r a b l : ℕ) → x ≡ a → y ≡ b → r ≡ l → IsLcm x y r → IsLcm a b l
same_lcm x y r a b l e f h i = subst (λ n. IsLcm n b l) e (subst (λ n. IsLcm x n l) f (subst (λ n. IsLcm x y n) h i))

-- a number that is both multiples' least is bounded by each
pub least_is : (a b n l : ℕ) → 0 < a → 0 < b → n ≡ l → IsLcm a b n → (0 < l) × IsLcm a b l
least_is a b n l p q e h = subst (λ k. (0 < k) × IsLcm a b k) e (positive, h)
  where
    positive : 0 < n
    positive = pos_of_dvd_of_pos (h.2 (a * b) (dvd-mul_right a b) (dvd-mul_left b a)) (mul-pos p q)
