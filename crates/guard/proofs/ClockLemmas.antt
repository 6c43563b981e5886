-- How long a clock within the drift can last
use Rattle.std.proofs.Common.{◌≡◌, ℕ, ◌+◌, ◌-◌, ◌*◌, ◌≤◌, List, [], ◌∷◌, length, take, sum, All, ◌∙◌, ap, arith}
use Rattle.std.specs.List.{AllByRecursion}
use Rattle.std.proofs.lemmas.List.{length-take-le, length-replicate, take-replicate}
use Rattle.std.proofs.lemmas.List.Elements.{All-take, All-replicate, recursion_from_All}
use Rattle.std.proofs.lemmas.List.Folds.{sum_by-replicate}
use Rattle.std.proofs.lemmas.List.Sums.{sum_by-cons, sum_by-le}
use Rattle.guard.specs.Clocks.{IsTick, IsClock, lasted, slowest, fastest}

sum_at_least : (m : ℕ) (xs : List ℕ) → AllByRecursion (λ x. m ≤ x) xs → length xs * m ≤ sum xs
sum_at_least m [] h = omega arith
sum_at_least m (x ∷ xs) h = omega (arith, sum_at_least m xs h.1, h.0, sum_by-cons (λ (n : ℕ). n) x xs)

-- its first l ticks last at most l of the longest ticks
pub lasts_at_most : (drift n l : ℕ) (clock : List ℕ) → IsClock drift n clock → l ≤ n → lasted clock l ≤ l * (1000000 + drift)
lasts_at_most drift n l clock c le =
    let long : length (take l clock) ≡ l = length-take-le l clock (omega (arith, c.long)) in
    let each : All (λ (x : ℕ). x ≤ 1000000 + drift) (take l clock) = λ i d h. (All-take (IsTick drift) l clock c.ticks i d h).1 in
    let most = sum_by-le (λ (x : ℕ). x) (1000000 + drift) (take l clock) each in
    omega (arith, most, ap (λ k. k * (1000000 + drift)) long)

-- and at least l of the shortest ones
pub lasts_at_least : (drift n l : ℕ) (clock : List ℕ) → IsClock drift n clock → l ≤ n → l * (1000000 - drift) ≤ lasted clock l
lasts_at_least drift n l clock c le =
    let long : length (take l clock) ≡ l = length-take-le l clock (omega (arith, c.long)) in
    let each : All (λ (x : ℕ). 1000000 - drift ≤ x) (take l clock) = λ i d h. (All-take (IsTick drift) l clock c.ticks i d h).0 in
    let few = sum_at_least (1000000 - drift) (take l clock) (recursion_from_All (λ x. 1000000 - drift ≤ x) (take l clock) each) in
    omega (arith, few, ap (λ k. k * (1000000 - drift)) long)

pub slow_lasts : (drift n l : ℕ) → l ≤ n → lasted (slowest drift n) l ≡ l * (1000000 + drift)
slow_lasts drift n l le = ap sum (take-replicate l n (1000000 + drift) le) ∙ sum_by-replicate (λ (x : ℕ). x) l (1000000 + drift)

pub fast_lasts : (drift n l : ℕ) → l ≤ n → lasted (fastest drift n) l ≡ l * (1000000 - drift)
fast_lasts drift n l le = ap sum (take-replicate l n (1000000 - drift) le) ∙ sum_by-replicate (λ (x : ℕ). x) l (1000000 - drift)

pub slow_is : (drift n : ℕ) → IsClock drift n (slowest drift n)
slow_is drift n = record {
  long = omega (arith, length-replicate n (1000000 + drift));
  ticks = All-replicate (IsTick drift) n (1000000 + drift) (omega arith, omega arith);
}

pub fast_is : (drift n : ℕ) → IsClock drift n (fastest drift n)
fast_is drift n = record {
  long = omega (arith, length-replicate n (1000000 - drift));
  ticks = All-replicate (IsTick drift) n (1000000 - drift) (omega arith, omega arith);
}
