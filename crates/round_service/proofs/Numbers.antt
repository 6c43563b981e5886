-- Bounds on round instances and on what they move a window by
use Rattle.std.proofs.Common.{◌≡◌, ℕ, ◌+◌, ◌-◌, ◌*◌, ◌/◌, ◌%◌, ◌^◌, ◌<◌, ◌≤◌, ⊎_elim, arith, [], ◌∷◌, ℤ, pos, negsuc, neg_ℤ, ◌-ℤ◌, ◌≤ℤ◌}
use Rattle.std.proofs.lemmas.Int.{ints}
use Rattle.std.proofs.lemmas.Bool.{cases_lt}
use Rattle.std.proofs.Math.Nat.{mul-le-mul_left, mul-le-mul_right}
use Rattle.std.specs.Int.RustNames.{unsigned_abs}
use Rattle.tick_num.specs.Differences.{diff}
use Rattle.sched_model.specs.Numbers.{natural}
use Rattle.round_service.specs.declared.choices.MessageTimes.{MessageTimes}
use Rattle.round_service.specs.Serving.{ChoicesAreDecisions, IsServable, most_choice, served}

below_quotient : (x r q : ℕ) → 0 < r → x < r * q → x / r < q
below_quotient x r q p h =
    ⊎_elim
    (λ (less : x / r < q). less)
    (λ (ge : q ≤ x / r). absurd (omega (arith, mul-le-mul_left r ge)))
    (cases_lt (x / r) q)

times_quotient : (x h : ℕ) → 0 < h → x / h * h ≤ x
times_quotient x h p = omega arith

-- whole hyperperiods before a round instance
passed_at_most : (x r s h : ℕ) → 0 < r → 0 < h → x < r * (s / h + 2) → x / r * h ≤ s + h
passed_at_most x r s h p q l =
    let n : x / r ≤ s / h + 1 = omega (arith, below_quotient x r (s / h + 2) p l) in
    omega (arith, mul-le-mul_right h n, times_quotient s h q)

pub passed_most : (t : MessageTimes) (x : ℕ) → IsServable t → x < most_choice t → x / t.rounds * t.hyper ≤ 2001000000000
passed_most t x w l = omega (arith, passed_at_most x t.rounds (t.period + t.deadline) t.hyper (omega (arith, w.rounds)) (omega (arith, w.hyper)) l, w.hyper, w.period, w.deadline)

-- the start of an instance's period
earlier_at_most : (k p h : ℕ) → 0 < p → k < h / p → k * p < h
earlier_at_most k p h q l =
    let n : k + 1 ≤ h / p = omega arith in
    omega (arith, mul-le-mul_right p n, times_quotient h p q)

pub earlier_most : (t : MessageTimes) (k : ℕ) → IsServable t → k < t.hyper / t.period → k * t.period < 1000000000000
earlier_most t k w l = omega (arith, earlier_at_most k t.period t.hyper (omega (arith, w.period)) l, w.hyper)

-- the window of a copy is one of the hyperperiod
pub window_low : (t : MessageTimes) (x : ℕ) → IsServable t → x < t.copies * (t.hyper / t.period) → x / t.copies < t.hyper / t.period
window_low t x w l = below_quotient x t.copies (t.hyper / t.period) (omega (arith, w.copies)) l

quotient_most : (x h : ℕ) → 0 < h → x / h ≤ x
quotient_most x h p = let n : x / h * 1 ≤ x / h * h = mul-le-mul_left (x / h) (omega arith) in omega (arith, n, times_quotient x h p)

pub choices_most : (t : MessageTimes) → IsServable t → t.rounds * ((t.period + t.deadline) / t.hyper + 1) < 2 ^ 63
choices_most t w =
    let q : (t.period + t.deadline) / t.hyper ≤ 1001000000000 = omega (arith, quotient_most (t.period + t.deadline) t.hyper (omega (arith, w.hyper)), w.period, w.deadline) in
    let a : t.rounds * ((t.period + t.deadline) / t.hyper + 1) ≤ 256 * ((t.period + t.deadline) / t.hyper + 1) = mul-le-mul_right ((t.period + t.deadline) / t.hyper + 1) (omega (arith, w.rounds)) in
    omega arith

pub natural_abs : (g : ℤ) (n : ℕ) → pos 1 ≤ℤ g → n ≡ unsigned_abs g → n ≡ natural g
natural_abs (pos g) n h e = e
natural_abs (negsuc g) n h e = absurd (omega (arith, ints))

pub natural_most : (g : ℤ) (n b : ℕ) → n ≡ unsigned_abs g → pos 1 ≤ℤ g → g ≤ℤ pos b → n - 1 < b
natural_most (pos g) n b e h k = omega (arith, ints)
natural_most (negsuc g) n b e h k = absurd (omega (arith, ints))

-- the constraints, where their bounds are known
pub same_served : (x y : ℕ) (t : MessageTimes) (k n : ℕ) (g c d : ℤ) → n ≡ natural g → c ≡ pos ((n - 1) / t.rounds * t.hyper) -ℤ pos (k / t.copies * t.period) → d ≡ neg_ℤ c -ℤ pos t.round →
    (diff x ((n - 1) % t.rounds) c ∷ diff ((n - 1) % t.rounds) y d ∷ []) ≡ served x y t k g
same_served x y t k n g c d e f h = rw (h, f, e)

-- ---- numbers that are those of a message of a mode
pub choices_are : ChoicesAreDecisions
choices_are m r i t e = (λ p. rw (e.rounds, e.period, e.deadline, e.hyper), λ k p. rw (e.rounds), λ k v. rw (e.rounds, e.round, e.period, e.hyper, e.copies))
