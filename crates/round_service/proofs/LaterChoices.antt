-- The alternatives of a later instance, after the choices for the same message alone
use Rattle.std.proofs.Common.{◌≡◌, ℕ, zero, suc, ◌-◌, ◌<◌, List, length, get_or, ◌∙◌, ap, arith, ℤ, pos, ◌+ℤ◌, ◌-ℤ◌}
use Rattle.sched_model.specs.Numbers.{span}
use Rattle.sched_model.specs.PlainMode.{PlainMode}
use Rattle.sched_model.specs.ConstraintProblem.{serve, alternatives_of}

pub later_are : (m : PlainMode) (r a i : ℕ) (p : List ℤ) (low high : ℤ) → 0 < i → length p ≡ i → low ≡ get_or p (length p - 1) (pos 0) +ℤ pos 1
    → high ≡ get_or p 0 (pos 0) +ℤ pos r -ℤ pos 1 → span low high ≡ alternatives_of m r (serve a i) p
later_are m r a zero p low high s n e f = absurd (omega (arith, s))
later_are m r a (suc k) p low high s n e f =
    ap (λ z. span z high) e
    ∙ ap (λ z. span (get_or p (length p - 1) (pos 0) +ℤ pos 1) z) f
    ∙ ap (λ x. span (get_or p (length p - 1) (pos 0) +ℤ pos 1) (get_or p x (pos 0) +ℤ pos r -ℤ pos 1)) (let z : 0 ≡ length p - suc k = omega (arith, n) in z)
