-- Each period divides the hyperperiod
use Rattle.std.proofs.Common.{◌≡◌, ℕ, zero, suc, ◌*◌, ◌/◌, ◌<◌, ◌≤◌, List, [], ◌∷◌, length, get_or, Contains, sym, subst, arith}
use Prim.Native.Nat.{◌∣◌}
use Rattle.std.specs.List.{fold}
use Rattle.std.proofs.lemmas.Nat.Gcd.{dvd_trans, dvd_refl}
use Rattle.std.proofs.Math.Nat.{div-mul_cancel}
use Rattle.app_graph.specs.Hyperperiod.{lcm}
use Rattle.app_graph.proofs.Multiples.{lcm_left, lcm_right, grows}
use Rattle.sched_model.specs.PlainMode.{PlainMode, hyper}

from_start : (k : ℕ) (ps : List ℕ) → k ∣ fold lcm k ps
from_start k [] = dvd_refl k
from_start k (p ∷ ps) = dvd_trans k (lcm_left k p) (from_start (lcm k p) ps)

each : (k : ℕ) (ps : List ℕ) (i d : ℕ) → i < length ps → 1 ≤ get_or ps i d → get_or ps i d ∣ fold lcm k ps
each k [] i d l h = absurd (omega arith)
each k (p ∷ ps) zero d l h = dvd_trans p (lcm_right k p h) (from_start (lcm k p) ps)
each k (p ∷ ps) (suc i) d l h = each (lcm k p) ps i d (omega arith) h

pub period_divides : (m : PlainMode) (p : ℕ) → 1 ≤ p → Contains m.periods p → hyper m ≡ hyper m / p * p
unfolding hyper
period_divides m p h c = sym (div-mul_cancel p (subst (λ x. x ∣ fold lcm 1 m.periods) c.2 (each 1 m.periods c.0 p c.1 (subst (λ x. 1 ≤ x) (sym c.2) h))))

pub hyper_some : (m : PlainMode) → 1 ≤ hyper m
unfolding hyper
hyper_some m = grows 1 m.periods

pub some_factor : (h k p : ℕ) → 1 ≤ h → h ≡ k * p → 1 ≤ k
some_factor h zero p l e = absurd (omega arith)
some_factor h (suc k) p l e = omega arith
