-- When the runs of two periodic tasks never meet
use Rattle.std.specs.Prelude.{ℕ, ◌⊎◌, ◌↔◌, ℤ, pos, ◌+ℤ◌, ◌-ℤ◌, ◌*ℤ◌, ◌≤ℤ◌, ◌<ℤ◌, unsigned_abs}
use Rattle.std.specs.Int.{IsGcd}

-- a run begins at a and takes d; another begins at b and takes e; they do not overlap
abbrev pub Disjoint : ℤ → ℤ → ℤ → ℤ → Type 0
Disjoint a d b e = ((a +ℤ d) ≤ℤ b) ⊎ ((b +ℤ e) ≤ℤ a)

-- where run k of a task with offset o and period p begins
abbrev pub run_start : ℤ → ℤ → ℕ → ℤ
run_start o p k = o +ℤ pos k *ℤ p

-- no run of the one task, now or later, meets a run of the other
abbrev pub NeverMeet : ℤ → ℤ → ℤ → ℤ → ℤ → ℤ → Type 0
NeverMeet p1 e1 o1 p2 e2 o2 = (k l : ℕ) → Disjoint (run_start o1 p1 k) e1 (run_start o2 p2 l) e2

-- the runs of the second task, moved by multiples of g, stand at place z between those of the first
abbrev pub FitsAt : ℤ → ℤ → ℤ → ℤ → ℤ → ℤ → Type 0
FitsAt g e1 o1 e2 o2 z = ((z *ℤ g +ℤ e1) ≤ℤ (o2 -ℤ o1)) × ((o2 -ℤ o1) ≤ℤ ((z +ℤ pos 1) *ℤ g -ℤ e2))

-- two tasks never meet exactly where the one stands at some place of the other, by the greatest common divisor of their periods
abbrev pub GcdClassLaw : Type 0
GcdClassLaw =
    (p1 e1 o1 p2 e2 o2 g : ℤ) → pos 0 <ℤ p1 → pos 0 <ℤ p2 → pos 0 <ℤ g →
    IsGcd (unsigned_abs p1) (unsigned_abs p2) (unsigned_abs g) → pos 1 ≤ℤ e1 → pos 1 ≤ℤ e2 → pos 0 ≤ℤ o1 → pos 0 ≤ℤ o2 →
    NeverMeet p1 e1 o1 p2 e2 o2 ↔ ((z : ℤ) × FitsAt g e1 o1 e2 o2 z)
