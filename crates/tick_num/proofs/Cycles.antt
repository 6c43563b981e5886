-- A list of constraints with a negative cycle has no solution: round a cycle the bounds of a solution sum to 0 at least.
use Rattle.std.proofs.Common.{ℕ, ◌<◌, List, [], ◌∷◌, length, map, subst, arith, ℤ, pos, ◌+ℤ◌, ◌-ℤ◌, ◌≤ℤ◌}
use Rattle.std.specs.List.{AllByRecursion}
use Rattle.std.proofs.lemmas.Int.{ints}
use Rattle.std.proofs.lemmas.List.Elements.{recursion_from_All}
use Rattle.tick_num.specs.declared.differences.Diff.{Diff}
use Rattle.tick_num.specs.Differences.{diff, Meets, MeetsAll, sum_ℤ, Closes, IsCycle, named, CyclesExclude}

-- along a chain of constraints the first variable is above x by at most their sum
along : (v : ℕ → ℤ) (x : ℕ) (d : Diff) (ds : List Diff) → AllByRecursion (Meets v) (d ∷ ds) → Closes x (d ∷ ds) → (v d.x -ℤ v x) ≤ℤ sum_ℤ (map (λ e. e.c) (d ∷ ds))
along v x d [] m e = subst (λ (y : ℕ). (v d.x -ℤ v y) ≤ℤ (d.c +ℤ pos 0)) e (omega (arith, ints, m.0))
along v x d (e ∷ ds) m c =
    let rest = along v x e ds m.1 c.1 in
    let here = subst (λ (y : ℕ). (v d.x -ℤ v y) ≤ℤ d.c) c.0 m.0 in
    omega (arith, ints, rest, here)

round_trip : (v : ℕ → ℤ) (ds : List Diff) → AllByRecursion (Meets v) ds → IsCycle ds → pos 0 ≤ℤ sum_ℤ (map (λ e. e.c) ds)
round_trip v [] m c = absurd c
round_trip v (d ∷ ds) m c = let a = along v d.x d ds m c in omega (arith, ints, a)

-- a solution meets the named constraints
meets_named : (v : ℕ → ℤ) (ds : List Diff) (refs : List ℕ) → MeetsAll v ds → AllByRecursion (λ i. i < length ds) refs → AllByRecursion (Meets v) (named ds refs)
meets_named v ds [] m h = tt
meets_named v ds (i ∷ refs) m h = (m i (diff 0 0 (pos 0)) h.0, meets_named v ds refs m h.1)

pub cycles_exclude : CyclesExclude
cycles_exclude ds refs n v m =
    let trip = round_trip v _ (meets_named v ds refs m (recursion_from_All (λ i. i < length ds) refs n.within)) n.closed in
    omega (arith, ints, trip, n.negative)
