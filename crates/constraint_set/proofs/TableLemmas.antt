-- The tables of a schedule, message by message
use Rattle.std.proofs.Common.{◌≡◌, ℕ, zero, suc, ◌+◌, ◌*◌, ◌<◌, ◌≤◌, Bool, true, false, cond, List, [], ◌∷◌, ◌++◌, length, map, filter, refl, sym, ◌∙◌, ap, arith, length-append, ℤ}
use Rattle.std.specs.List.{flat_map}
use Rattle.std.proofs.lemmas.List.{map-append}
use Rattle.sched_model.specs.Numbers.{below}
use Rattle.sched_model.specs.PlainMode.{PlainMode, message_at, copy_count}
use Rattle.sched_model.specs.ConstraintProblem.{decisions, serves, orders, place}
use Rattle.sched_model.specs.PrintedSchedule.{table_of, schedule_of}
use Rattle.sched_model.specs.declared.schedule.Schedule.{Schedule}
use Rattle.sched_model.proofs.Lists.{part_fits, flat_below-suc}
use Rattle.sched_model.proofs.Places.{length-serves}

-- the choices for a message's instances stand among those for all decisions
pub serves_fit : (m : PlainMode) (i : ℕ) → i < length m.messages → place m i 0 + copy_count m (message_at m i) ≤ length (decisions m)
unfolding decisions
serves_fit m i l =
    let e = part_fits (serves m) (length m.messages) i l in
    let n = length-serves m i in
    let s = length-append (flat_map (serves m) (below (length m.messages))) (flat_map (orders m) (below (length m.tasks))) in
    omega (arith, e, n, s)

-- those for the next message's come after them
pub next_serves : (m : PlainMode) (i first next : ℕ) → first ≡ place m i 0 → next ≡ first + copy_count m (message_at m i) → next ≡ place m (i + 1) 0
next_serves m i first next e s =
    let a : length (flat_map (serves m) (below (suc i))) ≡ length (flat_map (serves m) (below i)) + length (serves m i)
    = ap length (flat_below-suc (serves m) i) ∙ length-append (flat_map (serves m) (below i)) (serves m i) in
    let n = length-serves m i in
    let o : suc i ≡ i + 1 = omega arith in
    let b : length (flat_map (serves m) (below (i + 1))) ≡ length (flat_map (serves m) (below (suc i))) = ap (λ k. length (flat_map (serves m) (below k))) (sym o) in
    omega (arith, a, n, b, e, s)

keep_first : (b : Bool) (y : ℕ) (whole front end : List ℕ) → whole ≡ front ++ end → cond b (y ∷ whole) whole ≡ cond b (y ∷ front) front ++ end
keep_first true y whole front end e = ap (λ (l : List ℕ). y ∷ l) e
keep_first false y whole front end e = e

filter-append : (t : ℕ → Bool) (xs : List ℕ) (x : ℕ) → filter t (xs ++ x ∷ []) ≡ filter t xs ++ cond (t x) (x ∷ []) []
filter-append t [] x = refl
filter-append t (y ∷ xs) x = keep_first (t y) y (filter t (xs ++ x ∷ [])) (filter t xs) (cond (t x) (x ∷ []) []) (filter-append t xs x)

map_cond : (f : ℕ → ℕ) (b : Bool) (x : ℕ) → map f (cond b (x ∷ []) []) ≡ cond b (f x ∷ []) []
map_cond f true x = refl
map_cond f false x = refl

-- one more place is tested
pub table_step : (f : ℕ → ℕ) (t : ℕ → Bool) (i : ℕ) (old new : List ℕ) → old ≡ map f (filter t (below i)) → new ≡ old ++ cond (t i) (f i ∷ []) [] → new ≡ map f (filter t (below (i + 1)))
table_step f t i old new h s =
    s ∙ ap (λ (l : List ℕ). l ++ cond (t i) (f i ∷ []) []) h
    ∙ ap (λ (l : List ℕ). map f (filter t (below i)) ++ l) (sym (map_cond f (t i) i))
    ∙ sym (map-append f (filter t (below i)) (cond (t i) (i ∷ []) []))
    ∙ ap (λ (l : List ℕ). map f l) (sym (filter-append t (below i) i))
    ∙ ap (λ k. map f (filter t (below k))) (let o : suc i ≡ i + 1 = omega arith in o)

-- ---- the whole schedule
from_zero : (v : ℕ → ℤ) (r : ℕ) → map (λ j. v (0 + j)) (below r) ≡ map v (below r)
from_zero v zero = refl
from_zero v (suc r) =
    map-append (λ j. v (0 + j)) (below r) (r ∷ [])
    ∙ ap (λ (l : List ℤ). l ++ v (0 + r) ∷ []) (from_zero v r) ∙ ap (λ k. map v (below r) ++ v k ∷ []) (let o : 0 + r ≡ r = omega arith in o)
    ∙ sym (map-append v (below r) (r ∷ []))

abbrev of : List ℤ → List ℤ → List (ℤ × ℤ) → List (List ℕ) → Schedule
of a b c d = record { starts = a; tasks = b; messages = c; tables = d }

module _ (m : PlainMode) (r : ℕ) (p : List ℤ) (v : ℕ → ℤ) where
  abbrev windows_at : ℕ → ℕ → List (ℤ × ℤ)
  windows_at past k = map (λ i. (v (past + 2 * i), v (past + 2 * i + 1))) (below k)

  pub schedule_made : (n past k : ℕ) (starts offsets : List ℤ) (windows : List (ℤ × ℤ)) (tables : List (List ℕ))
      → starts ≡ map (λ j. v (0 + j)) (below r) → offsets ≡ map (λ a. v (r + a)) (below n) → n ≡ length m.tasks
      → windows ≡ map (λ i. (v (past + 2 * i), v (past + 2 * i + 1))) (below k) → past ≡ r + n → k ≡ length m.messages
      → tables ≡ map (table_of m r p) (below r)
      → (let s : Schedule = record { starts = starts; tasks = offsets; messages = windows; tables = tables } in s) ≡ schedule_of m r p v
  schedule_made n past k starts offsets windows tables es eo en ew ep ek et =
      ap (λ (x : List ℤ). of x offsets windows tables) (es ∙ from_zero v r)
      ∙ ap (λ (x : List ℤ). of (map v (below r)) x windows tables) (eo ∙ ap (λ y. map (λ a. v (r + a)) (below y)) en)
      ∙ ap (λ (x : List (ℤ × ℤ)). of (map v (below r)) (map (λ a. v (r + a)) (below (length m.tasks))) x tables)
      (ew ∙ ap (λ y. windows_at y k) (ep ∙ ap (λ y. r + y) en) ∙ ap (λ y. windows_at (r + length m.tasks) y) ek)
      ∙ ap (λ (x : List (List ℕ)). of (map v (below r)) (map (λ a. v (r + a)) (below (length m.tasks))) (windows_at (r + length m.tasks) (length m.messages)) x) et
