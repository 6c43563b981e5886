-- The lines of trees. A line is what it says, or none where it has no form.
use Rattle.std.specs.Prelude.{◌≡◌, ℕ, zero, suc, ◌+◌, ◌-◌, ◌*◌, Bool, true, false, ◌&&◌, nat_lt, nat_le, nat_eq, ℤ, pos, int_lt, List, [], ◌∷◌, ◌++◌, length, map, Option, Some, None}
use Rattle.std.specs.List.{list_all}
use Rattle.tick_num.specs.declared.differences.Diff.{Diff}
use Rattle.tick_num.specs.Differences.{named, sum_ℤ}
use Rattle.sched_model.specs.PlainMode.{PlainMode, instances}
use Rattle.sched_model.specs.ConstraintProblem.{in_force, alternatives, decisions, load}
use Rattle.proof_tree.specs.Items.{Item, Branch, Short, Full, Cycle, Refute}

-- what the lines of a document say
abbrev pub Items : Type 0
Items = List (Option Item)

-- the y of each is the x of the next, and the y of the last is x
abbrev pub closes : ℕ → List Diff → Bool
closes x [] = false
closes x (d ∷ []) = nat_eq d.y x
closes x (d ∷ e ∷ ds) = nat_eq d.y e.x && closes x (e ∷ ds)

-- one or more constraints that go round
abbrev pub is_cycle : List Diff → Bool
is_cycle [] = false
is_cycle (d ∷ ds) = closes d.x (d ∷ ds)

-- positions of the list that go round and whose bounds sum below 0
abbrev pub is_negative : List Diff → List ℕ → Bool
is_negative ds refs = list_all (λ i. nat_lt i (length ds)) refs && is_cycle (named ds refs) && int_lt (sum_ℤ (map (λ d. d.c) (named ds refs))) (pos 0)

-- what a leaf says is so of the choices p
abbrev pub leaf_holds : PlainMode → ℕ → List ℤ → Item → Bool
leaf_holds m r p Short = nat_lt (r * m.slots) (instances m)
leaf_holds m r p (Full j) = nat_le 1 j && nat_le j r && nat_lt m.slots (load m r (j - 1) p)
leaf_holds m r p (Cycle refs) = is_negative (in_force m r p) refs
leaf_holds m r p _ = false

-- one after another, one for each number, and then the rest
abbrev pub EachOf : {A : Type 0} → (A → Items → Items → Type 0) → List A → Items → Items → Type 0
EachOf V [] ls rest = ls ≡ rest
EachOf V (a ∷ bs) ls rest = (mid : Items) × V a ls mid × EachOf V bs mid rest

-- the lines begin with a valid tree for the choices p, after which n decisions are left, and then have the rest
abbrev pub ValidLines : PlainMode → ℕ → ℕ → List ℤ → Items → Items → Type 0
ValidLines m r n p [] rest = ⊥
ValidLines m r n p (None ∷ ls) rest = ⊥
ValidLines m r n p (Some Short ∷ ls) rest = (leaf_holds m r p Short ≡ true) × (ls ≡ rest)
ValidLines m r n p (Some (Full j) ∷ ls) rest = (leaf_holds m r p (Full j) ≡ true) × (ls ≡ rest)
ValidLines m r n p (Some (Cycle refs) ∷ ls) rest = (leaf_holds m r p (Cycle refs) ≡ true) × (ls ≡ rest)
ValidLines m r zero p (Some Branch ∷ ls) rest = ⊥
ValidLines m r (suc n) p (Some Branch ∷ ls) rest = EachOf (λ a. ValidLines m r n (p ++ a ∷ [])) (alternatives m r p) ls rest
ValidLines m r n p (Some other ∷ ls) rest = ⊥

-- the lines begin with a valid tree for r rounds
abbrev pub TreeStands : PlainMode → ℕ → Items → Items → Type 0
TreeStands m r ls rest = ValidLines m r (length (decisions m)) [] ls rest

-- n trees, for r rounds, r + 1 rounds and so on, each behind the line with its number
abbrev pub TreesFrom : PlainMode → ℕ → ℕ → Items → Items → Type 0
TreesFrom m r zero ls rest = ls ≡ rest
TreesFrom m r (suc n) ls rest = (tail : Items) × (mid : Items) × (ls ≡ Some (Refute r) ∷ tail) × TreeStands m r tail mid × TreesFrom m (r + 1) n mid rest
