-- What is open stays open where the last choices are taken away
use Rattle.std.proofs.Common.{ℕ, ◌≤◌, List, [], ◌∷◌, ◌++◌, arith, ℤ}
use Rattle.std.specs.List.{AllByRecursion}
use Rattle.std.proofs.lemmas.List.Elements.{recursion_from_All, All-from_recursion}
use Rattle.tick_num.specs.Differences.{Meets, MeetsAll}
use Rattle.sched_model.specs.PlainMode.{PlainMode}
use Rattle.sched_model.specs.ConstraintProblem.{Decision, serve, order, base, in_force, chosen, chosen_all, decisions, load_of}
use Rattle.sched_model.specs.OpenPrefix.{Open}
use Rattle.sched_model.proofs.Lists.{all_left, all_right, all_both}

-- what meets the constraints of a list of choices meets those of each front of it
chosen_front : (m : PlainMode) (r : ℕ) (v : ℕ → ℤ) (ds : List Decision) (p u : List ℤ) → AllByRecursion (Meets v) (chosen_all m r ds (p ++ u)) → AllByRecursion (Meets v) (chosen_all m r ds p)
chosen_front m r v [] p u h = tt
chosen_front m r v (d ∷ ds) [] u h = tt
chosen_front m r v (d ∷ ds) (x ∷ p) u h =
    all_both (Meets v) (chosen m r d x) _ (all_left (Meets v) (chosen m r d x) _ h) (chosen_front m r v ds p u (all_right (Meets v) (chosen m r d x) _ h))

pub in_force_front : (m : PlainMode) (r : ℕ) (v : ℕ → ℤ) (p u : List ℤ) → MeetsAll v (in_force m r (p ++ u)) → MeetsAll v (in_force m r p)
in_force_front m r v p u h =
    let all = recursion_from_All (Meets v) (in_force m r (p ++ u)) h in
    All-from_recursion (Meets v) (in_force m r p) (all_both (Meets v) (base m r) _ (all_left (Meets v) (base m r) _ all) (chosen_front m r v (decisions m) p u (all_right (Meets v) (base m r) _ all)))

pub load_front : (r j : ℕ) (ds : List Decision) (p u : List ℤ) → load_of r j ds p ≤ load_of r j ds (p ++ u)
load_front r j [] p u = omega arith
load_front r j (d ∷ ds) [] u = omega arith
load_front r j (serve i k ∷ ds) (x ∷ p) u = omega (arith, load_front r j ds p u)
load_front r j (order a b ∷ ds) (x ∷ p) u = load_front r j ds p u

pub open_front : (m : PlainMode) (r : ℕ) (p u : List ℤ) → Open m r (p ++ u) → Open m r p
open_front m r p u o = record {
  slots = o.slots;
  loads = λ j l. omega (arith, o.loads j l, load_front r j (decisions m) p u);
  values = (o.values.0, in_force_front m r o.values.0 p u o.values.1);
}
