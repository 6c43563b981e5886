-- The plans of the modes, one after another
use Rattle.std.proofs.Common.{◌≡◌, ℕ, ◌+◌, ◌<◌, ◌≤◌, List, [], ◌∷◌, ◌++◌, length, take, sym, ◌∙◌, ap, subst, arith}
use Rattle.std.specs.List.{AllZip, AllByRecursion}
use Rattle.std.proofs.lemmas.List.{take_more, take_all}
use Rattle.std.proofs.lemmas.List.Sums.{sum_by_push}
use Rattle.app_graph.specs.declared.mode_set.ModeSet.{ModeSet}
use Rattle.app_graph.specs.declared.mode_set.Mode.{Mode}
use Rattle.app_graph.specs.Validation.{KeepsRules}
use Rattle.sched_model.specs.PlainMode.{PlainMode, plain_at, plain_mode, mode_at}
use Rattle.sched_model.specs.SearchCost.{Cost}
use Rattle.proof_tree.specs.declared.tree.ModePart.{ModePart}
use Rattle.proof_tree.specs.DocumentLaws.{OwnDocumentsHaveRoom, WithinBudget}
use Rattle.proof_tree.specs.OwnDocument.{OwnPart, OwnDoc}
use Rattle.proof_tree.specs.PlanText.{plan_text}
use Rattle.planner.specs.declared.plan.Planned.{Planned}
use Rattle.planner.specs.declared.plan.Planned.TheVariants as planned
use Rattle.planner.specs.Plans.{IsPlanned}
use Rattle.ttw_program.specs.Plans.{IsWithin, PlansMode, PlansAll, SpendsFirst, VisitsIn, VisitsAll}

zip_push : {A B : Type 0} (R : A → B → Type 0) (xs : List A) (ys : List B) (x : A) (y : B) → AllZip R xs ys → R x y → AllZip R (xs ++ x ∷ []) (ys ++ y ∷ [])
zip_push R [] [] x y h r = (r, tt)
zip_push R [] (b ∷ ys) x y h r = absurd h
zip_push R (a ∷ xs) [] x y h r = absurd h
zip_push R (a ∷ xs) (b ∷ ys) x y h r = (h.0, zip_push R xs ys x y h.1 r)

-- the modes that have a part are within the budget
pub within_parts : (set : ModeSet) (budget : ℕ) (modes : List Mode) (parts : List ModePart) → AllZip (PlansMode set budget) modes parts → AllByRecursion (IsWithin set budget) modes
within_parts set budget [] [] h = tt
within_parts set budget [] (part ∷ parts) h = absurd h
within_parts set budget (mode ∷ modes) [] h = absurd h
within_parts set budget (mode ∷ modes) (part ∷ parts) h = (h.0.within, within_parts set budget modes parts h.1)

own_parts : (set : ModeSet) (budget : ℕ) (modes : List Mode) (parts : List ModePart) → AllZip (PlansMode set budget) modes parts → AllZip (OwnPart set) modes parts
own_parts set budget [] [] h = tt
own_parts set budget [] (part ∷ parts) h = absurd h
own_parts set budget (mode ∷ modes) [] h = absurd h
own_parts set budget (mode ∷ modes) (part ∷ parts) h = (h.0.own, own_parts set budget modes parts h.1)

greatest_budget : (set : ModeSet) (budget : ℕ) (modes : List Mode) → budget ≤ 100000 → AllByRecursion (IsWithin set budget) modes → AllByRecursion (WithinBudget set) modes
greatest_budget set budget [] le h = tt
greatest_budget set budget (mode ∷ modes) le ((c, cost, less), rest) = ((c, cost, omega (arith, less, le)), greatest_budget set budget modes le rest)

-- a mode's cost is within the budget
pub cost_most : (m : PlainMode) (budget cost : ℕ) (part : ModePart) (plan : Planned) → IsPlanned m budget plan → plan ≡ planned.Made part cost → cost ≤ budget
cost_most m budget cost part plan is e = let made = subst (IsPlanned m budget) e is in made.4

module _ (set : ModeSet) (budget : ℕ) where
  -- one mode more has its part
  pub next_part : (i cost : ℕ) (parts new : List ModePart) (part : ModePart) (plan : Planned) → i < length set.modes → AllZip (PlansMode set budget) (take i set.modes) parts
      → IsPlanned (plain_at set i) budget plan → plan ≡ planned.Made part cost → new ≡ parts ++ part ∷ [] → AllZip (PlansMode set budget) (take (i + 1) set.modes) new
  next_part i cost parts new part plan l h is e en =
      let made = subst (IsPlanned (plain_at set i) budget) e is in
      let one : PlansMode set budget (mode_at set i) part = record { own = record { trees = made.0; answer = made.1 }; best = made.2; within = (cost, made.3, made.4) } in
      let modes : take i set.modes ++ mode_at set i ∷ [] ≡ take (i + 1) set.modes = sym (take_more set.modes i _ l) in
      subst (λ (ms : List Mode). AllZip (PlansMode set budget) ms new) modes
      (subst (λ (ps : List ModePart). AllZip (PlansMode set budget) (take i set.modes ++ mode_at set i ∷ []) ps) (sym en) (zip_push (PlansMode set budget) (take i set.modes) parts (mode_at set i) part h one))

  pub all_parts : (n : ℕ) (parts : List ModePart) → length set.modes ≤ n → AllZip (PlansMode set budget) (take n set.modes) parts → PlansAll set budget parts
  all_parts n parts l h = subst (λ (ms : List Mode). AllZip (PlansMode set budget) ms parts) (take_all n set.modes l) h

  -- and its cost is one more
  pub next_cost : (i cost visited new : ℕ) (part : ModePart) (plan : Planned) → i < length set.modes → VisitsIn set (take i set.modes) visited
      → IsPlanned (plain_at set i) budget plan → plan ≡ planned.Made part cost → new ≡ visited + cost → VisitsIn set (take (i + 1) set.modes) new
  next_cost i cost visited new part plan l (costs, all, sums) is e en =
      let made = subst (IsPlanned (plain_at set i) budget) e is in
      let R : Mode → ℕ → Type 0 = λ mode cost. Cost (plain_mode set mode) cost in
      let modes : take i set.modes ++ mode_at set i ∷ [] ≡ take (i + 1) set.modes = sym (take_more set.modes i _ l) in (
        costs ++ cost ∷ [],
        subst (λ (ms : List Mode). AllZip R ms (costs ++ cost ∷ [])) modes (zip_push R (take i set.modes) costs (mode_at set i) cost all made.3),
        en ∙ ap (λ n. n + cost) sums ∙ sym (sum_by_push (λ x. x) costs cost),
      )

  pub all_costs : (n visited : ℕ) → length set.modes ≤ n → VisitsIn set (take n set.modes) visited → VisitsAll set visited
  all_costs n visited l h = subst (λ (ms : List Mode). VisitsIn set ms visited) (take_all n set.modes l) h

  -- this mode is the first that exceeds the budget
  pub spends_first : (i r : ℕ) (parts : List ModePart) (plan : Planned) → i < length set.modes → AllZip (PlansMode set budget) (take i set.modes) parts → IsPlanned (plain_at set i) budget plan → plan ≡ planned.Spent r → SpendsFirst set budget i r
  spends_first i r parts plan l h is e = record { mode = l; spent = subst (IsPlanned (plain_at set i) budget) e is; before = within_parts set budget (take i set.modes) parts h }

  -- the text of all parts is a document of the search
  pub own_document : OwnDocumentsHaveRoom → KeepsRules set → budget ≤ 100000 → (parts : List ModePart) → PlansAll set budget parts → OwnDoc set (plan_text set parts)
  own_document law keeps le parts all = law set parts keeps (own_parts set budget set.modes parts all) (greatest_budget set budget set.modes le (within_parts set budget set.modes parts all))
