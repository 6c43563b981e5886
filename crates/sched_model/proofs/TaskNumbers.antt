-- The numbers of tasks over the file: those of a mode follow each other, and those of the next mode follow them
use Rattle.std.proofs.Common.{◌≡◌, ℕ, zero, suc, ◌+◌, ◌<◌, ◌≤◌, List, [], ◌∷◌, length, get_or, map, None, refl, sym, ◌∙◌, ap, subst, arith, ⊎_elim, length-append}
use Rattle.std.specs.List.{sum_by}
use Rattle.std.proofs.lemmas.Bool.{cases_lt, leb-true}
use Rattle.std.proofs.lemmas.List.{get_or-map, length-map}
use Rattle.std.proofs.lemmas.List.Sums.{sum_by-cons}
use Rattle.app_graph.specs.declared.faults.GraphFault.TheVariants.{TooMany}
use Rattle.app_graph.specs.declared.keys.Key.TheVariants.{KMode}
use Rattle.app_graph.specs.declared.raw.RawApp.{RawApp}
use Rattle.app_graph.specs.declared.raw.RawSet.{RawSet}
use Rattle.app_graph.specs.ValueRules.{set_rules, value_rules, at_most}
use Rattle.app_graph.proofs.Kept.{all_kept, unless_kept}
use Rattle.app_graph.specs.declared.raw.RawMode.{RawMode}
use Rattle.app_graph.specs.declared.mode_set.Mode.{Mode}
use Rattle.app_graph.specs.declared.mode_set.Task.{Task}
use Rattle.app_graph.specs.declared.mode_set.ModeSet.{ModeSet}
use Rattle.app_graph.specs.Numbering.{tasks_from, apps_from, app_of, task_count, message_count, modes_from, set_of}
use Rattle.app_graph.specs.Validation.{KeepsRules}
use Rattle.sched_model.specs.PlainMode.{PlainTask, no_task, task_at, TaskOfApp, tasks_of, plain_task, plain_at}
use Rattle.sched_model.specs.Numbered.{IsTaskOf, IsMessageOf}
use Rattle.sched_model.proofs.KeptSets.{mode_at_valid}
use Rattle.sched_model.proofs.PlainPlaces.{nothing, length-tasks, task_there, task_found}

abbrev no_mode : Mode
no_mode = record { name = []; apps = [] }

-- how many tasks the applications have
count_apps : (nodes : List (List ℕ)) (n t m : ℕ) (apps : List RawApp) → length (tasks_of n (apps_from nodes t m apps)) ≡ sum_by (λ (a : RawApp). length a.tasks) apps
count_apps nodes n t m [] = refl
count_apps nodes n t m (a ∷ apps) =
    let here = map (λ (u : Task). let x : TaskOfApp = record { place = n; app = app_of nodes t m a; task = u } in x) (tasks_from nodes t a.tasks) in
    let rest = tasks_of (suc n) (apps_from nodes (t + length a.tasks) (m + length a.messages) apps) in
    let len : length here ≡ length a.tasks = length-map (tasks_from nodes t a.tasks) _ ∙ length-tasks nodes t a.tasks in
    length-append here rest ∙ ap (λ k. k + length rest) len ∙ ap (λ k. length a.tasks + k) (count_apps nodes (suc n) (t + length a.tasks) (m + length a.messages) apps)
    ∙ sym (sum_by-cons (λ (b : RawApp). length b.tasks) a apps)

-- the number of the first task of the mode at place i
abbrev first_number : ℕ → List RawMode → ℕ → ℕ
first_number t [] i = t
first_number t (raw ∷ raws) zero = t
first_number t (raw ∷ raws) (suc i) = first_number (t + task_count raw) raws i

least : (t : ℕ) (raws : List RawMode) (i : ℕ) → t ≤ first_number t raws i
least t [] i = omega arith
least t (raw ∷ raws) zero = omega arith
least t (raw ∷ raws) (suc i) = omega (arith, least (t + task_count raw) raws i)

-- the tasks of a mode
abbrev tasks_at : List Mode → ℕ → List TaskOfApp
tasks_at modes i = tasks_of 0 (get_or modes i no_mode).apps

module _ (nodes : List (List ℕ)) where
  numbered : (t m : ℕ) (raws : List RawMode) (i a : ℕ) → i < length (modes_from nodes t m raws) → a < length (tasks_at (modes_from nodes t m raws) i)
      → (get_or (tasks_at (modes_from nodes t m raws) i) a nothing).task.number ≡ first_number t raws i + a
  numbered t m [] i a l h = absurd (omega (arith, l))
  numbered t m (raw ∷ raws) zero a l h =
      let f = task_found nodes 0 t m raw.apps a h in
      let is = (task_there nodes 0 t m raw.apps f.0 f.2 f.3 f.1 f.4).1 in
      ap (λ y. (get_or (tasks_of 0 (apps_from nodes t m raw.apps)) y nothing).task.number) f.5 ∙ is.number ∙ (let s : t + (f.0 + f.1) ≡ t + a = omega (arith, f.5) in s)
  numbered t m (raw ∷ raws) (suc i) a l h = numbered (t + task_count raw) (m + message_count raw) raws i a (omega (arith, l)) h

  -- the numbers of a later mode are greater
  later_mode : (t m : ℕ) (raws : List RawMode) (i j a : ℕ) → i < j → i < length (modes_from nodes t m raws) → a < length (tasks_at (modes_from nodes t m raws) i)
      → first_number t raws i + a < first_number t raws j
  later_mode t m [] i j a less l h = absurd (omega (arith, l))
  later_mode t m (raw ∷ raws) i zero a less l h = absurd (omega (arith, less))
  later_mode t m (raw ∷ raws) zero (suc j) a less l h =
      let b : t + task_count raw ≤ first_number (t + task_count raw) raws j = least (t + task_count raw) raws j in
      let c : length (tasks_of 0 (apps_from nodes t m raw.apps)) ≡ task_count raw = count_apps nodes 0 t m raw.apps in
      let d : a < length (tasks_of 0 (apps_from nodes t m raw.apps)) = h in
      omega (arith, b, c, d)
  later_mode t m (raw ∷ raws) (suc i) (suc j) a less l h = later_mode (t + task_count raw) (m + message_count raw) raws i j a (omega (arith, less)) (omega (arith, l)) h

-- ---- there are few modes
length-modes : (nodes : List (List ℕ)) (t m : ℕ) (modes : List RawMode) → length (modes_from nodes t m modes) ≡ length modes
length-modes nodes t m [] = refl
length-modes nodes t m (mode ∷ modes) = ap suc (length-modes nodes (t + task_count mode) (m + message_count mode) modes)

raw_few : (raw : RawSet) → value_rules raw ≡ None → length raw.modes ≤ 8
raw_few raw e = let k = all_kept (set_rules raw) e in leb-true (length raw.modes) 8 (unless_kept (at_most 8 raw.modes) (TooMany KMode) k.1.1.1.0)

pub few_modes : (set : ModeSet) → KeepsRules set → length set.modes ≤ 8
few_modes set (raw, e, same) =
    let l : length (set_of raw).modes ≤ 8 = omega (arith, length-modes raw.nodes 0 0 raw.modes, raw_few raw e) in
    subst (λ (s : ModeSet). length s.modes ≤ 8) (sym same) l

-- ---- a task's number
module _ (set : ModeSet) (keeps : KeepsRules set) where
  plain_number : (i a : ℕ) → a < length (plain_at set i).tasks → (task_at (plain_at set i) a).number ≡ (get_or (tasks_at set.modes i) a nothing).task.number
  plain_number i a h = ap (λ (x : PlainTask). x.number) (get_or-map plain_task (tasks_at set.modes i) a nothing no_task (omega (arith, h, length-map (tasks_at set.modes i) plain_task)))

  number_is : (i a n : ℕ) → IsTaskOf set i a n → n ≡ first_number 0 (keeps.0).modes i + a
  number_is i a n w =
      let raw = keeps.0 in
      let same = ap (λ (x : ModeSet). x.modes) keeps.2 in
      let h : a < length (tasks_at set.modes i) = omega (arith, w.place, length-map (tasks_at set.modes i) plain_task) in
      sym w.is ∙ plain_number i a w.place
      ∙ ap (λ (l : List Mode). (get_or (tasks_at l i) a nothing).task.number) same
      ∙ numbered raw.nodes 0 0 raw.modes i a (subst (λ (l : List Mode). i < length l) same w.mode) (subst (λ (l : List Mode). a < length (tasks_at l i)) same h)

  below_later : (i j a b n : ℕ) → IsTaskOf set i a n → IsTaskOf set j b n → i < j → ⊥
  below_later i j a b n v w less =
      let raw = keeps.0 in
      let same = ap (λ (x : ModeSet). x.modes) keeps.2 in
      let h : a < length (tasks_at set.modes i) = omega (arith, v.place, length-map (tasks_at set.modes i) plain_task) in
      let l = later_mode raw.nodes 0 0 raw.modes i j a less (subst (λ (l : List Mode). i < length l) same v.mode) (subst (λ (l : List Mode). a < length (tasks_at l i)) same h) in
      omega (arith, number_is i a n v, number_is j b n w, l)

  -- a task has one mode and one place
  pub one_mode : (i j a b n : ℕ) → IsTaskOf set i a n → IsTaskOf set j b n → i ≡ j
  one_mode i j a b n v w = ⊎_elim
      (λ (less : i < j). absurd (below_later i j a b n v w less))
      (λ (ge : j ≤ i). ⊎_elim
      (λ (more : j < i). absurd (below_later j i b a n w v more))
      (λ (le : i ≤ j). let s : i ≡ j = omega (arith, ge, le) in s)
      (cases_lt j i))
      (cases_lt i j)

  pub one_place : (i a b n : ℕ) → IsTaskOf set i a n → IsTaskOf set i b n → a ≡ b
  one_place i a b n v w = let s : a ≡ b = omega (arith, number_is i a n v, number_is i b n w) in s

  pub one_message : (i a b n : ℕ) → IsMessageOf set i a n → IsMessageOf set i b n → a ≡ b
  one_message i a b n v w = (mode_at_valid set keeps i v.mode).numbers a b v.place w.place (v.is ∙ sym w.is)
