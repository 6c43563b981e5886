-- The numbers of all tasks of a set are the places of their nodes, and so the tasks on a node are found by its places
use Rattle.std.proofs.Common.{◌≡◌, ℕ, zero, suc, ◌+◌, ◌<◌, ◌≤◌, Bool, true, false, cond, List, [], ◌∷◌, ◌++◌, length, get_or, map, filter, refl, sym, ◌∙◌, ap, arith, length-append, append_assoc, append-nil}
use Rattle.std.specs.Prelude.{nat_eq}
use Rattle.std.specs.List.{flat_map}
use Rattle.std.proofs.lemmas.List.{length-map, map-append}
use Rattle.std.proofs.lemmas.List.Elements.{filter-append}
use Rattle.std.proofs.lemmas.List.Folds.{flat_map-map}
use Rattle.app_graph.specs.declared.mode_set.App.{App}
use Rattle.app_graph.specs.declared.mode_set.Mode.{Mode}
use Rattle.app_graph.specs.declared.mode_set.ModeSet.{ModeSet}
use Rattle.app_graph.specs.declared.mode_set.Task.{Task}
use Rattle.app_graph.specs.Validation.{KeepsRules}
use Rattle.sched_model.specs.declared.schedule.Schedule.{Schedule}
use Rattle.sched_model.specs.Numbers.{below}
use Rattle.sched_model.specs.PlainMode.{PlainTask, no_task, task_at, plain_at}
use Rattle.sched_model.proofs.Lists.{flat_below-suc, part_fits}
use Rattle.node_tables.proofs.PlainParts.{flat_same, map_same}
use Rattle.runtime_model.specs.Bodies.{tasks_on}
use Rattle.runtime_model.specs.Plans.{Plan, plan_of, plans_of}
use Rattle.world_core.specs.Owners.{nodes_in, owners_in}
use Rattle.world_core.specs.StandsFor.{body_names}
use Rattle.world_core.proofs.EntryLists.{map_places}
use Rattle.world_core.proofs.OwnerLemmas.{are_owners, number_is, owners_same}

-- ---- lists

below_more : (n k : ℕ) → below (n + k) ≡ below n ++ map (λ a. n + a) (below k)
below_more n zero = ap below (let e : n + 0 ≡ n = omega arith in e) ∙ sym (append-nil (below n))
below_more n (suc k) =
    ap below (let e : n + suc k ≡ suc (n + k) = omega arith in e)
    ∙ ap (λ (l : List ℕ). l ++ (n + k) ∷ []) (below_more n k)
    ∙ append_assoc (below n) (map (λ a. n + a) (below k)) ((n + k) ∷ [])
    ∙ ap (λ (l : List ℕ). below n ++ l) (sym (map-append (λ a. n + a) (below k) (k ∷ [])))

filter_flat : {X : Type 0} (t : ℕ → Bool) (f : X → List ℕ) (xs : List X) → filter t (flat_map f xs) ≡ flat_map (λ x. filter t (f x)) xs
filter_flat t f [] = refl
filter_flat t f (x ∷ xs) = filter-append t (f x) (flat_map f xs) ∙ ap (λ (l : List ℕ). filter t (f x) ++ l) (filter_flat t f xs)

filter_mapped : {X : Type 0} (f : X → ℕ) (t : ℕ → Bool) (q : X → Bool) (xs : List X) (d : X) → ((a : ℕ) → a < length xs → t (f (get_or xs a d)) ≡ q (get_or xs a d)) →
    filter t (map f xs) ≡ map f (filter q xs)
filter_mapped f t q [] d h = refl
filter_mapped f t q (x ∷ xs) d h =
    ap (λ (b : Bool). cond b (f x ∷ filter t (map f xs)) (filter t (map f xs))) (h 0 (omega arith))
    ∙ by_test (q x) (filter_mapped f t q xs d (λ a l. h (suc a) (omega (arith, l))))
  where
    by_test : (b : Bool) → filter t (map f xs) ≡ map f (filter q xs) → cond b (f x ∷ filter t (map f xs)) (filter t (map f xs)) ≡ map f (cond b (x ∷ filter q xs) (filter q xs))
    by_test true e = ap (λ (l : List ℕ). f x ∷ l) e
    by_test false e = e

-- ---- as many names of bodies as nodes

count_apps : (apps : List App) → length (flat_map (λ (app : App). map (λ (t : Task). t.body) app.tasks) apps) ≡ length (flat_map nodes_in apps)
count_apps [] = refl
count_apps (app ∷ apps) =
    let names = map (λ (t : Task). t.body) app.tasks in
    let rest = flat_map (λ (a : App). map (λ (t : Task). t.body) a.tasks) apps in
    let same : length names ≡ length (nodes_in app) = length-map app.tasks (λ (t : Task). t.body) ∙ sym (length-map app.tasks (λ (t : Task). t.node)) in
    length-append names rest ∙ ap (λ k. k + length rest) same ∙ ap (λ k. length (nodes_in app) + k) (count_apps apps) ∙ sym (length-append (nodes_in app) (flat_map nodes_in apps))

count_modes : (modes : List Mode) → length (flat_map (λ (mode : Mode). flat_map (λ (app : App). map (λ (t : Task). t.body) app.tasks) mode.apps) modes) ≡ length (owners_in modes)
count_modes [] = refl
count_modes (mode ∷ modes) =
    let names = λ (m : Mode). flat_map (λ (app : App). map (λ (t : Task). t.body) app.tasks) m.apps in
    let nodes = λ (m : Mode). flat_map nodes_in m.apps in
    length-append (names mode) (flat_map names modes) ∙ ap (λ k. k + length (flat_map names modes)) (count_apps mode.apps) ∙ ap (λ k. length (nodes mode) + k) (count_modes modes)
    ∙ sym (length-append (nodes mode) (owners_in modes))

pub names_count : (set : ModeSet) → length (body_names set) ≡ length (owners_in set.modes)
names_count set = count_modes set.modes

-- the nodes of all tasks by the plans are those by the modes
pub owners_of_plans : (set : ModeSet) (schedules : List Schedule) → flat_map (λ (p : Plan). map (λ (t : PlainTask). t.node) p.mode.tasks) (plans_of set schedules) ≡ owners_in set.modes
owners_of_plans set schedules = flat_map-map (λ (p : Plan). map (λ (t : PlainTask). t.node) p.mode.tasks) (plan_of set schedules) (below (length set.modes)) ∙ sym (owners_same set)

-- ---- numbers

module _ (set : ModeSet) (keeps : KeepsRules set) where
  abbrev nodes : ℕ → List ℕ
  nodes i = map (λ (t : PlainTask). t.node) (plain_at set i).tasks

  abbrev numbers : ℕ → List ℕ
  numbers i = map (λ (t : PlainTask). t.number) (plain_at set i).tasks

  -- the numbers of a mode's tasks follow those of the modes before it
  numbers_of : (i : ℕ) → i < length set.modes → numbers i ≡ map (λ a. length (flat_map nodes (below i)) + a) (below (length (nodes i)))
  numbers_of i l =
      let ts = (plain_at set i).tasks in
      map_places (λ (t : PlainTask). t.number) ts no_task
      ∙ map_same (λ a. (task_at (plain_at set i) a).number) (λ a. length (flat_map nodes (below i)) + a) (length ts) (λ a h. number_is set keeps i a l h)
      ∙ ap (λ k. map (λ a. length (flat_map nodes (below i)) + a) (below k)) (sym (length-map ts (λ (t : PlainTask). t.node)))

  numbers_below : (n : ℕ) → n ≤ length set.modes → flat_map numbers (below n) ≡ below (length (flat_map nodes (below n)))
  numbers_below zero l = refl
  numbers_below (suc n) l =
      let before = length (flat_map nodes (below n)) in
      flat_below-suc numbers n
      ∙ ap (λ (xs : List ℕ). xs ++ numbers n) (numbers_below n (omega (arith, l)))
      ∙ ap (λ (xs : List ℕ). below before ++ xs) (numbers_of n (omega (arith, l)))
      ∙ sym (below_more before (length (nodes n)))
      ∙ ap below (sym (length-append (flat_map nodes (below n)) (nodes n)))
      ∙ ap (λ (xs : List ℕ). below (length xs)) (sym (flat_below-suc nodes n))

  -- the number of a task is one of all
  pub number_below : (i a : ℕ) → i < length set.modes → a < length (plain_at set i).tasks → (task_at (plain_at set i) a).number < length (owners_in set.modes)
  number_below i a l h =
      let n = number_is set keeps i a l h in
      let fits = part_fits nodes (length set.modes) i l in
      omega (arith, n, fits, h, length-map (plain_at set i).tasks (λ (t : PlainTask). t.node), ap length (owners_same set))

  -- the tasks on a node are the numbers at which it stands among the owners
  pub tasks_by_owners : (schedules : List Schedule) (v : ℕ) →
      filter (λ k. nat_eq (get_or (owners_in set.modes) k 0) v) (below (length (owners_in set.modes))) ≡ tasks_on (plans_of set schedules) v
  tasks_by_owners schedules v =
      let n = length set.modes in
      let is = λ (k : ℕ). nat_eq (get_or (owners_in set.modes) k 0) v in
      let on = λ (t : PlainTask). nat_eq t.node v in
      let number = λ (t : PlainTask). t.number in
      ap (λ (xs : List ℕ). filter is (below (length xs))) (owners_same set)
      ∙ ap (filter is) (sym (numbers_below n (omega arith)))
      ∙ filter_flat is numbers (below n)
      ∙ flat_same (λ i. filter is (numbers i)) (λ i. map number (filter on (plain_at set i).tasks)) n
      (λ i l. filter_mapped number is on (plain_at set i).tasks no_task (λ a h. ap (λ (w : ℕ). nat_eq w v) ((are_owners set keeps).node i a l h)))
      ∙ sym (flat_map-map (λ (p : Plan). map number (filter on p.mode.tasks)) (plan_of set schedules) (below n))
