-- The number of a task is its place among all tasks
use Rattle.std.proofs.Common.{◌≡◌, ℕ, zero, suc, ◌+◌, ◌<◌, List, [], ◌∷◌, ◌++◌, length, get_or, map, refl, sym, ◌∙◌, ap, subst, arith, length-append}
use Rattle.std.specs.List.{flat_map, sum_by}
use Rattle.std.proofs.lemmas.List.{get_or-map, length-map, map-append}
use Rattle.std.proofs.lemmas.List.Sums.{sum_by-cons}
use Rattle.app_graph.specs.declared.raw.RawApp.{RawApp}
use Rattle.app_graph.specs.declared.raw.RawMode.{RawMode}
use Rattle.app_graph.specs.declared.mode_set.App.{App}
use Rattle.app_graph.specs.declared.mode_set.Mode.{Mode}
use Rattle.app_graph.specs.declared.mode_set.ModeSet.{ModeSet}
use Rattle.app_graph.specs.declared.mode_set.Task.{Task}
use Rattle.app_graph.specs.Numbering.{tasks_from, apps_from, app_of, task_count, message_count, modes_from}
use Rattle.app_graph.specs.Validation.{KeepsRules}
use Rattle.sched_model.specs.Numbers.{below}
use Rattle.sched_model.specs.PlainMode.{PlainTask, TaskOfApp, no_task, task_at, tasks_of, plain_task, mode_at, plain_at}
use Rattle.sched_model.proofs.Lists.{get_or-flat_below}
use Rattle.sched_model.proofs.PlainPlaces.{nothing, length-tasks, task_there, task_found}
use Rattle.node_tables.proofs.PlainParts.{flat_first, flat_places}
use Rattle.world_core.specs.Owners.{AreOwners, nodes_in, owners_in}
use Rattle.world_core.proofs.EntryLists.{flat_eq, map_map}

abbrev no_mode : Mode
no_mode = record { name = []; apps = [] }

-- the nodes of a mode's tasks
abbrev nodes_at : Mode → List ℕ
nodes_at mode = map (λ (t : PlainTask). t.node) (map plain_task (tasks_of 0 mode.apps))

app_nodes : (n : ℕ) (apps : List App) → flat_map nodes_in apps ≡ map (λ (t : PlainTask). t.node) (map plain_task (tasks_of n apps))
app_nodes n [] = refl
app_nodes n (app ∷ apps) =
    let node = λ (t : PlainTask). t.node in
    let made = λ (t : Task). let x : TaskOfApp = record { place = n; app = app; task = t } in x in
    let here = map made app.tasks in
    ap (λ (l : List ℕ). nodes_in app ++ l) (app_nodes (suc n) apps)
    ∙ ap (λ (l : List ℕ). l ++ map node (map plain_task (tasks_of (suc n) apps))) (sym (ap (map node) (map_map plain_task made app.tasks) ∙ map_map node (λ t. plain_task (made t)) app.tasks))
    ∙ sym (ap (map node) (map-append plain_task here (tasks_of (suc n) apps)) ∙ map-append node (map plain_task here) (map plain_task (tasks_of (suc n) apps)))

pub owners_same : (set : ModeSet) → owners_in set.modes ≡ flat_map (λ i. map (λ (t : PlainTask). t.node) (plain_at set i).tasks) (below (length set.modes))
owners_same set =
    flat_places (λ (mode : Mode). flat_map nodes_in mode.apps) set.modes no_mode
    ∙ flat_eq (λ i. flat_map nodes_in (mode_at set i).apps) (λ i. map (λ (t : PlainTask). t.node) (plain_at set i).tasks) (below (length set.modes)) (λ i. app_nodes 0 (mode_at set i).apps)

-- how many tasks the applications have
count_apps : (nodes : List (List ℕ)) (n t m : ℕ) (apps : List RawApp) → length (tasks_of n (apps_from nodes t m apps)) ≡ sum_by (λ (a : RawApp). length a.tasks) apps
count_apps nodes n t m [] = refl
count_apps nodes n t m (a ∷ apps) =
    let here = map (λ (u : Task). let x : TaskOfApp = record { place = n; app = app_of nodes t m a; task = u } in x) (tasks_from nodes t a.tasks) in
    let rest = tasks_of (suc n) (apps_from nodes (t + length a.tasks) (m + length a.messages) apps) in
    let len : length here ≡ length a.tasks = length-map (tasks_from nodes t a.tasks) _ ∙ length-tasks nodes t a.tasks in
    length-append here rest ∙ ap (λ k. k + length rest) len ∙ ap (λ k. length a.tasks + k) (count_apps nodes (suc n) (t + length a.tasks) (m + length a.messages) apps)
    ∙ sym (sum_by-cons (λ (b : RawApp). length b.tasks) a apps)

-- the number of the first task of the mode at place i
abbrev first_number : ℕ → List RawMode → ℕ → ℕ
first_number t [] i = t
first_number t (raw ∷ raws) zero = t
first_number t (raw ∷ raws) (suc i) = first_number (t + task_count raw) raws i

module _ (nodes : List (List ℕ)) where
  numbered : (t m : ℕ) (raws : List RawMode) (i a : ℕ) → i < length (modes_from nodes t m raws) → a < length (tasks_of 0 (get_or (modes_from nodes t m raws) i no_mode).apps)
      → (get_or (tasks_of 0 (get_or (modes_from nodes t m raws) i no_mode).apps) a nothing).task.number ≡ first_number t raws i + a
  numbered t m [] i a l h = absurd (omega (arith, l))
  numbered t m (raw ∷ raws) zero a l h =
      let f = task_found nodes 0 t m raw.apps a h in
      let is = (task_there nodes 0 t m raw.apps f.0 f.2 f.3 f.1 f.4).1 in
      ap (λ y. (get_or (tasks_of 0 (apps_from nodes t m raw.apps)) y nothing).task.number) f.5 ∙ is.number ∙ (let s : t + (f.0 + f.1) ≡ t + a = omega (arith, f.5) in s)
  numbered t m (raw ∷ raws) (suc i) a l h = numbered (t + task_count raw) (m + message_count raw) raws i a (omega (arith, l)) h

  -- so many tasks stand before a mode
  before : (t m : ℕ) (raws : List RawMode) (i : ℕ) → i < length (modes_from nodes t m raws) →
      first_number t raws i ≡ t + length (flat_map (λ k. nodes_at (get_or (modes_from nodes t m raws) k no_mode)) (below i))
  before t m [] i l = absurd (omega (arith, l))
  before t m (raw ∷ raws) zero l = omega arith
  before t m (raw ∷ raws) (suc i) l =
      let next = modes_from nodes (t + task_count raw) (m + message_count raw) raws in
      let tasks = tasks_of 0 (apps_from nodes t m raw.apps) in
      let here = map (λ (t : PlainTask). t.node) (map plain_task tasks) in
      let len : length here ≡ task_count raw = length-map (map plain_task tasks) _ ∙ length-map tasks plain_task ∙ count_apps nodes 0 t m raw.apps in
      let rest = flat_map (λ k. nodes_at (get_or next k no_mode)) (below i) in
      let whole = ap length (flat_first (λ k. nodes_at (get_or (modes_from nodes t m (raw ∷ raws)) k no_mode)) i) ∙ length-append here rest in
      let ih = before (t + task_count raw) (m + message_count raw) raws i (omega (arith, l)) in
      omega (arith, ih, len, whole)

-- the number of a task of the set
pub number_is : (set : ModeSet) → KeepsRules set → (i a : ℕ) → i < length set.modes → a < length (plain_at set i).tasks →
    (task_at (plain_at set i) a).number ≡ length (flat_map (λ k. map (λ (t : PlainTask). t.node) (plain_at set k).tasks) (below i)) + a
number_is set (raw, ok, same) i a l h =
    let tasks = λ (ms : List Mode). tasks_of 0 (get_or ms i no_mode).apps in
    let ts = tasks set.modes in
    let here : a < length ts = omega (arith, h, length-map ts plain_task) in
    let modes : set.modes ≡ modes_from raw.nodes 0 0 raw.modes = ap (λ (x : ModeSet). x.modes) same in
    let n = numbered raw.nodes 0 0 raw.modes i a (subst (λ (ms : List Mode). i < length ms) modes l) (subst (λ (ms : List Mode). a < length (tasks ms)) modes here) in
    let b = before raw.nodes 0 0 raw.modes i (subst (λ (ms : List Mode). i < length ms) modes l) in
    ap (λ (x : PlainTask). x.number) (get_or-map plain_task ts a nothing no_task here)
    ∙ ap (λ (ms : List Mode). (get_or (tasks ms) a nothing).task.number) modes ∙ n
    ∙ ap (λ k. k + a) (b ∙ (let z : 0 + length (flat_map (λ k. nodes_at (get_or (modes_from raw.nodes 0 0 raw.modes) k no_mode)) (below i)) ≡ length (flat_map (λ k. nodes_at (get_or (modes_from raw.nodes 0 0 raw.modes) k no_mode)) (below i)) = omega arith in z)
    ∙ ap (λ (ms : List Mode). length (flat_map (λ k. nodes_at (get_or ms k no_mode)) (below i))) (sym modes))

pub are_owners : (set : ModeSet) → KeepsRules set → AreOwners set (owners_in set.modes)
are_owners set keeps = record {
  list = owners_same set;
  node = λ i a l h.
      let nodes = λ (k : ℕ). map (λ (t : PlainTask). t.node) (plain_at set k).tasks in
      let len : a < length (nodes i) = omega (arith, h, length-map (plain_at set i).tasks (λ (t : PlainTask). t.node)) in
      ap (λ (xs : List ℕ). get_or xs (task_at (plain_at set i) a).number 0) (owners_same set)
      ∙ ap (λ n. get_or (flat_map nodes (below (length set.modes))) n 0) (number_is set keeps i a l h)
      ∙ get_or-flat_below nodes (length set.modes) i a 0 l len
      ∙ get_or-map (λ (t : PlainTask). t.node) (plain_at set i).tasks a no_task 0 h;
}
