-- A set that keeps the rules has its tasks on its nodes, and the producers of a message on one
use Rattle.std.proofs.Common.{◌≡◌, ℕ, zero, suc, ◌+◌, ◌<◌, ◌≤◌, Bool, true, false, List, [], ◌∷◌, ◌++◌, length, get_or, map, filter, Contains, Option, Some, None, refl, sym, ◌∙◌, ap, subst, arith, inl, inr, ⊎_elim, unsigned_abs, unwrap_or}
use Rattle.std.specs.List.{AllByRecursion, flat_map, list_all, position, position_or_len}
use Rattle.std.specs.Str.{bytes_eq}
use Rattle.std.proofs.lemmas.Bool.{and_parts, cases_Bool, cond-true, cond-false}
use Rattle.std.proofs.lemmas.List.{get_or_append_left, get_or-append-add, get_or-map, length-map}
use Rattle.std.proofs.lemmas.List.Elements.{All-contains, All-from_recursion, Contains-get_or}
use Rattle.std.proofs.lemmas.List.Quantifiers.{position-Some}
use Rattle.std.proofs.lemmas.Slice.Eq.{bytes_eq-Decides}
use Rattle.app_graph.specs.declared.faults.GraphFault.TheVariants.{OutOfRange, TwoSenders}
use Rattle.app_graph.specs.declared.keys.Key.TheVariants.{KMode, KNodes}
use Rattle.app_graph.specs.declared.mode_set.App.{App}
use Rattle.app_graph.specs.declared.mode_set.Mode.{Mode}
use Rattle.app_graph.specs.declared.mode_set.ModeSet.{ModeSet}
use Rattle.app_graph.specs.declared.mode_set.Task.{Task}
use Rattle.app_graph.specs.declared.raw.RawApp.{RawApp}
use Rattle.app_graph.specs.declared.raw.RawMessage.{RawMessage}
use Rattle.app_graph.specs.declared.raw.RawMode.{RawMode}
use Rattle.app_graph.specs.declared.raw.RawSet.{RawSet}
use Rattle.app_graph.specs.declared.raw.RawTask.{RawTask}
use Rattle.app_graph.specs.Numbering.{apps_from, messages_from, message_count, modes_from, node_place, numbers_of, set_of, task_count, task_place, tasks_from}
use Rattle.app_graph.specs.Validation.{KeepsRules}
use Rattle.app_graph.specs.ValueRules.{among, app_rules, app_values, has_some, is_task, message_rules, message_values, mode_rules, mode_values, node_rules, on_one_node, set_rules, tasks_named, value_rules}
use Rattle.app_graph.proofs.Kept.{all_kept, each_kept, unless_kept}
use Rattle.sched_model.specs.PlainMode.{PlainMode, PlainTask, TaskOfApp, message_at, mode_at, no_task, place_of, plain_at, plain_mode, plain_task, task_at, tasks_of}
use Rattle.sched_model.proofs.KeptModes.{among_names, app_kept, comes, from_mapped, known_place, message_kept, place_is}
use Rattle.sched_model.proofs.KeptRules.{KeptEnds, KeptMode, kept_set}
use Rattle.sched_model.proofs.PlainPlaces.{At, at_all, length-tasks, no_raw_message, no_raw_task, nothing, place_at, task_found, task_there}

-- ---- nodes and modes there are

some_there : {X : Type 0} (xs : List X) → has_some xs ≡ true → 1 ≤ length xs
some_there [] e = absurd (let q : false ≡ true = e in cc)
some_there (x ∷ xs) e = omega arith

raw_nodes : (raw : RawSet) → value_rules raw ≡ None → 1 ≤ length raw.nodes
raw_nodes raw e =
    let n = all_kept (node_rules raw) (all_kept (set_rules raw) e).1.0 in
    some_there raw.nodes (unless_kept (has_some raw.nodes) (OutOfRange KNodes) n.0)

raw_modes : (raw : RawSet) → value_rules raw ≡ None → 1 ≤ length raw.modes
raw_modes raw e = some_there raw.modes (unless_kept (has_some raw.modes) (OutOfRange KMode) (all_kept (set_rules raw) e).1.1.0)

length-modes : (nodes : List (List ℕ)) (t m : ℕ) (modes : List RawMode) → length (modes_from nodes t m modes) ≡ length modes
length-modes nodes t m [] = refl
length-modes nodes t m (mode ∷ modes) = ap suc (length-modes nodes (t + task_count mode) (m + message_count mode) modes)

pub some_mode : (set : ModeSet) → KeepsRules set → 1 ≤ length set.modes
some_mode set (raw, e, same) =
    let l : 1 ≤ length (set_of raw).modes = omega (arith, length-modes raw.nodes 0 0 raw.modes, raw_modes raw e) in
    subst (λ (s : ModeSet). 1 ≤ length s.modes) (sym same) l

-- the place of a name is one of a node, where there are nodes
node_low : (nodes : List (List ℕ)) (name : List ℕ) → 1 ≤ length nodes → node_place nodes name < length nodes
node_low nodes name some = by_place (position (bytes_eq name) nodes) refl
  where
    by_place : (o : Option ℕ) → position (bytes_eq name) nodes ≡ o → unwrap_or o 0 < length nodes
    by_place None e = omega (arith, some)
    by_place (Some k) e = (position-Some (bytes_eq name) nodes k [] e).0

pub host_known : (set : ModeSet) → KeepsRules set → set.host < length set.nodes
host_known set (raw, e, same) = subst (λ (s : ModeSet). s.host < length s.nodes) (sym same) (node_low raw.nodes raw.host (raw_nodes raw e))

-- ---- the producers that a message names

-- the producers of each message of an application are on one node
abbrev OneSender : RawApp → Type 0
OneSender app = AllByRecursion (λ m. on_one_node (tasks_named app m.from) ≡ true) app.messages

abbrev OneSenders : RawMode → Type 0
OneSenders mode = AllByRecursion OneSender mode.apps

kept_senders : (raw : RawSet) → value_rules raw ≡ None → AllByRecursion OneSenders raw.modes
kept_senders raw e = each_kept (mode_values raw) OneSenders of_mode [] raw.modes (all_kept (set_rules raw) e).1.1.1.1.0
  where
    of_message : (app : RawApp) (earlier : List RawMessage) (m : RawMessage) → message_values app earlier m ≡ None → on_one_node (tasks_named app m.from) ≡ true
    of_message app earlier m e = unless_kept (on_one_node (tasks_named app m.from)) (TwoSenders m.name) (all_kept (message_rules app earlier m) e).1.1.1.1.0

    of_app : (earlier : List RawApp) (app : RawApp) → app_values raw earlier app ≡ None → OneSender app
    of_app earlier app e =
        each_kept (message_values app) (λ m. on_one_node (tasks_named app m.from) ≡ true) (of_message app) (flat_map (λ a. a.messages) earlier) app.messages (all_kept (app_rules raw earlier app) e).1.1.0

    of_mode : (earlier : List RawMode) (mode : RawMode) → mode_values raw earlier mode ≡ None → OneSenders mode
    of_mode earlier mode e = each_kept (app_values raw) OneSender of_app [] mode.apps (all_kept (mode_rules raw earlier mode) e).1.1.0

-- what all do that pass a test, one does that passes it
all_filtered : {X : Type 0} (q p : X → Bool) (xs : List X) (d : X) (i : ℕ) → i < length xs → p (get_or xs i d) ≡ true → list_all q (filter p xs) ≡ true → q (get_or xs i d) ≡ true
all_filtered q p [] d i l e h = absurd (omega (arith, l))
all_filtered q p (x ∷ xs) d zero l e h =
    let is = cond-true (p x) (x ∷ filter p xs) (filter p xs) e in
    (and_parts (q x) (list_all q (filter p xs)) (sym (ap (λ ys. list_all q ys) is) ∙ h)).0
all_filtered q p (x ∷ xs) d (suc i) l e h = all_filtered q p xs d i (omega (arith, l)) e (⊎_elim
    (λ (yes : p x ≡ true).
    let is = cond-true (p x) (x ∷ filter p xs) (filter p xs) yes in
    (and_parts (q x) (list_all q (filter p xs)) (sym (ap (λ ys. list_all q ys) is) ∙ h)).1)
    (λ (no : p x ≡ false). sym (ap (λ ys. list_all q ys) (cond-false (p x) (x ∷ filter p xs) (filter p xs) no)) ∙ h)
    (cases_Bool (p x)))

-- two tasks that are named are on one node
same_node : (A : RawApp) (names : List (List ℕ)) (i j : ℕ) → i < length A.tasks → j < length A.tasks
    → among (get_or A.tasks i no_raw_task).name names ≡ true → among (get_or A.tasks j no_raw_task).name names ≡ true
    → on_one_node (tasks_named A names) ≡ true → (get_or A.tasks i no_raw_task).node ≡ (get_or A.tasks j no_raw_task).node
same_node A names i j li lj e f h =
    let ti = get_or A.tasks i no_raw_task in
    let tj = get_or A.tasks j no_raw_task in
    let named = λ (t : RawTask). among t.name names in
    let all = all_filtered (λ (t : RawTask). list_all (λ (u : RawTask). bytes_eq t.node u.node) (tasks_named A names)) named A.tasks no_raw_task i li e h in
    (bytes_eq-Decides ti.node tj.node).0 (all_filtered (λ (u : RawTask). bytes_eq ti.node u.node) named A.tasks no_raw_task j lj f all)

-- ---- the nodes of the tasks of a mode

module _ (nodes : List (List ℕ)) where
  task_node : (t : ℕ) (us : List RawTask) (j : ℕ) (d : Task) → j < length us → (get_or (tasks_from nodes t us) j d).node ≡ node_place nodes (get_or us j no_raw_task).node
  task_node t [] j d l = absurd (omega (arith, l))
  task_node t (u ∷ us) zero d l = refl
  task_node t (u ∷ us) (suc j) d l = task_node (t + 1) us j d (omega (arith, l))

  -- the tasks of the first application
  abbrev part : ℕ → ℕ → ℕ → RawApp → List TaskOfApp
  part n t m a =
      let app : App = record { name = a.name; period = a.period; deadline = a.deadline; tasks = tasks_from nodes t a.tasks; messages = messages_from t a.tasks m a.messages } in
      map (λ u. record { place = n; app = app; task = u }) (tasks_from nodes t a.tasks)

  length-part : (n t m : ℕ) (a : RawApp) → length (part n t m a) ≡ length a.tasks
  length-part n t m a = length-map (tasks_from nodes t a.tasks) _ ∙ length-tasks nodes t a.tasks

  -- the task at a place of an application is on the node of its name
  node_there : (n t m : ℕ) (apps : List RawApp) (k : ℕ) (A : RawApp) → At apps k A → (j : ℕ) → j < length A.tasks →
      (get_or (tasks_of n (apps_from nodes t m apps)) (k + j) nothing).task.node ≡ node_place nodes (get_or A.tasks j no_raw_task).node
  node_there n t m [] k A at j l = absurd at
  node_there n t m (a ∷ apps) k A (inl (e, same)) j l =
      let rest = tasks_of (suc n) (apps_from nodes (t + length a.tasks) (m + length a.messages) apps) in
      let len = length-part n t m a in
      let here : j < length a.tasks = subst (λ (b : RawApp). j < length b.tasks) (sym same) l in
      let app : App = record { name = a.name; period = a.period; deadline = a.deadline; tasks = tasks_from nodes t a.tasks; messages = messages_from t a.tasks m a.messages } in
      let x : get_or (part n t m a ++ rest) j nothing ≡ record { place = n; app = app; task = get_or (tasks_from nodes t a.tasks) j (nothing).task } =
      get_or_append_left (part n t m a) rest nothing j (omega (arith, here, len)) ∙ get_or-map (λ u. record { place = n; app = app; task = u }) (tasks_from nodes t a.tasks) j (nothing).task nothing (omega (arith, here, length-tasks nodes t a.tasks)) in
      let y = ap (λ i. get_or (part n t m a ++ rest) i nothing) (let s : k + j ≡ j = omega (arith, e) in s) ∙ x in
      ap (λ (z : TaskOfApp). z.task.node) y ∙ task_node t a.tasks j (nothing).task here ∙ ap (λ (b : RawApp). node_place nodes (get_or b.tasks j no_raw_task).node) same
  node_there n t m (a ∷ apps) k A (inr (i, e, at)) j l =
      let rest = tasks_of (suc n) (apps_from nodes (t + length a.tasks) (m + length a.messages) apps) in
      let len = length-part n t m a in
      let y : get_or (part n t m a ++ rest) (k + j) nothing ≡ get_or rest (i + j) nothing =
      ap (λ x. get_or (part n t m a ++ rest) x nothing) (let s : k + j ≡ length (part n t m a) + (i + j) = omega (arith, e, len) in s) ∙ get_or-append-add (part n t m a) rest (i + j) nothing in
      ap (λ (z : TaskOfApp). z.task.node) y ∙ node_there (suc n) (t + length a.tasks) (m + length a.messages) apps i A at j l

-- the nodes of the tasks of a mode of a set with so many nodes
pub record OnNodes (nodes : ℕ) (m : PlainMode) : Type 0 where
  pub known : (a : ℕ) → a < length m.tasks → (task_at m a).node < nodes
  pub senders : (i a b : ℕ) → i < length m.messages → Contains (message_at m i).from a → Contains (message_at m i).from b → (task_at m a).node ≡ (task_at m b).node

-- ---- one mode, whose tasks have the numbers t, t + 1, .. and whose messages have n, n + 1, ..
module _ (raw : RawSet) (set : ModeSet) (nodes : List (List ℕ)) (mode : RawMode) (t n : ℕ) (round : 1 ≤ unsigned_abs set.round) (kept : KeptMode raw mode) where
  abbrev m : PlainMode
  m = plain_mode set (record { name = mode.name; apps = apps_from nodes t n mode.apps })

  abbrev ts : List TaskOfApp
  ts = tasks_of 0 (apps_from nodes t n mode.apps)

  numbered : (x : ℕ) → x < length ts → (get_or ts x nothing).task.number ≡ t + x
  numbered x l =
      let f = task_found nodes 0 t n mode.apps x l in
      let is = (task_there nodes 0 t n mode.apps f.0 f.2 f.3 f.1 f.4).1 in
      ap (λ y. (get_or ts y nothing).task.number) f.5 ∙ is.number ∙ (let s : t + (f.0 + f.1) ≡ t + x = omega (arith, f.5) in s)

  node_at : (k j : ℕ) (A : RawApp) → At mode.apps k A → j < length A.tasks → (task_at m (k + j)).node ≡ node_place nodes (get_or A.tasks j no_raw_task).node
  node_at k j A at l =
      ap (λ (x : PlainTask). x.node) (get_or-map plain_task ts (k + j) nothing no_task (task_there nodes 0 t n mode.apps k A at j l).0) ∙ node_there nodes 0 t n mode.apps k A at j l

  node_known : 1 ≤ length nodes → (a : ℕ) → a < length m.tasks → (task_at m a).node < length nodes
  node_known some a l =
      let f = task_found nodes 0 t n mode.apps a (omega (arith, l, length-map ts plain_task)) in
      let e = ap (λ x. (task_at m x).node) f.5 ∙ node_at f.0 f.1 f.2 f.3 f.4 in
      omega (arith, e, node_low nodes (get_or f.2.tasks f.1 no_raw_task).node some)

  -- a producer of a message is the task of its name
  member : (k : ℕ) (A : RawApp) → At mode.apps k A → (names : List (List ℕ)) (most : ℕ) → KeptEnds most A names → (a : ℕ) → Contains (map (place_of ts) (numbers_of (t + k) A.tasks names)) a →
      (j : ℕ) × (j < length A.tasks) × (a ≡ k + j) × (among (get_or A.tasks j no_raw_task).name names ≡ true)
  member k A at names most ends a c =
      let x = from_mapped (place_of ts) (numbers_of (t + k) A.tasks names) 0 a c in
      let y = from_mapped (λ (name : List ℕ). t + k + task_place A.tasks name) names [] x.0 x.1 in
      let known = All-contains (λ name. is_task A.tasks name ≡ true) names y.0 (All-from_recursion (λ name. is_task A.tasks name ≡ true) names ends.known) y.1 in
      let q = known_place y.0 A.tasks known in
      let j = position_or_len (λ (u : RawTask). bytes_eq y.0 u.name) A.tasks in
      let w = task_there nodes 0 t n mode.apps k A at j q.0 in
      let e : x.0 ≡ t + (k + j) = sym y.2 ∙ ap (λ i. t + k + i) (place_is y.0 A.tasks known) ∙ (let s : t + k + j ≡ t + (k + j) = omega arith in s) in
      (j, q.0, sym x.2 ∙ ap (place_of ts) e ∙ place_at ts t numbered (k + j) w.0, among_names y.0 names (get_or A.tasks j no_raw_task).name y.1 q.1)

  senders_same : OneSenders mode → (i a b : ℕ) → i < length m.messages → Contains (message_at m i).from a → Contains (message_at m i).from b → (task_at m a).node ≡ (task_at m b).node
  senders_same one i a b l ca cb =
      let c = comes raw set nodes mode t n round kept i l in
      let u = get_or c.A.messages c.j no_raw_message in
      let ends = (message_kept raw set nodes mode t n round kept c.A c.j (app_kept raw set nodes mode t n round kept c.k c.A c.at) c.within).0 in
      let x = member c.k c.A c.at u.from 4 ends a (subst (λ (l : List ℕ). Contains l a) c.is.from ca) in
      let y = member c.k c.A c.at u.from 4 ends b (subst (λ (l : List ℕ). Contains l b) c.is.from cb) in
      let here = All-from_recursion (λ (m : RawMessage). on_one_node (tasks_named c.A m.from) ≡ true) c.A.messages (at_all OneSender mode.apps one c.k c.A c.at) c.j no_raw_message c.within in
      let same = same_node c.A u.from x.0 y.0 x.1 y.1 x.3 y.3 here in
      ap (λ z. (task_at m z).node) x.2 ∙ node_at c.k x.0 c.A c.at x.1 ∙ ap (λ name. node_place nodes name) same ∙ sym (node_at c.k y.0 c.A c.at y.1) ∙ sym (ap (λ z. (task_at m z).node) y.2)

-- ---- all modes

found_mode : (P : RawMode → Type 0) (nodes : List (List ℕ)) (t n : ℕ) (raws : List RawMode) → AllByRecursion P raws → (mode : Mode) → Contains (modes_from nodes t n raws) mode →
    (raw : RawMode) × P raw × (k l : ℕ) × (record { name = raw.name; apps = apps_from nodes k l raw.apps } ≡ mode)
found_mode P nodes t n [] all mode (k, l, e) = absurd (omega (arith, l))
found_mode P nodes t n (raw ∷ raws) all mode (zero, l, e) = (raw, all.0, t, n, e)
found_mode P nodes t n (raw ∷ raws) all mode (suc k, l, e) = found_mode P nodes (t + task_count raw) (n + message_count raw) raws all.1 mode (k, omega (arith, l), e)

both_all : {X : Type 0} (P Q : X → Type 0) (xs : List X) → AllByRecursion P xs → AllByRecursion Q xs → AllByRecursion (λ x. P x × Q x) xs
both_all P Q [] p q = tt
both_all P Q (x ∷ xs) p q = ((p.0, q.0), both_all P Q xs p.1 q.1)

read_nodes : (raw : RawSet) → value_rules raw ≡ None → (mode : Mode) → Contains (set_of raw).modes mode → OnNodes (length raw.nodes) (plain_mode (set_of raw) mode)
read_nodes raw e mode c =
    let all = kept_set raw e in
    let f = found_mode (λ x. KeptMode raw x × OneSenders x) raw.nodes 0 0 raw.modes (both_all (KeptMode raw) OneSenders raw.modes all.modes (kept_senders raw e)) mode c in
    subst (λ (x : Mode). OnNodes (length raw.nodes) (plain_mode (set_of raw) x)) f.4 (record {
      known = node_known raw (set_of raw) raw.nodes f.0 f.2 f.3 all.round.0 f.1.0 (raw_nodes raw e);
      senders = senders_same raw (set_of raw) raw.nodes f.0 f.2 f.3 all.round.0 f.1.0 f.1.1;
    })

pub on_nodes : (set : ModeSet) → KeepsRules set → (i : ℕ) → i < length set.modes → OnNodes (length set.nodes) (plain_at set i)
on_nodes set (raw, e, same) i l =
    subst (λ (s : ModeSet). OnNodes (length s.nodes) (plain_at s i)) (sym same)
    (read_nodes raw e (mode_at (set_of raw) i) (Contains-get_or (set_of raw).modes i (record { name = []; apps = [] }) (subst (λ (s : ModeSet). i < length s.modes) same l)))
