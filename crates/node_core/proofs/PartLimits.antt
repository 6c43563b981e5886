-- The part of a node in right plans is within the limits of a node
use Rattle.std.proofs.Common.{◌≡◌, ℕ, suc, ◌+◌, ◌-◌, ◌<◌, ◌≤◌, Bool, true, false, cond, nat_eq, eqb, List, [], ◌∷◌, ◌++◌, length, get_or, map, filter, Contains, All, Option, Some, None, ⊎_elim, refl, sym, ◌∙◌, ap, subst, arith, pos}
use Rattle.std.specs.List.{AllByRecursion, AllPairs, flat_map, position, position_or_len, sum_by}
use Rattle.std.specs.Str.{bytes_eq}
use Rattle.std.proofs.lemmas.Bool.{eqb-true, cases_lt}
use Rattle.std.proofs.lemmas.Int.{ints}
use Rattle.std.proofs.lemmas.List.{length-map, get_or-map}
use Rattle.std.proofs.lemmas.List.Elements.{All-contains, All-filter, All-from_recursion, All-get_or, Contains-get_or}
use Rattle.std.proofs.lemmas.List.Kept.{AllPairs-filter}
use Rattle.std.proofs.lemmas.List.Quantifiers.{position-Some}
use Rattle.std.proofs.lemmas.List.Sums.{sum_by-cons}
use Rattle.app_graph.specs.declared.mode_set.Message.{Message}
use Rattle.app_graph.specs.declared.mode_set.Mode.{Mode}
use Rattle.app_graph.specs.declared.mode_set.ModeSet.{ModeSet}
use Rattle.app_graph.specs.declared.raw.RawApp.{RawApp}
use Rattle.app_graph.specs.declared.raw.RawMessage.{RawMessage}
use Rattle.app_graph.specs.declared.raw.RawSet.{RawSet}
use Rattle.app_graph.specs.declared.raw.RawTask.{RawTask}
use Rattle.app_graph.specs.Numbering.{apps_from, message_of, messages_from, numbers_of, set_of, task_place}
use Rattle.app_graph.specs.Validation.{KeepsRules}
use Rattle.app_graph.specs.ValueRules.{among, inputs_of, is_task, value_rules}
use Rattle.sched_model.specs.declared.rows.TaskRow.{TaskRow}
use Rattle.sched_model.specs.declared.schedule.Schedule.{Schedule}
use Rattle.sched_model.specs.Numbers.{below}
use Rattle.sched_model.specs.PlainMode.{PlainMode, hyper, task_at, message_at, mode_at, plain_at}
use Rattle.sched_model.specs.RightSchedule.{IsSchedule}
use Rattle.sched_model.specs.Rounds.{round_start}
use Rattle.sched_model.specs.TimeLimits.{IsTime}
use Rattle.sched_model.proofs.KeptModes.{known_place, place_is, from_mapped, among_names}
use Rattle.sched_model.proofs.KeptRules.{KeptApp, KeptEnds, kept_set}
use Rattle.sched_model.proofs.Hyperperiods.{hyper_some}
use Rattle.sched_model.proofs.KeptSets.{mode_found}
use Rattle.sched_model.proofs.Lists.{below_all, get_or-below, get_or-map_below, length-below}
use Rattle.sched_model.proofs.PlainPlaces.{no_raw_task}
use Rattle.sched_model.proofs.TaskNumbers.{few_modes}
use Rattle.runtime_model.specs.NodeTables.{PlainOwnMessage, PlainOwnTask, is_own, mode_tables, numbers, own_messages, own_rounds, own_tasks}
use Rattle.runtime_model.specs.Plans.{Plan, no_schedule, node_of, plan_of, plans_of}
use Rattle.runtime_model.proofs.SetRules.{some_mode}
use Rattle.runtime_model.proofs.Times.{natural_is}
use Rattle.node_tables.specs.declared.tables.ModeTable.{ModeTable}
use Rattle.node_tables.specs.declared.tables.OwnMessage.{OwnMessage}
use Rattle.node_tables.specs.declared.tables.OwnTask.{OwnTask}
use Rattle.node_tables.specs.OwnParts.{is_on, message_kept, message_part, message_rows, messages_kept, role_in, rounds_kept, rows_of, tasks_kept}
use Rattle.node_tables.specs.Parts.{part_in, typed_message, typed_mode, typed_round, typed_task}
use Rattle.node_tables.proofs.ModeParts.{messages_same}
use Rattle.node_tables.proofs.PartRanges as part
use Rattle.node_tables.proofs.PartRanges.{contained_all, filter_all, filter_length, kept_all, map_all, mode_count, no_plan}
use Rattle.node_tables.proofs.PlainParts.{kept}
use Rattle.node_core.specs.Fits.{IsBefore, IsTaskBefore, MessageFits, ModeFits, StartFits, count_at, input_count}
use Rattle.node_core.specs.Laws.{PartsFit}

-- ---- a task takes at most 64 values

count-append : (x : ℕ) (xs ys : List OwnMessage) → input_count x (xs ++ ys) ≡ input_count x xs + input_count x ys
count-append x [] ys = omega arith
count-append x (m ∷ xs) ys = omega (arith, count-append x xs ys)

-- what is left of a list is of it
left_of : (p : ℕ → Bool) (xs : List ℕ) (x : ℕ) → Contains (filter p xs) x → Contains xs x
left_of p xs x c = All-contains (Contains xs) (filter p xs) x (All-filter p (Contains xs) xs (λ i d l. Contains-get_or xs i d l)) c

-- an own message gives a task one value per producer if the task is one of its consumers, and else none
part_count : (rows : List TaskRow) (v x : ℕ) (m : Message) (b : Bool) → (Contains m.to x → b ≡ true) → input_count x (message_part rows v m) ≤ cond b (length m.from) 0
part_count rows v x m b h = by_role (nat_eq (role_in rows v m) 0)
  where
    here : List ℕ
    here = filter (is_on rows v) m.to

    by_place : (o : Option ℕ) → position (nat_eq x) here ≡ o → count_at (message_kept rows v m) o ≤ cond b (length m.from) 0
    by_place None e = omega arith
    by_place (Some k) e =
        let p = position-Some (nat_eq x) here k 0 e in
        let c : Contains here x = subst (λ (y : ℕ). Contains here y) (sym (eqb-true x (get_or here k 0) p.1)) (Contains-get_or here k 0 p.0) in
        subst (λ (y : Bool). length m.from ≤ cond y (length m.from) 0) (sym (h (left_of (is_on rows v) m.to x c))) (omega arith)

    by_role : (r : Bool) → input_count x (cond r [] (message_kept rows v m ∷ [])) ≤ cond b (length m.from) 0
    by_role true = omega arith
    by_role false = omega (arith, by_place (position (nat_eq x) here) refl)

-- the messages of an application give a task no more values than those whose consumers may have its number
parts_count : (rows : List TaskRow) (v x t : ℕ) (us : List RawTask) (test : RawMessage → Bool) (n : ℕ) (ms : List RawMessage) → AllByRecursion (λ u. Contains (numbers_of t us u.to) x → test u ≡ true) ms
    → input_count x (flat_map (message_part rows v) (messages_from t us n ms)) ≤ sum_by (λ u. cond (test u) (length u.from) 0) ms
parts_count rows v x t us test n [] h = omega arith
parts_count rows v x t us test n (u ∷ ms) h =
    let m = message_of t us n u in
    let few = part_count rows v x m (test u) h.0 in
    let same : length m.from ≡ length u.from = length-map u.from (λ name. t + task_place us name) in
    let here = subst (λ (k : ℕ). input_count x (message_part rows v m) ≤ cond (test u) k 0) same few in
    omega (arith, count-append x (message_part rows v m) (flat_map (message_part rows v) (messages_from t us (n + 1) ms)), here, parts_count rows v x t us test (n + 1) ms h.1, sum_by-cons (λ (y : RawMessage). cond (test y) (length y.from) 0) u ms)

none_counted : (ms : List RawMessage) → sum_by (λ (u : RawMessage). cond false (length u.from) 0) ms ≡ 0
none_counted [] = refl
none_counted (u ∷ ms) = omega (arith, sum_by-cons (λ (y : RawMessage). cond false (length y.from) 0) u ms, none_counted ms)

-- a number among those of a message's consumers is that of a task of the application, whose name is among theirs
numbered : (t x : ℕ) (A : RawApp) (most : ℕ) (names : List (List ℕ)) → KeptEnds most A names → Contains (numbers_of t A.tasks names) x →
    (j : ℕ) × (j < length A.tasks) × (x ≡ t + j) × (among (get_or A.tasks j no_raw_task).name names ≡ true)
numbered t x A most names ends c =
    let y = from_mapped (λ (name : List ℕ). t + task_place A.tasks name) names [] x c in
    let known = All-contains (λ name. is_task A.tasks name ≡ true) names y.0 (All-from_recursion (λ name. is_task A.tasks name ≡ true) names ends.known) y.1 in
    let q = known_place y.0 A.tasks known in
    let j = position_or_len (λ (u : RawTask). bytes_eq y.0 u.name) A.tasks in
    (j, q.0, sym y.2 ∙ ap (λ i. t + i) (place_is y.0 A.tasks known), among_names y.0 names (get_or A.tasks j no_raw_task).name y.1 q.1)

module _ (rows : List TaskRow) (v x : ℕ) where
  -- the messages of an application, whose tasks have the numbers t, t + 1, ..
  abbrev parts : ℕ → ℕ → RawApp → List OwnMessage
  parts t n A = flat_map (message_part rows v) (messages_from t A.tasks n A.messages)

  each_named : (P : RawMessage → Type 0) (A : RawApp) → ((u : RawMessage) → KeptEnds 16 A u.to → P u) → (ms : List RawMessage) → AllByRecursion (λ u. KeptEnds 4 A u.from × KeptEnds 16 A u.to) ms → AllByRecursion P ms
  each_named P A f [] h = tt
  each_named P A f (u ∷ ms) h = (f u h.0.1, each_named P A f ms h.1)

  -- a number of no task of the application takes nothing
  outside : (t n : ℕ) (A : RawApp) → KeptApp A → ((j : ℕ) → j < length A.tasks → x ≡ t + j → ⊥) → input_count x (parts t n A) ≡ 0
  outside t n A kept_app other =
      let none = each_named (λ u. Contains (numbers_of t A.tasks u.to) x → false ≡ true) A (λ u ends c. let w = numbered t x A 16 u.to ends c in absurd (other w.0 w.1 w.2)) A.messages kept_app.messages in
      omega (arith, parts_count rows v x t A.tasks (λ u. false) n A.messages none, none_counted A.messages)

  -- a task of the application takes what the rule on its inputs counts
  inside : (t n : ℕ) (A : RawApp) → KeptApp A → (j : ℕ) → j < length A.tasks → x ≡ t + j → input_count x (parts t n A) ≤ 64
  inside t n A kept_app j l e =
      let task = get_or A.tasks j no_raw_task in
      let named = each_named (λ u. Contains (numbers_of t A.tasks u.to) x → among task.name u.to ≡ true) A
      (λ u ends c.
      let w = numbered t x A 16 u.to ends c in
      let same : w.0 ≡ j = omega (arith, w.2, e) in
      subst (λ (i : ℕ). among (get_or A.tasks i no_raw_task).name u.to ≡ true) same w.3) A.messages kept_app.messages in
      let most : inputs_of A task ≤ 64 = All-from_recursion (λ u. inputs_of A u ≤ 64) A.tasks kept_app.inputs j no_raw_task l in
      omega (arith, parts_count rows v x t A.tasks (λ u. among task.name u.to) n A.messages named, most)

  apps_count : (nodes : List (List ℕ)) (t n : ℕ) (apps : List RawApp) → AllByRecursion KeptApp apps →
      (x < t → input_count x (messages_kept rows v (apps_from nodes t n apps)) ≡ 0) × (input_count x (messages_kept rows v (apps_from nodes t n apps)) ≤ 64)
  apps_count nodes t n [] h = (λ l. refl, omega arith)
  apps_count nodes t n (A ∷ apps) h =
      let u = t + length A.tasks in
      let rest = apps_count nodes u (n + length A.messages) apps h.1 in
      let join = count-append x (parts t n A) (messages_kept rows v (apps_from nodes u (n + length A.messages) apps)) in
      let before = λ (l : x < t). outside t n A h.0 (λ j k e. absurd (omega (arith, l, e))) in (
        λ l. omega (arith, join, before l, rest.0 (omega (arith, l))),
        ⊎_elim
            (λ (l : x < t). omega (arith, join, before l, rest.1))
            (λ (from : t ≤ x). ⊎_elim
            (λ (l : x < u). omega (arith, join, inside t n A h.0 (x - t) (omega (arith, l, from)) (omega (arith, from)), rest.0 l))
            (λ (past : u ≤ x). omega (arith, join, outside t n A h.0 (λ j k e. absurd (omega (arith, past, k, e))), rest.1))
            (cases_lt x u))
            (cases_lt x t),
      )

raw_inputs : (raw : RawSet) → value_rules raw ≡ None → (mode : Mode) → Contains (set_of raw).modes mode → (rows : List TaskRow) (v x : ℕ) → input_count x (messages_kept rows v mode.apps) ≤ 64
raw_inputs raw e mode c rows v x =
    let f = mode_found raw raw.nodes 0 0 raw.modes (kept_set raw e).modes mode c in
    subst (λ (y : Mode). input_count x (messages_kept rows v y.apps) ≤ 64) f.4 (apps_count rows v x raw.nodes f.2 f.3 f.0.apps f.1.apps).1

pub inputs_few : (set : ModeSet) (i : ℕ) → KeepsRules set → i < length set.modes → (rows : List TaskRow) (v x : ℕ) → input_count x (messages_kept rows v (mode_at set i).apps) ≤ 64
inputs_few set i (raw, e, same) l rows v x =
    subst (λ (s : ModeSet). input_count x (messages_kept rows v (mode_at s i).apps) ≤ 64) (sym same)
    (raw_inputs raw e (mode_at (set_of raw) i) (Contains-get_or (set_of raw).modes i (record { name = []; apps = [] }) (subst (λ (s : ModeSet). i < length s.modes) same l)) rows v x)

-- ---- lists in order

-- what follows in a mapped list follows in the list
pairs_map : {X Y : Type 0} (R : Y → Y → Type 0) (f : X → Y) (xs : List X) → AllPairs (λ a b. R (f a) (f b)) xs → AllPairs R (map f xs)
pairs_map R f [] h = λ i j d lt within. absurd (omega (arith, within))
pairs_map R f (y ∷ ys) h = λ i j d lt within.
    let xs = y ∷ ys in
    let w : j < length xs = omega (arith, within, length-map xs f) in
    subst (λ z. R z (get_or (map f xs) j d)) (sym (get_or-map f xs i y d (omega (arith, lt, w))))
    (subst (λ z. R (f (get_or xs i y)) z) (sym (get_or-map f xs j y d w)) (h i j y lt w))

pairs_below : (R : ℕ → ℕ → Type 0) (n : ℕ) → ((i j : ℕ) → i < j → j < n → R i j) → AllPairs R (below n)
pairs_below R n h = λ i j d lt within.
    let w : j < n = omega (arith, within, length-below n) in
    subst (λ z. R z (get_or (below n) j d)) (sym (get_or-below n i d (omega (arith, lt, w)))) (subst (λ z. R i z) (sym (get_or-below n j d w)) (h i j lt w))

-- ---- one mode

module _ (set : ModeSet) (i : ℕ) (keeps : KeepsRules set) (l : i < length set.modes) (few : i < 8) (s : Schedule) (right : IsSchedule (plain_at set i) (length s.starts) s) (v : ℕ) where
  abbrev m : PlainMode
  m = plain_at set i

  abbrev p : Plan
  p = record { mode = m; schedule = s }

  abbrev on : ℕ → Bool
  on a = eqb (node_of p a) v

  abbrev own_task : ℕ → PlainOwnTask
  own_task = part.own_task set i keeps l few s right v

  abbrev own_message : ℕ → PlainOwnMessage
  own_message = part.own_message set i keeps l few s right v

  task_number : (a : ℕ) → a < length m.tasks → (task_at m a).number < 1024
  task_number a h = omega (arith, part.task_number set i keeps l few s right v a h)

  -- ---- tasks

  tasks_fit : All (λ t. t.number < 1024) (map typed_task (own_tasks p v))
  tasks_fit =
      let fits = λ (t : OwnTask). t.number < 1024 in
      All-from_recursion fits (map typed_task (own_tasks p v))
      (subst (λ (xs : List OwnTask). AllByRecursion fits xs) (sym (kept typed_task own_task on (below (length m.tasks))))
      (kept_all fits on (λ a. typed_task (own_task a)) (length m.tasks) (λ a h e. task_number a h)))

  pub tasks_ascend : AllPairs IsTaskBefore (map typed_task (own_tasks p v))
  tasks_ascend =
      let nums = part.nums set i keeps l few s right v in
      pairs_map IsTaskBefore typed_task (own_tasks p v) (pairs_map (λ a b. IsTaskBefore (typed_task a) (typed_task b)) own_task (filter on (below (length m.tasks)))
      (AllPairs-filter (λ a b. (task_at m a).number < (task_at m b).number) on (below (length m.tasks))
      (pairs_below (λ a b. (task_at m a).number < (task_at m b).number) (length m.tasks) (λ a b lt h. omega (arith, lt, nums.tasks a (omega (arith, lt, h)), nums.tasks b h)))))

  -- ---- messages

  -- numbers of tasks of the mode
  numbers_fit : (xs : List ℕ) → ((a : ℕ) → Contains xs a → a < length m.tasks) → All (λ a. a < 1024) (numbers p xs)
  numbers_fit xs h =
      All-from_recursion (λ a. a < 1024) (numbers p xs)
      (map_all (λ a. a < 1024) (λ a. (task_at m a).number) xs (contained_all (λ a. (task_at m a).number < 1024) xs (λ a c. task_number a (h a c))))

  message_fits : (j : ℕ) → j < length m.messages → MessageFits (typed_message (own_message j))
  message_fits j h =
      let msg = message_at m j in
      let ends = (part.lim set i keeps l few s right v).ends j h in
      record {
        number = omega (arith, part.message_number set i keeps l few s right v j h);
        few_producers = omega (arith, length-map msg.from (λ a. (task_at m a).number), ends.0);
        producers = numbers_fit msg.from (λ a c. part.from_task set i keeps l few s right v j a h c);
        few_consumers = omega (arith, length-map (filter on msg.to) (λ a. (task_at m a).number), filter_length on msg.to, ends.1);
      }

  messages_fit : All MessageFits (map typed_message (own_messages p v))
  messages_fit =
      All-from_recursion MessageFits (map typed_message (own_messages p v))
      (subst (λ (xs : List OwnMessage). AllByRecursion MessageFits xs) (sym (kept typed_message own_message (is_own p v) (below (length m.messages))))
      (kept_all MessageFits (is_own p v) (λ j. typed_message (own_message j)) (length m.messages) (λ j h e. message_fits j h)))

  pub messages_ascend : AllPairs IsBefore (map typed_message (own_messages p v))
  messages_ascend =
      let nums = part.nums set i keeps l few s right v in
      pairs_map IsBefore typed_message (own_messages p v) (pairs_map (λ a b. IsBefore (typed_message a) (typed_message b)) own_message (filter (is_own p v) (below (length m.messages)))
      (AllPairs-filter (λ a b. (message_at m a).number < (message_at m b).number) (is_own p v) (below (length m.messages))
      (pairs_below (λ a b. (message_at m a).number < (message_at m b).number) (length m.messages) (λ a b lt h. omega (arith, lt, nums.messages a (omega (arith, lt, h)), nums.messages b h)))))

  few_inputs : (first x : ℕ) → input_count x (typed_mode (part_in first v p)).messages ≤ 64
  few_inputs first x =
      let apps = (mode_at set i).apps in
      let rows = rows_of apps in
      subst (λ (xs : List OwnMessage). input_count x xs ≤ 64) (messages_same set i keeps l v s) (inputs_few set i keeps l rows v x)

  -- ---- rounds

  start_fits : (j : ℕ) → j < length s.starts → StartFits (pos (hyper m)) (typed_round (part.own_round set i keeps l few s right v j))
  start_fits j h =
      let t = All-get_or IsTime s.starts j (pos 0) h (part.time set i keeps l few s right v).starts in
      record {
        low = omega (arith, ints);
        high = omega (arith, ints, natural_is (round_start s j) t.0, part.hyper_bound set i keeps l few s right v j h);
      }

  starts_fit : All (StartFits (pos (hyper m))) (map typed_round (own_rounds p v))
  starts_fit =
      let fits = StartFits (pos (hyper m)) in
      All-from_recursion fits (map typed_round (own_rounds p v))
      (map_all fits typed_round (own_rounds p v) (map_all (λ r. fits (typed_round r)) (part.own_round set i keeps l few s right v) (below (length s.starts)) (below_all _ (length s.starts) start_fits)))

  mode_fits : (first : ℕ) → ModeFits (typed_mode (part_in first v p))
  mode_fits first = record {
    some_tick = omega (arith, ints, hyper_some m);
    most_ticks = omega (arith, ints, (part.ok set i keeps l few s right v).hyper_limit);
    some_round = omega (arith, part.rounds_count set i keeps l few s right v, right.shape.some);
    starts = starts_fit;
    tasks = tasks_fit;
    messages = messages_fit;
    ascending = messages_ascend;
    tasks_ascending = tasks_ascend;
    inputs = few_inputs first;
  }

-- ---- all modes

modes_fit : (v : ℕ) (ps : List Plan) (first : ℕ) → ((j n : ℕ) → j < length ps → ModeFits (typed_mode (part_in n v (get_or ps j no_plan)))) → AllByRecursion ModeFits (map typed_mode (mode_tables v first ps))
modes_fit v [] first h = tt
modes_fit v (p ∷ ps) first h = (h 0 first (omega arith), modes_fit v ps (first + length p.schedule.starts) (λ j n l. h (suc j) n (omega (arith, l))))

pub parts_fit : PartsFit
parts_fit set schedules v keeps plans here =
    let ps = plans_of set schedules in
    let n = length set.modes in
    let len : length ps ≡ n = length-map (below n) (plan_of set schedules) ∙ length-below n in
    let each = λ (j first : ℕ) (h : j < length ps).
    let l : j < n = omega (arith, h, len) in
    let s = get_or schedules j no_schedule in
    let is : get_or ps j no_plan ≡ plan_of set schedules j = get_or-map_below (plan_of set schedules) n j no_plan l in
    subst (λ (p : Plan). ModeFits (typed_mode (part_in first v p))) (sym is) (mode_fits set j keeps l (omega (arith, l, few_modes set keeps)) s (plans.right j l) v first) in
    record {
      some = omega (arith, mode_count v ps 1, len, some_mode set keeps);
      modes = All-from_recursion ModeFits (map typed_mode (mode_tables v 1 ps)) (modes_fit v ps 1 each);
    }
