-- What a node keeps of a mode, out of its applications, is its part of the mode's plan
use Rattle.std.proofs.Common.{◌≡◌, ℕ, suc, ◌+◌, ◌-◌, ◌<◌, ◌≤◌, Bool, true, false, cond, not, ◌&&◌, ◌||◌, eqb, ltb, List, [], ◌∷◌, ◌++◌, length, get_or, map, filter, Contains, All, refl, sym, ◌∙◌, ap, subst, arith, ℤ, pos, ◌+ℤ◌, ◌≤ℤ◌}
use Rattle.std.specs.List.{flat_map, list_any, AllByRecursion}
use Rattle.std.proofs.lemmas.Bool.{eqb-true, lt-ltb}
use Rattle.std.proofs.lemmas.List.{get_or-map, length-map, map-append}
use Rattle.std.proofs.lemmas.List.Elements.{All-get_or, All-contains}
use Rattle.std.proofs.lemmas.Grind.{flat_map-append}
use Rattle.app_graph.specs.declared.mode_set.ModeSet.{ModeSet}
use Rattle.app_graph.specs.declared.mode_set.App.{App}
use Rattle.app_graph.specs.declared.mode_set.Task.{Task}
use Rattle.app_graph.specs.declared.mode_set.Message.{Message}
use Rattle.app_graph.specs.Validation.{KeepsRules}
use Rattle.sched_model.specs.declared.rows.TaskRow.{TaskRow}
use Rattle.sched_model.specs.declared.schedule.Schedule.{Schedule}
use Rattle.sched_model.specs.Numbers.{below, natural}
use Rattle.sched_model.specs.PlainMode.{PlainMode, PlainMessage, hyper, no_message, task_at, message_at, mode_at, plain_at}
use Rattle.sched_model.specs.ModeLimits.{IsLimited}
use Rattle.sched_model.specs.RightSchedule.{IsMessage, IsSchedule, TableFits}
use Rattle.sched_model.specs.Rounds.{round_start}
use Rattle.sched_model.specs.Rows.{TaskIn, MessageIn, no_app, tasks_in, messages_in, task_in, row_of, place_in, ShowsTask, ShowsMessage}
use Rattle.sched_model.specs.TimeLimits.{HasTimes}
use Rattle.sched_model.specs.ValidMode.{IsValid}
use Rattle.sched_model.proofs.Graph.{contains_has, message_edge}
use Rattle.sched_model.proofs.KeptSets.{mode_at_valid}
use Rattle.sched_model.proofs.LimitedModes.{mode_at_limited}
use Rattle.sched_model.proofs.Passing.{all_by_place}
use Rattle.sched_model.proofs.RowPlaces.{shows_task, shows_message, task_count, message_count}
use Rattle.sched_model.proofs.Times.{times}
use Rattle.runtime_model.specs.NodeTables.{PlainOwnTask, PlainOwnMessage, PlainOwnSlot, PlainOwnRound, own_tasks, own_messages, own_slots, own_rounds, numbers, is_own}
use Rattle.runtime_model.specs.Packets.{takes_on}
use Rattle.runtime_model.specs.Placement.{release}
use Rattle.runtime_model.specs.Plans.{Plan, Carried, offset, node_of, place_from, sender_of}
use Rattle.runtime_model.specs.Copies.{copy_of, copy_at}
use Rattle.runtime_model.proofs.CopyNumbers.{copies_are_numbered}
use Rattle.runtime_model.proofs.RightSets.{right_plan}
use Rattle.runtime_model.proofs.Times.{natural_is, place_is}
use Rattle.node_tables.specs.declared.rows.MessageRow.{MessageRow}
use Rattle.node_tables.specs.declared.tables.ModeTable.{ModeTable}
use Rattle.node_tables.specs.declared.tables.OwnTask.{OwnTask}
use Rattle.node_tables.specs.declared.tables.OwnMessage.{OwnMessage}
use Rattle.node_tables.specs.declared.tables.OwnRound.{OwnRound}
use Rattle.node_tables.specs.declared.tables.OwnSlot.{OwnSlot}
use Rattle.node_tables.specs.OwnParts.{row_in, rows_of, no_row, first_task, is_on, task_part, tasks_kept, sent_from, role_of, role_in, message_part, messages_kept, message_row, message_rows, no_message_row, first_message, release_in, slot_kept, slot_part, round_kept, rounds_kept}
use Rattle.node_tables.specs.PartLimits.{FewCopies, FewSlots, HasSizes, IsMessageRow, IsTaskRow}
use Rattle.node_tables.specs.Parts.{part_in, typed_task, typed_message, typed_slot, typed_round, typed_mode}
use Rattle.node_tables.proofs.Numbering.{Numbered, numbered}
use Rattle.node_tables.proofs.PlainParts.{flat_same, map_same, flat_first, flat_places, kept}

-- ---- rows, in one list

row_list : (app : App) (ts : List Task) → map (row_in app) ts ≡ map row_of (map (λ t. let x : TaskIn = record { app = app; task = t } in x) ts)
row_list app [] = refl
row_list app (t ∷ ts) = ap (λ (l : List TaskRow). row_in app t ∷ l) (row_list app ts)

rows_are : (apps : List App) → rows_of apps ≡ map row_of (tasks_in apps)
rows_are [] = refl
rows_are (app ∷ apps) =
    let here = map (λ t. let x : TaskIn = record { app = app; task = t } in x) app.tasks in
    ap (λ (l : List TaskRow). l ++ rows_of apps) (row_list app app.tasks) ∙ ap (λ (l : List TaskRow). map row_of here ++ l) (rows_are apps)
    ∙ sym (map-append row_of here (tasks_in apps))

abbrev sent : App → Message → MessageIn
sent app m = record { app = app; message = m }

-- the messages of the applications, one after another
flat_sent : {X : Type 0} (h : MessageIn → List X) (app : App) (ms : List Message) → flat_map h (map (sent app) ms) ≡ flat_map (λ m. h (sent app m)) ms
flat_sent h app [] = refl
flat_sent {X} h app (m ∷ ms) = ap (λ (l : List X). h (sent app m) ++ l) (flat_sent h app ms)

flat_in : {X : Type 0} (h : MessageIn → List X) (apps : List App) → flat_map (λ app. flat_map (λ m. h (sent app m)) app.messages) apps ≡ flat_map h (messages_in apps)
flat_in h [] = refl
flat_in {X} h (app ∷ apps) =
    ap (λ (l : List X). flat_map (λ m. h (sent app m)) app.messages ++ l) (flat_in h apps)
    ∙ ap (λ (l : List X). l ++ flat_map h (messages_in apps)) (sym (flat_sent h app app.messages))
    ∙ sym (flat_map-append h (map (sent app) app.messages) (messages_in apps))

map_sent : {X : Type 0} (h : MessageIn → X) (app : App) (ms : List Message) → map h (map (sent app) ms) ≡ map (λ m. h (sent app m)) ms
map_sent h app [] = refl
map_sent {X} h app (m ∷ ms) = ap (λ (l : List X). h (sent app m) ∷ l) (map_sent h app ms)

map_in : {X : Type 0} (h : MessageIn → X) (apps : List App) → flat_map (λ app. map (λ m. h (sent app m)) app.messages) apps ≡ map h (messages_in apps)
map_in h [] = refl
map_in {X} h (app ∷ apps) =
    ap (λ (l : List X). map (λ m. h (sent app m)) app.messages ++ l) (map_in h apps)
    ∙ ap (λ (l : List X). l ++ map h (messages_in apps)) (sym (map_sent h app app.messages))
    ∙ sym (map-append h (map (sent app) app.messages) (messages_in apps))

-- what stands for a task and a message past the last ones
abbrev no_task_in : TaskIn
no_task_in = record { app = no_app; task = record { name = []; node = 0; wcet = pos 0; body = []; number = 0 } }

abbrev no_message_in : MessageIn
no_message_in = record { app = no_app; message = record { name = []; from = []; to = []; number = 0; copies = 0 } }

-- a known number is that of the task at its place
pub number_there : (ts : List TaskIn) (n : ℕ) → place_in ts n < length ts → (get_or ts (place_in ts n) no_task_in).task.number ≡ n
number_there [] n l = absurd (omega (arith, l))
number_there (t ∷ ts) n l = by_test (eqb t.task.number n) refl (number_there ts n) l
  where
    by_test : (b : Bool) → eqb t.task.number n ≡ b → (place_in ts n < length ts → (get_or ts (place_in ts n) no_task_in).task.number ≡ n)
        → cond b 0 (suc (place_in ts n)) < suc (length ts) → (get_or (t ∷ ts) (cond b 0 (suc (place_in ts n))) no_task_in).task.number ≡ n
    by_test true e rest l = eqb-true _ _ e
    by_test false e rest l = rest (omega (arith, l))

module _ (set : ModeSet) (i : ℕ) (keeps : KeepsRules set) (l : i < length set.modes) (v : ℕ) where
  abbrev apps : List App
  apps = (mode_at set i).apps

  abbrev m : PlainMode
  m = plain_at set i

  abbrev rows : List TaskRow
  rows = rows_of apps

  abbrev ts : List TaskIn
  ts = tasks_in apps

  ok : IsValid m
  ok = mode_at_valid set keeps i l

  lim : IsLimited m
  lim = mode_at_limited set keeps i l

  pub hyper_most : hyper m ≤ 1000000000000
  hyper_most = ok.hyper_limit

  pub rows_count : length rows ≡ length m.tasks
  rows_count = ap length (rows_are apps) ∙ length-map ts row_of ∙ sym (task_count set i)

  pub row_at : (a : ℕ) → a < length m.tasks → ShowsTask (get_or rows a no_row) (task_at m a)
  row_at a h =
      let h' : a < length ts = omega (arith, h, task_count set i) in
      let e : get_or rows a no_row ≡ row_of (task_in apps a) = ap (λ (x : List TaskRow). get_or x a no_row) (rows_are apps) ∙ get_or-map row_of ts a no_task_in no_row h' in
      subst (λ (x : TaskRow). ShowsTask x (task_at m a)) (sym e) (shows_task set i keeps l a h')

  pub rows_small : All IsTaskRow rows
  rows_small = all_by_place IsTaskRow rows no_row (λ a h.
      let s = row_at a (omega (arith, h, rows_count)) in
      let is : IsTaskRow (get_or rows a no_row) = (s.period_most, omega (arith, s.within, s.period_most)) in is)

  -- ---- the tasks on the node

  task_same : (s : Schedule) (a : ℕ) → a < length m.tasks → pos 0 ≤ℤ get_or s.tasks a (pos 0) → let p : Plan = record { mode = m; schedule = s } in
      task_part rows s.tasks v a ≡ cond (eqb (node_of p a) v) (typed_task (record { number = (task_at m a).number; period = (task_at m a).period; offset = offset p a; wcet = (task_at m a).wcet }) ∷ []) []
  task_same s a h z =
      let r = get_or rows a no_row in
      let t = task_at m a in
      let w = row_at a h in
      let o = get_or s.tasks a (pos 0) in
      let made = λ (n per : ℕ) (off : ℤ) (e : ℕ). let x : OwnTask = record { number = n; period = pos per; offset = off; wcet = pos e } in x in
      ap (λ (n : ℕ). cond (eqb n v) (made r.number r.period o r.wcet ∷ []) []) w.node
      ∙ ap (λ (n : ℕ). cond (eqb t.node v) (made n r.period o r.wcet ∷ []) []) w.number
      ∙ ap (λ (n : ℕ). cond (eqb t.node v) (made t.number n o r.wcet ∷ []) []) w.period
      ∙ ap (λ (n : ℕ). cond (eqb t.node v) (made t.number t.period o n ∷ []) []) w.wcet
      ∙ ap (λ (n : ℤ). cond (eqb t.node v) (made t.number t.period n t.wcet ∷ []) []) (sym (natural_is o z))

  pub tasks_same : (s : Schedule) → ((a : ℕ) → a < length m.tasks → pos 0 ≤ℤ get_or s.tasks a (pos 0)) → let p : Plan = record { mode = m; schedule = s } in
      tasks_kept rows s.tasks v ≡ map typed_task (own_tasks p v)
  tasks_same s z =
      let p : Plan = record { mode = m; schedule = s } in
      let g = λ (a : ℕ). let x : PlainOwnTask = record { number = (task_at m a).number; period = (task_at m a).period; offset = offset p a; wcet = (task_at m a).wcet } in x in
      ap (λ n. flat_map (task_part rows s.tasks v) (below n)) rows_count
      ∙ flat_same (task_part rows s.tasks v) (λ a. cond (eqb (node_of p a) v) (typed_task (g a) ∷ []) []) (length m.tasks) (λ a h. task_same s a h (z a h))
      ∙ sym (kept typed_task g (λ a. eqb (node_of p a) v) (below (length m.tasks)))

  -- ---- the numbers of tasks

  first_is : (n : Numbered set i) → 1 ≤ length m.tasks → first_task rows ≡ n.task
  first_is n some =
      let e : (get_or rows 0 no_row).number ≡ n.task = (row_at 0 some).number ∙ n.tasks 0 some ∙ (let z : n.task + 0 ≡ n.task = omega arith in z) in
      first_of rows (omega (arith, some, rows_count)) ∙ e
    where
      first_of : (xs : List TaskRow) → 1 ≤ length xs → first_task xs ≡ (get_or xs 0 no_row).number
      first_of [] h = absurd (omega (arith, h))
      first_of (x ∷ xs) h = refl

  -- the task with the number is one of the mode
  abbrev Known : ℕ → Type 0
  Known n = place_in ts n < length m.tasks

  known_number : (n : ℕ) → Known n → (task_at m (place_in ts n)).number ≡ n
  known_number n k =
      let h : place_in ts n < length ts = omega (arith, k, task_count set i) in
      sym (shows_task set i keeps l (place_in ts n) h).number ∙ number_there ts n h

  known_place : (n : ℕ) → Known n → n - first_task rows ≡ place_in ts n
  known_place n k =
      let nums = numbered set keeps i l in
      let e = nums.tasks (place_in ts n) k in
      let f = first_is nums (omega (arith, k)) in
      omega (arith, e, f, known_number n k)

  known_on : (s : Schedule) (n : ℕ) → Known n → let p : Plan = record { mode = m; schedule = s } in is_on rows v n ≡ eqb (node_of p (place_in ts n)) v
  known_on s n k =
      let at : place_in ts n < length rows = omega (arith, k, rows_count) in
      ap (λ (a : ℕ). ltb a (length rows) && eqb (get_or rows a no_row).node v) (known_place n k)
      ∙ ap (λ (b : Bool). b && eqb (get_or rows (place_in ts n) no_row).node v) (lt-ltb _ _ at)
      ∙ ap (λ (x : ℕ). eqb x v) (row_at (place_in ts n) k).node

  -- ---- the lists of a message

  all_known : (xs : List ℕ) → ((a : ℕ) → Contains (map (place_in ts) xs) a → a < length m.tasks) → AllByRecursion Known xs
  all_known [] h = tt
  all_known (x ∷ xs) h = (h (place_in ts x) (0, omega arith, refl), all_known xs (λ a c. h a (suc c.0, omega (arith, c.1), c.2)))

  abbrev message_in_place : ℕ → MessageIn
  message_in_place j = get_or (messages_in apps) j no_message_in

  shown : (j : ℕ) → j < length m.messages → ShowsMessage ts (message_in_place j) (message_at m j)
  shown j h = shows_message set i keeps l j (omega (arith, h, message_count set i))

  from_known : (j : ℕ) → j < length m.messages → AllByRecursion Known (message_in_place j).message.from
  from_known j h =
      let b = ok.consumer j h in
      all_known (message_in_place j).message.from (λ a c.
      (ok.edges a b.0 (message_edge m j a b.0 h (subst (λ (l : List ℕ). Contains l a) (shown j h).from c) b.1)).from)

  to_known : (j : ℕ) → j < length m.messages → AllByRecursion Known (message_in_place j).message.to
  to_known j h =
      let a = ok.producer j h in
      all_known (message_in_place j).message.to (λ b c.
      (ok.edges a.0 b (message_edge m j a.0 b h a.1 (subst (λ (l : List ℕ). Contains l b) (shown j h).to c))).to)

  module _ (s : Schedule) where
    abbrev p : Plan
    p = record { mode = m; schedule = s }

    abbrev on : ℕ → Bool
    on a = eqb (node_of p a) v

    any_same : (xs : List ℕ) → AllByRecursion Known xs → list_any (is_on rows v) xs ≡ list_any on (map (place_in ts) xs)
    any_same [] h = refl
    any_same (x ∷ xs) h = ap (λ (b : Bool). b || list_any (is_on rows v) xs) (known_on s x h.0) ∙ ap (λ (b : Bool). on (place_in ts x) || b) (any_same xs h.1)

    numbers_same : (xs : List ℕ) → AllByRecursion Known xs → xs ≡ numbers p (map (place_in ts) xs)
    numbers_same [] h = refl
    numbers_same (x ∷ xs) h = ap (λ (n : ℕ). n ∷ xs) (sym (known_number x h.0)) ∙ ap (λ (l : List ℕ). (task_at m (place_in ts x)).number ∷ l) (numbers_same xs h.1)

    filter_same : (xs : List ℕ) → AllByRecursion Known xs → filter (is_on rows v) xs ≡ numbers p (filter on (map (place_in ts) xs))
    filter_same [] h = refl
    filter_same (x ∷ xs) h =
        ap (λ (b : Bool). cond b (x ∷ filter (is_on rows v) xs) (filter (is_on rows v) xs)) (known_on s x h.0)
        ∙ ap (λ (l : List ℕ). cond (on (place_in ts x)) (x ∷ l) l) (filter_same xs h.1)
        ∙ ap (λ (n : ℕ). cond (on (place_in ts x)) (n ∷ numbers p (filter on (map (place_in ts) xs))) (numbers p (filter on (map (place_in ts) xs)))) (sym (known_number x h.0))
        ∙ by_test (on (place_in ts x)) (place_in ts x) (filter on (map (place_in ts) xs))
      where
        by_test : (b : Bool) (a : ℕ) (xs : List ℕ) → cond b ((task_at m a).number ∷ numbers p xs) (numbers p xs) ≡ numbers p (cond b (a ∷ xs) xs)
        by_test true a xs = refl
        by_test false a xs = refl

    sent_same : (xs : List ℕ) → AllByRecursion Known xs → 1 ≤ length xs → sent_from rows v xs ≡ on (get_or (map (place_in ts) xs) 0 0)
    sent_same [] h some = absurd (omega (arith, some))
    sent_same (x ∷ xs) h some = known_on s x h.0

    from_some : (j : ℕ) → j < length m.messages → 1 ≤ length (message_in_place j).message.from
    from_some j h =
        let a = ok.producer j h in
        omega (arith, a.1.1, ap length (shown j h).from, length-map (message_in_place j).message.from (place_in ts))

    sends_same : (j : ℕ) → j < length m.messages → sent_from rows v (message_in_place j).message.from ≡ eqb (sender_of p j) v
    sends_same j h = sent_same (message_in_place j).message.from (from_known j h) (from_some j h) ∙ ap (λ (l : List ℕ). on (get_or l 0 0)) (shown j h).from

    takes_same : (j : ℕ) → j < length m.messages → list_any (is_on rows v) (message_in_place j).message.to ≡ takes_on p j v
    takes_same j h = any_same (message_in_place j).message.to (to_known j h) ∙ ap (λ (l : List ℕ). list_any on l) (shown j h).to

    role_same : (j : ℕ) → j < length m.messages → role_in rows v (message_in_place j).message ≡ role_of (eqb (sender_of p j) v) (takes_on p j v)
    role_same j h =
        ap (λ (b : Bool). role_of b (list_any (is_on rows v) (message_in_place j).message.to)) (sends_same j h)
        ∙ ap (λ (b : Bool). role_of (eqb (sender_of p j) v) b) (takes_same j h)

    abbrev own_message : ℕ → PlainOwnMessage
    own_message j = record {
      number = (message_at m j).number;
      role = cond (eqb (sender_of p j) v) 1 0 + cond (takes_on p j v) 2 0;
      producers = numbers p (message_at m j).from;
      consumers = numbers p (filter on (message_at m j).to);
    }

    role_test : (a b : Bool) (y : OwnMessage) → cond (eqb (role_of a b) 0) [] (y ∷ []) ≡ cond (a || b) (y ∷ []) []
    role_test true true y = refl
    role_test true false y = refl
    role_test false true y = refl
    role_test false false y = refl

    message_same : (j : ℕ) → j < length m.messages → message_part rows v (message_in_place j).message ≡ cond (is_own p v j) (typed_message (own_message j) ∷ []) []
    message_same j h =
        let x = (message_in_place j).message in
        let made = λ (n role : ℕ) (from to : List ℕ). let y : OwnMessage = record { number = n; role = role; producers = from; consumers = to } in y in
        let r = role_of (eqb (sender_of p j) v) (takes_on p j v) in
        let k = filter (is_on rows v) x.to in
        let from = numbers_same x.from (from_known j h) ∙ ap (numbers p) (shown j h).from in
        let to = filter_same x.to (to_known j h) ∙ ap (λ (l : List ℕ). numbers p (filter on l)) (shown j h).to in
        ap (λ (n : ℕ). cond (eqb n 0) [] (made x.number n x.from k ∷ [])) (role_same j h)
        ∙ ap (λ (n : ℕ). cond (eqb r 0) [] (made n r x.from k ∷ [])) (shown j h).number
        ∙ ap (λ (l : List ℕ). cond (eqb r 0) [] (made (message_at m j).number r l k ∷ [])) from
        ∙ ap (λ (l : List ℕ). cond (eqb r 0) [] (made (message_at m j).number r (numbers p (message_at m j).from) l ∷ [])) to
        ∙ role_test (eqb (sender_of p j) v) (takes_on p j v) (typed_message (own_message j))

    pub messages_same : messages_kept rows v apps ≡ map typed_message (own_messages p v)
    messages_same =
        let part = λ (x : MessageIn). message_part rows v x.message in
        flat_in part apps ∙ flat_places part (messages_in apps) no_message_in
        ∙ ap (λ n. flat_map (λ j. part (message_in_place j)) (below n)) (sym (message_count set i))
        ∙ flat_same (λ j. part (message_in_place j)) (λ j. cond (is_own p v j) (typed_message (own_message j) ∷ []) []) (length m.messages) message_same
        ∙ sym (kept typed_message own_message (is_own p v) (below (length m.messages)))

    -- ---- the rows of messages

    abbrev mrows : List MessageRow
    mrows = message_rows rows v apps

    abbrev mrow : MessageIn → MessageRow
    mrow x = message_row rows v x.app x.message

    pub mrows_count : length mrows ≡ length m.messages
    mrows_count = ap length (map_in mrow apps) ∙ length-map (messages_in apps) mrow ∙ sym (message_count set i)

    mrow_at : (j : ℕ) → j < length m.messages → get_or mrows j no_message_row ≡ mrow (message_in_place j)
    mrow_at j h = ap (λ (l : List MessageRow). get_or l j no_message_row) (map_in mrow apps) ∙ get_or-map mrow (messages_in apps) j no_message_in no_message_row (omega (arith, h, message_count set i))

    mrow_period : (j : ℕ) → j < length m.messages → (get_or mrows j no_message_row).period ≡ (message_at m j).period
    mrow_period j h = ap (λ (x : MessageRow). x.period) (mrow_at j h) ∙ (shown j h).period

    pub mrows_small : All IsMessageRow mrows
    mrows_small = all_by_place IsMessageRow mrows no_message_row (λ j h.
        let h' : j < length m.messages = omega (arith, h, mrows_count) in
        let e = mrow_period j h' in
        let is : IsMessageRow (get_or mrows j no_message_row) = (omega (arith, e, (shown j h').period_some), omega (arith, e, (shown j h').period_most)) in is)

    first_message_is : (n : Numbered set i) → 1 ≤ length m.messages → first_message mrows ≡ n.message
    first_message_is n some =
        first_of mrows (omega (arith, some, mrows_count)) ∙ ap (λ (x : MessageRow). x.number) (mrow_at 0 some) ∙ (shown 0 some).number
        ∙ n.messages 0 some ∙ (let z : n.message + 0 ≡ n.message = omega arith in z)
      where
        first_of : (xs : List MessageRow) → 1 ≤ length xs → first_message xs ≡ (get_or xs 0 no_message_row).number
        first_of [] h = absurd (omega (arith, h))
        first_of (x ∷ xs) h = refl

    -- ---- slots

    own_test : (a b : Bool) → not (eqb (role_of a b) 0) ≡ (a || b)
    own_test true true = refl
    own_test true false = refl
    own_test false true = refl
    own_test false false = refl

    slot_typed : (b : Bool) (x : PlainOwnSlot) → cond b (typed_slot x ∷ []) [] ≡ map typed_slot (cond b (x ∷ []) [])
    slot_typed true x = refl
    slot_typed false x = refl

    -- the place of a message of the mode
    record Placed (n : ℕ) : Type 0 where
      pub within : place_from 0 m.messages n < length m.messages
      pub is : n - first_message mrows ≡ place_from 0 m.messages n
      pub number : (message_at m (place_from 0 m.messages n)).number ≡ n

    placed : (n : ℕ) → IsMessage m n → Placed n
    placed n c =
        let h : c.0 < length m.messages = omega (arith, c.1, length-map m.messages (λ (msg : PlainMessage). msg.number)) in
        let e : (message_at m c.0).number ≡ n = sym (get_or-map (λ (msg : PlainMessage). msg.number) m.messages c.0 no_message n h) ∙ c.2 in
        let k = place_is 0 m.messages n c.0 h e in
        let nums = numbered set keeps i l in
        let f = first_message_is nums (omega (arith, h)) in
        let at = nums.messages k.0 k.2 in
        let here : place_from 0 m.messages n ≡ k.0 = omega (arith, k.1) in
        record { within = omega (arith, k.1, k.2); is = omega (arith, f, at, k.1, k.3); number = ap (λ (z : ℕ). (message_at m z).number) here ∙ k.3 }

    abbrev slot_at : ℕ → ℕ → ℕ → PlainOwnSlot
    slot_at j c n = let a = place_from 0 m.messages n in record { slot = c; message = n; release = release p j a; copy = copy_at p j a }

    abbrev own_slot : ℕ → ℕ → ℕ → List PlainOwnSlot
    own_slot j c n = cond (is_own p v (place_from 0 m.messages n)) (slot_at j c n ∷ []) []

    kept_same : (j c n : ℕ) → IsMessage m n → slot_kept mrows s (hyper m) j c n ≡ typed_slot (slot_at j c n)
    kept_same j c n known =
        let pl = placed n known in
        let a = place_from 0 m.messages n in
        let start = get_or s.starts j (pos 0) in
        let made = λ (number : ℕ) (opens : ℤ) (period : ℕ).
        let r = release_in start opens period in
        let y : OwnSlot = record { slot = c; message = n; release = r; copy = copy_of s (hyper m) number (opens +ℤ r) start } in y in
        let opens = (get_or s.messages a (pos 0, pos 0)).0 in
        ap (λ (z : ℕ). made n (get_or s.messages z (pos 0, pos 0)).0 (get_or mrows z no_message_row).period) pl.is
        ∙ ap (λ (z : ℕ). made n opens z) (mrow_period a pl.within)
        ∙ ap (λ (z : ℕ). made z opens (message_at m a).period) (sym pl.number)

    slot_same : (j c n : ℕ) → IsMessage m n → slot_part mrows s (hyper m) j c n ≡ map typed_slot (own_slot j c n)
    slot_same j c n known =
        let pl = placed n known in
        let a = place_from 0 m.messages n in
        let i' = n - first_message mrows in
        let y = typed_slot (slot_at j c n) in
        ap (λ (x : OwnSlot). cond (ltb i' (length mrows) && not (eqb (get_or mrows i' no_message_row).role 0)) (x ∷ []) []) (kept_same j c n known)
        ∙ ap (λ (z : ℕ). cond (ltb z (length mrows) && not (eqb (get_or mrows z no_message_row).role 0)) (y ∷ []) []) pl.is
        ∙ ap (λ (b : Bool). cond (b && not (eqb (get_or mrows a no_message_row).role 0)) (y ∷ []) []) (lt-ltb _ _ (omega (arith, pl.within, mrows_count)))
        ∙ ap (λ (z : ℕ). cond (not (eqb z 0)) (y ∷ []) []) (ap (λ (x : MessageRow). x.role) (mrow_at a pl.within) ∙ role_same a pl.within)
        ∙ ap (λ (b : Bool). cond b (y ∷ []) []) (own_test (eqb (sender_of p a) v) (takes_on p a v))
        ∙ slot_typed (is_own p v a) (slot_at j c n)

    slots_from : (j c : ℕ) (table : List ℕ) → AllByRecursion (IsMessage m) table →
        flat_map (λ k. slot_part mrows s (hyper m) j (k + c) (get_or table k 0)) (below (length table)) ≡ map typed_slot (own_slots p v j c table)
    slots_from j c [] h = refl
    slots_from j c (n ∷ table) h =
        flat_first (λ k. slot_part mrows s (hyper m) j (k + c) (get_or (n ∷ table) k 0)) (length table)
        ∙ ap (λ (x : List OwnSlot). x ++ flat_map (λ k. slot_part mrows s (hyper m) j (suc k + c) (get_or table k 0)) (below (length table)))
        (ap (λ (z : ℕ). slot_part mrows s (hyper m) j z n) (let e : 0 + c ≡ c = omega arith in e) ∙ slot_same j c n h.0)
        ∙ ap (λ (x : List OwnSlot). map typed_slot (own_slot j c n) ++ x)
        (flat_same (λ k. slot_part mrows s (hyper m) j (suc k + c) (get_or table k 0)) (λ k. slot_part mrows s (hyper m) j (k + suc c) (get_or table k 0)) (length table)
        (λ k lk. ap (λ (z : ℕ). slot_part mrows s (hyper m) j z (get_or table k 0)) (let e : suc k + c ≡ k + suc c = omega arith in e))
        ∙ slots_from j (suc c) table h.1)
        ∙ sym (map-append typed_slot (own_slot j c n) (own_slots p v j (suc c) table))

    module _ (right : IsSchedule m (length s.starts) s) where
      pub times_are : HasTimes s
      times_are = times m (length s.starts) s ok right

      pub sizes : HasSizes s (length mrows)
      sizes = record {
        windows = right.shape.messages ∙ sym mrows_count;
        tables = right.shape.tables;
        few = all_by_place FewSlots s.tables [] (λ j h.
            let t = All-get_or (TableFits m) s.tables j [] h right.s7.tables in
            omega (arith, t.slots, lim.slots));
      }

      pub few_copies : FewCopies mrows s (hyper m)
      few_copies j n h carries =
          let table = get_or s.tables j [] in
          let known : IsMessage m n = All-contains (IsMessage m) table n (All-get_or (λ table. All (IsMessage m) table) s.tables j [] (omega (arith, h, right.shape.tables)) right.shape.numbers) carries in
          let pl = placed n known in
          let a = place_from 0 m.messages n in
          let carried : Carried p j a = (h, pl.within, contains_has table _ (subst (λ (z : ℕ). Contains table z) (sym pl.number) carries)) in
          let most : copy_at p j a ≤ (message_at m a).copies = (copies_are_numbered (length set.nodes) p j a (right_plan set i keeps l s right) carried).1 in
          let four : (message_at m a).copies ≤ 4 = lim.copies a pl.within in
          let same : (slot_kept mrows s (hyper m) j 0 n).copy ≡ copy_at p j a = ap (λ (x : OwnSlot). x.copy) (kept_same j 0 n known) in
          subst (λ (x : ℕ). x ≤ 4) (sym same) (omega (arith, most, four))

      round_same : (j : ℕ) → j < length s.starts →
          round_kept mrows s (hyper m) j ≡ typed_round (record { start = natural (round_start s j); slots = own_slots p v j 1 (get_or s.tables j []) })
      round_same j h =
          let known = All-get_or (λ table. All (IsMessage m) table) s.tables j [] (omega (arith, h, right.shape.tables)) right.shape.numbers in
          let low = (All-get_or (λ z. (pos 0 ≤ℤ z) × (z ≤ℤ pos 2000000000000)) s.starts j (pos 0) h times_are.starts).0 in
          let made = λ (z : ℤ) (xs : List OwnSlot). let y : OwnRound = record { start = z; slots = xs } in y in
          ap (λ (xs : List OwnSlot). made (get_or s.starts j (pos 0)) xs) (slots_from j 1 (get_or s.tables j []) (recursion_of (get_or s.tables j []) known))
          ∙ ap (λ (z : ℤ). made z (map typed_slot (own_slots p v j 1 (get_or s.tables j [])))) (sym (natural_is (get_or s.starts j (pos 0)) low))
        where
          recursion_of : (xs : List ℕ) → All (IsMessage m) xs → AllByRecursion (IsMessage m) xs
          recursion_of xs all = by_place xs (λ k d h. All-get_or (IsMessage m) xs k d h all)
            where
              by_place : (ys : List ℕ) → ((k d : ℕ) → k < length ys → IsMessage m (get_or ys k d)) → AllByRecursion (IsMessage m) ys
              by_place [] f = tt
              by_place (y ∷ ys) f = (f 0 0 (omega arith), by_place ys (λ k d h. f (suc k) d (omega (arith, h))))

      typed_map : (f : ℕ → PlainOwnRound) (xs : List ℕ) → map (λ j. typed_round (f j)) xs ≡ map typed_round (map f xs)
      typed_map f [] = refl
      typed_map f (x ∷ xs) = ap (λ (ys : List OwnRound). typed_round (f x) ∷ ys) (typed_map f xs)

      pub rounds_same : rounds_kept mrows s (hyper m) ≡ map typed_round (own_rounds p v)
      rounds_same =
          let f = λ (j : ℕ). let y : PlainOwnRound = record { start = natural (round_start s j); slots = own_slots p v j 1 (get_or s.tables j []) } in y in
          map_same (round_kept mrows s (hyper m)) (λ j. typed_round (f j)) (length s.starts) round_same ∙ typed_map f (below (length s.starts))

      offsets_from_zero : (a : ℕ) → a < length m.tasks → pos 0 ≤ℤ get_or s.tasks a (pos 0)
      offsets_from_zero a h = (right.s3 a h).from_zero

      -- what is kept is the part
      pub mode_same : (first : ℕ) (h : ℤ) (own : List OwnTask) (messages : List OwnMessage) (rounds : List OwnRound) → h ≡ pos (hyper m)
          → own ≡ tasks_kept rows s.tasks v → messages ≡ messages_kept rows v apps → rounds ≡ rounds_kept mrows s (hyper m)
          → let y : ModeTable = record { hyper = h; first_round = first; tasks = own; messages = messages; rounds = rounds } in y ≡ typed_mode (part_in first v p)
      mode_same first h own messages rounds e1 e2 e3 e4 =
          let made = λ (h : ℤ) (own : List OwnTask) (messages : List OwnMessage) (rounds : List OwnRound). let y : ModeTable = record { hyper = h; first_round = first; tasks = own; messages = messages; rounds = rounds } in y in
          ap (λ (x : ℤ). made x own messages rounds) e1
          ∙ ap (λ (x : List OwnTask). made (pos (hyper m)) x messages rounds) (e2 ∙ tasks_same s offsets_from_zero)
          ∙ ap (λ (x : List OwnMessage). made (pos (hyper m)) (map typed_task (own_tasks p v)) x rounds) (e3 ∙ messages_same)
          ∙ ap (λ (x : List OwnRound). made (pos (hyper m)) (map typed_task (own_tasks p v)) (map typed_message (own_messages p v)) x) (e4 ∙ rounds_same)
