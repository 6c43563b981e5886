-- Tasks and messages with their applications, and the plain mode
use Rattle.std.proofs.Common.{◌≡◌, ℕ, suc, ◌+◌, ◌<◌, ◌≤◌, cond, eqb, true, false, List, [], ◌∷◌, ◌++◌, length, get_or, drop, map, refl, sym, ◌∙◌, ap, subst, arith, unsigned_abs, ⊎_elim, length-append, drop-cons, All, Contains}
use Rattle.std.proofs.lemmas.Bool.{cases_Bool, cond-true, cond-false}
use Rattle.std.proofs.lemmas.List.{get_or-map, length-map, map-append}
use Rattle.app_graph.specs.declared.mode_set.App.{App}
use Rattle.app_graph.specs.declared.mode_set.Task.{Task}
use Rattle.app_graph.specs.declared.mode_set.Message.{Message}
use Rattle.app_graph.specs.declared.mode_set.ModeSet.{ModeSet}
use Rattle.app_graph.specs.Validation.{KeepsRules}
use Rattle.sched_model.specs.PlainMode.{PlainTask, PlainMessage, no_task, no_message, task_at, message_at, TaskOfApp, tasks_of, place_of, plain_task, plain_messages, mode_at, plain_at}
use Rattle.sched_model.specs.Rows.{TaskIn, MessageIn, tasks_in, messages_in, no_app, task_in, message_in, row_of, place_in, index_of, plain_message, ShowsTask, ShowsMessage}
use Rattle.sched_model.proofs.Graph.{message_edge}
use Rattle.sched_model.proofs.PlainPlaces.{nothing}
use Rattle.sched_model.proofs.KeptSets.{mode_at_valid}
use Rattle.sched_model.proofs.LimitedModes.{mode_at_limited}

-- ---- a task's place in its application and in the mode
abbrev within : App → Task → TaskIn
within app t = record { app = app; task = t }

pub found_here : (app : App) (ts : List Task) (rest : List TaskIn) (n : ℕ) → index_of ts n < length ts → place_in (map (within app) ts ++ rest) n ≡ index_of ts n
found_here app [] rest n l = absurd (omega (arith, l))
found_here app (t ∷ ts) rest n l =
    ⊎_elim
    (λ (yes : eqb t.number n ≡ true). cond-true (eqb t.number n) 0 _ yes ∙ sym (cond-true (eqb t.number n) 0 (suc (index_of ts n)) yes))
    (λ (no : eqb t.number n ≡ false).
    let e = cond-false (eqb t.number n) 0 (suc (index_of ts n)) no in
    cond-false (eqb t.number n) 0 _ no ∙ ap suc (found_here app ts rest n (omega (arith, l, e))) ∙ sym e)
    (cases_Bool (eqb t.number n))

pub found_later : (app : App) (ts : List Task) (rest : List TaskIn) (n : ℕ) → length ts ≤ index_of ts n → place_in (map (within app) ts ++ rest) n ≡ length ts + place_in rest n
found_later app [] rest n l = omega arith
found_later app (t ∷ ts) rest n l =
    ⊎_elim
    (λ (yes : eqb t.number n ≡ true). let e = cond-true (eqb t.number n) 0 (suc (index_of ts n)) yes in absurd (omega (arith, l, e)))
    (λ (no : eqb t.number n ≡ false).
    let e = cond-false (eqb t.number n) 0 (suc (index_of ts n)) no in
    cond-false (eqb t.number n) 0 _ no ∙ ap suc (found_later app ts rest n (omega (arith, l, e))) ∙ (let s : suc (length ts + place_in rest n) ≡ suc (length ts) + place_in rest n = omega arith in s))
    (cases_Bool (eqb t.number n))

-- the applications from place k on
next_app : (apps : List App) (k : ℕ) (app : App) → k < length apps → app ≡ get_or apps k app → tasks_in (drop k apps) ≡ map (within app) app.tasks ++ tasks_in (drop (k + 1) apps)
next_app apps k app l e =
    ap tasks_in (drop-cons apps k app l)
    ∙ ap (λ (x : App). map (within x) x.tasks ++ tasks_in (drop (suc k) apps)) (sym e)
    ∙ ap (λ j. map (within app) app.tasks ++ tasks_in (drop j apps)) (let s : suc k ≡ k + 1 = omega arith in s)

pub found_at : (apps : List App) (k : ℕ) (app : App) (ts : List Task) (n : ℕ) → k < length apps → app ≡ get_or apps k app → ts ≡ app.tasks → index_of ts n < length ts → place_in (tasks_in (drop k apps)) n ≡ index_of ts n
found_at apps k app ts n l e same h =
    ap (λ x. place_in x n) (next_app apps k app l e)
    ∙ subst (λ (us : List Task). place_in (map (within app) us ++ tasks_in (drop (k + 1) apps)) n ≡ index_of ts n) same (found_here app ts (tasks_in (drop (k + 1) apps)) n h)

pub found_past : (apps : List App) (k : ℕ) (app : App) (ts : List Task) (n : ℕ) → k < length apps → app ≡ get_or apps k app → ts ≡ app.tasks → length ts ≤ index_of ts n
    → place_in (tasks_in (drop k apps)) n ≡ length ts + place_in (tasks_in (drop (k + 1) apps)) n
found_past apps k app ts n l e same h =
    ap (λ x. place_in x n) (next_app apps k app l e)
    ∙ subst (λ (us : List Task). place_in (map (within app) us ++ tasks_in (drop (k + 1) apps)) n ≡ length ts + place_in (tasks_in (drop (k + 1) apps)) n) same (found_later app ts (tasks_in (drop (k + 1) apps)) n h)

pub count_past : (apps : List App) (k : ℕ) (app : App) (ts : List Task) → k < length apps → app ≡ get_or apps k app → ts ≡ app.tasks → length (tasks_in (drop k apps)) ≡ length ts + length (tasks_in (drop (k + 1) apps))
count_past apps k app ts l e same =
    ap length (next_app apps k app l e) ∙ length-append (map (within app) app.tasks) (tasks_in (drop (k + 1) apps))
    ∙ ap (λ z. z + length (tasks_in (drop (k + 1) apps))) (length-map app.tasks (within app) ∙ ap length (sym same))

-- ---- the tasks of the plain mode
abbrev forget : TaskOfApp → TaskIn
forget t = record { app = t.app; task = t.task }

abbrev placed : ℕ → App → Task → TaskOfApp
placed n app t = record { place = n; app = app; task = t }

forget_part : (n : ℕ) (app : App) (ts : List Task) → map forget (map (placed n app) ts) ≡ map (within app) ts
forget_part n app [] = refl
forget_part n app (t ∷ ts) = ap (λ l. within app t ∷ l) (forget_part n app ts)

pub same_tasks : (n : ℕ) (apps : List App) → map forget (tasks_of n apps) ≡ tasks_in apps
same_tasks n [] = refl
same_tasks n (app ∷ apps) =
    map-append forget (map (placed n app) app.tasks) (tasks_of (suc n) apps)
    ∙ ap (λ l. l ++ map forget (tasks_of (suc n) apps)) (forget_part n app app.tasks)
    ∙ ap (λ l. map (within app) app.tasks ++ l) (same_tasks (suc n) apps)

place_forget : (ts : List TaskOfApp) (n : ℕ) → place_in (map forget ts) n ≡ place_of ts n
place_forget [] n = refl
place_forget (t ∷ ts) n = ap (λ p. cond (eqb t.task.number n) 0 (suc p)) (place_forget ts n)

pub same_place : (k : ℕ) (apps : List App) (n : ℕ) → place_in (tasks_in apps) n ≡ place_of (tasks_of k apps) n
same_place k apps n = ap (λ l. place_in l n) (sym (same_tasks k apps)) ∙ place_forget (tasks_of k apps) n

pub length-tasks_in : (k : ℕ) (apps : List App) → length (tasks_in apps) ≡ length (tasks_of k apps)
length-tasks_in k apps = ap length (sym (same_tasks k apps)) ∙ length-map (tasks_of k apps) forget

pub task_in_is : (k : ℕ) (apps : List App) (a : ℕ) → a < length (tasks_in apps) → task_in apps a ≡ forget (get_or (tasks_of k apps) a nothing)
task_in_is k apps a l =
    ap (λ (xs : List TaskIn). get_or xs a (forget nothing)) (sym (same_tasks k apps))
    ∙ get_or-map forget (tasks_of k apps) a nothing (forget nothing) (omega (arith, l, length-tasks_in k apps))

-- ---- its messages
abbrev sent : App → Message → MessageIn
sent app m = record { app = app; message = m }

abbrev plain_of : List TaskOfApp → App → Message → PlainMessage
plain_of ts app msg = record { number = msg.number; period = unsigned_abs app.period; deadline = unsigned_abs app.deadline; copies = msg.copies; from = map (place_of ts) msg.from; to = map (place_of ts) msg.to }

same_map : {X Y : Type 0} (f g : X → Y) (xs : List X) → ((x : X) → f x ≡ g x) → map f xs ≡ map g xs
same_map f g [] h = refl
same_map f g (x ∷ xs) h = ap (λ y. y ∷ map f xs) (h x) ∙ ap (λ ys. g x ∷ ys) (same_map f g xs h)

module _ (ts : List TaskOfApp) (us : List TaskIn) (same : (n : ℕ) → place_in us n ≡ place_of ts n) where
  one_message : (app : App) (m : Message) → plain_message us (sent app m) ≡ plain_of ts app m
  one_message app m =
      ap (λ (l : List ℕ). let x : PlainMessage = record { number = m.number; period = unsigned_abs app.period; deadline = unsigned_abs app.deadline; copies = m.copies; from = l; to = map (place_in us) m.to } in x)
      (same_map (place_in us) (place_of ts) m.from same)
      ∙ ap (λ (l : List ℕ). let x : PlainMessage = record { number = m.number; period = unsigned_abs app.period; deadline = unsigned_abs app.deadline; copies = m.copies; from = map (place_of ts) m.from; to = l } in x)
      (same_map (place_in us) (place_of ts) m.to same)

  message_part : (app : App) (ms : List Message) → map (plain_message us) (map (sent app) ms) ≡ map (plain_of ts app) ms
  message_part app [] = refl
  message_part app (m ∷ ms) = ap (λ x. x ∷ map (plain_message us) (map (sent app) ms)) (one_message app m) ∙ ap (λ l. plain_of ts app m ∷ l) (message_part app ms)

  pub same_messages : (apps : List App) → map (plain_message us) (messages_in apps) ≡ plain_messages ts apps
  same_messages [] = refl
  same_messages (app ∷ apps) =
      map-append (plain_message us) (map (sent app) app.messages) (messages_in apps)
      ∙ ap (λ l. l ++ map (plain_message us) (messages_in apps)) (message_part app app.messages)
      ∙ ap (λ l. map (plain_of ts app) app.messages ++ l) (same_messages apps)

-- ---- a mode of a set
module _ (set : ModeSet) (i : ℕ) where
  abbrev apps : List App
  apps = (mode_at set i).apps

  pub task_count : length (plain_at set i).tasks ≡ length (tasks_in apps)
  task_count = length-map (tasks_of 0 apps) plain_task ∙ sym (length-tasks_in 0 apps)

  pub messages_are : (plain_at set i).messages ≡ map (plain_message (tasks_in apps)) (messages_in apps)
  messages_are = sym (same_messages (tasks_of 0 apps) (tasks_in apps) (same_place 0 apps) apps)

  pub message_count : length (plain_at set i).messages ≡ length (messages_in apps)
  message_count = ap length messages_are ∙ length-map (messages_in apps) (plain_message (tasks_in apps))

  task_is : (a : ℕ) → a < length (tasks_in apps) → (x : TaskOfApp) × (task_at (plain_at set i) a ≡ plain_task x) × (task_in apps a ≡ forget x)
  task_is a l = (get_or (tasks_of 0 apps) a nothing, get_or-map plain_task (tasks_of 0 apps) a nothing no_task (omega (arith, l, length-tasks_in 0 apps)), task_in_is 0 apps a l)

  module _ (keeps : KeepsRules set) (l : i < length set.modes) where
    pub shows_task : (a : ℕ) → a < length (tasks_in apps) → ShowsTask (row_of (task_in apps a)) (task_at (plain_at set i) a)
    shows_task a h =
        let t = task_is a h in
        let m = plain_at set i in
        let ok = mode_at_valid set keeps i l in
        let lim = mode_at_limited set keeps i l in
        let h' : a < length m.tasks = omega (arith, h, task_count) in
        let w = ok.wcet a h' in
        let p = lim.periods (task_at m a).period (ok.task_period a h') in
        let d = ok.deadline a h' in
        let wcet = ap (λ (x : TaskIn). (row_of x).wcet) t.2 ∙ sym (ap (λ (x : PlainTask). x.wcet) t.1) in
        let period = ap (λ (x : TaskIn). (row_of x).period) t.2 ∙ sym (ap (λ (x : PlainTask). x.period) t.1) in
        let deadline = ap (λ (x : TaskIn). (row_of x).deadline) t.2 ∙ sym (ap (λ (x : PlainTask). x.deadline) t.1) in
        record {
          number = ap (λ (x : TaskIn). (row_of x).number) t.2 ∙ sym (ap (λ (x : PlainTask). x.number) t.1);
          node = ap (λ (x : TaskIn). (row_of x).node) t.2 ∙ sym (ap (λ (x : PlainTask). x.node) t.1);
          wcet = wcet;
          period = period;
          deadline = deadline;
          wcet_some = omega (arith, wcet, w.0);
          within = omega (arith, wcet, period, w.1);
          period_most = omega (arith, period, p.1);
          deadline_most = omega (arith, deadline, d, ok.hyper_limit);
        }

    pub message_is : (j : ℕ) → j < length (messages_in apps) → message_at (plain_at set i) j ≡ plain_message (tasks_in apps) (message_in apps j)
    message_is j h =
        ap (λ (xs : List PlainMessage). get_or xs j no_message) messages_are
        ∙ get_or-map (plain_message (tasks_in apps)) (messages_in apps) j (record { app = no_app; message = record { name = []; from = []; to = []; number = 0; copies = 0 } }) no_message h

    pub shows_message : (j : ℕ) → j < length (messages_in apps) → ShowsMessage (tasks_in apps) (message_in apps j) (message_at (plain_at set i) j)
    shows_message j h =
        let e = message_is j h in
        let m = plain_at set i in
        let h' : j < length m.messages = omega (arith, h, message_count) in
        let ok = mode_at_valid set keeps i l in
        let p = (mode_at_limited set keeps i l).periods (message_at m j).period (ok.message_period j h') in
        let a = ok.producer j h' in
        let b = ok.consumer j h' in
        record {
          number = sym (ap (λ (x : PlainMessage). x.number) e);
          period = sym (ap (λ (x : PlainMessage). x.period) e);
          deadline = sym (ap (λ (x : PlainMessage). x.deadline) e);
          copies = sym (ap (λ (x : PlainMessage). x.copies) e);
          from = sym (ap (λ (x : PlainMessage). x.from) e);
          to = sym (ap (λ (x : PlainMessage). x.to) e);
          period_some = p.0;
          period_most = p.1;
          deadline_most = omega (arith, (ok.consumer_app j b.0 h' b.1).1, ok.deadline b.0 (ok.edges a.0 b.0 (message_edge m j a.0 b.0 h' a.1 b.1)).to, ok.hyper_limit);
        }

-- the same where these are the applications of the mode
module _ (set : ModeSet) (i : ℕ) (xs : List App) (same : xs ≡ (mode_at set i).apps) where
  pub tasks_are : length (tasks_in xs) ≡ length (plain_at set i).tasks
  tasks_are = ap (λ (l : List App). length (tasks_in l)) same ∙ sym (task_count set i)

  pub how_many : length (messages_in xs) ≡ length (plain_at set i).messages
  how_many = ap (λ (l : List App). length (messages_in l)) same ∙ sym (message_count set i)

  module _ (keeps : KeepsRules set) (l : i < length set.modes) where
    pub few_tasks : length (tasks_in xs) ≤ 128
    few_tasks = omega (arith, tasks_are, (mode_at_limited set keeps i l).tasks)

    pub few_messages : length (messages_in xs) ≤ 64
    few_messages = omega (arith, how_many, (mode_at_limited set keeps i l).messages)

    pub task_shown : (a : ℕ) → a < length (plain_at set i).tasks → ShowsTask (row_of (task_in xs a)) (task_at (plain_at set i) a)
    task_shown a h = subst (λ (l : List App). ShowsTask (row_of (task_in l a)) (task_at (plain_at set i) a)) (sym same) (shows_task set i keeps l a (omega (arith, h, task_count set i)))

    pub message_shown : (j : ℕ) → j < length (plain_at set i).messages → ShowsMessage (tasks_in xs) (message_in xs j) (message_at (plain_at set i) j)
    message_shown j h = subst (λ (l : List App). ShowsMessage (tasks_in l) (message_in l j) (message_at (plain_at set i) j)) (sym same) (shows_message set i keeps l j (omega (arith, h, message_count set i)))

    ends : (j : ℕ) → j < length (plain_at set i).messages → (numbers : List ℕ) → ((a : ℕ) → Contains (map (place_in (tasks_in xs)) numbers) a → a < length (plain_at set i).tasks) →
        All (λ n. place_in (tasks_in xs) n < length (tasks_in xs)) numbers
    ends j h numbers f k e lk =
        let n = get_or numbers k e in
        let c : Contains (map (place_in (tasks_in xs)) numbers) (place_in (tasks_in xs) n)
        = (k, omega (arith, lk, length-map numbers (place_in (tasks_in xs))), get_or-map (place_in (tasks_in xs)) numbers k e (place_in (tasks_in xs) n) lk) in
        omega (arith, f (place_in (tasks_in xs) n) c, tasks_are)

    pub from_known : (j : ℕ) → j < length (plain_at set i).messages → (numbers : List ℕ) → numbers ≡ (message_in xs j).message.from → All (λ n. place_in (tasks_in xs) n < length (tasks_in xs)) numbers
    from_known j h numbers e =
        let m = plain_at set i in
        let ok = mode_at_valid set keeps i l in
        let b = ok.consumer j h in
        ends j h numbers (λ a c. (ok.edges a b.0 (message_edge m j a b.0 h (subst (λ (x : List ℕ). Contains x a) (ap (map (place_in (tasks_in xs))) e ∙ (message_shown j h).from) c) b.1)).from)

    pub to_known : (j : ℕ) → j < length (plain_at set i).messages → (numbers : List ℕ) → numbers ≡ (message_in xs j).message.to → All (λ n. place_in (tasks_in xs) n < length (tasks_in xs)) numbers
    to_known j h numbers e =
        let m = plain_at set i in
        let ok = mode_at_valid set keeps i l in
        let a = ok.producer j h in
        ends j h numbers (λ b c. (ok.edges a.0 b (message_edge m j a.0 b h a.1 (subst (λ (x : List ℕ). Contains x b) (ap (map (place_in (tasks_in xs))) e ∙ (message_shown j h).to) c))).to)
