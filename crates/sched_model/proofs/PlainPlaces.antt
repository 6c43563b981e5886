-- Where the tasks and messages of an application stand in the plain mode
use Rattle.std.proofs.Common.{◌≡◌, ℕ, zero, suc, ◌+◌, ◌-◌, ◌<◌, ◌≤◌, eqb, List, [], ◌∷◌, ◌++◌, length, get_or, map, refl, sym, ◌∙◌, ap, subst, arith, ◌⊎◌, inl, inr, ⊎_elim, pos, unsigned_abs, length-append}
use Rattle.std.specs.List.{AllByRecursion}
use Rattle.std.proofs.lemmas.Bool.{cases_lt, cond-true, cond-false, eq-eqb, ne_eqb}
use Rattle.std.proofs.lemmas.List.{get_or_append_left, get_or-append-add, get_or-map, length-map}
use Rattle.app_graph.specs.declared.raw.RawTask.{RawTask}
use Rattle.app_graph.specs.declared.raw.RawMessage.{RawMessage}
use Rattle.app_graph.specs.declared.raw.RawApp.{RawApp}
use Rattle.app_graph.specs.declared.mode_set.Task.{Task}
use Rattle.app_graph.specs.declared.mode_set.Message.{Message}
use Rattle.app_graph.specs.declared.mode_set.App.{App}
use Rattle.app_graph.specs.Numbering.{tasks_from, messages_from, apps_from, numbers_of}
use Rattle.sched_model.specs.PlainMode.{TaskOfApp, tasks_of, place_of, PlainMessage, plain_messages, no_message}

abbrev pub no_raw_task : RawTask
no_raw_task = record { name = []; node = []; wcet = pos 0; body = [] }

abbrev pub no_raw_message : RawMessage
no_raw_message = record { name = []; from = []; to = []; copies = pos 0 }

abbrev pub nothing : TaskOfApp
nothing = record { place = 0; app = record { name = []; period = pos 0; deadline = pos 0; tasks = []; messages = [] }; task = record { name = []; node = 0; wcet = pos 0; body = []; number = 0 } }

-- application A is in the list, and the tasks of those before it are k
abbrev pub At : List RawApp → ℕ → RawApp → Type 0
At [] k A = ⊥
At (a ∷ apps) k A = (k ≡ 0) × (a ≡ A) ⊎ ((l : ℕ) × (k ≡ length a.tasks + l) × At apps l A)

-- the task of an application's task, where t is its number
pub record IsTask (A : RawApp) (u : RawTask) (t : ℕ) (x : TaskOfApp) : Type 0 where
  pub number : x.task.number ≡ t
  pub wcet : x.task.wcet ≡ u.wcet
  pub period : x.app.period ≡ A.period
  pub deadline : x.app.deadline ≡ A.deadline

module _ (nodes : List (List ℕ)) where
  pub length-tasks : (t : ℕ) (us : List RawTask) → length (tasks_from nodes t us) ≡ length us
  length-tasks t [] = refl
  length-tasks t (u ∷ us) = ap suc (length-tasks (t + 1) us)

  task_from : (t : ℕ) (us : List RawTask) (j : ℕ) (d : Task) → j < length us → let x = get_or (tasks_from nodes t us) j d in (x.number ≡ t + j) × (x.wcet ≡ (get_or us j no_raw_task).wcet)
  task_from t [] j d l = absurd (omega (arith, l))
  task_from t (u ∷ us) zero d l = (omega arith, refl)
  task_from t (u ∷ us) (suc j) d l = let r = task_from (t + 1) us j d (omega (arith, l)) in (omega (arith, r.0), r.1)

  -- the tasks of the first application, and those of the others
  abbrev part : ℕ → ℕ → ℕ → RawApp → List TaskOfApp
  part n t m a =
      let app : App = record { name = a.name; period = a.period; deadline = a.deadline; tasks = tasks_from nodes t a.tasks; messages = messages_from t a.tasks m a.messages } in
      map (λ u. record { place = n; app = app; task = u }) (tasks_from nodes t a.tasks)

  length-part : (n t m : ℕ) (a : RawApp) → length (part n t m a) ≡ length a.tasks
  length-part n t m a = length-map (tasks_from nodes t a.tasks) _ ∙ length-tasks t a.tasks

  pub task_there : (n t m : ℕ) (apps : List RawApp) (k : ℕ) (A : RawApp) → At apps k A → (j : ℕ) → j < length A.tasks →
      (k + j < length (tasks_of n (apps_from nodes t m apps))) × IsTask A (get_or A.tasks j no_raw_task) (t + (k + j)) (get_or (tasks_of n (apps_from nodes t m apps)) (k + j) nothing)
  task_there n t m [] k A at j l = absurd at
  task_there n t m (a ∷ apps) k A (inl (e, same)) j l =
      let rest = tasks_of (suc n) (apps_from nodes (t + length a.tasks) (m + length a.messages) apps) in
      let len = length-part n t m a in
      let here : j < length a.tasks = subst (λ (b : RawApp). j < length b.tasks) (sym same) l in
      let is = task_from t a.tasks j (nothing).task here in
      let app : App = record { name = a.name; period = a.period; deadline = a.deadline; tasks = tasks_from nodes t a.tasks; messages = messages_from t a.tasks m a.messages } in
      let x : get_or (part n t m a ++ rest) j nothing ≡ record { place = n; app = app; task = get_or (tasks_from nodes t a.tasks) j (nothing).task } =
      get_or_append_left (part n t m a) rest nothing j (omega (arith, here, len)) ∙ get_or-map (λ u. record { place = n; app = app; task = u }) (tasks_from nodes t a.tasks) j (nothing).task nothing (omega (arith, here, length-tasks t a.tasks)) in
      let y = ap (λ i. get_or (part n t m a ++ rest) i nothing) (let s : k + j ≡ j = omega (arith, e) in s) ∙ x in (
        omega (arith, e, here, len, length-append (part n t m a) rest),
        record {
          number = ap (λ (z : TaskOfApp). z.task.number) y ∙ is.0 ∙ (let s : t + j ≡ t + (k + j) = omega (arith, e) in s);
          wcet = ap (λ (z : TaskOfApp). z.task.wcet) y ∙ is.1 ∙ ap (λ (b : RawApp). (get_or b.tasks j no_raw_task).wcet) same;
          period = ap (λ (z : TaskOfApp). z.app.period) y ∙ ap (λ (b : RawApp). b.period) same;
          deadline = ap (λ (z : TaskOfApp). z.app.deadline) y ∙ ap (λ (b : RawApp). b.deadline) same;
        },
      )
  task_there n t m (a ∷ apps) k A (inr (i, e, at)) j l =
      let rest = tasks_of (suc n) (apps_from nodes (t + length a.tasks) (m + length a.messages) apps) in
      let len = length-part n t m a in
      let r = task_there (suc n) (t + length a.tasks) (m + length a.messages) apps i A at j l in
      let y : get_or (part n t m a ++ rest) (k + j) nothing ≡ get_or rest (i + j) nothing =
      ap (λ x. get_or (part n t m a ++ rest) x nothing) (let s : k + j ≡ length (part n t m a) + (i + j) = omega (arith, e, len) in s) ∙ get_or-append-add (part n t m a) rest (i + j) nothing in (
        omega (arith, e, len, r.0, length-append (part n t m a) rest),
        record {
          number = ap (λ (z : TaskOfApp). z.task.number) y ∙ r.1.number ∙ (let s : t + length a.tasks + (i + j) ≡ t + (k + j) = omega (arith, e) in s);
          wcet = ap (λ (z : TaskOfApp). z.task.wcet) y ∙ r.1.wcet;
          period = ap (λ (z : TaskOfApp). z.app.period) y ∙ r.1.period;
          deadline = ap (λ (z : TaskOfApp). z.app.deadline) y ∙ r.1.deadline;
        },
      )

  -- every place is a task's
  pub task_found : (n t m : ℕ) (apps : List RawApp) (x : ℕ) → x < length (tasks_of n (apps_from nodes t m apps)) → (k j : ℕ) × (A : RawApp) × At apps k A × (j < length A.tasks) × (x ≡ k + j)
  task_found n t m [] x l = absurd (omega (arith, l))
  task_found n t m (a ∷ apps) x l =
      let rest = tasks_of (suc n) (apps_from nodes (t + length a.tasks) (m + length a.messages) apps) in
      let len = length-part n t m a in
      ⊎_elim
      (λ (here : x < length a.tasks). (0, x, a, inl (refl, refl), here, omega arith))
      (λ (there : length a.tasks ≤ x).
      let r = task_found (suc n) (t + length a.tasks) (m + length a.messages) apps (x - length a.tasks) (omega (arith, l, there, len, length-append (part n t m a) rest)) in
      (length a.tasks + r.0, r.1, r.2, inr (r.0, refl, r.3), r.4, omega (arith, r.5, there)))
      (cases_lt x (length a.tasks))

-- the applications do not overlap
pub one_app : (apps : List RawApp) (k l : ℕ) (A B : RawApp) → At apps k A → At apps l B → (i j : ℕ) → i < length A.tasks → j < length B.tasks → k + i ≡ l + j → (k ≡ l) × (A ≡ B)
one_app [] k l A B p q i j li lj e = absurd p
one_app (a ∷ apps) k l A B (inl (x, f)) (inl (y, g)) i j li lj e = (x ∙ sym y, sym f ∙ g)
one_app (a ∷ apps) k l A B (inl (x, f)) (inr (n, y, q)) i j li lj e = let h : i < length a.tasks = subst (λ (c : RawApp). i < length c.tasks) (sym f) li in absurd (omega (arith, x, y, h, e))
one_app (a ∷ apps) k l A B (inr (n, x, p)) (inl (y, g)) i j li lj e = let h : j < length a.tasks = subst (λ (c : RawApp). j < length c.tasks) (sym g) lj in absurd (omega (arith, x, y, h, e))
one_app (a ∷ apps) k l A B (inr (n, x, p)) (inr (o, y, q)) i j li lj e =
    let r = one_app apps n o A B p q i j li lj (omega (arith, x, y, e)) in
    (omega (arith, x, y, r.0), r.1)

-- each application of the list keeps what all keep
pub at_all : (P : RawApp → Type 0) (apps : List RawApp) → AllByRecursion P apps → (k : ℕ) (A : RawApp) → At apps k A → P A
at_all P [] h k A at = absurd at
at_all P (a ∷ apps) h k A (inl (e, same)) = subst P same h.0
at_all P (a ∷ apps) h k A (inr (i, e, at)) = at_all P apps h.1 i A at

-- ---- tasks by their numbers, which follow each other from t on
pub place_at : (ts : List TaskOfApp) (t : ℕ) → ((x : ℕ) → x < length ts → (get_or ts x nothing).task.number ≡ t + x) → (x : ℕ) → x < length ts → place_of ts (t + x) ≡ x
place_at [] t h x l = absurd (omega (arith, l))
place_at (y ∷ ts) t h zero l = cond-true (eqb y.task.number (t + 0)) 0 (suc (place_of ts (t + 0))) (eq-eqb y.task.number (t + 0) (h 0 l))
place_at (y ∷ ts) t h (suc x) l =
    let first = h 0 (omega arith) in
    let rest = place_at ts (suc t) (λ z k. h (suc z) (omega (arith, k)) ∙ (let s : t + suc z ≡ suc t + z = omega arith in s)) x (omega (arith, l)) in
    cond-false (eqb y.task.number (t + suc x)) 0 (suc (place_of ts (t + suc x))) (ne_eqb y.task.number (t + suc x) (λ (e : y.task.number ≡ t + suc x). omega (arith, e, first)))
    ∙ ap (λ z. suc (place_of ts z)) (let s : t + suc x ≡ suc t + x = omega arith in s) ∙ ap suc rest

-- ---- messages
-- the message of an application's message, where n is its number and t that of the mode's first task
pub record IsMessage (ts : List TaskOfApp) (A : RawApp) (k t n : ℕ) (u : RawMessage) (x : PlainMessage) : Type 0 where
  pub number : x.number ≡ n
  pub period : x.period ≡ unsigned_abs A.period
  pub deadline : x.deadline ≡ unsigned_abs A.deadline
  pub copies : x.copies ≡ unsigned_abs u.copies
  pub from : x.from ≡ map (place_of ts) (numbers_of (t + k) A.tasks u.from)
  pub to : x.to ≡ map (place_of ts) (numbers_of (t + k) A.tasks u.to)

pub length-messages : (t m : ℕ) (us : List RawTask) (ms : List RawMessage) → length (messages_from t us m ms) ≡ length ms
length-messages t m us [] = refl
length-messages t m us (u ∷ ms) = ap suc (length-messages t (m + 1) us ms)

module _ (nodes : List (List ℕ)) (ts : List TaskOfApp) where
  abbrev plain : RawApp → Message → PlainMessage
  plain a u = record { number = u.number; period = unsigned_abs a.period; deadline = unsigned_abs a.deadline; copies = u.copies; from = map (place_of ts) u.from; to = map (place_of ts) u.to }

  message_from : (t m : ℕ) (a : RawApp) (ms : List RawMessage) (i : ℕ) → i < length ms →
      let x = get_or (map (plain a) (messages_from t a.tasks m ms)) i no_message in let u = get_or ms i no_raw_message in
      (x.number ≡ m + i) × (x.period ≡ unsigned_abs a.period) × (x.deadline ≡ unsigned_abs a.deadline) × (x.from ≡ map (place_of ts) (numbers_of t a.tasks u.from)) × (x.to ≡ map (place_of ts) (numbers_of t a.tasks u.to)) × (x.copies ≡ unsigned_abs u.copies)
  message_from t m a [] i l = absurd (omega (arith, l))
  message_from t m a (u ∷ ms) zero l = (omega arith, refl, refl, refl, refl, refl)
  message_from t m a (u ∷ ms) (suc i) l = let r = message_from t (m + 1) a ms i (omega (arith, l)) in (omega (arith, r.0), r.1, r.2, r.3, r.4, r.5)

  pub message_found : (t m : ℕ) (apps : List RawApp) (i : ℕ) → i < length (plain_messages ts (apps_from nodes t m apps)) →
      (k : ℕ) × (A : RawApp) × (j : ℕ) × At apps k A × (j < length A.messages) × IsMessage ts A k t (m + i) (get_or A.messages j no_raw_message) (get_or (plain_messages ts (apps_from nodes t m apps)) i no_message)
  message_found t m [] i l = absurd (omega (arith, l))
  message_found t m (a ∷ apps) i l =
      let here = map (plain a) (messages_from t a.tasks m a.messages) in
      let rest = plain_messages ts (apps_from nodes (t + length a.tasks) (m + length a.messages) apps) in
      let len : length here ≡ length a.messages = length-map (messages_from t a.tasks m a.messages) (plain a) ∙ length-messages t m a.tasks a.messages in
      ⊎_elim
      (λ (less : i < length a.messages).
      let r = message_from t m a a.messages i less in
      let y = get_or_append_left here rest no_message i (omega (arith, less, len)) in
      let z : t ≡ t + 0 = omega arith in
      let u = get_or a.messages i no_raw_message in (
        0,
        a,
        i,
        inl (refl, refl),
        less,
        record {
          number = ap (λ (x : PlainMessage). x.number) y ∙ r.0;
          period = ap (λ (x : PlainMessage). x.period) y ∙ r.1;
          deadline = ap (λ (x : PlainMessage). x.deadline) y ∙ r.2;
          copies = ap (λ (x : PlainMessage). x.copies) y ∙ r.5;
          from = ap (λ (x : PlainMessage). x.from) y ∙ r.3 ∙ ap (λ w. map (place_of ts) (numbers_of w a.tasks u.from)) z;
          to = ap (λ (x : PlainMessage). x.to) y ∙ r.4 ∙ ap (λ w. map (place_of ts) (numbers_of w a.tasks u.to)) z;
        },
      ))
      (λ (le : length a.messages ≤ i).
      let r = message_found (t + length a.tasks) (m + length a.messages) apps (i - length a.messages) (omega (arith, l, le, len, length-append here rest)) in
      let is = r.5 in
      let u = get_or r.1.messages r.2 no_raw_message in
      let y : get_or (here ++ rest) i no_message ≡ get_or rest (i - length a.messages) no_message =
      ap (λ x. get_or (here ++ rest) x no_message) (let s : i ≡ length here + (i - length a.messages) = omega (arith, len, le) in s) ∙ get_or-append-add here rest (i - length a.messages) no_message in
      let z : t + length a.tasks + r.0 ≡ t + (length a.tasks + r.0) = omega arith in (
        length a.tasks + r.0,
        r.1,
        r.2,
        inr (r.0, refl, r.3),
        r.4,
        record {
          number = ap (λ (x : PlainMessage). x.number) y ∙ is.number ∙ (let s : m + length a.messages + (i - length a.messages) ≡ m + i = omega (arith, le) in s);
          period = ap (λ (x : PlainMessage). x.period) y ∙ is.period;
          deadline = ap (λ (x : PlainMessage). x.deadline) y ∙ is.deadline;
          copies = ap (λ (x : PlainMessage). x.copies) y ∙ is.copies;
          from = ap (λ (x : PlainMessage). x.from) y ∙ is.from ∙ ap (λ w. map (place_of ts) (numbers_of w r.1.tasks u.from)) z;
          to = ap (λ (x : PlainMessage). x.to) y ∙ is.to ∙ ap (λ w. map (place_of ts) (numbers_of w r.1.tasks u.to)) z;
        },
      ))
      (cases_lt i (length a.messages))
