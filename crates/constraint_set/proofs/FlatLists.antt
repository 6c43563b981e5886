-- Tasks and messages of a mode in plain lists
use Rattle.std.proofs.Common.{◌≡◌, ℕ, suc, ◌+◌, ◌<◌, cond, eqb, unsigned_abs, List, [], ◌∷◌, ◌++◌, length, get_or, drop, map, refl, sym, ◌∙◌, ap, arith, append_assoc}
use Rattle.std.proofs.Math.Seq.{drop-cons}
use Rattle.std.specs.List.{flat_map}
use Rattle.sched_model.specs.PlainMode.{PlainTask, PlainMessage, TaskOfApp, plain_task, place_of, plain_messages, tasks_of, mode_at, plain_at}
use Rattle.app_graph.specs.declared.mode_set.ModeSet.{ModeSet}
use Rattle.app_graph.specs.declared.mode_set.Task.{Task}
use Rattle.app_graph.specs.declared.mode_set.App.{App}
use Rattle.app_graph.specs.declared.mode_set.Message.{Message}
use Rattle.constraint_set.specs.Flat.{place_in, task_in, message_in, mode_with}

-- a task's place is the same in plain numbers
pub same_place : (ts : List TaskOfApp) (n : ℕ) → place_in (map plain_task ts) n ≡ place_of ts n
same_place [] n = refl
same_place (t ∷ ts) n = ap (λ p. cond (eqb t.task.number n) 0 (suc p)) (same_place ts n)

pub same_map : {X Y : Type 0} (f g : X → Y) (xs : List X) → ((x : X) → f x ≡ g x) → map f xs ≡ map g xs
same_map f g [] h = refl
same_map f g (x ∷ xs) h = ap (λ y. y ∷ map f xs) (h x) ∙ ap (λ ys. g x ∷ ys) (same_map f g xs h)

abbrev pub message_of : List TaskOfApp → App → Message → PlainMessage
message_of ts app msg = record { number = msg.number; period = unsigned_abs app.period; deadline = unsigned_abs app.deadline; copies = msg.copies; from = map (place_of ts) msg.from; to = map (place_of ts) msg.to }

pub same_message : (ts : List TaskOfApp) (app : App) (msg : Message) → message_in (map plain_task ts) app msg ≡ message_of ts app msg
same_message ts app msg =
    ap (λ (l : List ℕ). let m : PlainMessage = record { number = msg.number; period = unsigned_abs app.period; deadline = unsigned_abs app.deadline; copies = msg.copies; from = l; to = map (place_in (map plain_task ts)) msg.to } in m)
    (same_map (place_in (map plain_task ts)) (place_of ts) msg.from (same_place ts))
    ∙ ap (λ (l : List ℕ). let m : PlainMessage = record { number = msg.number; period = unsigned_abs app.period; deadline = unsigned_abs app.deadline; copies = msg.copies; from = map (place_of ts) msg.from; to = l } in m)
    (same_map (place_in (map plain_task ts)) (place_of ts) msg.to (same_place ts))

-- the messages are the same out of the tasks in plain numbers
pub same_messages : (ts : List TaskOfApp) (apps : List App) → flat_map (λ a. map (message_in (map plain_task ts) a) a.messages) apps ≡ plain_messages ts apps
same_messages ts [] = refl
same_messages ts (a ∷ apps) =
    ap (λ l. l ++ flat_map (λ (a : App). map (message_in (map plain_task ts) a) a.messages) apps) (same_map (message_in (map plain_task ts) a) (message_of ts a) a.messages (same_message ts a))
    ∙ ap (λ l. map (message_of ts a) a.messages ++ l) (same_messages ts apps)

-- ---- the tasks, one application after another
abbrev at_place : ℕ → App → Task → TaskOfApp
at_place n app t = record { place = n; app = app; task = t }

one_app : (n : ℕ) (app : App) (ts : List Task) (rest : List TaskOfApp) → map plain_task (map (at_place n app) ts ++ rest) ≡ map (task_in n app) ts ++ map plain_task rest
one_app n app [] rest = refl
one_app n app (t ∷ ts) rest = ap (λ (l : List PlainTask). task_in n app t ∷ l) (one_app n app ts rest)

-- the tasks of one application more
pub tasks_step : (old new : List PlainTask) (n : ℕ) (apps : List App) (app : App) → n < length apps → app ≡ get_or apps n app → new ≡ old ++ map (task_in n app) app.tasks
    → (whole : List PlainTask) → old ++ map plain_task (tasks_of n (drop n apps)) ≡ whole → new ++ map plain_task (tasks_of (n + 1) (drop (n + 1) apps)) ≡ whole
tasks_step old new n apps app l e s whole h =
    let rest = map plain_task (tasks_of (suc n) (drop (suc n) apps)) in
    let k : drop n apps ≡ app ∷ drop (suc n) apps = drop-cons apps n app l ∙ ap (λ (x : App). x ∷ drop (suc n) apps) (sym e) in
    ap (λ (i : ℕ). new ++ map plain_task (tasks_of i (drop i apps))) (let o : n + 1 ≡ suc n = omega arith in o)
    ∙ ap (λ (xs : List PlainTask). xs ++ rest) s
    ∙ append_assoc old (map (task_in n app) app.tasks) rest
    ∙ ap (λ (xs : List PlainTask). old ++ xs) (sym (one_app n app app.tasks (tasks_of (suc n) (drop (suc n) apps))))
    ∙ ap (λ (xs : List App). old ++ map plain_task (tasks_of n xs)) (sym k)
    ∙ h

-- ---- the mode
abbrev periods : List App → List ℕ
periods l = map (λ (a : App). unsigned_abs a.period) l

pub mode_is : (set : ModeSet) (i : ℕ) (apps : List App) (ps : List ℕ) (ts : List PlainTask) (ms : List PlainMessage)
    → apps ≡ (mode_at set i).apps → ps ≡ map (λ (a : App). unsigned_abs a.period) apps → ts ≡ map plain_task (tasks_of 0 apps)
    → ms ≡ flat_map (λ (a : App). map (message_in ts a) a.messages) apps → mode_with set ps ts ms ≡ plain_at set i
mode_is set i apps ps ts ms a p t m =
    ap (λ (l : List ℕ). mode_with set l ts ms) p
    ∙ ap (λ (l : List PlainMessage). mode_with set (periods apps) ts l) m
    ∙ ap (λ (l : List PlainTask). mode_with set (periods apps) l (flat_map (λ (a : App). map (message_in l a) a.messages) apps)) t
    ∙ ap (λ (l : List PlainMessage). mode_with set (periods apps) (map plain_task (tasks_of 0 apps)) l) (same_messages (tasks_of 0 apps) apps)
    ∙ ap (λ (l : List App). mode_with set (periods l) (map plain_task (tasks_of 0 l)) (plain_messages (tasks_of 0 l) l)) a
