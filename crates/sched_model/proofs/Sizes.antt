-- How many tasks, messages and message instances the plain mode of a mode has
use Rattle.std.proofs.Common.{◌≡◌, ℕ, zero, suc, ◌+◌, ◌*◌, ◌/◌, ◌≤◌, List, [], ◌∷◌, length, get_or, map, take, refl, ◌∙◌, ap, arith, unsigned_abs, length-append}
use Rattle.std.specs.List.{sum_by, flat_map}
use Rattle.std.proofs.lemmas.List.Sums.{sum_by-append}
use Rattle.std.proofs.lemmas.List.{length-map, take_more, take_all}
use Rattle.app_graph.specs.declared.raw.RawApp.{RawApp}
use Rattle.app_graph.specs.declared.raw.RawMessage.{RawMessage}
use Rattle.app_graph.specs.declared.raw.RawTask.{RawTask}
use Rattle.app_graph.specs.ValueRules.{slots_of, slots_in}
use Rattle.app_graph.specs.declared.mode_set.App.{App}
use Rattle.app_graph.specs.declared.mode_set.Task.{Task}
use Rattle.app_graph.specs.declared.mode_set.Message.{Message}
use Rattle.app_graph.specs.declared.mode_set.Mode.{Mode}
use Rattle.app_graph.specs.declared.mode_set.ModeSet.{ModeSet}
use Rattle.app_graph.specs.Numbering.{tasks_from, message_of, messages_from, apps_from}
use Rattle.sched_model.specs.Numbers.{below}
use Rattle.sched_model.specs.PlainMode.{PlainMessage, TaskOfApp, hyper, no_message, copy_count, instances, tasks_of, place_of, plain_messages, plain_mode}
use Rattle.sched_model.specs.Rows.{slots_by}
use Rattle.sched_model.proofs.PlainPlaces.{length-tasks, length-messages}

sum_by-cons : {X : Type 0} (f : X → ℕ) (x : X) (xs : List X) → sum_by f (x ∷ xs) ≡ f x + sum_by f xs
sum_by-cons f x xs = let e = sum_by-append f (x ∷ []) xs in omega (arith, e)

-- a message of an application, as one of the mode
abbrev plain : List TaskOfApp → ℕ → ℕ → Message → PlainMessage
plain ts period deadline u = record { number = u.number; period = period; deadline = deadline; copies = u.copies; from = map (place_of ts) u.from; to = map (place_of ts) u.to }

abbrev in_app : ℕ → App → Task → TaskOfApp
in_app i app u = record { place = i; app = app; task = u }

-- a sum over the places of a list is one over the list
sum_front : {X : Type 0} (f : X → ℕ) (xs : List X) (d : X) (n : ℕ) → n ≤ length xs → sum_by (λ i. f (get_or xs i d)) (below n) ≡ sum_by f (take n xs)
sum_front f xs d zero l = refl
sum_front f xs d (suc n) l =
    let a = sum_by-append (λ i. f (get_or xs i d)) (below n) (n ∷ []) in
    let t = ap (λ ys. sum_by f ys) (ap (λ k. take k xs) (let s : suc n ≡ n + 1 = omega arith in s) ∙ take_more xs n d (omega (arith, l))) ∙ sum_by-append f (take n xs) (get_or xs n d ∷ []) in
    omega (arith, a, t, sum_front f xs d n (omega (arith, l)))

pub sum_places : {X : Type 0} (f : X → ℕ) (xs : List X) (d : X) → sum_by (λ i. f (get_or xs i d)) (below (length xs)) ≡ sum_by f xs
sum_places f xs d = sum_front f xs d (length xs) (omega arith) ∙ ap (λ ys. sum_by f ys) (take_all (length xs) xs (omega arith))

abbrev slots : ℕ → PlainMessage → ℕ
slots h x = x.copies * (h / x.period)

-- the messages of applications need as many slots in h ticks as their copies, times the periods in h
sum_messages : (h : ℕ) (ts : List TaskOfApp) (a : App) (ms : List Message) →
    sum_by (slots h) (map (plain ts (unsigned_abs a.period) (unsigned_abs a.deadline)) ms) ≡ sum_by (λ (u : Message). u.copies * (h / unsigned_abs a.period)) ms
sum_messages h ts a [] = omega arith
sum_messages h ts a (u ∷ ms) =
    let f = plain ts (unsigned_abs a.period) (unsigned_abs a.deadline) in
    omega (arith, sum_by-cons (slots h) (f u) (map f ms), sum_by-cons (λ (u : Message). u.copies * (h / unsigned_abs a.period)) u ms, sum_messages h ts a ms)

sum_apps : (h : ℕ) (ts : List TaskOfApp) (apps : List App) → sum_by (slots h) (plain_messages ts apps) ≡ sum_by (slots_by h) apps
unfolding slots_by
sum_apps h ts [] = refl
sum_apps h ts (a ∷ apps) =
    let here = map (plain ts (unsigned_abs a.period) (unsigned_abs a.deadline)) a.messages in
    omega (arith, sum_by-cons (slots_by h) a apps, sum_by-append (slots h) here (plain_messages ts apps), sum_messages h ts a a.messages, sum_apps h ts apps)

pub instances_by_app : (set : ModeSet) (mode : Mode) → instances (plain_mode set mode) ≡ sum_by (slots_by (hyper (plain_mode set mode))) mode.apps
instances_by_app set mode =
    let m = plain_mode set mode in
    sum_places (copy_count m) m.messages no_message ∙ sum_apps (hyper m) (tasks_of 0 mode.apps) mode.apps

-- ---- as in the file
module _ (nodes : List (List ℕ)) where
  pub task_total : (i t n : ℕ) (apps : List RawApp) → length (tasks_of i (apps_from nodes t n apps)) ≡ length (flat_map (λ (a : RawApp). a.tasks) apps)
  task_total i t n [] = refl
  task_total i t n (a ∷ apps) =
      let app : App = record { name = a.name; period = a.period; deadline = a.deadline; tasks = tasks_from nodes t a.tasks; messages = messages_from t a.tasks n a.messages } in
      let here = map (in_app i app) (tasks_from nodes t a.tasks) in
      let rest = task_total (suc i) (t + length a.tasks) (n + length a.messages) apps in
      omega (
        arith,
        length-append here (tasks_of (suc i) (apps_from nodes (t + length a.tasks) (n + length a.messages) apps)),
        length-append a.tasks (flat_map (λ (x : RawApp). x.tasks) apps),
        length-map (tasks_from nodes t a.tasks) (in_app i app),
        length-tasks nodes t a.tasks,
        rest,
      )

  pub message_total : (ts : List TaskOfApp) (t n : ℕ) (apps : List RawApp) → length (plain_messages ts (apps_from nodes t n apps)) ≡ length (flat_map (λ (a : RawApp). a.messages) apps)
  message_total ts t n [] = refl
  message_total ts t n (a ∷ apps) =
      let here = map (plain ts (unsigned_abs a.period) (unsigned_abs a.deadline)) (messages_from t a.tasks n a.messages) in
      let rest = message_total ts (t + length a.tasks) (n + length a.messages) apps in
      let len : length here ≡ length a.messages = length-map (messages_from t a.tasks n a.messages) (plain ts (unsigned_abs a.period) (unsigned_abs a.deadline)) ∙ length-messages t n a.tasks a.messages in
      omega (arith, length-append here (plain_messages ts (apps_from nodes (t + length a.tasks) (n + length a.messages) apps)), length-append a.messages (flat_map (λ (x : RawApp). x.messages) apps), len, rest)

  copies_total : (each t n : ℕ) (us : List RawTask) (ms : List RawMessage) → sum_by (λ (u : Message). u.copies * each) (messages_from t us n ms) ≡ slots_of each ms
  unfolding slots_of
  copies_total each t n us [] = refl
  copies_total each t n us (u ∷ ms) =
      omega (
        arith,
        sum_by-cons (λ (u : Message). u.copies * each) (message_of t us n u) (messages_from t us (n + 1) ms),
        sum_by-cons (λ (u : RawMessage). unsigned_abs u.copies * each) u ms,
        copies_total each t (n + 1) us ms,
      )

  pub instance_total : (h t n : ℕ) (apps : List RawApp) → sum_by (slots_by h) (apps_from nodes t n apps) ≡ slots_in h apps
  unfolding slots_by
  instance_total h t n [] = refl
  instance_total h t n (a ∷ apps) =
      let app : App = record { name = a.name; period = a.period; deadline = a.deadline; tasks = tasks_from nodes t a.tasks; messages = messages_from t a.tasks n a.messages } in
      let rest = apps_from nodes (t + length a.tasks) (n + length a.messages) apps in
      omega (
        arith,
        copies_total (h / unsigned_abs a.period) t n a.tasks a.messages,
        sum_by-cons (slots_by h) app rest,
        sum_by-cons (λ (a : RawApp). slots_of (h / unsigned_abs a.period) a.messages) a apps,
        instance_total h (t + length a.tasks) (n + length a.messages) apps,
      )
