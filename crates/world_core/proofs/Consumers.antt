-- No task of a set that keeps the rules consumes a message twice
use Rattle.std.proofs.Common.{◌≡◌, ◌≢◌, ℕ, zero, suc, ◌+◌, ◌<◌, ◌≤◌, Bool, true, false, cond, not, List, [], ◌∷◌, ◌++◌, length, get_or, map, filter, Contains, None, refl, sym, ◌∙◌, ap, subst, arith, ⊎_elim, inl, inr, unsigned_abs, length-append}
use Rattle.std.specs.List.{AllByRecursion, flat_map, position_or_len}
use Rattle.std.specs.Str.{bytes_eq}
use Rattle.std.proofs.lemmas.Bool.{both_ways, cases_lt, not-true}
use Rattle.std.proofs.lemmas.List.{get_or_append_left, get_or-append-add, get_or-map, length-map}
use Rattle.std.proofs.lemmas.List.Elements.{All-contains, All-filter, All-from_recursion, Contains-get_or}
use Rattle.app_graph.specs.declared.faults.GraphFault.TheVariants.{OutOfRange, Repeated, TooMany, Unknown}
use Rattle.app_graph.specs.declared.keys.Key.{Key}
use Rattle.app_graph.specs.declared.keys.Key.TheVariants.{KTo}
use Rattle.app_graph.specs.declared.mode_set.Mode.{Mode}
use Rattle.app_graph.specs.declared.mode_set.ModeSet.{ModeSet}
use Rattle.app_graph.specs.declared.raw.RawApp.{RawApp}
use Rattle.app_graph.specs.declared.raw.RawMessage.{RawMessage}
use Rattle.app_graph.specs.declared.raw.RawMode.{RawMode}
use Rattle.app_graph.specs.declared.raw.RawSet.{RawSet}
use Rattle.app_graph.specs.declared.raw.RawTask.{RawTask}
use Rattle.app_graph.specs.Numbering.{apps_from, message_count, modes_from, numbers_of, set_of, task_count, task_place}
use Rattle.app_graph.specs.Rules.{each_after, first_of, unless}
use Rattle.app_graph.specs.Validation.{KeepsRules}
use Rattle.app_graph.specs.ValueRules.{among, app_rules, app_values, at_most, ends, has_some, is_task, listed, message_rules, message_values, mode_rules, mode_values, set_rules, value_rules}
use Rattle.ttw_text.specs.Names.{is_name}
use Rattle.app_graph.proofs.Kept.{all_kept, each_kept, kept_parts, unless_kept}
use Rattle.sched_model.specs.PlainMode.{PlainMode, TaskOfApp, message_at, mode_at, place_of, plain_at, plain_mode, tasks_of}
use Rattle.sched_model.proofs.KeptModes.{among_names, app_kept, comes, known_place, message_kept, place_is}
use Rattle.sched_model.proofs.KeptRules.{KeptEnds, KeptMode, kept_set}
use Rattle.sched_model.proofs.PlainPlaces.{At, at_all, no_raw_message, no_raw_task, nothing, place_at, task_found, task_there}

-- no number stands at two places of the list
abbrev pub Once : List ℕ → Type 0
Once xs = (a b : ℕ) → a < length xs → b < length xs → get_or xs a 0 ≡ get_or xs b 0 → a ≡ b

once_rest : (x : ℕ) (xs : List ℕ) → Once (x ∷ xs) → Once xs
once_rest x xs once a b l k e = omega (arith, once (suc a) (suc b) (omega (arith, l)) (omega (arith, k)) e)

-- within a list it does not matter what stands past its end
alike : (xs : List ℕ) (k c d : ℕ) → k < length xs → get_or xs k c ≡ get_or xs k d
alike [] k c d l = absurd (omega (arith, l))
alike (x ∷ xs) zero c d l = refl
alike (x ∷ xs) (suc k) c d l = alike xs k c d (omega (arith, l))

-- nor of what is left of it
pub once_left : (t : ℕ → Bool) (xs : List ℕ) → Once xs → Once (filter t xs)
once_left t [] once = once
once_left t (x ∷ xs) once = by_test (t x) (once_left t xs (once_rest x xs once))
  where
    gone : (b : ℕ) → b < length (filter t xs) → get_or (filter t xs) b 0 ≡ x → ⊥
    gone b l e =
        let of = All-contains (Contains xs) (filter t xs) x (All-filter t (Contains xs) xs (λ i d l. Contains-get_or xs i d l)) (b, l, alike (filter t xs) b x 0 l ∙ e) in
        omega (arith, once 0 (suc of.0) (omega arith) (omega (arith, of.1)) (sym (alike xs of.0 0 x of.1 ∙ of.2)))

    with_first : Once (filter t xs) → Once (x ∷ filter t xs)
    with_first rest zero zero l k e = refl
    with_first rest zero (suc b) l k e = absurd (gone b (omega (arith, k)) (sym e))
    with_first rest (suc a) zero l k e = absurd (gone a (omega (arith, l)) e)
    with_first rest (suc a) (suc b) l k e = ap suc (rest a b (omega (arith, l)) (omega (arith, k)) e)

    by_test : (b : Bool) → Once (filter t xs) → Once (cond b (x ∷ filter t xs) (filter t xs))
    by_test true rest = with_first rest
    by_test false rest = rest

-- ---- names in a file that breaks no rule

-- no two names of the list are the same
abbrev Apart : List (List ℕ) → Type 0
Apart names = (a b : ℕ) → a < b → b < length names → get_or names a [] ≢ get_or names b []

contains_left : (xs ys : List (List ℕ)) (x : List ℕ) → Contains xs x → Contains (xs ++ ys) x
contains_left xs ys x (k, l, e) = (k, omega (arith, l, length-append xs ys), get_or_append_left xs ys x k l ∙ e)

contains_last : (xs : List (List ℕ)) (x : List ℕ) → Contains (xs ++ x ∷ []) x
contains_last xs x = (length xs + 0, omega (arith, length-append xs (x ∷ [])), get_or-append-add xs (x ∷ []) 0 x)

module _ (key : Key) (known : List ℕ → Bool) where
  -- a name is none of the earlier ones
  new_name : (earlier : List (List ℕ)) (name : List ℕ) → listed key known earlier name ≡ None → among name earlier ≡ false
  new_name earlier name e = not-true (among name earlier) (unless_kept (not (among name earlier)) (Repeated name) (kept_parts (unless (not (among name earlier)) (Repeated name)) (unless (known name) (Unknown name) ∷ []) (kept_parts (unless (is_name name) (OutOfRange key)) (unless (not (among name earlier)) (Repeated name) ∷ unless (known name) (Unknown name) ∷ []) e).1).0)

  fresh : (earlier names : List (List ℕ)) → each_after (listed key known) earlier names ≡ None → (b : ℕ) → b < length names → (z : List ℕ) → Contains earlier z → z ≢ get_or names b []
  fresh earlier [] e b l z c same = absurd (omega (arith, l))
  fresh earlier (n ∷ names) e zero l z c same =
      let k = kept_parts (listed key known earlier n) (each_after (listed key known) (earlier ++ n ∷ []) names ∷ []) e in
      both_ways (among n earlier) (new_name earlier n k.0) (among_names z earlier n c (sym same))
  fresh earlier (n ∷ names) e (suc b) l z c same =
      let k = kept_parts (listed key known earlier n) (each_after (listed key known) (earlier ++ n ∷ []) names ∷ []) e in
      fresh (earlier ++ n ∷ []) names (kept_parts (each_after (listed key known) (earlier ++ n ∷ []) names) [] k.1).0 b (omega (arith, l)) z (contains_left earlier (n ∷ []) z c) same

  apart : (earlier names : List (List ℕ)) → each_after (listed key known) earlier names ≡ None → Apart names
  apart earlier [] e a b m l same = absurd (omega (arith, l))
  apart earlier (n ∷ names) e a zero m l same = absurd (omega (arith, m))
  apart earlier (n ∷ names) e zero (suc b) m l same =
      let k = kept_parts (listed key known earlier n) (each_after (listed key known) (earlier ++ n ∷ []) names ∷ []) e in
      fresh (earlier ++ n ∷ []) names (kept_parts (each_after (listed key known) (earlier ++ n ∷ []) names) [] k.1).0 b (omega (arith, l)) n (contains_last earlier n) same
  apart earlier (n ∷ names) e (suc a) (suc b) m l same =
      let k = kept_parts (listed key known earlier n) (each_after (listed key known) (earlier ++ n ∷ []) names ∷ []) e in
      apart (earlier ++ n ∷ []) names (kept_parts (each_after (listed key known) (earlier ++ n ∷ []) names) [] k.1).0 a b (omega (arith, m)) (omega (arith, l)) same

-- the consumers of each message of an application
abbrev Consumers : RawApp → Type 0
Consumers app = AllByRecursion (λ m. Apart m.to) app.messages

abbrev AllConsumers : RawMode → Type 0
AllConsumers mode = AllByRecursion Consumers mode.apps

kept_consumers : (raw : RawSet) → value_rules raw ≡ None → AllByRecursion AllConsumers raw.modes
kept_consumers raw e = each_kept (mode_values raw) AllConsumers of_mode [] raw.modes (all_kept (set_rules raw) e).1.1.1.1.0
  where
    of_message : (app : RawApp) (earlier : List RawMessage) (m : RawMessage) → message_values app earlier m ≡ None → Apart m.to
    of_message app earlier m e =
        let to : ends KTo 16 app m.to ≡ None = (all_kept (message_rules app earlier m) e).1.1.0 in
        apart KTo (is_task app.tasks) [] m.to (all_kept (unless (has_some m.to) (OutOfRange KTo) ∷ unless (at_most 16 m.to) (TooMany KTo) ∷ each_after (listed KTo (is_task app.tasks)) [] m.to ∷ []) to).1.1.0

    of_app : (earlier : List RawApp) (app : RawApp) → app_values raw earlier app ≡ None → Consumers app
    of_app earlier app e = each_kept (message_values app) (λ m. Apart m.to) (of_message app) (flat_map (λ a. a.messages) earlier) app.messages (all_kept (app_rules raw earlier app) e).1.1.0

    of_mode : (earlier : List RawMode) (mode : RawMode) → mode_values raw earlier mode ≡ None → AllConsumers mode
    of_mode earlier mode e = each_kept (app_values raw) Consumers of_app [] mode.apps (all_kept (mode_rules raw earlier mode) e).1.1.0

-- ---- one mode, whose tasks have the numbers t, t + 1, .. and whose messages have n, n + 1, ..
module _ (raw : RawSet) (set : ModeSet) (nodes : List (List ℕ)) (mode : RawMode) (t n : ℕ) (round : 1 ≤ unsigned_abs set.round) (kept : KeptMode raw mode) where
  abbrev m : PlainMode
  m = plain_mode set (record { name = mode.name; apps = apps_from nodes t n mode.apps })

  abbrev ts : List TaskOfApp
  ts = tasks_of 0 (apps_from nodes t n mode.apps)

  numbered : (x : ℕ) → x < length ts → (get_or ts x nothing).task.number ≡ t + x
  numbered x l =
      let f = task_found nodes 0 t n mode.apps x l in
      let is = (task_there nodes 0 t n mode.apps f.0 f.2 f.3 f.1 f.4).1 in
      ap (λ y. (get_or ts y nothing).task.number) f.5 ∙ is.number ∙ (let s : t + (f.0 + f.1) ≡ t + x = omega (arith, f.5) in s)

  -- the place of a known name is that of its task
  named_place : (k : ℕ) (A : RawApp) → At mode.apps k A → (name : List ℕ) → is_task A.tasks name ≡ true → place_of ts (t + k + task_place A.tasks name) ≡ k + position_or_len (λ (u : RawTask). bytes_eq name u.name) A.tasks
  named_place k A at name known =
      let j = position_or_len (λ (u : RawTask). bytes_eq name u.name) A.tasks in
      let w = task_there nodes 0 t n mode.apps k A at j (known_place name A.tasks known).0 in
      ap (λ i. place_of ts (t + k + i)) (place_is name A.tasks known) ∙ ap (place_of ts) (let s : t + k + j ≡ t + (k + j) = omega arith in s) ∙ place_at ts t numbered (k + j) w.0

  -- so known names that are apart have places that are
  places_once : (k : ℕ) (A : RawApp) → At mode.apps k A → (names : List (List ℕ)) → KeptEnds 16 A names → Apart names → Once (map (place_of ts) (numbers_of (t + k) A.tasks names))
  places_once k A at names ends differ a b l h e =
      let number = λ (name : List ℕ). t + k + task_place A.tasks name in
      let many : length (map (place_of ts) (numbers_of (t + k) A.tasks names)) ≡ length names = length-map (numbers_of (t + k) A.tasks names) (place_of ts) ∙ length-map names number in
      let la : a < length names = omega (arith, l, many) in
      let lb : b < length names = omega (arith, h, many) in
      ⊎_elim
      (λ (less : a < b). absurd (differ a b less lb (name_is a la ∙ ap (λ j. (get_or A.tasks j no_raw_task).name) (same_task la lb) ∙ sym (name_is b lb))))
      (λ (not_less : b ≤ a). ⊎_elim
      (λ (more : b < a). absurd (differ b a more la (name_is b lb ∙ ap (λ j. (get_or A.tasks j no_raw_task).name) (sym (same_task la lb)) ∙ sym (name_is a la))))
      (λ (not_more : a ≤ b). let same : a ≡ b = omega (arith, not_less, not_more) in same)
      (cases_lt b a))
      (cases_lt a b)
    where
      known : (c : ℕ) → c < length names → is_task A.tasks (get_or names c []) ≡ true
      known c l = All-from_recursion (λ name. is_task A.tasks name ≡ true) names ends.known c [] l

      name_is : (c : ℕ) → c < length names → get_or names c [] ≡ (get_or A.tasks (position_or_len (λ (u : RawTask). bytes_eq (get_or names c []) u.name) A.tasks) no_raw_task).name
      name_is c l = sym (known_place (get_or names c []) A.tasks (known c l)).1

      place_here : (c : ℕ) → c < length names → get_or (map (place_of ts) (numbers_of (t + k) A.tasks names)) c 0 ≡ k + position_or_len (λ (u : RawTask). bytes_eq (get_or names c []) u.name) A.tasks
      place_here c l =
          let number = λ (name : List ℕ). t + k + task_place A.tasks name in
          get_or-map (place_of ts) (numbers_of (t + k) A.tasks names) c 0 0 (omega (arith, l, length-map names number))
          ∙ ap (place_of ts) (get_or-map number names c [] 0 l)
          ∙ named_place k A at (get_or names c []) (known c l)

      same_task : (la : a < length names) → (lb : b < length names) → position_or_len (λ (u : RawTask). bytes_eq (get_or names a []) u.name) A.tasks ≡ position_or_len (λ (u : RawTask). bytes_eq (get_or names b []) u.name) A.tasks
      same_task la lb = omega (arith, place_here a la, place_here b lb, e)

  consumers_once : AllConsumers mode → (i : ℕ) → i < length m.messages → Once (message_at m i).to
  consumers_once all i l =
      let c = comes raw set nodes mode t n round kept i l in
      let u = get_or c.A.messages c.j no_raw_message in
      let ends = (message_kept raw set nodes mode t n round kept c.A c.j (app_kept raw set nodes mode t n round kept c.k c.A c.at) c.within).1 in
      let differ = All-from_recursion (λ (m : RawMessage). Apart m.to) c.A.messages (at_all Consumers mode.apps all c.k c.A c.at) c.j no_raw_message c.within in
      subst Once (sym c.is.to) (places_once c.k c.A c.at u.to ends differ)

-- ---- all modes

found_mode : (P : RawMode → Type 0) (nodes : List (List ℕ)) (t n : ℕ) (raws : List RawMode) → AllByRecursion P raws → (mode : Mode) → Contains (modes_from nodes t n raws) mode →
    (raw : RawMode) × P raw × (k l : ℕ) × (record { name = raw.name; apps = apps_from nodes k l raw.apps } ≡ mode)
found_mode P nodes t n [] all mode (k, l, e) = absurd (omega (arith, l))
found_mode P nodes t n (raw ∷ raws) all mode (zero, l, e) = (raw, all.0, t, n, e)
found_mode P nodes t n (raw ∷ raws) all mode (suc k, l, e) = found_mode P nodes (t + task_count raw) (n + message_count raw) raws all.1 mode (k, omega (arith, l), e)

both_all : {X : Type 0} (P Q : X → Type 0) (xs : List X) → AllByRecursion P xs → AllByRecursion Q xs → AllByRecursion (λ x. P x × Q x) xs
both_all P Q [] p q = tt
both_all P Q (x ∷ xs) p q = ((p.0, q.0), both_all P Q xs p.1 q.1)

-- the consumers of each message of the mode
abbrev EachOnce : PlainMode → Type 0
EachOnce m = (i : ℕ) → i < length m.messages → Once (message_at m i).to

read_once : (raw : RawSet) → value_rules raw ≡ None → (mode : Mode) → Contains (set_of raw).modes mode → EachOnce (plain_mode (set_of raw) mode)
read_once raw e mode c =
    let all = kept_set raw e in
    let f = found_mode (λ x. KeptMode raw x × AllConsumers x) raw.nodes 0 0 raw.modes (both_all (KeptMode raw) AllConsumers raw.modes all.modes (kept_consumers raw e)) mode c in
    subst (λ (x : Mode). EachOnce (plain_mode (set_of raw) x)) f.4 (consumers_once raw (set_of raw) raw.nodes f.0 f.2 f.3 all.round.0 f.1.0 f.1.1)

pub each_once : (set : ModeSet) → KeepsRules set → (i : ℕ) → i < length set.modes → (j : ℕ) → j < length (plain_at set i).messages → Once (message_at (plain_at set i) j).to
each_once set (raw, e, same) i l =
    subst (λ (s : ModeSet). EachOnce (plain_at s i)) (sym same)
    (read_once raw e (mode_at (set_of raw) i) (Contains-get_or (set_of raw).modes i (record { name = []; apps = [] }) (subst (λ (s : ModeSet). i < length s.modes) same l)))
