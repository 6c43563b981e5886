-- In a mode of a set that keeps the rules, the name of a message is that of its number, and leads back to it.
use Rattle.std.proofs.Common.{◌≡◌, pos, length-take, eq-eqb, append_assoc, ℕ, zero, suc, ◌+◌, ◌<◌, Bool, true, false, not, eqb, ltb, List, [], ◌∷◌, ◌++◌, length, get_or, take, map, Contains, None, refl, sym, ap, subst, ◌∙◌, arith}
use Rattle.std.specs.Prelude.{⊤, Option, Some, unwrap_or, position, unsigned_abs}
use Rattle.std.specs.List.{AllByRecursion, flat_map, position_or_len}
use Rattle.std.specs.Str.{bytes_eq}
use Rattle.std.proofs.lemmas.Bool.{cond-true, not-true, eqb-true, lt-ltb}
use Rattle.std.proofs.lemmas.List.{length-map, get_or-map, get_or-take, map-append, append-nil}
use Rattle.std.proofs.lemmas.List.Folds.{list_any_at}
use Rattle.std.proofs.lemmas.List.Sums.{position_or_len_is}
use Rattle.std.proofs.lemmas.Slice.Eq.{bytes_eq-Decides}
use Rattle.std.proofs.lemmas.Grind.{flat_map-append}
use Rattle.app_graph.specs.declared.faults.GraphFault.TheVariants.{OutOfRange, Repeated}
use Rattle.app_graph.specs.declared.keys.Key.TheVariants.{KName}
use Rattle.app_graph.specs.declared.raw.RawTask.{RawTask}
use Rattle.app_graph.specs.declared.raw.RawMessage.{RawMessage}
use Rattle.app_graph.specs.declared.raw.RawApp.{RawApp}
use Rattle.app_graph.specs.declared.raw.RawMode.{RawMode}
use Rattle.app_graph.specs.declared.raw.RawSet.{RawSet}
use Rattle.app_graph.specs.declared.mode_set.ModeSet.{ModeSet}
use Rattle.app_graph.specs.declared.mode_set.Mode.{Mode}
use Rattle.app_graph.specs.declared.mode_set.App.{App}
use Rattle.app_graph.specs.declared.mode_set.Message.{Message}
use Rattle.app_graph.specs.Rules.{unless, each_after}
use Rattle.ttw_text.specs.Names.{is_name}
use Rattle.app_graph.specs.ValueRules.{is_message as is_raw_message, message_values, message_rules, app_values, app_rules, mode_values, mode_rules, set_rules}
use Rattle.app_graph.specs.Numbering.{messages_from, apps_from, modes_from, task_count, message_count}
use Rattle.app_graph.specs.Validation.{KeepsRules}
use Rattle.app_graph.proofs.Kept.{kept_parts, all_kept, unless_kept}
use Rattle.sched_model.specs.PlainMode.{PlainMessage, TaskOfApp, message_at, no_message, tasks_of, place_of, plain_messages}
use Rattle.sched_model.specs.RightSchedule.{IsMessage}
use Rattle.proof_tree.specs.Names.{messages_in, name_of}
use Rattle.proof_tree.specs.Accepting.{DocMode, doc_mode, is_message, number_of}

-- ---- names that are new in a mode

abbrev raw_name : RawMessage → List ℕ
raw_name m = m.name

-- each name is none of the earlier ones
abbrev New : List RawMessage → List RawMessage → Type 0
New before [] = ⊤
New before (m ∷ ms) = (is_raw_message before m.name ≡ false) × New (before ++ m ∷ []) ms

new_message : (app : RawApp) (before : List RawMessage) (m : RawMessage) → message_values app before m ≡ None → is_raw_message before m.name ≡ false
new_message app before m e =
    let name = kept_parts (unless (is_name m.name) (OutOfRange KName)) (unless (not (is_raw_message before m.name)) (Repeated m.name) ∷ []) (all_kept (message_rules app before m) e).0 in
    not-true (is_raw_message before m.name) (unless_kept (not (is_raw_message before m.name)) (Repeated m.name) (kept_parts (unless (not (is_raw_message before m.name)) (Repeated m.name)) [] name.1).0)

new_messages : (app : RawApp) (before ms : List RawMessage) → each_after (message_values app) before ms ≡ None → New before ms
new_messages app before [] e = tt
new_messages app before (m ∷ ms) e =
    let rest = each_after (message_values app) (before ++ m ∷ []) ms in
    let k = kept_parts (message_values app before m) (rest ∷ []) e in
    (new_message app before m k.0, new_messages app (before ++ m ∷ []) ms (kept_parts rest [] k.1).0)

new_append : (before xs ys : List RawMessage) → New before xs → New (before ++ xs) ys → New before (xs ++ ys)
new_append before [] ys a b = subst (λ (l : List RawMessage). New l ys) (append-nil before) b
new_append before (x ∷ xs) ys a b = (a.0, new_append (before ++ x ∷ []) xs ys a.1 (subst (λ (l : List RawMessage). New l ys) (sym (append_assoc before (x ∷ []) xs)) b))

new_apps : (set : RawSet) (earlier apps : List RawApp) → each_after (app_values set) earlier apps ≡ None → New (flat_map (λ (a : RawApp). a.messages) earlier) (flat_map (λ (a : RawApp). a.messages) apps)
new_apps set earlier [] e = tt
new_apps set earlier (a ∷ apps) e =
    let part : RawApp → List RawMessage = λ a. a.messages in
    let rest = each_after (app_values set) (earlier ++ a ∷ []) apps in
    let k = kept_parts (app_values set earlier a) (rest ∷ []) e in
    let here = new_messages a (flat_map part earlier) a.messages (all_kept (app_rules set earlier a) k.0).1.1.0 in
    let join : flat_map part (earlier ++ a ∷ []) ≡ flat_map part earlier ++ a.messages = flat_map-append part earlier (a ∷ []) ∙ ap (λ ys. flat_map part earlier ++ ys) (append-nil (part a)) in
    new_append (flat_map part earlier) a.messages (flat_map part apps) here (subst (λ (l : List RawMessage). New l (flat_map part apps)) join (new_apps set (earlier ++ a ∷ []) apps (kept_parts rest [] k.1).0))

-- no two of the names are equal
abbrev pub Apart : List (List ℕ) → Type 0
Apart names = (i j : ℕ) → i < j → j < length names → get_or names i [] ≡ get_or names j [] → ⊥

new_among : (before ms : List RawMessage) → New before ms → (j : ℕ) → j < length ms → (d : RawMessage) → is_raw_message (before ++ take j ms) (get_or ms j d).name ≡ false
new_among before [] new j l d = absurd (omega (arith, l))
new_among before (m ∷ ms) new zero l d = subst (λ (x : List RawMessage). is_raw_message x m.name ≡ false) (sym (append-nil before)) new.0
new_among before (m ∷ ms) new (suc j) l d =
    subst (λ (x : List RawMessage). is_raw_message x (get_or ms j d).name ≡ false) (append_assoc before (m ∷ []) (take j ms)) (new_among (before ++ m ∷ []) ms new.1 j (omega (arith, l)) d)

no_true : (b : Bool) → b ≡ false → b ≡ true → ⊥
no_true b e f = absurd cc

new_apart : (ms : List RawMessage) → New [] ms → Apart (map raw_name ms)
new_apart ms new i j less l same =
    let d : RawMessage = record { name = []; from = []; to = []; copies = pos 0 } in
    let within : j < length ms = omega (arith, l, length-map ms raw_name) in
    let low : i < length ms = omega (arith, less, within) in
    let x = get_or ms j d in
    let y = get_or ms i d in
    let names : x.name ≡ y.name = sym (get_or-map raw_name ms j d [] within) ∙ sym same ∙ get_or-map raw_name ms i d [] low in
    let taken : get_or (take j ms) i d ≡ y = get_or-take j ms i d less in
    let found : bytes_eq x.name (get_or (take j ms) i d).name ≡ true = (bytes_eq-Decides x.name (get_or (take j ms) i d).name).1 (names ∙ ap raw_name (sym taken)) in
    no_true (is_raw_message (take j ms) x.name) (new_among [] ms new j within d) (list_any_at (λ (u : RawMessage). bytes_eq x.name u.name) (take j ms) i d (omega (arith, less, within, length-take j ms)) found)

-- ---- the modes of the set have the names of the file

abbrev pub name : Message → List ℕ
name message = message.name

names_from : (t n : ℕ) (us : List RawTask) (ms : List RawMessage) → map name (messages_from t us n ms) ≡ map raw_name ms
names_from t n us [] = refl
names_from t n us (m ∷ ms) = ap (λ (l : List (List ℕ)). m.name ∷ l) (names_from t (n + 1) us ms)

names_in : (nodes : List (List ℕ)) (t n : ℕ) (apps : List RawApp) → map name (messages_in (apps_from nodes t n apps)) ≡ map raw_name (flat_map (λ (a : RawApp). a.messages) apps)
names_in nodes t n [] = refl
names_in nodes t n (a ∷ apps) =
    let others = messages_in (apps_from nodes (t + length a.tasks) (n + length a.messages) apps) in
    let raws = flat_map (λ (a : RawApp). a.messages) apps in
    map-append name (messages_from t a.tasks n a.messages) others
    ∙ ap (λ (l : List (List ℕ)). l ++ map name others) (names_from t n a.tasks a.messages)
    ∙ ap (λ (l : List (List ℕ)). map raw_name a.messages ++ l) (names_in nodes (t + length a.tasks) (n + length a.messages) apps)
    ∙ sym (map-append raw_name a.messages raws)

modes_apart : (set : RawSet) (nodes : List (List ℕ)) (t n : ℕ) (earlier raws : List RawMode) → each_after (mode_values set) earlier raws ≡ None → AllByRecursion (λ mode. Apart (map name (messages_in mode.apps))) (modes_from nodes t n raws)
modes_apart set nodes t n earlier [] e = tt
modes_apart set nodes t n earlier (raw ∷ raws) e =
    let rest = each_after (mode_values set) (earlier ++ raw ∷ []) raws in
    let k = kept_parts (mode_values set earlier raw) (rest ∷ []) e in
    let new = new_apps set [] raw.apps (all_kept (mode_rules set earlier raw) k.0).1.1.0 in
    (subst Apart (sym (names_in nodes t n raw.apps)) (new_apart (flat_map (λ (a : RawApp). a.messages) raw.apps) new), modes_apart set nodes (t + task_count raw) (n + message_count raw) (earlier ++ raw ∷ []) raws (kept_parts rest [] k.1).0)

pub names_apart : (set : ModeSet) → KeepsRules set → AllByRecursion (λ mode. Apart (map name (messages_in mode.apps))) set.modes
names_apart set (raw, e, same) =
    subst (λ (x : ModeSet). AllByRecursion (λ mode. Apart (map name (messages_in mode.apps))) x.modes) (sym same)
    (modes_apart raw raw.nodes 0 0 [] raw.modes (all_kept (set_rules raw) e).1.1.1.1.0)

-- ---- numbers and names

abbrev pub number : Message → ℕ
number message = message.number

abbrev pub plain_number : PlainMessage → ℕ
plain_number message = message.number

plain_from : (ts : List TaskOfApp) (a : App) (ms : List Message) → map plain_number (map (λ msg. record { number = msg.number; period = unsigned_abs a.period; deadline = unsigned_abs a.deadline; copies = msg.copies; from = map (place_of ts) msg.from; to = map (place_of ts) msg.to }) ms) ≡ map number ms
plain_from ts a [] = refl
plain_from ts a (m ∷ ms) = ap (λ (l : List ℕ). m.number ∷ l) (plain_from ts a ms)

pub plain_numbers : (ts : List TaskOfApp) (apps : List App) → map plain_number (plain_messages ts apps) ≡ map number (messages_in apps)
plain_numbers ts [] = refl
plain_numbers ts (a ∷ apps) =
    let plain : Message → PlainMessage = λ msg. record { number = msg.number; period = unsigned_abs a.period; deadline = unsigned_abs a.deadline; copies = msg.copies; from = map (place_of ts) msg.from; to = map (place_of ts) msg.to } in
    map-append plain_number (map plain a.messages) (plain_messages ts apps)
    ∙ ap (λ (l : List ℕ). l ++ map plain_number (plain_messages ts apps)) (plain_from ts a a.messages)
    ∙ ap (λ (l : List ℕ). map number a.messages ++ l) (plain_numbers ts apps)
    ∙ sym (map-append number a.messages (messages_in apps))

-- where the message of a number stands
abbrev pub Found : List Message → ℕ → Type 0
Found ms n = (i : ℕ) × (i < length ms) × (get_or (map number ms) i 0 ≡ n) × (name_of ms n ≡ get_or (map name ms) i [])

later : (m : Message) (ms : List Message) (n : ℕ) → eqb m.number n ≡ false → Contains (map number (m ∷ ms)) n → Contains (map number ms) n
later m ms n e (zero, l, f) = absurd (no_true (eqb m.number n) e (eq-eqb m.number n f))
later m ms n e (suc k, l, f) = (k, omega (arith, l), f)

pub found : (ms : List Message) (n : ℕ) → Contains (map number ms) n → Found ms n
found [] n (k, l, e) = absurd (omega (arith, l))
found (m ∷ ms) n c = here (eqb m.number n) refl (λ d. found ms n d)
  where
    here : (b : Bool) → eqb m.number n ≡ b → (Contains (map number ms) n → Found ms n) → Found (m ∷ ms) n
    here true e more = (0, omega arith, eqb-true m.number n e, rw e refl)
    here false e more = let r = more (later m ms n e c) in (suc r.0, omega (arith, r.1), r.2, rw e r.3)

place_is : (names : List (List ℕ)) (i : ℕ) → Apart names → i < length names → unwrap_or (position (bytes_eq (get_or names i [])) names) 0 ≡ i
place_is names i apart l =
    let test = bytes_eq (get_or names i []) in
    let first : position_or_len test names ≡ i =
    position_or_len_is test names i [] (omega (arith, l)) (λ k less. other k less (test (get_or names k [])) refl) (λ x. (bytes_eq-Decides (get_or names i []) (get_or names i [])).1 refl) in
    ap (λ (o : Option ℕ). unwrap_or o 0) (cond-true (ltb (position_or_len test names) (length names)) (Some (position_or_len test names)) None (lt-ltb _ _ (omega (arith, first, l)))) ∙ first
  where
    other : (k : ℕ) → k < i → (b : Bool) → bytes_eq (get_or names i []) (get_or names k []) ≡ b → bytes_eq (get_or names i []) (get_or names k []) ≡ false
    other k less true e = absurd (apart k i less l (sym ((bytes_eq-Decides (get_or names i []) (get_or names k [])).0 e)))
    other k less false e = e

-- a number of a message is told by a name, which is that of a message and has this number
abbrev pub IsTold : DocMode → List Message → Type 0
IsTold d ms = (n : ℕ) → IsMessage d.mode n → (is_message d (name_of ms n) ≡ true) × (number_of d (name_of ms n) ≡ n)

pub numbers_told : (set : ModeSet) (mode : Mode) → Apart (map name (messages_in mode.apps)) → IsTold (doc_mode set mode) (messages_in mode.apps)
numbers_told set mode apart n c =
    let ms = messages_in mode.apps in
    let d = doc_mode set mode in
    let numbers = plain_numbers (tasks_of 0 mode.apps) mode.apps in
    let f = found ms n (subst (λ (l : List ℕ). Contains l n) numbers c) in
    let l : f.0 < length (map name ms) = omega (arith, f.1, length-map ms name) in
    let plain : f.0 < length d.mode.messages = omega (arith, f.1, length-map d.mode.messages plain_number, length-map ms number, ap length numbers) in
    let at : unwrap_or (position (bytes_eq (name_of ms n)) (map name ms)) 0 ≡ f.0 = ap (λ (x : List ℕ). unwrap_or (position (bytes_eq x) (map name ms)) 0) f.3 ∙ place_is (map name ms) f.0 apart l in (
      list_any_at (bytes_eq (name_of ms n)) (map name ms) f.0 [] l ((bytes_eq-Decides (name_of ms n) (get_or (map name ms) f.0 [])).1 f.3),
      ap (λ i. (message_at d.mode i).number) at ∙ sym (get_or-map plain_number d.mode.messages f.0 no_message 0 plain) ∙ ap (λ (x : List ℕ). get_or x f.0 0) numbers ∙ f.2,
    )
