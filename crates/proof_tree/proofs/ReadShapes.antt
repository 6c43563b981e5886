-- A schedule that was read has the shape of its mode, also where a later line is refused.
use Rattle.std.proofs.Common.{◌≡◌, length-append, ℕ, suc, ◌+◌, ◌<◌, ◌≤◌, true, List, [], ◌∷◌, length, get_or, map, All, pos, Option, Some, None, Ok, Err, refl, sym, ap, subst, ◌∙◌, arith}
use Rattle.std.specs.Prelude.{⊤, unwrap_or, position, unsigned_abs}
use Rattle.std.specs.List.{AllByRecursion, list_all, list_any, enumerate_from}
use Rattle.std.specs.Str.{bytes_eq}
use Rattle.std.proofs.lemmas.Bool.{and_parts}
use Rattle.std.proofs.lemmas.List.{length-map, get_or-map}
use Rattle.std.proofs.lemmas.List.Elements.{All-from_recursion, Contains-get_or}
use Rattle.std.proofs.lemmas.List.Quantifiers.{position-Some}
use Rattle.app_graph.specs.declared.mode_set.ModeSet.{ModeSet}
use Rattle.app_graph.specs.declared.mode_set.Mode.{Mode}
use Rattle.app_graph.specs.declared.mode_set.App.{App}
use Rattle.app_graph.specs.declared.mode_set.Task.{Task}
use Rattle.app_graph.specs.declared.mode_set.Message.{Message}
use Rattle.app_graph.specs.Validation.{KeepsRules}
use Rattle.sched_model.specs.Numbers.{below}
use Rattle.sched_model.specs.PlainMode.{PlainMode, PlainMessage, TaskOfApp, message_at, no_message, tasks_of, place_of, plain_task, plain_messages, plain_mode}
use Rattle.sched_model.specs.RightSchedule.{IsMessage, HasShape}
use Rattle.sched_model.specs.ValidMode.{IsValid}
use Rattle.sched_model.specs.declared.schedule.Schedule.{Schedule}
use Rattle.sched_model.proofs.KeptSets.{modes_valid}
use Rattle.sched_model.proofs.Lists.{length-below}
use Rattle.proof_tree.specs.Names.{tasks_in, messages_in}
use Rattle.proof_tree.specs.TreeLines.{Items}
use Rattle.proof_tree.specs.Accepting.{DocMode, doc_mode, doc_modes, number_of, is_message, EachIs, OneTask, OneMessage, OneTable, Told, schedule_of, Tells, IsMode}
use Rattle.proof_tree.specs.Reading.{Place, Read, mode, fixed, is_head, with_mode, read_modes, behind_head, read_document}
use Rattle.proof_tree.proofs.TreeReading.{place}
use Rattle.proof_tree.proofs.DocumentReading.{mode_is}

-- a valid mode whose tasks and messages have a name each
pub record IsNamed (d : DocMode) : Type 0 where
  pub valid : IsValid d.mode
  pub tasks : length d.tasks ≡ length d.mode.tasks
  pub messages : length d.messages ≡ length d.mode.messages

-- ---- the modes of a set

count_tasks : (n : ℕ) (apps : List App) → length (tasks_in apps) ≡ length (tasks_of n apps)
count_tasks n [] = refl
count_tasks n (a ∷ apps) =
    let here : Task → TaskOfApp = λ t. record { place = n; app = a; task = t } in
    omega (arith, length-append a.tasks (tasks_in apps), length-append (map here a.tasks) (tasks_of (suc n) apps), length-map a.tasks here, count_tasks (suc n) apps)

count_messages : (ts : List TaskOfApp) (apps : List App) → length (messages_in apps) ≡ length (plain_messages ts apps)
count_messages ts [] = refl
count_messages ts (a ∷ apps) =
    let plain : Message → PlainMessage = λ msg. record { number = msg.number; period = unsigned_abs a.period; deadline = unsigned_abs a.deadline; copies = msg.copies; from = map (place_of ts) msg.from; to = map (place_of ts) msg.to } in
    omega (arith, length-append a.messages (messages_in apps), length-append (map plain a.messages) (plain_messages ts apps), length-map a.messages plain, count_messages ts apps)

named : (set : ModeSet) (mode : Mode) → IsValid (plain_mode set mode) → IsNamed (doc_mode set mode)
named set mode ok = record {
  valid = ok;
  tasks = length-map (tasks_in mode.apps) (λ task. task.name) ∙ count_tasks 0 mode.apps ∙ sym (length-map (tasks_of 0 mode.apps) plain_task);
  messages = length-map (messages_in mode.apps) (λ message. message.name) ∙ count_messages (tasks_of 0 mode.apps) mode.apps;
}

all_named : (set : ModeSet) (modes : List Mode) → ((i : ℕ) → i < length modes → (d : Mode) → IsValid (plain_mode set (get_or modes i d))) → AllByRecursion IsNamed (map (doc_mode set) modes)
all_named set [] ok = tt
all_named set (mode ∷ modes) ok = (named set mode (ok 0 (omega arith) mode), all_named set modes (λ i l d. ok (suc i) (omega (arith, l)) d))

pub modes_named : (set : ModeSet) → KeepsRules set → AllByRecursion IsNamed (doc_modes set)
modes_named set keeps = all_named set set.modes (λ i l d. modes_valid set keeps (get_or set.modes i d) (Contains-get_or set.modes i d l))

-- ---- schedules

pub as_many : {A B : Type 0} (V : A → B → Items → Items → Type 0) (as' : List A) (bs : List B) (ls rest : Items) → EachIs V as' bs ls rest → length bs ≡ length as'
as_many V [] [] ls rest e = refl
as_many V [] (b ∷ bs) ls rest e = absurd e
as_many V (a ∷ as') [] ls rest e = absurd e
as_many V (a ∷ as') (b ∷ bs) ls rest e = ap suc (as_many V as' bs e.0 rest e.2)

known_place : (name : List ℕ) (names : List (List ℕ)) → list_any (bytes_eq name) names ≡ true → unwrap_or (position (bytes_eq name) names) 0 < length names
known_place name [] known = absurd cc
known_place name (n ∷ names) known = within (position (bytes_eq name) (n ∷ names)) refl
  where
    within : (o : Option ℕ) → position (bytes_eq name) (n ∷ names) ≡ o → unwrap_or o 0 < length (n ∷ names)
    within None e = omega arith
    within (Some i) e = (position-Some (bytes_eq name) (n ∷ names) i n e).0

number_stands : (m : PlainMode) (i : ℕ) → i < length m.messages → IsMessage m (message_at m i).number
number_stands m i l =
    let number : PlainMessage → ℕ = λ msg. msg.number in
    (i, omega (arith, l, length-map m.messages number), get_or-map number m.messages i no_message (message_at m i).number l)

names_known : (d : DocMode) → IsNamed d → (names : List (List ℕ)) → list_all (is_message d) names ≡ true → AllByRecursion (IsMessage d.mode) (map (number_of d) names)
names_known d is [] known = tt
names_known d is (n ∷ names) known =
    let both = and_parts (is_message d n) (list_all (is_message d) names) known in
    (number_stands d.mode (unwrap_or (position (bytes_eq n) d.messages) 0) (omega (arith, known_place n d.messages both.0, is.messages)), names_known d is names both.1)

tables_known : (d : DocMode) → IsNamed d → (js : List ℕ) (tables : List (List ℕ)) (ls rest : Items) → EachIs (OneTable d) js tables ls rest → AllByRecursion (λ table. All (IsMessage d.mode) table) tables
tables_known d is [] [] ls rest e = tt
tables_known d is [] (t ∷ ts) ls rest e = absurd e
tables_known d is (j ∷ js) [] ls rest e = absurd e
tables_known d is (j ∷ js) (t ∷ ts) ls rest e =
    let numbers = map (number_of d) e.1.0 in
    (subst (λ (table : List ℕ). All (IsMessage d.mode) table) (sym e.1.2) (All-from_recursion (IsMessage d.mode) numbers (names_known d is e.1.0 e.1.1)), tables_known d is js ts e.0 rest e.2)

told_shape : (d : DocMode) (r : ℕ) (t : Told) (ls rest : Items) → IsNamed d → 1 ≤ r → Tells d r t ls rest → HasShape d.mode (length (schedule_of t).starts) (schedule_of t)
told_shape d r t ls rest is some tells =
    let starts : length (map pos t.starts) ≡ r = length-map t.starts pos ∙ tells.counted in
    let tables : length t.tables ≡ r = as_many (OneTable d) (below r) t.tables tells.third rest tells.tables ∙ length-below r in
    record {
      some = omega (arith, some, starts);
      starts = refl;
      tables = tables ∙ sym starts;
      tasks = length-map t.tasks pos ∙ as_many OneTask d.tasks t.tasks tells.first tells.second tells.tasks ∙ is.tasks;
      messages = length-map t.messages (λ w. (pos w.0, pos w.1)) ∙ as_many OneMessage d.messages t.messages tells.second tells.third tells.messages ∙ is.messages;
      numbers = All-from_recursion (λ table. All (IsMessage d.mode) table) t.tables (tables_known d is (below r) t.tables tells.third rest tells.tables);
    }

-- ---- documents

-- the schedules of the modes that were read have the shapes of these
abbrev pub Shaped : List DocMode → List (Option Schedule) → Type 0
Shaped modes [] = ⊤
Shaped [] (plan ∷ plans) = ⊤
Shaped (d ∷ modes) (None ∷ plans) = Shaped modes plans
Shaped (d ∷ modes) (Some s ∷ plans) = HasShape d.mode (length s.starts) s × Shaped modes plans

one_shaped : (d : DocMode) (modes : List DocMode) (plan : Option Schedule) (plans : List (Option Schedule)) (ls rest : Items) → IsNamed d → IsMode d plan ls rest → Shaped modes plans → Shaped (d ∷ modes) (plan ∷ plans)
one_shaped d modes None plans ls rest is v others = others
one_shaped d modes (Some s) plans ls rest is v others =
    let ends = v.5 in
    (subst (λ (x : Schedule). HasShape d.mode (length x.starts) x) (sym ends.2) (told_shape d (v.0 + 1) ends.0 ends.1 rest is (omega arith) ends.4), others)

modes_shaped : (i : ℕ) (modes : List DocMode) (at : Place) → AllByRecursion IsNamed modes → Shaped modes (read_modes (enumerate_from i modes) at).plans
modes_shaped i [] at is = tt
modes_shaped i (d ∷ ds) at is = one_more (λ x. modes_shaped (i + 1) ds x is.1) (mode (i, d) at) refl
  where
    one_more : ((x : Place) → Shaped ds (read_modes (enumerate_from (i + 1) ds) x).plans) → (r : Read (Option Schedule)) → mode (i, d) at ≡ r → Shaped (d ∷ ds) (with_mode r (read_modes (enumerate_from (i + 1) ds))).plans
    one_more more (Ok x) e = one_shaped d ds x.0 (read_modes (enumerate_from (i + 1) ds) x.1).plans at.rest x.1.rest is.0 (mode_is (i, d) at x e) (more x.1)
    one_more more (Err f) e = tt

pub document_shaped : (modes : List DocMode) (items : Items) → AllByRecursion IsNamed modes → Shaped modes (read_document modes items).plans
document_shaped modes items is = behind (fixed is_head (place 1 items))
  where
    behind : (r : Read (Unit {0})) → Shaped modes (behind_head r modes).plans
    behind (Err f) = tt
    behind (Ok x) = modes_shaped 0 modes x.1 is
