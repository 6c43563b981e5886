-- The lines of right schedules are within the limits.
use Rattle.std.proofs.Common.{◌≡◌, ℕ, ◌+◌, ◌<◌, ◌≤◌, true, ◌&&◌, ltb, leb, ℤ, pos, negsuc, List, [], ◌∷◌, ◌++◌, length, map, All, Contains, refl, sym, subst, arith}
use Rattle.std.specs.Prelude.{codes, unsigned_abs}
use Rattle.std.specs.List.{AllByRecursion, list_all, zip, enumerate_from}
use Rattle.std.proofs.lemmas.Int.{ints}
use Rattle.std.proofs.lemmas.Bool.{and_from, and_parts, lt-ltb, le-leb, leb-true}
use Rattle.std.proofs.lemmas.List.{length-map}
use Rattle.std.proofs.lemmas.List.Elements.{recursion_from_All, All-from_recursion}
use Rattle.app_graph.specs.declared.mode_set.ModeSet.{ModeSet}
use Rattle.app_graph.specs.declared.mode_set.Mode.{Mode}
use Rattle.app_graph.specs.declared.mode_set.Task.{Task}
use Rattle.app_graph.specs.declared.mode_set.Message.{Message}
use Rattle.sched_model.specs.PlainMode.{tasks_of, plain_mode}
use Rattle.sched_model.specs.RightSchedule.{IsMessage, TableFits, IsSchedule}
use Rattle.sched_model.specs.TimeLimits.{IsTime}
use Rattle.sched_model.specs.ModeLimits.{IsLimited}
use Rattle.sched_model.specs.ValidMode.{IsValid}
use Rattle.sched_model.specs.declared.schedule.Schedule.{Schedule}
use Rattle.sched_model.proofs.Times.{times}
use Rattle.ttw_text.specs.Numbers.{spelled}
use Rattle.ttw_text.specs.Names.{is_name, is_name_byte}
use Rattle.ttw_text.proofs.Spellings.{length-spelled-le}
use Rattle.proof_tree.specs.Items.{Item, ScheduleOf, Start, TaskAt, MessageAt, TableOf}
use Rattle.proof_tree.specs.Grammar.{greatest}
use Rattle.proof_tree.specs.Spelled.{fits}
use Rattle.proof_tree.specs.Names.{tasks_in, messages_in, name_of}
use Rattle.proof_tree.specs.PlanText.{task_item, message_item, table_item, schedule_items}
use Rattle.proof_tree.specs.DocumentLaws.{HasRoom}
use Rattle.proof_tree.proofs.LineRoom.{joined_length}
use Rattle.proof_tree.proofs.DistinctNames.{name, found, plain_numbers}
use Rattle.proof_tree.proofs.GoodNames.{IsName, HasNames, all_append}

-- ---- numbers and names are short words

spelled_time : (n : ℕ) → n ≤ 2000000000000 → length (spelled n) < 14
spelled_time n h = let l : length (spelled n) ≤ 13 = length-spelled-le 13 n (omega arith) (omega (arith, h)) (omega (arith, h)) in omega (arith, l)

time_fits : (n : ℕ) → n ≤ 2000000000000 → fits n ≡ true
time_fits n h = le-leb n greatest (omega (arith, h))

pub name_short : (text : List ℕ) → IsName text → length text < 33
name_short text h =
    let n = length text in
    let w = and_parts (leb 1 n && leb n 32) (list_all is_name_byte text) h in
    omega (arith, leb-true n 32 (and_parts (leb 1 n) (leb n 32) w.0).1)

abs_time : (z : ℤ) → IsTime z → unsigned_abs z ≤ 2000000000000
abs_time (pos n) h = omega (arith, ints, h.1)
abs_time (negsuc n) h = absurd (omega (arith, ints, h.0))

-- ---- lines

schedule_room : (r : ℕ) → r ≤ 256 → HasRoom (ScheduleOf r)
schedule_room r le = record {
  writable = time_fits r (omega (arith, le));
  short = let l = joined_length 14 (codes "schedule") (spelled r ∷ []) (spelled_time r (omega (arith, le)), tt) in let w : length (codes "schedule") ≡ 8 = refl in omega (arith, l, w);
}

times_fit : (zs : List ℤ) → AllByRecursion IsTime zs → list_all fits (map unsigned_abs zs) ≡ true
times_fit [] h = refl
times_fit (z ∷ zs) h = and_from (fits (unsigned_abs z)) (list_all fits (map unsigned_abs zs)) (time_fits (unsigned_abs z) (abs_time z h.0)) (times_fit zs h.1)

times_short : (zs : List ℤ) → AllByRecursion IsTime zs → AllByRecursion (λ v. length v < 14) (map spelled (map unsigned_abs zs))
times_short [] h = tt
times_short (z ∷ zs) h = (spelled_time (unsigned_abs z) (abs_time z h.0), times_short zs h.1)

start_room : (zs : List ℤ) → 0 < length zs → length zs ≤ 256 → AllByRecursion IsTime zs → HasRoom (Start (map unsigned_abs zs))
start_room zs some few h =
    let ns = map unsigned_abs zs in
    let count : length ns ≡ length zs = length-map zs unsigned_abs in
    record {
      writable = and_from (ltb 0 (length ns)) (list_all fits ns) (lt-ltb 0 (length ns) (omega (arith, some, count))) (times_fit zs h);
      short = let l = joined_length 14 (codes "start") (map spelled ns) (times_short zs h) in let w : length (codes "start") ≡ 5 = refl in omega (arith, l, w, count, few, length-map ns spelled);
    }

task_room : (text : List ℕ) (z : ℤ) → IsName text → IsTime z → HasRoom (TaskAt text (unsigned_abs z))
task_room text z n h =
    let o = unsigned_abs z in
    record {
      writable = and_from (is_name text) (fits o) n (time_fits o (abs_time z h));
      short =
          let l = joined_length 33 (codes "task") (text ∷ spelled o ∷ []) (name_short text n, (omega (arith, spelled_time o (abs_time z h)), tt)) in
          let w : length (codes "task") ≡ 4 = refl in
          omega (arith, l, w);
    }

message_room : (text : List ℕ) (w : ℤ × ℤ) → IsName text → IsTime w.0 × IsTime w.1 → HasRoom (MessageAt text (unsigned_abs w.0) (unsigned_abs w.1))
message_room text w n h =
    let o = unsigned_abs w.0 in
    let q = unsigned_abs w.1 in
    record {
      writable = and_from (is_name text) (fits o && fits q) n (and_from (fits o) (fits q) (time_fits o (abs_time w.0 h.0)) (time_fits q (abs_time w.1 h.1)));
      short =
          let l = joined_length 33 (codes "message") (text ∷ spelled o ∷ spelled q ∷ []) (name_short text n, (omega (arith, spelled_time o (abs_time w.0 h.0)), (omega (arith, spelled_time q (abs_time w.1 h.1)), tt))) in
          let f : length (codes "message") ≡ 7 = refl in
          omega (arith, l, f);
    }

names_good : (names : List (List ℕ)) → AllByRecursion IsName names → list_all is_name names ≡ true
names_good [] h = refl
names_good (n ∷ ns) h = and_from (is_name n) (list_all is_name ns) h.0 (names_good ns h.1)

names_short : (names : List (List ℕ)) → AllByRecursion IsName names → AllByRecursion (λ v. length v < 33) names
names_short [] h = tt
names_short (n ∷ ns) h = (name_short n h.0, names_short ns h.1)

table_room : (j : ℕ) (names : List (List ℕ)) → j ≤ 256 → length names ≤ 32 → AllByRecursion IsName names → HasRoom (TableOf j names)
table_room j names le few h = record {
  writable = and_from (fits j) (list_all is_name names) (time_fits j (omega (arith, le))) (names_good names h);
  short =
      let l = joined_length 33 (codes "table") (spelled j ∷ names) (omega (arith, spelled_time j (omega (arith, le))), names_short names h) in
      let w : length (codes "table") ≡ 5 = refl in
      omega (arith, l, w, few);
}

-- ---- the lines of a schedule

abbrev Fit : List Item → Type 0
Fit items = AllByRecursion HasRoom items

tasks_fit : (tasks : List Task) (zs : List ℤ) → AllByRecursion (λ (u : Task). IsName u.name) tasks → AllByRecursion IsTime zs → Fit (map task_item (zip tasks zs))
tasks_fit [] zs n h = tt
tasks_fit (t ∷ ts) [] n h = tt
tasks_fit (t ∷ ts) (z ∷ zs) n h = (task_room t.name z n.0 h.0, tasks_fit ts zs n.1 h.1)

messages_fit : (ms : List Message) (ws : List (ℤ × ℤ)) → AllByRecursion (λ (m : Message). IsName m.name) ms → AllByRecursion (λ w. IsTime w.0 × IsTime w.1) ws → Fit (map message_item (zip ms ws))
messages_fit [] ws n h = tt
messages_fit (m ∷ ms) [] n h = tt
messages_fit (m ∷ ms) (w ∷ ws) n h = (message_room m.name w n.0 h.0, messages_fit ms ws n.1 h.1)

all_named : (ms : List Message) → AllByRecursion (λ (m : Message). IsName m.name) ms → AllByRecursion IsName (map name ms)
all_named [] h = tt
all_named (m ∷ ms) h = (h.0, all_named ms h.1)

-- the names of numbers of messages are names
number_named : (set : ModeSet) (mode : Mode) → HasNames mode → (n : ℕ) → IsMessage (plain_mode set mode) n → IsName (name_of (messages_in mode.apps) n)
number_named set mode names n c =
    let ms = messages_in mode.apps in
    let f = found ms n (subst (λ (l : List ℕ). Contains l n) (plain_numbers (tasks_of 0 mode.apps) mode.apps) c) in
    subst IsName (sym f.3) (All-from_recursion IsName (map name ms) (all_named ms names.messages) f.0 [] (omega (arith, f.1, length-map ms name)))

table_named : (set : ModeSet) (mode : Mode) → HasNames mode → (table : List ℕ) → AllByRecursion (IsMessage (plain_mode set mode)) table → AllByRecursion IsName (map (name_of (messages_in mode.apps)) table)
table_named set mode names [] h = tt
table_named set mode names (n ∷ table) h = (number_named set mode names n h.0, table_named set mode names table h.1)

tables_fit : (set : ModeSet) (mode : Mode) → HasNames mode → (plain_mode set mode).slots ≤ 32 → (j : ℕ) (tables : List (List ℕ)) → j + length tables ≤ 257 → AllByRecursion (TableFits (plain_mode set mode)) tables
    → AllByRecursion (λ table. All (IsMessage (plain_mode set mode)) table) tables → Fit (map (table_item (messages_in mode.apps)) (enumerate_from j tables))
tables_fit set mode names slots j [] le fit known = tt
tables_fit set mode names slots j (t ∷ ts) le fit known =
    let ms = messages_in mode.apps in
    let few : length (map (name_of ms) t) ≤ 32 = omega (arith, length-map t (name_of ms), fit.0.slots, slots) in
    (table_room j (map (name_of ms) t) (omega (arith, le)) few (table_named set mode names t (recursion_from_All (IsMessage (plain_mode set mode)) t known.0)), tables_fit set mode names slots (j + 1) ts (omega (arith, le)) fit.1 known.1)

pub schedule_fits : (set : ModeSet) (mode : Mode) (r : ℕ) (s : Schedule) → HasNames mode → IsValid (plain_mode set mode) → IsLimited (plain_mode set mode) → r ≤ 256 → IsSchedule (plain_mode set mode) r s → Fit (schedule_items mode s)
schedule_fits set mode r s names ok limited le is =
    let m = plain_mode set mode in
    let ms = messages_in mode.apps in
    let t = times m r s ok is in
    let ts = map task_item (zip (tasks_in mode.apps) s.tasks) in
    let ws = map message_item (zip ms s.messages) in
    let bs = map (table_item ms) (enumerate_from 1 s.tables) in
    let shape = is.shape in
    let tables : Fit bs = tables_fit set mode names limited.slots.1 1 s.tables (omega (arith, shape.tables, le)) (recursion_from_All (TableFits m) s.tables is.s7.tables) (recursion_from_All (λ table. All (IsMessage m) table) s.tables shape.numbers) in (
      schedule_room (length s.starts) (omega (arith, shape.starts, le)),
      (
        start_room s.starts (omega (arith, shape.starts, shape.some)) (omega (arith, shape.starts, le)) (recursion_from_All IsTime s.starts t.starts),
        all_append HasRoom ts (ws ++ bs) (tasks_fit (tasks_in mode.apps) s.tasks names.tasks (recursion_from_All IsTime s.tasks t.tasks))
            (all_append HasRoom ws bs (messages_fit ms s.messages names.messages (recursion_from_All (λ w. IsTime w.0 × IsTime w.1) s.messages t.messages)) tables),
      ),
    )
