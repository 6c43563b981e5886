-- The lines of right parts stand for their schedules, so that their document is accepted.
use Rattle.std.proofs.Common.{◌≡◌, ℕ, zero, suc, ◌+◌, true, List, [], ◌∷◌, ◌++◌, length, map, All, ℤ, pos, negsuc, ◌≤ℤ◌, Option, Some, None, refl, sym, ap, subst, ◌∙◌, append_assoc, arith}
use Rattle.std.specs.Prelude.{unsigned_abs}
use Rattle.std.specs.List.{AllByRecursion, AllZip, list_all, flat_map, zip, enumerate_from, range_with_len}
use Rattle.std.proofs.lemmas.Int.{ints}
use Rattle.std.proofs.lemmas.List.{map-append, length-map}
use Rattle.std.proofs.lemmas.List.Elements.{recursion_from_All}
use Rattle.app_graph.specs.declared.mode_set.ModeSet.{ModeSet}
use Rattle.app_graph.specs.declared.mode_set.Mode.{Mode}
use Rattle.app_graph.specs.declared.mode_set.Task.{Task}
use Rattle.app_graph.specs.declared.mode_set.Message.{Message}
use Rattle.sched_model.specs.Numbers.{below}
use Rattle.sched_model.specs.PlainMode.{PlainMode, plain_mode}
use Rattle.sched_model.specs.RightSchedule.{IsMessage, IsSchedule}
use Rattle.sched_model.specs.TimeLimits.{IsTime}
use Rattle.sched_model.specs.ValidMode.{IsValid}
use Rattle.sched_model.specs.declared.schedule.Schedule.{Schedule}
use Rattle.sched_model.proofs.Times.{times}
use Rattle.proof_tree.specs.declared.tree.ModePart.{ModePart}
use Rattle.proof_tree.specs.Items.{Item, Head, ScheduleOf, Start, End}
use Rattle.proof_tree.specs.Names.{tasks_in, messages_in, name_of}
use Rattle.proof_tree.specs.PlanText.{task_item, message_item, table_item, refuted_items, answer_items, part_items, plan_items}
use Rattle.proof_tree.specs.TreeLines.{Items, TreesFrom}
use Rattle.proof_tree.specs.Accepting.{DocMode, doc_mode, is_message, number_of, EachIs, OneTask, OneMessage, OneTable, Told, schedule_of, Tells, ModeEnds, IsMode, IsRight}
use Rattle.proof_tree.specs.DocumentLaws.{RightAnswer, IsRightPart, RightPartsAreAccepted}
use Rattle.proof_tree.proofs.TreeStanding.{lists_stand}
use Rattle.proof_tree.proofs.TextReading.{texts_are_read}
use Rattle.proof_tree.proofs.ReadShapes.{IsNamed, modes_named}
use Rattle.proof_tree.proofs.DistinctNames.{IsTold, Apart, numbers_told, names_apart}

-- ---- times are written and read

back : (z : ℤ) → pos 0 ≤ℤ z → pos (unsigned_abs z) ≡ z
back (pos n) h = refl
back (negsuc n) h = absurd (omega (arith, ints, h))

times_back : (zs : List ℤ) → AllByRecursion IsTime zs → map pos (map unsigned_abs zs) ≡ zs
times_back [] h = refl
times_back (z ∷ zs) h = ap (λ (y : ℤ). y ∷ map pos (map unsigned_abs zs)) (back z h.0.0) ∙ ap (λ (ys : List ℤ). z ∷ ys) (times_back zs h.1)

abbrev plain_window : ℤ × ℤ → ℕ × ℕ
plain_window w = (unsigned_abs w.0, unsigned_abs w.1)

abbrev window : ℕ × ℕ → ℤ × ℤ
window w = (pos w.0, pos w.1)

window_back : (w : ℤ × ℤ) → IsTime w.0 × IsTime w.1 → window (plain_window w) ≡ w
window_back w h = ap (λ (x : ℤ). (x, pos (unsigned_abs w.1))) (back w.0 h.0.0) ∙ ap (λ (y : ℤ). (w.0, y)) (back w.1 h.1.0)

windows_back : (ws : List (ℤ × ℤ)) → AllByRecursion (λ w. IsTime w.0 × IsTime w.1) ws → map window (map plain_window ws) ≡ ws
windows_back [] h = refl
windows_back (w ∷ ws) h = ap (λ (v : ℤ × ℤ). v ∷ map window (map plain_window ws)) (window_back w h.0) ∙ ap (λ (vs : List (ℤ × ℤ)). w ∷ vs) (windows_back ws h.1)

abbrev told_of : Schedule → Told
told_of s = record { starts = map unsigned_abs s.starts; tasks = map unsigned_abs s.tasks; messages = map plain_window s.messages; tables = s.tables }

same_schedule : (s : Schedule) (a b : List ℤ) (c : List (ℤ × ℤ)) → a ≡ s.starts → b ≡ s.tasks → c ≡ s.messages → ◌≡◌ {A = Schedule} s (record { starts = a; tasks = b; messages = c; tables = s.tables })
same_schedule s a b c e f g =
    sym (ap (λ (x : List ℤ). record { starts = x; tasks = b; messages = c; tables = s.tables }) e
    ∙ ap (λ (x : List ℤ). record { starts = s.starts; tasks = x; messages = c; tables = s.tables }) f
    ∙ ap (λ (x : List (ℤ × ℤ)). record { starts = s.starts; tasks = s.tasks; messages = x; tables = s.tables }) g)

told_back : (m : PlainMode) (r : ℕ) (s : Schedule) → IsValid m → IsSchedule m r s → s ≡ schedule_of (told_of s)
told_back m r s ok is =
    let t = times m r s ok is in
    same_schedule s (map pos (map unsigned_abs s.starts)) (map pos (map unsigned_abs s.tasks)) (map window (map plain_window s.messages))
    (times_back s.starts (recursion_from_All IsTime s.starts t.starts))
    (times_back s.tasks (recursion_from_All IsTime s.tasks t.tasks))
    (windows_back s.messages (recursion_from_All (λ w. IsTime w.0 × IsTime w.1) s.messages t.messages))

-- ---- the lines of a schedule

abbrev shown : List Item → Items
shown items = map (λ item. Some item) items

join : (a b : List Item) (rest : Items) → shown (a ++ b) ++ rest ≡ shown a ++ (shown b ++ rest)
join a b rest = ap (λ (l : Items). l ++ rest) (map-append (λ item. Some item) a b) ∙ append_assoc (shown a) (shown b) rest

tasks_stand : (tasks : List Task) (zs : List ℤ) (rest : Items) → length zs ≡ length tasks → EachIs OneTask (map (λ task. task.name) tasks) (map unsigned_abs zs) (shown (map task_item (zip tasks zs)) ++ rest) rest
tasks_stand [] [] rest e = refl
tasks_stand [] (z ∷ zs) rest e = absurd (omega (arith, e))
tasks_stand (t ∷ ts) [] rest e = absurd (omega (arith, e))
tasks_stand (t ∷ ts) (z ∷ zs) rest e = (shown (map task_item (zip ts zs)) ++ rest, refl, tasks_stand ts zs rest (omega (arith, e)))

messages_stand : (ms : List Message) (ws : List (ℤ × ℤ)) (rest : Items) → length ws ≡ length ms → EachIs OneMessage (map (λ message. message.name) ms) (map plain_window ws) (shown (map message_item (zip ms ws)) ++ rest) rest
messages_stand [] [] rest e = refl
messages_stand [] (w ∷ ws) rest e = absurd (omega (arith, e))
messages_stand (m ∷ ms) [] rest e = absurd (omega (arith, e))
messages_stand (m ∷ ms) (w ∷ ws) rest e = (shown (map message_item (zip ms ws)) ++ rest, refl, messages_stand ms ws rest (omega (arith, e)))

names_stand : (d : DocMode) (ms : List Message) → IsTold d ms → (table : List ℕ) → AllByRecursion (IsMessage d.mode) table
    → (list_all (is_message d) (map (name_of ms) table) ≡ true) × (table ≡ map (number_of d) (map (name_of ms) table))
names_stand d ms told [] h = (refl, refl)
names_stand d ms told (n ∷ table) h =
    let one = told n h.0 in
    let others = names_stand d ms told table h.1 in
    (rw (one.0, others.0) refl, ap (λ (l : List ℕ). n ∷ l) others.1 ∙ ap (λ (k : ℕ). k ∷ map (number_of d) (map (name_of ms) table)) (sym one.1))

tables_stand : (d : DocMode) (ms : List Message) → IsTold d ms → (j : ℕ) (tables : List (List ℕ)) (rest : Items) → AllByRecursion (λ table. All (IsMessage d.mode) table) tables
    → EachIs (OneTable d) (range_with_len j (length tables)) tables (shown (map (table_item ms) (enumerate_from (j + 1) tables)) ++ rest) rest
tables_stand d ms told j [] rest h = refl
tables_stand d ms told j (t ∷ ts) rest h =
    let names = names_stand d ms told t (recursion_from_All (IsMessage d.mode) t h.0) in
    (shown (map (table_item ms) (enumerate_from (j + 1 + 1) ts)) ++ rest, (map (name_of ms) t, names.0, names.1, refl), tables_stand d ms told (j + 1) ts rest h.1)

range_more : (a n : ℕ) → range_with_len a (suc n) ≡ range_with_len a n ++ (a + n) ∷ []
range_more a zero = ap (λ (k : ℕ). k ∷ []) (let e : a ≡ a + 0 = omega arith in e)
range_more a (suc n) = ap (λ (l : List ℕ). a ∷ l) (range_more (a + 1) n ∙ ap (λ (k : ℕ). range_with_len (a + 1) n ++ k ∷ []) (let e : a + 1 + n ≡ a + suc n = omega arith in e))

range_is_below : (n : ℕ) → range_with_len 0 n ≡ below n
range_is_below zero = refl
range_is_below (suc n) = range_more 0 n ∙ ap (λ (k : ℕ). range_with_len 0 n ++ k ∷ []) (let e : 0 + n ≡ n = omega arith in e) ∙ ap (λ (l : List ℕ). l ++ n ∷ []) (range_is_below n)

-- what is needed of a mode of the set
pub record Tellable (set : ModeSet) (mode : Mode) : Type 0 where
  pub valid : IsValid (plain_mode set mode)
  pub told : IsTold (doc_mode set mode) (messages_in mode.apps)
  pub tasks : length (tasks_in mode.apps) ≡ length (plain_mode set mode).tasks
  pub messages : length (messages_in mode.apps) ≡ length (plain_mode set mode).messages

schedule_tells : (set : ModeSet) (mode : Mode) (r : ℕ) (s : Schedule) (rest : Items) → Tellable set mode → IsSchedule (plain_mode set mode) r s
    → let tail = map task_item (zip (tasks_in mode.apps) s.tasks) ++ (map message_item (zip (messages_in mode.apps) s.messages) ++ map (table_item (messages_in mode.apps)) (enumerate_from 1 s.tables)) in
    Tells (doc_mode set mode) r (told_of s) (Some (Start (map unsigned_abs s.starts)) ∷ (shown tail ++ rest)) rest
schedule_tells set mode r s rest is right =
    let d = doc_mode set mode in
    let ms = messages_in mode.apps in
    let ts = map task_item (zip (tasks_in mode.apps) s.tasks) in
    let ws = map message_item (zip ms s.messages) in
    let bs = map (table_item ms) (enumerate_from 1 s.tables) in
    let numbers = recursion_from_All (λ table. All (IsMessage d.mode) table) s.tables right.shape.numbers in
    record {
      counted = length-map s.starts unsigned_abs ∙ right.shape.starts;
      first = shown (ts ++ (ws ++ bs)) ++ rest;
      second = shown (ws ++ bs) ++ rest;
      third = shown bs ++ rest;
      starts = refl;
      tasks = subst (λ (l : Items). EachIs OneTask d.tasks (map unsigned_abs s.tasks) l (shown (ws ++ bs) ++ rest)) (sym (join ts (ws ++ bs) rest)) (tasks_stand (tasks_in mode.apps) s.tasks (shown (ws ++ bs) ++ rest) (omega (arith, right.shape.tasks, is.tasks)));
      messages = subst (λ (l : Items). EachIs OneMessage d.messages (map plain_window s.messages) l (shown bs ++ rest)) (sym (join ws bs rest)) (messages_stand ms s.messages (shown bs ++ rest) (omega (arith, right.shape.messages, is.messages)));
      tables = subst (λ (l : List ℕ). EachIs (OneTable d) l s.tables (shown bs ++ rest) rest) (range_is_below (length s.tables) ∙ ap below right.shape.tables) (tables_stand d ms is.told 0 s.tables rest numbers);
    }

-- ---- the lines of a document

answer_stands : (set : ModeSet) (mode : Mode) (r : ℕ) (plan : Option Schedule) (rest : Items) → Tellable set mode → RightAnswer (plain_mode set mode) r plan
    → ModeEnds (doc_mode set mode) plan r (shown (answer_items mode plan) ++ rest) rest
answer_stands set mode r None rest is right = (right, refl)
answer_stands set mode r (Some s) rest is right =
    let tail = shown (map task_item (zip (tasks_in mode.apps) s.tasks) ++ (map message_item (zip (messages_in mode.apps) s.messages) ++ map (table_item (messages_in mode.apps)) (enumerate_from 1 s.tables))) ++ rest in
    let start : Items = Some (Start (map unsigned_abs s.starts)) ∷ tail in
    (told_of s, start, told_back (plain_mode set mode) r s is.valid right, ap (λ (k : ℕ). Some (ScheduleOf k) ∷ start) right.shape.starts, schedule_tells set mode r s rest is right)

part_stands : (set : ModeSet) (mode : Mode) (part : ModePart) (rest : Items) → Tellable set mode → IsRightPart set mode part → IsMode (doc_mode set mode) part.schedule (shown (part_items (mode, part)) ++ rest) rest
part_stands set mode part rest is right =
    let trees = flat_map refuted_items (enumerate_from 1 part.refuted) in
    let answer = answer_items mode part.schedule in
    let end : Items = shown answer ++ rest in (
      length part.refuted,
      shown (trees ++ answer) ++ rest,
      end,
      refl,
      subst (λ (l : Items). TreesFrom (plain_mode set mode) 1 (length part.refuted) l end) (sym (join trees answer rest)) (lists_stand (plain_mode set mode) 1 part.refuted end right.trees),
      answer_stands set mode (length part.refuted + 1) part.schedule rest is right.answer,
    )

parts_stand : (set : ModeSet) (modes : List Mode) (parts : List ModePart) (rest : Items) → AllByRecursion (Tellable set) modes → AllZip (IsRightPart set) modes parts
    → EachIs IsMode (map (doc_mode set) modes) (map (λ part. part.schedule) parts) (shown (flat_map part_items (zip modes parts)) ++ rest) rest
parts_stand set [] [] rest is right = refl
parts_stand set [] (p ∷ ps) rest is right = absurd right
parts_stand set (m ∷ ms) [] rest is right = absurd right
parts_stand set (m ∷ ms) (p ∷ ps) rest is right =
    let others = shown (flat_map part_items (zip ms ps)) ++ rest in (
      others,
      subst (λ (l : Items). IsMode (doc_mode set m) p.schedule l others) (sym (join (part_items (m, p)) (flat_map part_items (zip ms ps)) rest)) (part_stands set m p others is.0 right.0),
      parts_stand set ms ps rest is.1 right.1,
    )

one_right : (m : DocMode) (r : ℕ) (plan : Option Schedule) → RightAnswer m.mode r plan → IsRight m plan
one_right m r None right = tt
one_right m r (Some s) right = subst (λ (k : ℕ). IsSchedule m.mode k s) (sym right.shape.starts) right

all_right : (set : ModeSet) (modes : List Mode) (parts : List ModePart) → AllZip (IsRightPart set) modes parts → AllZip IsRight (map (doc_mode set) modes) (map (λ part. part.schedule) parts)
all_right set [] [] right = tt
all_right set [] (p ∷ ps) right = absurd right
all_right set (m ∷ ms) [] right = absurd right
all_right set (m ∷ ms) (p ∷ ps) right = (one_right (doc_mode set m) (length p.refuted + 1) p.schedule right.0.answer, all_right set ms ps right.1)

tellable : (set : ModeSet) (mode : Mode) → IsNamed (doc_mode set mode) → Apart (map (λ message. message.name) (messages_in mode.apps)) → Tellable set mode
tellable set mode is apart = record {
  valid = is.valid;
  told = numbers_told set mode apart;
  tasks = sym (length-map (tasks_in mode.apps) (λ task. task.name)) ∙ is.tasks;
  messages = sym (length-map (messages_in mode.apps) (λ message. message.name)) ∙ is.messages;
}

all_tellable : (set : ModeSet) (modes : List Mode) → AllByRecursion IsNamed (map (doc_mode set) modes) → AllByRecursion (λ mode. Apart (map (λ message. message.name) (messages_in mode.apps))) modes → AllByRecursion (Tellable set) modes
all_tellable set [] is apart = tt
all_tellable set (m ∷ ms) is apart = (tellable set m is.0 apart.0, all_tellable set ms is.1 apart.1)

pub right_parts_are_accepted : RightPartsAreAccepted
right_parts_are_accepted set parts keeps right room le =
    let modes = flat_map part_items (zip set.modes parts) in
    let plans = map (λ part. part.schedule) parts in
    let is = all_tellable set set.modes (modes_named set keeps) (names_apart set keeps) in
    let items : shown (plan_items set parts) ≡ Some Head ∷ (shown modes ++ Some End ∷ []) = ap (λ (l : Items). Some Head ∷ l) (map-append (λ item. Some item) modes (End ∷ [])) in
    record {
      told = (shown modes ++ Some End ∷ [], texts_are_read (plan_items set parts) room le ∙ items, parts_stand set set.modes parts (Some End ∷ []) is right);
      right = all_right set set.modes parts right;
    }
