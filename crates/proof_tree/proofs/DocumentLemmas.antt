-- The parts of the texts of schedules and documents.
use Rattle.std.proofs.Common.{◌≡◌, ℕ, ◌+◌, ◌<◌, List, [], ◌∷◌, ◌++◌, length, get_or, map, sym, ap, ◌∙◌, arith}
use Rattle.std.specs.Prelude.{unsigned_abs}
use Rattle.std.specs.List.{flat_map, zip, enumerate_from}
use Rattle.std.proofs.lemmas.List.FromFn.{length-enumerate_from, get_or-enumerate_from}
use Rattle.app_graph.specs.declared.mode_set.ModeSet.{ModeSet}
use Rattle.app_graph.specs.declared.mode_set.Mode.{Mode}
use Rattle.sched_model.specs.declared.schedule.Schedule.{Schedule}
use Rattle.proof_tree.specs.declared.tree.ModePart.{ModePart}
use Rattle.proof_tree.specs.Items.{Head, ModeNamed, ScheduleOf, Start, End, line_of, text_of}
use Rattle.proof_tree.specs.Names.{tasks_in, messages_in}
use Rattle.proof_tree.specs.PlanText.{task_item, message_item, table_item, schedule_items, refuted_items, answer_items, part_items, plan_text}
use Rattle.proof_tree.proofs.WrittenLemmas.{text_of-append, text_of-flat_map}

-- an item at its place among numbered ones
pub at_place : {X : Type 0} (xs : List X) (i : ℕ) (x : X) → i < length xs → x ≡ get_or xs i x → (i < length (enumerate_from 1 xs)) × ((i + 1, x) ≡ get_or (enumerate_from 1 xs) i (i + 1, x))
at_place {X} xs i x lt is =
    let count : i + 1 ≡ 1 + i = omega arith in (
      omega (arith, length-enumerate_from 1 xs),
      ap (λ (n : ℕ). (n, x)) count ∙ ap (λ (y : X). (1 + i, y)) is ∙ sym (get_or-enumerate_from 1 xs i (i + 1, x) lt),
    )

abbrev pub tasks_text : Mode → Schedule → List ℕ
tasks_text mode s = text_of (map task_item (zip (tasks_in mode.apps) s.tasks))

abbrev pub messages_text : Mode → Schedule → List ℕ
messages_text mode s = text_of (map message_item (zip (messages_in mode.apps) s.messages))

abbrev pub tables_text : Mode → Schedule → List ℕ
tables_text mode s = text_of (map (table_item (messages_in mode.apps)) (enumerate_from 1 s.tables))

abbrev pub start_line : Schedule → List ℕ
start_line s = line_of (Start (map unsigned_abs s.starts))

pub schedule_parts : (mode : Mode) (s : Schedule) → text_of (schedule_items mode s) ≡ line_of (ScheduleOf (length s.starts)) ++ (start_line s ++ (tasks_text mode s ++ (messages_text mode s ++ tables_text mode s)))
schedule_parts mode s =
    let t = map task_item (zip (tasks_in mode.apps) s.tasks) in
    let m = map message_item (zip (messages_in mode.apps) s.messages) in
    let b = map (table_item (messages_in mode.apps)) (enumerate_from 1 s.tables) in
    ap (λ (l : List ℕ). line_of (ScheduleOf (length s.starts)) ++ (start_line s ++ l))
    (text_of-append t (m ++ b) ∙ ap (λ (l : List ℕ). text_of t ++ l) (text_of-append m b))

pub part_parts : (mode : Mode) (part : ModePart) → text_of (part_items (mode, part))
    ≡ line_of (ModeNamed mode.name) ++ (flat_map text_of (map refuted_items (enumerate_from 1 part.refuted)) ++ text_of (answer_items mode part.schedule))
part_parts mode part =
    ap (λ (l : List ℕ). line_of (ModeNamed mode.name) ++ l)
    (text_of-append (flat_map refuted_items (enumerate_from 1 part.refuted)) (answer_items mode part.schedule)
    ∙ ap (λ (l : List ℕ). l ++ text_of (answer_items mode part.schedule)) (text_of-flat_map refuted_items (enumerate_from 1 part.refuted)))

pub plan_parts : (set : ModeSet) (parts : List ModePart) → plan_text set parts ≡ line_of Head ++ (flat_map text_of (map part_items (zip set.modes parts)) ++ line_of End)
plan_parts set parts =
    ap (λ (l : List ℕ). line_of Head ++ l)
    (text_of-append (flat_map part_items (zip set.modes parts)) (End ∷ []) ∙ ap (λ (l : List ℕ). l ++ line_of End) (text_of-flat_map part_items (zip set.modes parts)))
