-- The documents that the search makes are within the limit: a line for each visited prefix, and few lines more.
use Rattle.std.proofs.Common.{◌≡◌, ℕ, zero, suc, ◌+◌, ◌*◌, ◌≤◌, List, [], ◌∷◌, ◌++◌, length, length-append, map, Option, Some, None, refl, arith, inl, inr}
use Rattle.std.specs.List.{AllByRecursion, AllZip, flat_map, zip, enumerate_from, join_with_byte}
use Rattle.std.proofs.lemmas.List.{length-map}
use Rattle.std.proofs.lemmas.List.FromFn.{length-enumerate_from}
use Rattle.std.proofs.lemmas.List.Elements.{recursion_from_All, Contains-get_or}
use Rattle.std.proofs.lemmas.Slice.Zip.{length-zip}
use Rattle.app_graph.specs.declared.mode_set.ModeSet.{ModeSet}
use Rattle.app_graph.specs.declared.mode_set.Mode.{Mode}
use Rattle.sched_model.specs.PlainMode.{PlainMode, most_rounds, plain_mode}
use Rattle.sched_model.specs.ModeLimits.{IsLimited}
use Rattle.sched_model.specs.ValidMode.{IsValid}
use Rattle.sched_model.specs.SearchCost.{CostFrom}
use Rattle.sched_model.specs.declared.schedule.Schedule.{Schedule}
use Rattle.sched_model.specs.Laws.{OwnTreesCountVisits}
use Rattle.sched_model.proofs.Costs.{visited_one}
use Rattle.sched_model.proofs.KeptSets.{modes_valid}
use Rattle.sched_model.proofs.LimitedModes.{modes_limited}
use Rattle.proof_tree.specs.declared.tree.Tree.{Tree}
use Rattle.proof_tree.specs.declared.tree.ModePart.{ModePart}
use Rattle.proof_tree.specs.Items.{Item, first_word, other_words, line_of, text_of, End}
use Rattle.proof_tree.specs.Names.{tasks_in, messages_in}
use Rattle.proof_tree.specs.PlanText.{stored_item, task_item, message_item, table_item, refuted_items, answer_items, part_items, plan_items}
use Rattle.proof_tree.specs.OwnDocument.{OwnTreesFrom, OwnPart}
use Rattle.proof_tree.specs.DocumentLaws.{HasRoom, IsRightPart, RightAnswer, WithinBudget, OwnDocumentsHaveRoom}
use Rattle.proof_tree.proofs.FewestRounds.{few}
use Rattle.sched_model.proofs.TaskNumbers.{few_modes}
use Rattle.proof_tree.proofs.OwnParts.{own_parts_make_documents}

-- lines with room have at most 4,097 bytes each
text_short : (items : List Item) → AllByRecursion HasRoom items → length (text_of items) ≤ 4097 * length items
text_short [] h = omega arith
text_short (item ∷ items) h =
    let words = join_with_byte 32 (first_word item ∷ other_words item) in
    let one : length (line_of item) ≤ 4097 = omega (arith, h.0.short, length-append words (10 ∷ [])) in
    omega (arith, one, length-append (line_of item) (text_of items), text_short items h.1)

-- ---- trees

-- how many nodes the trees have
abbrev nodes_in : List Tree → ℕ
nodes_in [] = 0
nodes_in (tree ∷ trees) = length tree.nodes + nodes_in trees

trees_lines : (r : ℕ) (trees : List Tree) → length (flat_map refuted_items (enumerate_from r trees)) ≡ length trees + nodes_in trees
trees_lines r [] = refl
trees_lines r (tree ∷ trees) =
    omega (arith, length-append (refuted_items (r, tree)) (flat_map refuted_items (enumerate_from (r + 1) trees)), trees_lines (r + 1) trees, length-map tree.nodes (stored_item tree.refs))

-- own trees have as many nodes as prefixes are visited for their numbers of rounds
nodes_cost : OwnTreesCountVisits → (m : PlainMode) (r n c : ℕ) (trees : List Tree) → OwnTreesFrom m r trees → length trees ≤ n → CostFrom m r n c → nodes_in trees ≤ c
nodes_cost count m r n c [] own le cost = omega arith
nodes_cost count m r zero c (tree ∷ trees) own le cost = absurd (omega (arith, le))
nodes_cost count m r (suc n) c (tree ∷ trees) own le (x, visited, inl (leads, e)) = absurd (own.1 leads)
nodes_cost count m r (suc n) c (tree ∷ trees) own le (x, visited, inr (shut, (y, rest, e))) =
    let same : x ≡ length tree.nodes = visited_one m r x (length tree.nodes) visited ((count m r).1 tree.nodes tree.refs own.0) in
    omega (arith, e, same, nodes_cost count m (suc r) n y trees own.2 (omega (arith, le)) rest)

-- ---- answers

zip_short : {A B : Type 0} (xs : List A) (ys : List B) → length (zip xs ys) ≤ length ys
zip_short xs ys = omega (arith, length-zip xs ys)

answer_lines : (set : ModeSet) (mode : Mode) (r : ℕ) (answer : Option Schedule) → IsLimited (plain_mode set mode) → r ≤ 257 → IsValid (plain_mode set mode) → RightAnswer (plain_mode set mode) r answer → length (answer_items mode answer) ≤ 450
answer_lines set mode r None limited le ok right = omega arith
answer_lines set mode r (Some s) limited le ok right =
    let tasks = map task_item (zip (tasks_in mode.apps) s.tasks) in
    let messages = map message_item (zip (messages_in mode.apps) s.messages) in
    let tables = map (table_item (messages_in mode.apps)) (enumerate_from 1 s.tables) in
    omega (
      arith,
      length-append tasks (messages ++ tables),
      length-append messages tables,
      length-map (zip (tasks_in mode.apps) s.tasks) task_item,
      length-map (zip (messages_in mode.apps) s.messages) message_item,
      length-map (enumerate_from 1 s.tables) (table_item (messages_in mode.apps)),
      length-enumerate_from 1 s.tables,
      zip_short (tasks_in mode.apps) s.tasks,
      zip_short (messages_in mode.apps) s.messages,
      right.shape.tasks,
      right.shape.messages,
      right.shape.tables,
      limited.tasks,
      limited.messages,
      limited.rounds,
      few (plain_mode set mode) r s ok right,
    )

-- ---- parts
rounds_left : (m : PlainMode) (r : ℕ) (answer : Option Schedule) → IsValid m → RightAnswer m r answer → r ≤ most_rounds m + 1
rounds_left m r None ok right = omega (arith, right)
rounds_left m r (Some s) ok right = omega (arith, few m r s ok right)

part_lines : OwnTreesCountVisits → (set : ModeSet) (mode : Mode) (part : ModePart) → IsLimited (plain_mode set mode) → IsValid (plain_mode set mode) → OwnPart set mode part → IsRightPart set mode part → WithinBudget set mode
    → length (part_items (mode, part)) ≤ 100707
part_lines count set mode part limited ok own right (c, cost, le) =
    let m = plain_mode set mode in
    let r = length part.refuted + 1 in
    let left : r ≤ most_rounds m + 1 = rounds_left m r part.schedule ok right.answer in
    omega (
      arith,
      le,
      length-append (flat_map refuted_items (enumerate_from 1 part.refuted)) (answer_items mode part.schedule),
      trees_lines 1 part.refuted,
      nodes_cost count m 1 (most_rounds m) c part.refuted own.trees (omega (arith, left)) cost,
      answer_lines set mode r part.schedule limited (omega (arith, left, limited.rounds)) ok right.answer,
      left,
      limited.rounds,
    )

parts_lines : OwnTreesCountVisits → (set : ModeSet) (modes : List Mode) (parts : List ModePart) → AllByRecursion (λ mode. IsLimited (plain_mode set mode)) modes → AllByRecursion (λ mode. IsValid (plain_mode set mode)) modes
    → AllZip (OwnPart set) modes parts → AllZip (IsRightPart set) modes parts → AllByRecursion (WithinBudget set) modes → length (flat_map part_items (zip modes parts)) ≤ 100707 * length modes
parts_lines count set [] [] limited ok own right within = omega arith
parts_lines count set [] (part ∷ parts) limited ok own right within = absurd own
parts_lines count set (mode ∷ modes) [] limited ok own right within = absurd own
parts_lines count set (mode ∷ modes) (part ∷ parts) limited ok own right within =
    omega (
      arith,
      length-append (part_items (mode, part)) (flat_map part_items (zip modes parts)),
      part_lines count set mode part limited.0 ok.0 own.0 right.0 within.0,
      parts_lines count set modes parts limited.1 ok.1 own.1 right.1 within.1,
    )

pub own_documents_have_room : OwnTreesCountVisits → OwnDocumentsHaveRoom
own_documents_have_room count set parts keeps own within =
    let made = own_parts_make_documents set parts keeps own in
    let limited = recursion_from_All (λ mode. IsLimited (plain_mode set mode)) set.modes (λ i d l. modes_limited set keeps _ (Contains-get_or set.modes i d l)) in
    let ok = recursion_from_All (λ mode. IsValid (plain_mode set mode)) set.modes (λ i d l. modes_valid set keeps _ (Contains-get_or set.modes i d l)) in
    let lines = flat_map part_items (zip set.modes parts) in
    let short = text_short (plan_items set parts) made.1 in
    made.2 (omega (arith, short, length-append lines (End ∷ []), parts_lines count set set.modes parts limited ok own made.0 within, few_modes set keeps))
