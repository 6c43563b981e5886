-- The text of a plan document, from the trees and schedules that it tells of.
use Rattle.std.specs.Prelude.{ℕ, List, [], ◌∷◌, ◌++◌, length, map, unsigned_abs, Option, Some, None, ℤ}
use Rattle.std.specs.List.{flat_map, zip, enumerate_from}
use Rattle.app_graph.specs.declared.mode_set.ModeSet.{ModeSet}
use Rattle.app_graph.specs.declared.mode_set.Mode.{Mode}
use Rattle.app_graph.specs.declared.mode_set.Task.{Task}
use Rattle.app_graph.specs.declared.mode_set.Message.{Message}
use Rattle.sched_model.specs.declared.schedule.Schedule.{Schedule}
use Rattle.sched_model.specs.RefutationTree.{Node, branch, short, full, cycle, node_of}
use Rattle.sched_model.specs.declared.trees.TreeNode.{TreeNode}
use Rattle.proof_tree.specs.declared.tree.Tree.{Tree}
use Rattle.proof_tree.specs.declared.tree.ModePart.{ModePart}
use Rattle.proof_tree.specs.Items.{Item, Head, ModeNamed, Refute, Branch, Short, Full, Cycle, ScheduleOf, Start, TaskAt, MessageAt, TableOf, Absent, End, text_of}
use Rattle.proof_tree.specs.Names.{tasks_in, messages_in, name_of}

-- ---- trees

-- a node
abbrev pub node_item : Node → Item
node_item branch = Branch
node_item short = Short
node_item (full round) = Full round
node_item (cycle refs) = Cycle refs

-- a node as it is stored
abbrev pub stored_item : List ℕ → TreeNode → Item
stored_item refs node = node_item (node_of refs node)

-- a tree: its nodes in preorder
abbrev pub tree_items : Tree → List Item
tree_items tree = map (stored_item tree.refs) tree.nodes

-- ---- schedules

-- a task, and the offset of its first run
abbrev pub task_item : Task × ℤ → Item
task_item p = TaskAt p.0.name (unsigned_abs p.1)

-- a message, and where its first window opens and closes
abbrev pub message_item : Message × (ℤ × ℤ) → Item
message_item p = MessageAt p.0.name (unsigned_abs p.1.0) (unsigned_abs p.1.1)

-- the number of a round, and its table
abbrev pub table_item : List Message → ℕ × List ℕ → Item
table_item messages p = TableOf p.0 (map (name_of messages) p.1)

-- a schedule: its starts, its tasks and messages in file order, and its tables from round 1 on
abbrev pub schedule_items : Mode → Schedule → List Item
schedule_items mode s =
    ScheduleOf (length s.starts)
    ∷ Start (map unsigned_abs s.starts)
    ∷ (map task_item (zip (tasks_in mode.apps) s.tasks)
    ++ (map message_item (zip (messages_in mode.apps) s.messages)
    ++ map (table_item (messages_in mode.apps)) (enumerate_from 1 s.tables)))

-- ---- documents

-- a number of rounds, and the tree for it
abbrev pub refuted_items : ℕ × Tree → List Item
refuted_items p = Refute p.0 ∷ tree_items p.1

-- the schedule of a mode, or that it has none
abbrev pub answer_items : Mode → Option Schedule → List Item
answer_items mode None = Absent ∷ []
answer_items mode (Some s) = schedule_items mode s

-- a mode and its part: its trees from 1 round on, and its answer
abbrev pub part_items : Mode × ModePart → List Item
part_items p = ModeNamed p.0.name ∷ (flat_map refuted_items (enumerate_from 1 p.1.refuted) ++ answer_items p.0 p.1.schedule)

-- a document: the modes of the set in file order, each with its part
abbrev pub plan_items : ModeSet → List ModePart → List Item
plan_items set parts = Head ∷ (flat_map part_items (zip set.modes parts) ++ (End ∷ []))

-- the text of a document
abbrev pub plan_text : ModeSet → List ModePart → List ℕ
plan_text set parts = text_of (plan_items set parts)
