-- Laws of plan documents.
use Rattle.std.specs.Prelude.{◌≡◌, ◌↔◌, ℕ, ◌≤◌, ◌⊎◌, true, List, ◌∷◌, ◌++◌, length, map, Option, Some, None, ⊤, [], ◌+◌}
use Rattle.std.specs.List.{AllZip, AllByRecursion, join_with_byte, flat_map, enumerate_from}
use Rattle.app_graph.specs.declared.mode_set.ModeSet.{ModeSet}
use Rattle.app_graph.specs.declared.mode_set.Mode.{Mode}
use Rattle.app_graph.specs.Validation.{KeepsRules}
use Rattle.sched_model.specs.PlainMode.{PlainMode, most_rounds, plain_mode}
use Rattle.sched_model.specs.RightSchedule.{IsSchedule}
use Rattle.sched_model.specs.declared.schedule.Schedule.{Schedule}
use Rattle.sched_model.specs.ValidMode.{IsValid}
use Rattle.sched_model.specs.ModeLimits.{IsLimited}
use Rattle.sched_model.specs.SearchCost.{Cost}
use Rattle.sched_model.specs.RefutationTree.{ValidTree, OwnTree}
use Rattle.proof_tree.specs.declared.tree.Tree.{Tree}
use Rattle.proof_tree.specs.declared.tree.ModePart.{ModePart}
use Rattle.proof_tree.specs.PlanText.{tree_items, refuted_items, plan_items, plan_text}
use Rattle.proof_tree.specs.TreeLines.{Items, TreeStands, TreesFrom}
use Rattle.proof_tree.specs.Items.{Item, first_word, other_words, text_of}
use Rattle.proof_tree.specs.Spelled.{is_writable}
use Rattle.proof_tree.specs.Accepting.{doc_modes, Accepts, items_of, limit, longest}
use Rattle.proof_tree.specs.Reading.{Refusal}
use Rattle.proof_tree.specs.Refusing.{Refuses}
use Rattle.proof_tree.specs.Fewest.{IsBest}
use Rattle.proof_tree.specs.OwnDocument.{OwnPart, OwnDoc}

-- one has the property, and no other
abbrev pub HasOne : {A : Type 0} → (A → Type 0) → Type 0
HasOne {A} P = (x : A) × P x × ((y : A) → P y → y ≡ x)

-- a document is accepted with one list of plans and not refused, or refused with one refusal and not accepted
abbrev pub OneAnswers : Type 0
OneAnswers = (set : ModeSet) (bytes : List ℕ) → KeepsRules set →
    (HasOne (Accepts set bytes) × ((f : Refusal) → ¬ (Refuses set bytes f)))
    ⊎ (HasOne (Refuses set bytes) × ((plans : List (Option Schedule)) → ¬ (Accepts set bytes plans)))

-- an accepted schedule has the fewest rounds, and where a mode has none, none is right
abbrev pub AcceptedAreBest : Type 0
AcceptedAreBest = (set : ModeSet) (bytes : List ℕ) (plans : List (Option Schedule)) → KeepsRules set → Accepts set bytes plans → AllZip IsBest (doc_modes set) plans

-- what a line says is writable, in a line that is not too long
pub record HasRoom (item : Item) : Type 0 where
  pub writable : is_writable item ≡ true
  pub short : length (join_with_byte 32 (first_word item ∷ other_words item)) ≤ longest

-- the text of lines is read back, line by line, where it is within the limits
abbrev pub TextsAreRead : Type 0
TextsAreRead = (items : List Item) → AllByRecursion HasRoom items → length (text_of items) ≤ limit → items_of (text_of items) ≡ map Some items

-- valid trees for r rounds, r + 1 rounds and so on
abbrev pub ValidTreesFrom : PlainMode → ℕ → List Tree → Type 0
ValidTreesFrom m r [] = ⊤
ValidTreesFrom m r (tree ∷ trees) = ValidTree m r tree.nodes tree.refs × ValidTreesFrom m (r + 1) trees

-- the lines are those of a valid tree for r rounds, and then the rest
pub record HasTree (m : PlainMode) (r : ℕ) (lines rest : Items) : Type 0 where
  pub tree : Tree
  pub valid : ValidTree m r tree.nodes tree.refs
  pub said : lines ≡ map (λ item. Some item) (tree_items tree) ++ rest

-- the lines of a valid tree stand for it, whatever comes behind them
abbrev pub TreesStand : Type 0
TreesStand = (m : PlainMode) (r : ℕ) (tree : Tree) (rest : Items) → ValidTree m r tree.nodes tree.refs → TreeStands m r (map (λ item. Some item) (tree_items tree) ++ rest) rest

-- the lines of valid trees, each behind the line with its number, stand for them
abbrev pub ListsStand : Type 0
ListsStand = (m : PlainMode) (r : ℕ) (trees : List Tree) (rest : Items) → ValidTreesFrom m r trees →
    TreesFrom m r (length trees) (map (λ item. Some item) (flat_map refuted_items (enumerate_from r trees)) ++ rest) rest

-- lines begin with a valid tree exactly where they are the lines of some nodes and numbers that are a valid tree, and then the rest
abbrev pub TreesAreValid : Type 0
TreesAreValid = (m : PlainMode) (r : ℕ) (lines rest : Items) → TreeStands m r lines rest ↔ HasTree m r lines rest

-- each line of an own tree, and the line before them, has room
abbrev pub OwnTreesHaveRoom : Type 0
OwnTreesHaveRoom = (m : PlainMode) (r : ℕ) (tree : Tree) → IsValid m → IsLimited m → 1 ≤ r → r ≤ most_rounds m → OwnTree m r tree.nodes tree.refs → AllByRecursion HasRoom (refuted_items (r, tree))

-- r rounds are due: a right schedule of r rounds, or none, where there is room for fewer than r
abbrev pub RightAnswer : PlainMode → ℕ → Option Schedule → Type 0
RightAnswer m r None = r ≡ most_rounds m + 1
RightAnswer m r (Some s) = IsSchedule m r s

-- a mode's part: valid trees for 1 round, 2 rounds and so on, and the answer for the next number
pub record IsRightPart (set : ModeSet) (mode : Mode) (part : ModePart) : Type 0 where
  pub trees : ValidTreesFrom (plain_mode set mode) 1 part.refuted
  pub answer : RightAnswer (plain_mode set mode) (length part.refuted + 1) part.schedule

-- the document of right parts is accepted with their schedules, where it is within the limits
abbrev pub RightPartsAreAccepted : Type 0
RightPartsAreAccepted = (set : ModeSet) (parts : List ModePart) → KeepsRules set → AllZip (IsRightPart set) set.modes parts →
    AllByRecursion HasRoom (plan_items set parts) → length (plan_text set parts) ≤ limit → Accepts set (plan_text set parts) (map (λ part. part.schedule) parts)

-- own parts are right, each of their lines has room, and they make a document of the search where it is not too long
abbrev pub OwnPartsMakeDocuments : Type 0
OwnPartsMakeDocuments = (set : ModeSet) (parts : List ModePart) → KeepsRules set → AllZip (OwnPart set) set.modes parts →
    AllZip (IsRightPart set) set.modes parts
    × AllByRecursion HasRoom (plan_items set parts)
    × (length (plan_text set parts) ≤ limit → OwnDoc set (plan_text set parts))

-- the search of the mode visits at most 100,000 prefixes
abbrev pub WithinBudget : ModeSet → Mode → Type 0
WithinBudget set mode = (c : ℕ) × Cost (plain_mode set mode) c × (c ≤ 100000)

-- the document of own parts is one of the search, and so it is accepted, where each of the searches keeps within the greatest budget:
-- it has few lines beside those of the visited prefixes
abbrev pub OwnDocumentsHaveRoom : Type 0
OwnDocumentsHaveRoom = (set : ModeSet) (parts : List ModePart) → KeepsRules set → AllZip (OwnPart set) set.modes parts → AllByRecursion (WithinBudget set) set.modes → OwnDoc set (plan_text set parts)
