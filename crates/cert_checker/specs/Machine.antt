-- The checker between two lines of a document
use Rattle.std.specs.Prelude.{ℕ, ◌+◌, ◌≤◌, List}
use Rattle.app_graph.specs.declared.mode_set.ModeSet.{ModeSet}
use Rattle.proof_tree.specs.Accepting.{doc_modes, limit}
use Rattle.proof_tree.specs.Reading.{Reading}
use Rattle.cert_checker.specs.declared.checker.Checker.{Checker}
use Rattle.cert_checker.specs.DocumentLines.{items_left}
use Rattle.cert_checker.specs.DocumentStages.{FrontRight, IsStage, document_due}

-- what a document gives of which these lines are still to come
abbrev pub leads : ModeSet → Checker → List (List ℕ) → Reading
leads set c rest = document_due set c.plans.items c.stage (record { line = c.line; rest = items_left c.place rest })

-- what is known of the checker
pub record IsReady (set : ModeSet) (c : Checker) : Type 0 where
  pub stage : IsStage set c.plans.items c.stage
  pub right : FrontRight (doc_modes set) c.plans.items
  pub within : c.place ≤ limit
  pub line : c.line ≤ c.place + 1
