-- What a line leads to, and what refuses a document at a line or at its end
use Rattle.std.proofs.Common.{◌≡◌, ℕ, ◌+◌, List, [], ◌∷◌, length, refl, ap}
use Rattle.std.specs.Prelude.{Option, None}
use Rattle.app_graph.specs.declared.mode_set.ModeSet.{ModeSet}
use Rattle.proof_tree.specs.Items.{Item}
use Rattle.proof_tree.specs.Accepting.{Accepts, doc_modes, items_of}
use Rattle.proof_tree.specs.Reading.{read_document}
use Rattle.cert_checker.specs.declared.refused.Refused.TheVariants as refused
use Rattle.cert_checker.specs.declared.stages.Stage.TheVariants.{Nothing}
use Rattle.cert_checker.specs.declared.checker.Checker.{Checker}
use Rattle.cert_checker.specs.DocumentLines.{line_read, items_left}
use Rattle.cert_checker.specs.DocumentStages.{Refutes, document_due}
use Rattle.cert_checker.specs.Machine.{IsReady, leads}
use Rattle.cert_checker.proofs.DocumentLaws.{halts_refutes}
use Rattle.cert_checker.proofs.Unread.{accepts_from, unread_halts}

-- what a line leads to that says this
pub line_leads : (set : ModeSet) (c : Checker) (bytes : List ℕ) (rest : List (List ℕ)) (item : Option Item) → line_read (c.place + length bytes) bytes ≡ item →
    leads set c (bytes ∷ rest) ≡ document_due set c.plans.items c.stage (record { line = c.line; rest = item ∷ items_left (c.place + length bytes) rest })
line_leads set c bytes rest item e = ap (λ (o : Option Item). document_due set c.plans.items c.stage (record { line = c.line; rest = o ∷ items_left (c.place + length bytes) rest })) e

-- a line without a form is refused
pub line_refutes : (set : ModeSet) (c : Checker) (bytes : List ℕ) (rest : List (List ℕ)) → IsReady set c → line_read (c.place + length bytes) bytes ≡ None → Refutes set (refused.Grammar c.line) (leads set c (bytes ∷ rest))
line_refutes set c bytes rest ready none =
    let item = line_read (c.place + length bytes) bytes in
    let behind = items_left (c.place + length bytes) rest in
    halts_refutes set c.plans.items c.stage (record { line = c.line; rest = item ∷ behind }) (refused.Grammar c.line) ready.right
    (unread_halts set c.plans.items c.stage c.line (item ∷ behind) ready.stage none (λ _. (item, behind, refl)))

-- the document's end is refused where a line is due
pub end_refutes : (set : ModeSet) (c : Checker) → IsReady set c → (c.stage ≡ Nothing → ⊥) → Refutes set (refused.Grammar c.line) (leads set c [])
end_refutes set c ready due =
    halts_refutes set c.plans.items c.stage (record { line = c.line; rest = [] }) (refused.Grammar c.line) ready.right
    (unread_halts set c.plans.items c.stage c.line [] ready.stage refl (λ end. absurd (due end)))

-- and accepted where none is
pub end_accepts : (set : ModeSet) (text : List ℕ) (c : Checker) → IsReady set c → read_document (doc_modes set) (items_of text) ≡ leads set c [] → c.stage ≡ Nothing → Accepts set text c.plans.items
end_accepts set text c ready goes end = accepts_from set text c.plans.items c.stage c.line [] goes ready.right ready.stage end refl
