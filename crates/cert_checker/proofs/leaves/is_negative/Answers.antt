use Rattle.std.proofs.Common.{ℕ, List, ◌∷◌, map, sym, ap, ◌∙◌}
use Rattle.proof_tree.specs.Grammar.{value}
use Rattle.proof_tree.specs.TreeLines.{is_negative}
use Rattle.cert_checker.proofs.Cycles.{begun}
use Rattle.cert_checker.proofs.leaves.is_negative.Goals as goal

pub returns-in-Some-constraint_at : goal.returns-in-Some-constraint_at
returns-in-Some-constraint_at c =
    let first = c.in-Some-constraint_at.first in
    let is = map value c.next.new.self in
    c.leads_back.ensures
    ∙ sym (begun c.args.list.now c.value.result is first c.in-Some-constraint_at.ensures.some.0 c.in-Some-constraint_at.ensures.some.1)
    ∙ ap (λ (n : ℕ). is_negative c.args.list.now (n ∷ is)) c.value.ensures.number
    ∙ ap (λ (ws : List (List ℕ)). is_negative c.args.list.now (map value ws)) (sym c.in-Some.ensures.steps ∙ c.again-left.ensures)
