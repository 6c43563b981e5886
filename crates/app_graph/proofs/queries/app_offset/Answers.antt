use Rattle.std.proofs.Common.{◌≡◌, ◌∙◌, ℤ, Some, List, sym, ap, rules, eq-eqb, w64}
use Rattle.std.proofs.lemmas.Int.{to_z-of_z}
use mir.Val.{SFits}
use Rattle.app_graph.specs.declared.mode_set.Task.{Task}
use Rattle.app_graph.specs.Queries.{latest, offset_in_app}
use Rattle.app_graph.proofs.Numbered.{offset_here}
use Rattle.app_graph.proofs.queries.app_offset.Goals as goal

pub returns-then-candidate-task : goal.returns-then-candidate-task
returns-then-candidate-task c =
    let period : SFits w64 c.args.app.now.period = search rules in
    let deadline : SFits w64 c.args.app.now.deadline = search rules in
    let wcet : SFits w64 c.candidate-item.result.wcet = search rules in
    let value : c.latest_start.result ≡ latest c.args.app.now c.candidate-item.result = simp to_z-of_z at c.latest_start.ensures in
    let fits : SFits w64 c.latest_start.result = search rules in
    ap (λ (z : ℤ). Some z) (to_z-of_z w64 c.latest_start.result fits ∙ value)
    ∙ sym (offset_here c.args.task c.args.app.now c.as_slice-candidate-items.result.now c.loop-candidate.candidate-index c.candidate-item.result c.loop-candidate-test.true c.candidate-item.is
    (eq-eqb c.candidate-item.result.number c.args.task c.if-candidate-task.true))
    ∙ c.loop-candidate.invariant
    ∙ ap (λ (ts : List Task). offset_in_app c.args.task c.args.app.now ts) c.as_slice-candidate-items.ensures
