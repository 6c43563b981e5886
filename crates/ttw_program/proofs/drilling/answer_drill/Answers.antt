use Rattle.std.proofs.Common.{map, refl, sym}
use Rattle.ttw_program.proofs.DrillAnswers.{no_body_due, set_due}
use Rattle.ttw_program.proofs.drilling.answer_drill.Goals as goal

pub returns-in-Some : goal.returns-in-Some
returns-in-Some g c =
    let bodies = map (λ b. (goal.TaskBody-dyn g (b.vtable, b.value)).seen b.value) c.args.bodies.now.items in
    no_body_due c.args.seed c.in_ok-set.set bodies c.in-Some.task c.no_body.result c.in_ok-set.ensures.set (sym c.in-Some.ensures.first) c.no_body.ensures.status c.no_body.ensures.text

pub drill_set-requires-clause-bodies : goal.drill_set-requires-clause-bodies
drill_set-requires-clause-bodies g c = c.in-None.ensures.complete.0 refl

pub returns : goal.returns
returns g c =
    let bodies = map (λ b. (goal.TaskBody-dyn g (b.vtable, b.value)).seen b.value) c.args.bodies.now.items in
    set_due c.args.seed c.in_ok-set.set bodies c.drill_set.result c.in_ok-set.ensures.set (c.in-None.ensures.complete.0 refl) c.drill_set.ensures
