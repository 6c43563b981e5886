use Rattle.std.proofs.Common.{length, arith}
use Rattle.sched_model.specs.Rows.{tasks_in, place_in}
use Rattle.sched_model.proofs.TaskSets.{no_places, more_places}
use Rattle.sched_model.proofs.links.mask.Goals as goal

pub loop-number-init : goal.loop-number-init
loop-number-init c = no_places (place_in (tasks_in c.args.apps.now)) (length (tasks_in c.args.apps.now))

pub loop-number-preserved : goal.loop-number-preserved
loop-number-preserved c =
    let known = c.requires.known c.loop-number.number-index 0 (omega arith) in
    more_places (place_in (tasks_in c.args.apps.now)) c.args.numbers.now c.loop-number.number-index c.place_of.result (length (tasks_in c.args.apps.now)) c.loop-number.mask
    (omega arith) c.place_of.ensures (omega (arith, known, c.place_of.ensures)) c.requires.few c.loop-number.invariant
