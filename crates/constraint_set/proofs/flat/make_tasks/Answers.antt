use Rattle.constraint_set.proofs.FlatLists.{tasks_step}
use Rattle.constraint_set.proofs.flat.make_tasks.Goals as goal

pub loop-place-preserved : goal.loop-place-preserved
loop-place-preserved c =
    tasks_step c.loop-place.tasks.items c.add_tasks.new.tasks.items c.loop-place.place c.args.apps.now c.index-apps-place.result
    c.loop-place-test.true c.index-apps-place.is c.in_ok-add_tasks.ensures _ c.loop-place.invariant
