use Rattle.std.proofs.Common.{◌+◌, subst, List, ℤ}
use Rattle.world_core.specs.Due.{IsQuiet}
use Rattle.world_core.proofs.CycleLemmas.{due_step}
use Rattle.world_core.proofs.cycle.due_before.Goals as goal

pub loop-tick-preserved : goal.loop-tick-preserved
loop-tick-preserved c = record {
  entries = due_step c.args.tasks.now c.args.schedule.now c.loop-tick.tick c.next_due-tick.result c.loop-tick.entries.items c.add_tick.new.entries.items
      c.loop-tick.invariant.entries c.in_ok-add_tick.ensures c.next_due-tick.ensures.from
      (subst (λ (z : List ℤ). IsQuiet c.args.tasks.now z (c.loop-tick.tick + 1) c.next_due-tick.result) c.as_slice.ensures c.next_due-tick.ensures.quiet);
  within = c.next_due-tick.ensures.most;
}
