use Rattle.std.proofs.Common.{[], ◌∙◌, ap, List, ◌++◌, ◌∷◌, ℕ}
use Rattle.sched_model.specs.PrintedSchedule.{table_of}
use Rattle.constraint_set.proofs.BaseLists.{map_step}
use Rattle.constraint_set.proofs.schedule.make_tables.Goals as goal

pub loop-round-preserved : goal.loop-round-preserved
loop-round-preserved c =
    map_step (table_of c.args.frame.now c.args.rounds c.args.choices.now) c.loop-round.round [] c.loop-round.tables.items c.push.new.self.items c.loop-round.invariant
    (c.in_ok-push.ensures.items ∙ ap (λ (t : List ℕ). c.loop-round.tables.items ++ t ∷ []) c.in_ok-make_table.ensures)
