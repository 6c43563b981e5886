use Rattle.sched_model.specs.PlainMode.{message_at}
use Rattle.sched_model.specs.PrintedSchedule.{names}
use Rattle.constraint_set.proofs.TableLemmas.{next_serves, table_step}
use Rattle.constraint_set.proofs.schedule.make_table.Goals as goal

pub loop-message-preserved : goal.loop-message-preserved
loop-message-preserved c = record {
  first = next_serves c.args.frame.now c.loop-message.message c.loop-message.first c.in_ok-first.first c.loop-message.invariant.first c.in_ok-first.ensures.0;
  numbers = table_step (λ i. (message_at c.args.frame.now i).number) (names c.args.frame.now c.args.rounds c.args.choices.now c.args.round) c.loop-message.message c.loop-message.numbers.items c.add_named.new.numbers.items c.loop-message.invariant.numbers c.in_ok-first.ensures.1;
}
