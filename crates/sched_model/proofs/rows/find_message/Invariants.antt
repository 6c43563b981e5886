use Rattle.std.proofs.Common.{◌≡◌, ◌<◌, length, drop}
use Rattle.sched_model.specs.Rows.{messages_in, message_in}
use Rattle.sched_model.proofs.rows.find_message.Given as goal

abbrev pub invariant-loop-app : goal.invariant-loop-app
invariant-loop-app l = record {
  within : l.left < length (messages_in (drop l.app-index l.apps));
  same : message_in (drop l.app-index l.apps) l.left ≡ message_in l.apps l.place;
}
