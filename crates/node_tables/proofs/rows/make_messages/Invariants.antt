use Rattle.std.proofs.Common.{◌≡◌, take}
use Rattle.node_tables.specs.OwnParts.{messages_kept, message_rows}
use Rattle.node_tables.proofs.rows.make_messages.Given as goal

abbrev pub invariant-loop-app : goal.invariant-loop-app
invariant-loop-app l = record {
  own : l.messages.own.items ≡ messages_kept l.tasks l.node (take l.app-index l.apps);
  rows : l.messages.rows.items ≡ message_rows l.tasks l.node (take l.app-index l.apps);
}
