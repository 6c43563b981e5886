use Rattle.std.proofs.Common.{◌≡◌, ◌++◌, take, map}
use Rattle.std.specs.List.{flat_map}
use Rattle.node_tables.specs.OwnParts.{message_part, message_row}
use Rattle.node_tables.proofs.rows.add_messages.Given as goal

abbrev pub invariant-loop-message : goal.invariant-loop-message
invariant-loop-message l = record {
  own : l.messages.own.items ≡ l.initial.messages.own.items ++ flat_map (message_part l.tasks l.node) (take l.message-index l.message-items);
  rows : l.messages.rows.items ≡ l.initial.messages.rows.items ++ map (message_row l.tasks l.node l.app) (take l.message-index l.message-items);
}
