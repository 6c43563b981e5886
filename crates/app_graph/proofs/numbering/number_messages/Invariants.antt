use Rattle.std.proofs.Common.{◌≡◌, ◌+◌, ◌++◌, drop}
use Rattle.app_graph.specs.Numbering.{messages_from}
use Rattle.app_graph.proofs.numbering.number_messages.Given as goal

abbrev pub invariant-loop-i : goal.invariant-loop-i
invariant-loop-i l = l.numbered.items ++ messages_from l.first l.tasks (l.number + l.i) (drop l.i l.messages) ≡ messages_from l.first l.tasks l.number l.messages
