use Rattle.std.proofs.Common.{◌≡◌, ◌++◌, drop, take, sum_by}
use Rattle.app_graph.specs.Numbering.{modes_from, task_count, message_count}
use Rattle.app_graph.proofs.numbering.number_modes.Given as goal

abbrev pub invariant-loop-mode : goal.invariant-loop-mode
invariant-loop-mode l = record {
  rest : l.numbered.items ++ modes_from l.nodes l.next_task l.next_message (drop l.mode-index l.mode-items) ≡ modes_from l.nodes 0 0 l.mode-items;
  tasks : l.next_task ≡ sum_by task_count (take l.mode-index l.mode-items);
  messages : l.next_message ≡ sum_by message_count (take l.mode-index l.mode-items);
}
