use Rattle.std.proofs.Common.{◌≡◌, ◌+◌, ◌++◌, drop, take, length, sum_by}
use Rattle.app_graph.specs.Numbering.{apps_from}
use Rattle.app_graph.proofs.numbering.number_apps.Given as goal

abbrev pub invariant-loop-app : goal.invariant-loop-app
invariant-loop-app l = record {
  rest : l.numbered.items ++ apps_from l.nodes l.next_task l.next_message (drop l.app-index l.app-items) ≡ apps_from l.nodes l.task l.message l.app-items;
  tasks : l.next_task ≡ l.task + sum_by (λ a. length a.tasks) (take l.app-index l.app-items);
  messages : l.next_message ≡ l.message + sum_by (λ a. length a.messages) (take l.app-index l.app-items);
}
