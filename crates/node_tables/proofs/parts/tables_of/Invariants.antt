use Rattle.std.proofs.Common.{◌≡◌, ◌+◌, ◌*◌, ◌≤◌, ◌++◌, map}
use Rattle.runtime_model.specs.NodeTables.{mode_tables}
use Rattle.runtime_model.specs.Plans.{plans_of}
use Rattle.node_tables.specs.Parts.{typed_mode}
use Rattle.node_tables.proofs.WholeTables.{parts_from}
use Rattle.node_tables.proofs.parts.tables_of.Given as goal

abbrev pub invariant-loop-mode : goal.invariant-loop-mode
invariant-loop-mode l = record {
  modes : l.modes.items ++ parts_from l.node l.first_round l.mode (plans_of l.set l.plans) ≡ map typed_mode (mode_tables l.node 1 (plans_of l.set l.plans));
  first : l.first_round ≤ 256 * l.mode + 1;
}
