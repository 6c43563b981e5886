use Rattle.std.proofs.Common.{◌≡◌, take, filter}
use Rattle.node_tables.specs.OwnParts.{is_on}
use Rattle.node_tables.proofs.rows.those_on.Given as goal

abbrev pub invariant-loop-number : goal.invariant-loop-number
invariant-loop-number l = l.own.items ≡ filter (is_on l.tasks l.node) (take l.number-index l.numbers)
