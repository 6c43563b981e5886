use Rattle.std.proofs.Common.{◌≡◌, ◌≤◌, length, drop}
use Rattle.node_core.specs.Registers.{values_of}
use Rattle.node_core.proofs.RegisterLemmas.{before}
use Rattle.node_core.proofs.registers.Registers.values_of.Given as goal

-- the values so far, then those of the rest, are all; there is one for each task so far
abbrev pub invariant-loop-task : goal.invariant-loop-task
invariant-loop-task l = record { so_far : before l.values (values_of l.self (drop l.task-index l.tasks)) ≡ values_of l.self l.tasks; count : length l.values ≤ l.task-index }
