use Rattle.std.proofs.Common.{◌≡◌, take, fold}
use Rattle.task_body.specs.Tally.{plus_input}
use Rattle.task_body.proofs.tally.total.Given as goal

-- the sum has the inputs so far
abbrev pub invariant-loop-input : goal.invariant-loop-input
invariant-loop-input l = l.sum ≡ fold plus_input l.number (take l.input-index l.inputs)
