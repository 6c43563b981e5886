use Rattle.std.proofs.Common.{◌≡◌, take, fold}
use Rattle.task_body.specs.Hold.{held}
use Rattle.task_body.proofs.hold.last_of.Given as goal

-- the number is the last input so far
abbrev pub invariant-loop-input : goal.invariant-loop-input
invariant-loop-input l = l.last ≡ fold held l.number (take l.input-index l.inputs)
