use Rattle.std.proofs.Common.{◌≡◌, ◌*◌, take, sum_by}
use Rattle.sched_model.proofs.numbers.copies_in.Given as goal

abbrev pub invariant-loop-message : goal.invariant-loop-message
invariant-loop-message l = l.total ≡ sum_by (λ m. m.copies * l.each) (take l.message-index l.messages)
