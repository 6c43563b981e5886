use Rattle.std.proofs.Common.{◌≡◌, ◌+◌, length, drop}
use Rattle.sched_model.specs.Rows.{messages_in}
use Rattle.sched_model.proofs.rows.count_messages.Given as goal

abbrev pub invariant-loop-app : goal.invariant-loop-app
invariant-loop-app l = l.count + length (messages_in (drop l.app-index l.apps)) ≡ length (messages_in l.apps)
