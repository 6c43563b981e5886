use Rattle.std.proofs.Common.{◌≡◌, take}
use Rattle.sched_model.specs.Links.{back_from}
use Rattle.sched_model.proofs.links.back.Given as goal

abbrev pub invariant-loop-link : goal.invariant-loop-link
invariant-loop-link l = l.next ≡ back_from (take l.link-index l.links) l.marked l.own
