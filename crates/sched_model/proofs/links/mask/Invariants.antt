use Rattle.std.proofs.Common.{◌≡◌, length, map, take}
use Rattle.sched_model.specs.Rows.{tasks_in, place_in}
use Rattle.sched_model.specs.Links.{set_of}
use Rattle.sched_model.proofs.links.mask.Given as goal

abbrev pub invariant-loop-number : goal.invariant-loop-number
invariant-loop-number l = l.mask ≡ set_of (length (tasks_in l.apps)) (map (place_in (tasks_in l.apps)) (take l.number-index l.numbers))
