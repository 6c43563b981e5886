use Rattle.std.proofs.Common.{◌≡◌, length, map, take}
use Rattle.sched_model.specs.PlainMode.{plain_at}
use Rattle.sched_model.specs.Links.{link_of}
use Rattle.sched_model.proofs.links.TaskGraph.of.Given as goal

abbrev pub invariant-loop-place : goal.invariant-loop-place
invariant-loop-place l = record {
  size : length l.links ≡ length l.initial.links;
  front : take l.place l.links ≡ map (link_of (length (plain_at l.set l.mode).tasks)) (take l.place (plain_at l.set l.mode).messages);
}
