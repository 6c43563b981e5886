use Rattle.std.proofs.Common.{◌≡◌, length, map}
use Rattle.app_graph.specs.Masks.{mask_of}
use Rattle.sched_model.specs.Numbers.{below}
use Rattle.sched_model.specs.PlainMode.{PlainMode}
use Rattle.sched_model.specs.TaskGraph.{reaches_in}
use Rattle.sched_model.specs.Links.{link_of}
use Rattle.sched_model.proofs.links.sources.Given as goal

abbrev pub invariant-loop-edge : goal.invariant-loop-edge
invariant-loop-edge l = (m : PlainMode) → length m.tasks ≡ l.count → l.links ≡ map (link_of l.count) m.messages →
    l.marked ≡ mask_of (λ a. reaches_in l._edge m a l.target) (below (length m.tasks))
