use Rattle.std.proofs.Common.{◌≡◌, take}
use Rattle.app_graph.specs.Masks.{mask_of}
use Rattle.app_graph.specs.ValueRules.{among}
use Rattle.replay_script.proofs.naming.lost_nodes.Given as goal

abbrev pub invariant-loop-place : goal.invariant-loop-place
invariant-loop-place l = l.bits ≡ mask_of (λ node. among node l.names) (take l.place l.set.nodes)
