-- The states of nodes as the runtime's definitions have them
use Rattle.std.specs.Prelude.{◌≡◌, cond}
use Rattle.runtime_model.specs.NodeKinds.{NodeKind, listening, in_sync, coasting, missed}
use Rattle.node_core.specs.declared.states.Missed.{Missed}
use Rattle.node_core.specs.declared.states.Missed.TheVariants.{Coasted, StoodDown}
use Rattle.node_core.specs.Running.{RunningNode}
use Rattle.node_core.specs.Rules.{announced, coasted}

-- what a Synced node is after a miss
abbrev pub after_miss : RunningNode → Missed
after_miss n = cond (announced n) (StoodDown n.table) (Coasted (coasted n))

-- the state of a node after a miss
abbrev pub kind_of : Missed → NodeKind
kind_of (Coasted n) = coasting
kind_of (StoodDown t) = listening

-- a Synced node misses a beacon by the rule of the runtime's states
abbrev pub MissesByTheRule : Type 0
MissesByTheRule = (n : RunningNode) → kind_of (after_miss n) ≡ missed (in_sync (announced n))
