-- A world before its first event
use Rattle.std.specs.Prelude.{ℕ, List}
use Rattle.runtime_model.specs.NodeTables.{part_of}
use Rattle.runtime_model.specs.Plans.{Plan}
use Rattle.node_tables.specs.Parts.{typed_table}
use Rattle.world_core.specs.declared.state.State.{State}
use Rattle.world_core.specs.declared.state.State.TheVariants.{Listens}

-- node v, which listens with its part of the plans
abbrev pub listener : List Plan → ℕ → State
listener plans v = Listens (typed_table (part_of plans v))
