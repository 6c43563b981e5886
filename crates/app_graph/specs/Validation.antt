-- What validation answers, and what each mode set keeps
use Rattle.std.specs.Prelude.{◌≡◌, None, Result, Ok, Err}
use Rattle.app_graph.specs.declared.faults.GraphFault.{GraphFault}
use Rattle.app_graph.specs.declared.raw.RawSet.{RawSet}
use Rattle.app_graph.specs.declared.mode_set.ModeSet.{ModeSet}
use Rattle.app_graph.specs.Checks.{Breaks}
use Rattle.app_graph.specs.ValueRules.{value_rules}
use Rattle.app_graph.specs.Numbering.{set_of}

-- the set that the file says where it breaks no rule, and else the fault of the first broken one
abbrev pub Validates : RawSet → Result ModeSet GraphFault → Type 0
Validates raw (Ok set) = (value_rules raw ≡ None) × (set ≡ set_of raw)
Validates raw (Err fault) = Breaks fault (value_rules raw)

-- the set is that of some file that breaks no rule: its names are distinct, its numbers within their ranges,
-- its graphs without a cycle, and its tasks and messages are numbered over the whole file
abbrev pub KeepsRules : ModeSet → Type 0
KeepsRules set = (raw : RawSet) × (value_rules raw ≡ None) × (set ≡ set_of raw)
