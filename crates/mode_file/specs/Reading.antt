-- What a mode file says, and the fault of the first rule that it breaks
use Rattle.std.specs.Prelude.{◌≡◌, ◌⊎◌, ℕ, List, [], ◌∷◌, length, Option, None, Some, is_some, option_map, unwrap_or, if◌then◌else◌, nat_le, Result, Ok, Err}
use Rattle.std.specs.Str.{is_utf8}
use Rattle.toml.specs.Data.{Members, no_members}
use Rattle.toml.specs.Parse.{parse_document}
use Rattle.app_graph.specs.declared.raw.RawSet.{RawSet}
use Rattle.app_graph.specs.declared.mode_set.ModeSet.{ModeSet}
use Rattle.app_graph.specs.Rules.{Rule, unless, first_of}
use Rattle.app_graph.specs.ValueRules.{value_rules}
use Rattle.app_graph.specs.Numbering.{set_of}
use Rattle.mode_file.specs.declared.faults.FileFault.{FileFault}
use Rattle.mode_file.specs.declared.faults.FileFault.TheVariants.{TooLong, NotToml}
use Rattle.mode_file.specs.Faults.{of_graph}
use Rattle.mode_file.specs.Tables.{table_rules, raw_set}
use Rattle.mode_file.specs.Walks.{Breaks}

-- the top table of the text, where it is TOML: UTF-8 that the grammar and the rules for tables of TOML take
abbrev pub document : List ℕ → Option Members
document bytes = if is_utf8 bytes then parse_document bytes else None

-- the top table, where there is one
abbrev pub top_table : List ℕ → Members
top_table bytes = unwrap_or (document bytes) no_members

abbrev pub toml_rule : List ℕ → Rule FileFault
toml_rule bytes = unless (is_some (document bytes)) NotToml

-- the rules on the file and its tables
abbrev pub entering_rules : List ℕ → Rule FileFault
entering_rules bytes = first_of (unless (nat_le (length bytes) 1048576) TooLong ∷ toml_rule bytes ∷ table_rules (top_table bytes) ∷ [])

-- what the tables say, as it is written
abbrev pub raw_of : List ℕ → RawSet
raw_of bytes = raw_set (top_table bytes)

-- the rules on the file and its tables, and then those on values and graphs
abbrev pub file_rules : List ℕ → Rule FileFault
file_rules bytes = first_of (entering_rules bytes ∷ option_map of_graph (value_rules (raw_of bytes)) ∷ [])

-- the fault is that of the first broken rule
abbrev pub Broken : List ℕ → FileFault → Type 0
Broken bytes fault = file_rules bytes ≡ Some fault

-- no rule is broken, and the set is what the document says
abbrev pub Reads : List ℕ → ModeSet → Type 0
Reads bytes set = (file_rules bytes ≡ None) × (set ≡ set_of (raw_of bytes))

-- the set that the file says, or the fault of the first broken rule, unless memory ran out
abbrev pub IsReading : List ℕ → Result ModeSet FileFault → Type 0
IsReading bytes (Ok set) = Reads bytes set
IsReading bytes (Err fault) = Breaks fault (file_rules bytes)

-- a file says exactly one set, or has exactly one fault
pub record HasOneReading (bytes : List ℕ) : Type 0 where
  pub some : ((set : ModeSet) × Reads bytes set) ⊎ ((fault : FileFault) × Broken bytes fault)
  pub one_set : (a b : ModeSet) → Reads bytes a → Reads bytes b → a ≡ b
  pub one_fault : (a b : FileFault) → Broken bytes a → Broken bytes b → a ≡ b
  pub not_both : (set : ModeSet) (fault : FileFault) → Reads bytes set → Broken bytes fault → ⊥
