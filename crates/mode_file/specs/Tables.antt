-- Entering the tables of a mode file: their rules, and what they say
use Rattle.std.specs.Prelude.{ℕ, ℤ, pos, List, [], ◌∷◌, Bool, true, false, not, Option, Some, None, if◌then◌else◌, map, filter, fold, codes, option_map, unwrap_or, is_some}
use Rattle.std.specs.List.{list_any, list_all, filter_map}
use Rattle.std.specs.Str.{bytes_eq}
use Rattle.std.specs.Ordering.{nat_cmp, is_lt}
use Rattle.std.specs.Option.{option_and_then, option_map_or}
use Rattle.std.specs.Cmp.Lexicographic.{slice_cmp}
use Rattle.toml.specs.Data.{Data, string, integer, array, Items, no_items, item, Members, no_members, member, get_member, as_str, as_integer, as_array, as_table}
use Rattle.app_graph.specs.declared.keys.Key.{Key}
use Rattle.app_graph.specs.declared.keys.Key.TheVariants.{KSlots, KRound, KGap, KHost, KNodes, KMode, KName, KApp, KPeriod, KDeadline, KTask, KMessage, KNode, KWcet, KBody, KFrom, KTo, KCopies}
use Rattle.app_graph.specs.declared.raw.RawTask.{RawTask}
use Rattle.app_graph.specs.declared.raw.RawMessage.{RawMessage}
use Rattle.app_graph.specs.declared.raw.RawApp.{RawApp}
use Rattle.app_graph.specs.declared.raw.RawMode.{RawMode}
use Rattle.app_graph.specs.declared.raw.RawSet.{RawSet}
use Rattle.app_graph.specs.Words.{word}
use Rattle.app_graph.specs.Rules.{Rule, unless, first_of, each}
use Rattle.mode_file.specs.declared.faults.FileFault.{FileFault}
use Rattle.mode_file.specs.declared.faults.FileFault.TheVariants.{Missing, WrongKind, UnknownKey}
use Rattle.mode_file.specs.KeyText.{shown_key}

-- the items of an array
abbrev pub items : Items → List Data
items no_items = []
items (item d ds) = d ∷ items ds

-- the keys of a table
abbrev pub keys : Members → List (List ℕ)
keys no_members = []
keys (member key d ms) = key ∷ keys ms

-- ---- kinds

-- the kinds of values that a table may have
pub data Kind : Type 0 where
  Integer : Kind
  Text : Kind
  TextArray : Kind
  TableArray : Kind

-- an array has a kind where each of its items has
abbrev pub has_kind : Kind → Data → Bool
has_kind Integer (integer z) = true
has_kind Text (string s) = true
has_kind TextArray (array ds) = list_all (λ d. is_some (as_str d)) (items ds)
has_kind TableArray (array ds) = list_all (λ d. is_some (as_table d)) (items ds)
has_kind _ _ = false

-- ---- the rules on one table's keys

-- the value has the kind
abbrev pub is_of : Kind → Key → Data → Rule FileFault
is_of kind key d = unless (has_kind kind d) (WrongKind key)

-- where the key is there, its value has the kind
abbrev pub may_have : Members → Key → Kind → Rule FileFault
may_have ms key kind = option_map_or (is_of kind key) (get_member (word key) ms) None

-- the key is there
abbrev pub has : Members → Key → Rule FileFault
has ms key = unless (is_some (get_member (word key) ms)) (Missing key)

-- the key is there, and its value has the kind
abbrev pub needs : Members → Key → Kind → Rule FileFault
needs ms key kind = first_of (has ms key ∷ may_have ms key kind ∷ [])

abbrev pub is_listed : List Key → List ℕ → Bool
is_listed listed text = list_any (λ key. bytes_eq (word key) text) listed

-- the lesser of two keys by their bytes, where there are two
abbrev pub lesser : Option (List ℕ) → List ℕ → Option (List ℕ)
lesser None key = Some key
lesser (Some least) key = if is_lt (slice_cmp nat_cmp key least) then Some key else Some least

-- the least key that is not listed
abbrev pub least_unlisted : List Key → List (List ℕ) → Option (List ℕ)
least_unlisted listed ks = fold lesser None (filter (λ key. not (is_listed listed key)) ks)

-- no other keys are there
abbrev pub has_only : Members → List Key → Rule FileFault
has_only ms listed = option_map (λ key. UnknownKey (shown_key key)) (least_unlisted listed (keys ms))

-- ---- what a table says under a key

abbrev pub integer_or : ℤ → Members → Key → ℤ
integer_or other ms key = unwrap_or (option_and_then as_integer (get_member (word key) ms)) other

abbrev pub integer_at : Members → Key → ℤ
integer_at ms key = integer_or (pos 0) ms key

abbrev pub text_or : List ℕ → Members → Key → List ℕ
text_or other ms key = unwrap_or (option_and_then as_str (get_member (word key) ms)) other

abbrev pub text_at : Members → Key → List ℕ
text_at ms key = text_or [] ms key

-- the items of an array, and none of another value
abbrev pub array_items : Data → List Data
array_items d = items (unwrap_or (as_array d) no_items)

abbrev pub items_at : Members → Key → List Data
items_at ms key = option_map_or array_items (get_member (word key) ms) []

-- the texts among the values, and the tables among them
abbrev pub texts_in : List Data → List (List ℕ)
texts_in ds = filter_map as_str ds

abbrev pub tables_in : List Data → List Members
tables_in ds = filter_map as_table ds

abbrev pub texts_at : Members → Key → List (List ℕ)
texts_at ms key = texts_in (items_at ms key)

abbrev pub tables_at : Members → Key → List Members
tables_at ms key = tables_in (items_at ms key)

-- ---- what the tables say

abbrev pub raw_task : Members → RawTask
raw_task ms = record { name = text_at ms KName; node = text_at ms KNode; wcet = integer_at ms KWcet; body = text_or (codes "tally") ms KBody }

abbrev pub raw_message : Members → RawMessage
raw_message ms = record { name = text_at ms KName; from = texts_at ms KFrom; to = texts_at ms KTo; copies = integer_or (pos 1) ms KCopies }

abbrev pub raw_app : Members → RawApp
raw_app ms = record {
  name = text_at ms KName;
  period = integer_at ms KPeriod;
  deadline = integer_at ms KDeadline;
  tasks = map raw_task (tables_at ms KTask);
  messages = map raw_message (tables_at ms KMessage);
}

abbrev pub raw_mode : Members → RawMode
raw_mode ms = record { name = text_at ms KName; apps = map raw_app (tables_at ms KApp) }

abbrev pub raw_set : Members → RawSet
raw_set ms = record {
  slots = integer_at ms KSlots;
  round = integer_at ms KRound;
  gap = integer_at ms KGap;
  host = text_at ms KHost;
  nodes = texts_at ms KNodes;
  modes = map raw_mode (tables_at ms KMode);
}

-- ---- the rules of the tables: the required keys in order, the optional ones, no others, and then the tables below

abbrev pub task_rules : Members → Rule FileFault
task_rules ms = first_of (
    needs ms KName Text ∷ needs ms KNode Text ∷ needs ms KWcet Integer
    ∷ may_have ms KBody Text
    ∷ has_only ms (KName ∷ KNode ∷ KWcet ∷ KBody ∷ []) ∷ [])

abbrev pub message_rules : Members → Rule FileFault
message_rules ms = first_of (
    needs ms KName Text ∷ needs ms KFrom TextArray ∷ needs ms KTo TextArray
    ∷ may_have ms KCopies Integer
    ∷ has_only ms (KName ∷ KFrom ∷ KTo ∷ KCopies ∷ []) ∷ [])

abbrev pub app_rules : Members → Rule FileFault
app_rules ms = first_of (
    needs ms KName Text ∷ needs ms KPeriod Integer ∷ needs ms KDeadline Integer ∷ needs ms KTask TableArray
    ∷ may_have ms KMessage TableArray
    ∷ has_only ms (KName ∷ KPeriod ∷ KDeadline ∷ KTask ∷ KMessage ∷ [])
    ∷ each task_rules (tables_at ms KTask) ∷ each message_rules (tables_at ms KMessage) ∷ [])

abbrev pub mode_rules : Members → Rule FileFault
mode_rules ms = first_of (
    needs ms KName Text ∷ needs ms KApp TableArray
    ∷ has_only ms (KName ∷ KApp ∷ [])
    ∷ each app_rules (tables_at ms KApp) ∷ [])

abbrev pub table_rules : Members → Rule FileFault
table_rules ms = first_of (
    needs ms KSlots Integer ∷ needs ms KRound Integer ∷ needs ms KGap Integer ∷ needs ms KHost Text ∷ needs ms KNodes TextArray ∷ needs ms KMode TableArray
    ∷ has_only ms (KSlots ∷ KRound ∷ KGap ∷ KHost ∷ KNodes ∷ KMode ∷ [])
    ∷ each mode_rules (tables_at ms KMode) ∷ [])
