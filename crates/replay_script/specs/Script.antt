-- What a script says: its lines that are not passed over, or the fault of its first faulty line
use Rattle.std.specs.Prelude.{◌≡◌, ⊤, ℕ, ◌+◌, ◌<◌, ◌≤◌, Bool, false, not, ◌&&◌, nat_le, nat_eq, List, [], ◌∷◌, ◌++◌, length, take, filter_map, position, sum_by, true, Option, Some, None, is_some, unwrap_or, Result, Ok, Err}
use Rattle.std.specs.List.{concat, list_all}
use Rattle.std.specs.Str.{bytes_eq}
use Rattle.app_graph.specs.declared.mode_set.ModeSet.{ModeSet}
use Rattle.app_graph.specs.Masks.{mask_of}
use Rattle.app_graph.specs.Rules.{Rule, unless, first_of, each_after}
use Rattle.app_graph.specs.ValueRules.{among}
use Rattle.ttw_text.specs.Lines.{lines, without_feed}
use Rattle.replay_script.specs.declared.line.Line.{Line}
use Rattle.replay_script.specs.declared.line.Line.TheVariants as says
use Rattle.replay_script.specs.declared.fault.ScriptFault.{ScriptFault}
use Rattle.replay_script.specs.declared.fault.ScriptFault.TheVariants.{BadLine, Unknown, HostNamed, TooMany, Memory}
use Rattle.replay_script.specs.Form.{Form, Passed, Go, UntilBeacon, Lose, Request, Restart, line_form}

-- the line without its line feed, where it ends with one
abbrev pub content : List ℕ → List ℕ
content line = unwrap_or (without_feed line) line

-- the form of a line of a text
abbrev pub form : List ℕ → Option Form
form line = line_form (content line)

-- the number of the node with a name
abbrev pub node_of : ModeSet → List ℕ → Option ℕ
node_of set name = position (bytes_eq name) set.nodes

-- the number of the mode with a name
abbrev pub mode_of : ModeSet → List ℕ → Option ℕ
mode_of set name = position (λ m. bytes_eq name m.name) set.modes

-- the nodes with these names, as a set: the bit of a node is 1 where its name is among them
abbrev pub lost : ModeSet → List (List ℕ) → ℕ
lost set names = mask_of (λ node. among node names) set.nodes

-- what a line of a text asks for: nothing where it has no form
abbrev pub asked : List ℕ → Form
asked line = unwrap_or (form line) Passed

-- the Advances that a form counts for
abbrev pub steps_of : Form → ℕ
steps_of Passed = 0
steps_of (Go n) = n
steps_of UntilBeacon = 0
steps_of (Lose names) = 0
steps_of (Request name) = 0
steps_of (Restart name) = 0

-- the Advances that a line of a text counts for: the N of `go N`
abbrev pub steps : List ℕ → ℕ
steps line = steps_of (asked line)

-- each name that stands in the form is one of the set
abbrev pub is_known : ModeSet → Form → Bool
is_known set Passed = true
is_known set (Go n) = true
is_known set UntilBeacon = true
is_known set (Lose names) = list_all (λ name. is_some (node_of set name)) names
is_known set (Request name) = is_some (mode_of set name)
is_known set (Restart name) = is_some (node_of set name)

-- the form is a restart of the host
abbrev pub restarts_host : ModeSet → Form → Bool
restarts_host set Passed = false
restarts_host set (Go n) = false
restarts_host set UntilBeacon = false
restarts_host set (Lose names) = false
restarts_host set (Request name) = false
restarts_host set (Restart name) = nat_eq (unwrap_or (node_of set name) 0) set.host

-- the line that a form gives, with numbers in place of names; none where the line is passed over
abbrev pub given : ModeSet → Form → Option Line
given set Passed = None
given set (Go n) = Some (says.Go n)
given set UntilBeacon = Some says.UntilBeacon
given set (Lose names) = Some (says.Lose (lost set names))
given set (Request name) = Some (says.Request (unwrap_or (mode_of set name) 0))
given set (Restart name) = Some (says.Restart (unwrap_or (node_of set name) 0))

-- the fault of the names in a form: one that is not in the set comes before the host's
abbrev pub name_fault : ModeSet → ℕ → Form → Rule ScriptFault
name_fault set number asked = first_of (
    unless (is_known set asked) (Unknown number)
    ∷ unless (not (restarts_host set asked)) (HostNamed number) ∷ [])

-- the fault of the line of this number, which ends at the place `end`, its line feed included, and up to which, itself included,
-- the `go` lines have this sum. Of several faults the first in this order counts
abbrev pub fault_at : ModeSet → (number end sum : ℕ) → List ℕ → Rule ScriptFault
fault_at set number end sum line = first_of (
    unless (nat_le number 10000 && nat_le end 1048576 && nat_le sum 1000000) (TooMany number)
    ∷ unless (is_some (form line)) (BadLine number)
    ∷ name_fault set number (asked line) ∷ [])

-- the fault of a line that stands behind these
abbrev pub fault_behind : ModeSet → List (List ℕ) → List ℕ → Rule ScriptFault
fault_behind set earlier line =
    fault_at set (length earlier + 1) (length (concat (earlier ++ line ∷ []))) (sum_by steps (earlier ++ line ∷ [])) line

-- the fault of the first faulty line of a text
abbrev pub first_fault : ModeSet → List ℕ → Rule ScriptFault
first_fault set text = each_after (fault_behind set) [] (lines text)

-- what the lines of a text give, in their order
abbrev pub given_by : ModeSet → List (List ℕ) → List Line
given_by set all = filter_map (λ line. given set (asked line)) all

-- the answer of a reader: all lines where no line is faulty, and else the fault of the first faulty one. Want of memory may come at any time
abbrev pub Reads : ModeSet → List ℕ → Result (List Line) ScriptFault → Type 0
Reads set text (Ok script) = (first_fault set text ≡ None) × (script ≡ given_by set (lines text))
Reads set text (Err Memory) = ⊤
Reads set text (Err fault) = first_fault set text ≡ Some fault

-- the set has so few nodes and modes that 64 bits hold a set of nodes
pub record Fits (set : ModeSet) : Type 0 where
  pub nodes : length set.nodes ≤ 64
  pub modes : length set.modes ≤ 8

-- the names in the form have no fault, and this is the line that it gives
pub record Gives (set : ModeSet) (number : ℕ) (asked : Form) (line : Option Line) : Type 0 where
  pub right : name_fault set number asked ≡ None
  pub line_is : line ≡ given set asked

-- what is read of a script up to one byte past its limit, or further, has the fault of the whole script
abbrev pub CutLaw : Type 0
CutLaw = (set : ModeSet) (text : List ℕ) (most : ℕ) → 1048576 < most → first_fault set (take most text) ≡ first_fault set text
