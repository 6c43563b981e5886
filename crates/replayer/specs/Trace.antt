-- The trace: the text of what happened, a line for each event and a last one
use Rattle.std.specs.Prelude.{ℕ, codes, List, [], ◌∷◌, ◌++◌, length, map, filter, reverse, slice_index_or, Option, Some, None, ℤ}
use Rattle.std.specs.List.{flat_map}
use Rattle.ttw_text.specs.Numbers.{spelled, signed_spelled}
use Rattle.app_graph.specs.declared.mode_set.ModeSet.{ModeSet}
use Rattle.beacon_codec.specs.Beacon.{flags_of}
use Rattle.sched_model.specs.Numbers.{below}
use Rattle.sched_model.specs.PlainMode.{mode_at}
use Rattle.runtime_model.specs.Outcomes.{PlainEvent}
use Rattle.runtime_model.specs.Packets.{in_set}
use Rattle.runtime_model.specs.System.{System}
use Rattle.runtime_model.specs.History.{history}
use Rattle.world_core.specs.declared.happened.Happened.{Happened}
use Rattle.world_core.specs.declared.happened.Happened.TheVariants.{Beacon, Sent, Silent, Started, Off, Ended, Void, Requested, Restarted}
use Rattle.world_core.specs.Happened.{happened}

-- ---- names

-- the name of the node at this place of the file
abbrev pub node_name : ModeSet → ℕ → List ℕ
node_name set v = slice_index_or set.nodes v []

-- the name of the mode at this place of the file
abbrev pub mode_name : ModeSet → ℕ → List ℕ
mode_name set mode = (mode_at set mode).name

-- the names of all tasks, in file order: a task's number is its place
abbrev pub task_names : ModeSet → List (List ℕ)
task_names set = flat_map (λ mode. flat_map (λ app. map (λ t. t.name) app.tasks) mode.apps) set.modes

-- the names of all messages, in file order: a message's number is its place
abbrev pub message_names : ModeSet → List (List ℕ)
message_names set = flat_map (λ mode. flat_map (λ app. map (λ m. m.name) app.messages) mode.apps) set.modes

-- the name of the task of this number
abbrev pub task_name : ModeSet → ℕ → List ℕ
task_name set number = slice_index_or (task_names set) number []

-- the name of the message of this number
abbrev pub message_name : ModeSet → ℕ → List ℕ
message_name set number = slice_index_or (message_names set) number []

-- ---- parts of a line, each with a blank before each word

-- the nodes in a set, in file order
abbrev pub nodes_text : ModeSet → ℕ → List ℕ
nodes_text set bits = flat_map (λ v. 32 ∷ node_name set v) (filter (in_set bits) (below (length set.nodes)))

-- the values of a packet
abbrev pub values_text : List ℤ → List ℕ
values_text values = flat_map (λ x. 32 ∷ signed_spelled x) values

-- an input: a number, or `-` where it is missing
abbrev pub input_text : Option ℤ → List ℕ
input_text None = codes "-"
input_text (Some x) = signed_spelled x

-- the inputs of a start
abbrev pub inputs_text : List (Option ℤ) → List ℕ
inputs_text inputs = flat_map (λ i. 32 ∷ input_text i) inputs

-- a task and its node
abbrev pub task_text : ModeSet → (node task : ℕ) → List ℕ
task_text set node task = 32 ∷ (node_name set node ++ 32 ∷ task_name set task)

-- ---- a line

-- the tick of what happened
abbrev pub tick_of : Happened → ℤ
tick_of (Beacon at beacon heard) = at
tick_of (Sent at node packet taken) = at
tick_of (Silent at message) = at
tick_of (Started at node task inputs) = at
tick_of (Off at node task) = at
tick_of (Ended at node task value) = at
tick_of (Void at node task) = at
tick_of (Requested at mode) = at
tick_of (Restarted at node) = at

-- what stands behind the tick
abbrev pub said : ModeSet → Happened → List ℕ
said set (Beacon at beacon heard) =
    codes " beacon " ++ (spelled beacon.round ++ 32 ∷ (mode_name set beacon.mode ++ 32 ∷ (spelled (flags_of beacon) ++ (codes " heard" ++ nodes_text set heard))))
said set (Sent at node packet taken) =
    codes " send " ++ (node_name set node ++ 32 ∷ (message_name set packet.message ++ (values_text packet.values ++ (codes " taken" ++ nodes_text set taken))))
said set (Silent at message) = codes " silent " ++ message_name set message
said set (Started at node task inputs) = codes " start" ++ (task_text set node task ++ inputs_text inputs)
said set (Off at node task) = codes " off" ++ task_text set node task
said set (Ended at node task value) = codes " end" ++ (task_text set node task ++ 32 ∷ signed_spelled value)
said set (Void at node task) = codes " void" ++ task_text set node task
said set (Requested at mode) = codes " request " ++ mode_name set mode
said set (Restarted at node) = codes " restart " ++ node_name set node

-- the line of what happened
abbrev pub line : ModeSet → Happened → List ℕ
line set h = signed_spelled (tick_of h) ++ (said set h ++ 10 ∷ [])

-- the last line, behind so many lines
abbrev pub done_line : ℕ → List ℕ
done_line events = codes "done " ++ (spelled events ++ 10 ∷ [])

-- ---- the trace

-- what happened at these events, in the order in which they came
abbrev pub all_happened : System → List PlainEvent → List Happened
all_happened y es = map (happened y) (reverse (history y es))

-- the lines of these events
abbrev pub lines_of : ModeSet → System → List PlainEvent → List ℕ
lines_of set y es = flat_map (line set) (all_happened y es)

-- the trace of these events
abbrev pub trace : ModeSet → System → List PlainEvent → List ℕ
trace set y es = lines_of set y es ++ done_line (length es)
