-- What the picture of an accepted plan shows: a section for each mode, with rows of what recurs in its hyperperiod
use Rattle.std.specs.Prelude.{ℕ, ℤ, codes, ◌+◌, ◌-◌, ◌*◌, ◌/◌, nat_eq, List, [], ◌∷◌, ◌++◌, length, map, slice_index_or, unsigned_abs, drop, Option, Some, None, if◌then◌else◌}
use Rattle.std.specs.List.{flat_map, zip, enumerate_from}
use Rattle.ttw_text.specs.Numbers.{spelled}
use Rattle.app_graph.specs.declared.mode_set.ModeSet.{ModeSet}
use Rattle.app_graph.specs.declared.mode_set.App.{App}
use Rattle.app_graph.specs.declared.mode_set.Task.{Task}
use Rattle.app_graph.specs.declared.mode_set.Message.{Message}
use Rattle.sched_model.specs.Numbers.{below}
use Rattle.sched_model.specs.PlainMode.{hyper, mode_at, plain_at}
use Rattle.sched_model.specs.declared.schedule.Schedule.{Schedule}
use Rattle.proof_tree.specs.Names.{messages_in, name_of}
use Rattle.plan_picture.specs.declared.rounds_lane.Rounds.{Rounds}
use Rattle.time_chart.specs.Drawing.{sheet_text}
use Rattle.time_chart.specs.declared.chart.Chart.{Chart}
use Rattle.time_chart.specs.declared.chart.Row.{Row}
use Rattle.time_chart.specs.declared.chart.Section.{Section}
use Rattle.time_chart.specs.declared.chart.Span.{Span}
use Rattle.time_chart.specs.declared.elements.Look.TheVariants.{Round, Slot, Window, Run}

-- ---- the lane of the rounds

-- the rounds of a set in this hyperperiod: a slot takes a round by one more than its slots, rounded down
abbrev pub rounds_of : ModeSet → ℕ → Rounds
rounds_of set hyper = record { hyper = hyper; length = unsigned_abs set.round; part = unsigned_abs set.round / (set.slots + 1) }

-- slot k, from 1, of a round with this start, and the number of its message
abbrev pub slot_span : Rounds → List Message → ℕ → ℕ × ℕ → Span
slot_span rounds messages start p = record { look = Slot; name = name_of messages p.1; start = start + p.0 * rounds.part; length = rounds.part; period = rounds.hyper }

-- the slots in use of a round with this start
abbrev pub slot_spans : Rounds → List Message → ℕ → List ℕ → List Span
slot_spans rounds messages start table = map (slot_span rounds messages start) (enumerate_from 1 table)

-- a round
abbrev pub round_span : Rounds → ℕ → Span
round_span rounds start = record { look = Round; name = codes "round"; start = start; length = rounds.length; period = rounds.hyper }

-- a round with its start, and its slots in use by the numbers of their messages
abbrev pub round_spans : Rounds → List Message → ℤ × List ℕ → List Span
round_spans rounds messages p = round_span rounds (unsigned_abs p.0) ∷ slot_spans rounds messages (unsigned_abs p.0) p.1

-- all rounds in one row
abbrev pub rounds_row : Rounds → List App → Schedule → Row
rounds_row rounds apps s = record { lane = codes "rounds"; name = []; spans = flat_map (round_spans rounds (messages_in apps)) (zip s.starts s.tables) }

-- ---- the lane of the messages

-- the windows of a message, from where the first one opens to where it closes
abbrev pub window_span : ℕ → Message × (ℤ × ℤ) → Span
window_span period p = record { look = Window; name = p.0.name; start = unsigned_abs p.1.0; length = unsigned_abs p.1.1 - unsigned_abs p.1.0; period = period }

abbrev pub window_row : ℕ → Message × (ℤ × ℤ) → Row
window_row period p = record { lane = []; name = p.0.name; spans = window_span period p ∷ [] }

-- the windows of all messages, in file order
abbrev pub window_rows : List App → List (ℤ × ℤ) → List Row
window_rows [] windows = []
window_rows (app ∷ apps) windows =
    map (window_row (unsigned_abs app.period)) (zip app.messages windows) ++ window_rows apps (drop (length app.messages) windows)

-- ---- the lanes of the nodes

-- the runs of a task, from the start of the first one
abbrev pub run_span : ℕ → Task × ℤ → Span
run_span period p = record { look = Run; name = p.0.name; start = unsigned_abs p.1; length = unsigned_abs p.0.wcet; period = period }

abbrev pub run_row : ℕ → Task × ℤ → Row
run_row period p = record { lane = []; name = p.0.name; spans = run_span period p ∷ [] }

-- its row, where it is the node's
abbrev pub run_rows : ℕ → ℕ → Task × ℤ → List Row
run_rows node period p = if nat_eq p.0.node node then run_row period p ∷ [] else []

-- the runs of all tasks of the node, in file order
abbrev pub node_rows : ℕ → List App → List ℤ → List Row
node_rows node [] starts = []
node_rows node (app ∷ apps) starts =
    flat_map (run_rows node (unsigned_abs app.period)) (zip app.tasks starts) ++ node_rows node apps (drop (length app.tasks) starts)

-- ---- charts

-- rows as a lane of this name, which stands at the first one
abbrev pub lane : List ℕ → List Row → List Row
lane name [] = []
lane name (row ∷ rows) = record { lane = name; name = row.name; spans = row.spans } ∷ lane [] rows

-- the lane of a node, with its number and name
abbrev pub node_lane : List App → List ℤ → ℕ × List ℕ → List Row
node_lane apps starts p = lane p.1 (node_rows p.0 apps starts)

-- the lane of the messages
abbrev pub window_lane : List App → List (ℤ × ℤ) → List Row
window_lane apps windows = lane (codes "windows") (window_rows apps windows)

-- the rows of a mode with these applications: its rounds, its messages, and each node that has tasks
abbrev pub mode_rows : ModeSet → ℕ → List App → Schedule → List Row
mode_rows set hyper apps s =
    rounds_row (rounds_of set hyper) apps s
    ∷ (window_lane apps s.messages ++ flat_map (node_lane apps s.tasks) (enumerate_from 0 set.nodes))

-- the chart of a mode's schedule
abbrev pub mode_chart : ModeSet → ℕ → Option Schedule → Option Chart
mode_chart set i None = None
mode_chart set i (Some s) =
    let h = hyper (plain_at set i) in
    Some (record { hyper = h; rows = mode_rows set h (mode_at set i).apps s })

-- what is said of a mode beside its hyperperiod
abbrev pub rounds_told : Option Schedule → List ℕ
rounds_told None = codes " ticks, no schedule"
rounds_told (Some s) = codes " ticks"

-- the heading of a mode
abbrev pub heading : ModeSet → ℕ → Option Schedule → List ℕ
heading set i plan = codes "mode " ++ ((mode_at set i).name ++ ((codes ": hyperperiod " ++ spelled (hyper (plain_at set i))) ++ rounds_told plan))

-- the section of the mode of this number
abbrev pub mode_section : ModeSet → ℕ → Option Schedule → Section
mode_section set i plan = record { heading = heading set i plan; chart = mode_chart set i plan }

-- the sections of all modes, in file order
abbrev pub sections : ModeSet → List (Option Schedule) → List Section
sections set plans = map (λ i. mode_section set i (slice_index_or plans i None)) (below (length set.modes))

-- the picture
abbrev pub picture_text : ModeSet → List (Option Schedule) → List ℕ
picture_text set plans = sheet_text (sections set plans)
