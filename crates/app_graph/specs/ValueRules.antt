-- The rules on values and graphs, over a mode file as it is written. The first that is broken decides.
use Rattle.std.specs.Prelude.{ℕ, zero, suc, ◌+◌, ◌*◌, ◌/◌, ℤ, pos, List, [], ◌∷◌, length, Bool, true, false, not, ◌&&◌, ◌||◌, if◌then◌else◌, map, filter, sum_by, count_by, nat_lt, nat_le, unsigned_abs, int_le}
use Rattle.std.specs.List.{flat_map, list_any, list_all}
use Rattle.std.specs.Str.{bytes_eq}
use Rattle.app_graph.specs.declared.keys.Key.{Key}
use Rattle.app_graph.specs.declared.keys.Key.TheVariants.{KSlots, KRound, KGap, KHost, KNodes, KMode, KName, KApp, KPeriod, KDeadline, KTask, KMessage, KNode, KWcet, KBody, KFrom, KTo, KCopies, KInputs, KHyperperiod, KRounds, KRuns, KInstances, KDecisions}
use Rattle.app_graph.specs.declared.faults.GraphFault.{GraphFault}
use Rattle.app_graph.specs.declared.faults.GraphFault.TheVariants.{OutOfRange, Repeated, Unknown, TwoSenders, Cycle, DeadlineLong, TooMany}
use Rattle.app_graph.specs.declared.raw.RawTask.{RawTask}
use Rattle.app_graph.specs.declared.raw.RawMessage.{RawMessage}
use Rattle.app_graph.specs.declared.raw.RawApp.{RawApp}
use Rattle.app_graph.specs.declared.raw.RawMode.{RawMode}
use Rattle.app_graph.specs.declared.raw.RawSet.{RawSet}
use Rattle.app_graph.specs.Rules.{Rule, unless, first_of, each, each_after}
use Rattle.ttw_text.specs.Names.{is_name}
use Rattle.app_graph.specs.Hyperperiod.{hyperperiod}

-- the number is from low to high
abbrev pub within : ℤ → ℤ → ℤ → Bool
within low high z = int_le low z && int_le z high

-- the list has an element
abbrev pub has_some : {A : Type 0} → List A → Bool
has_some xs = nat_lt 0 (length xs)

-- it has n elements at most
abbrev pub at_most : {A : Type 0} → ℕ → List A → Bool
at_most n xs = nat_le (length xs) n

-- the name is one of the names
abbrev pub among : List ℕ → List (List ℕ) → Bool
among name names = list_any (bytes_eq name) names

-- the name of a mode, an application, a task or a message is spelled as a name, and no earlier one has it
abbrev pub named : List ℕ → Bool → Rule GraphFault
named name taken = first_of (unless (is_name name) (OutOfRange KName) ∷ unless (not taken) (Repeated name) ∷ [])

-- one of these modes, applications, tasks or messages has the name
abbrev pub is_mode : List RawMode → List ℕ → Bool
is_mode modes name = list_any (λ m. bytes_eq name m.name) modes

abbrev pub is_app : List RawApp → List ℕ → Bool
is_app apps name = list_any (λ a. bytes_eq name a.name) apps

abbrev pub is_task : List RawTask → List ℕ → Bool
is_task tasks name = list_any (λ t. bytes_eq name t.name) tasks

abbrev pub is_message : List RawMessage → List ℕ → Bool
is_message messages name = list_any (λ m. bytes_eq name m.name) messages

-- one of the names under a key is spelled as a name, is no earlier one of them, and is known
abbrev pub listed : Key → (List ℕ → Bool) → List (List ℕ) → List ℕ → Rule GraphFault
listed key known earlier name = first_of (
    unless (is_name name) (OutOfRange key)
    ∷ unless (not (among name earlier)) (Repeated name)
    ∷ unless (known name) (Unknown name) ∷ [])

-- a task: its name is new in the mode; its node is a node; its wcet is within the period; its body is spelled as a name;
-- the mode has at most 128 tasks so far
abbrev pub task_rules : RawSet → RawApp → List RawTask → RawTask → List (Rule GraphFault)
task_rules set app earlier t =
    named t.name (is_task earlier t.name)
    ∷ unless (is_name t.node) (OutOfRange KNode) ∷ unless (among t.node set.nodes) (Unknown t.node)
    ∷ unless (within (pos 1) app.period t.wcet) (OutOfRange KWcet)
    ∷ unless (is_name t.body) (OutOfRange KBody)
    ∷ unless (nat_lt (length earlier) 128) (TooMany KTask) ∷ []

abbrev pub task_values : RawSet → RawApp → List RawTask → RawTask → Rule GraphFault
task_values set app earlier t = first_of (task_rules set app earlier t)

-- the producers or the consumers of a message: one or more, not too many, each a task of the application and none twice
abbrev pub ends : Key → ℕ → RawApp → List (List ℕ) → Rule GraphFault
ends key most app names = first_of (unless (has_some names) (OutOfRange key) ∷ unless (at_most most names) (TooMany key)
    ∷ each_after (listed key (is_task app.tasks)) [] names ∷ [])

-- the tasks of the application that are named
abbrev pub tasks_named : RawApp → List (List ℕ) → List RawTask
tasks_named app names = filter (λ t. among t.name names) app.tasks

-- they are all on one node
abbrev pub on_one_node : List RawTask → Bool
on_one_node tasks = list_all (λ t. list_all (λ u. bytes_eq t.node u.node) tasks) tasks

-- the most copies of a message
abbrev pub most_copies : ℕ
most_copies = 4

-- a message: its name is new in the mode; it has 1 to 4 producers, on one node, and 1 to 16 consumers; its copies are in range;
-- the mode has at most 64 messages so far
abbrev pub message_rules : RawApp → List RawMessage → RawMessage → List (Rule GraphFault)
message_rules app earlier m =
    named m.name (is_message earlier m.name)
    ∷ ends KFrom 4 app m.from ∷ ends KTo 16 app m.to
    ∷ unless (within (pos 1) (pos most_copies) m.copies) (OutOfRange KCopies)
    ∷ unless (on_one_node (tasks_named app m.from)) (TwoSenders m.name)
    ∷ unless (nat_lt (length earlier) 64) (TooMany KMessage) ∷ []

abbrev pub message_values : RawApp → List RawMessage → RawMessage → Rule GraphFault
message_values app earlier m = first_of (message_rules app earlier m)

-- how many values a task takes: one from each producer of each message that it consumes
abbrev pub inputs_of : RawApp → RawTask → ℕ
inputs_of app t = sum_by (λ m. if among t.name m.to then length m.from else 0) app.messages

-- some message goes from the one task to the other
abbrev pub goes : RawApp → RawTask → RawTask → Bool
goes app t u = list_any (λ m. among t.name m.from && among u.name m.to) app.messages

-- a walk of one to n edges
abbrev pub goes_in : ℕ → RawApp → RawTask → RawTask → Bool
goes_in zero app t u = false
goes_in (suc n) app t u = goes app t u || list_any (λ v. goes app t v && goes_in n app v u) app.tasks

-- some task is reached from itself; the shortest way round has at most one edge for each task
abbrev pub has_cycle : RawApp → Bool
has_cycle app = list_any (λ t. goes_in (length app.tasks) app t t) app.tasks

-- an application by itself: its name is new in the mode; its period and its deadline are in range; it has a task
abbrev pub own_rules : List RawApp → RawApp → List (Rule GraphFault)
own_rules earlier app =
    named app.name (is_app earlier app.name)
    ∷ unless (within (pos 1) (pos 1000000000) app.period) (OutOfRange KPeriod)
    ∷ unless (within (pos 1) (pos 1000000000000) app.deadline) (OutOfRange KDeadline)
    ∷ unless (has_some app.tasks) (OutOfRange KTask) ∷ []

abbrev pub own_values : List RawApp → RawApp → Rule GraphFault
own_values earlier app = first_of (own_rules earlier app)

-- its graph: each task takes at most 64 values; no task is reached from itself
abbrev pub graph_rules : RawApp → List (Rule GraphFault)
graph_rules app =
    each (λ t. unless (nat_le (inputs_of app t) 64) (TooMany KInputs)) app.tasks
    ∷ unless (not (has_cycle app)) (Cycle app.name) ∷ []

abbrev pub graph_values : RawApp → Rule GraphFault
graph_values app = first_of (graph_rules app)

-- an application: itself, its tasks, its messages, its graph; the tasks and messages of the earlier applications come before its own
abbrev pub app_rules : RawSet → List RawApp → RawApp → List (Rule GraphFault)
app_rules set earlier app =
    own_values earlier app
    ∷ each_after (task_values set app) (flat_map (λ a. a.tasks) earlier) app.tasks
    ∷ each_after (message_values app) (flat_map (λ a. a.messages) earlier) app.messages
    ∷ graph_values app ∷ []

abbrev pub app_values : RawSet → List RawApp → RawApp → Rule GraphFault
app_values set earlier app = first_of (app_rules set earlier app)

-- the hyperperiod of a mode
abbrev pub hyper_of : RawMode → ℕ
hyper_of mode = hyperperiod (map (λ a. unsigned_abs a.period) mode.apps)

-- how many runs in h ticks something has that each application has `count` of
abbrev pub runs_in : ℕ → (RawApp → ℕ) → List RawApp → ℕ
runs_in h count apps = sum_by (λ a. count a * (h / unsigned_abs a.period)) apps

-- how many slots the messages need, where each comes n times: one for each copy
unfoldable pub slots_of : ℕ → List RawMessage → ℕ
slots_of n messages = sum_by (λ m. unsigned_abs m.copies * n) messages

-- how many slots the messages of the applications need in h ticks
abbrev pub slots_in : ℕ → List RawApp → ℕ
slots_in h apps = sum_by (λ a. slots_of (h / unsigned_abs a.period) a.messages) apps

-- how many pairs of tasks are on one node
abbrev pub pairs_in : List RawTask → ℕ
pairs_in [] = 0
pairs_in (t ∷ ts) = count_by (λ u. bytes_eq t.node u.node) ts + pairs_in ts

-- the sizes of a mode with the hyperperiod h: the hyperperiod; each deadline, within it; the rounds that may fit into it;
-- the runs of tasks and the copies of messages in it; the decisions, which are the copies and the pairs of tasks on one node
abbrev pub sizes_at : ℕ → RawSet → RawMode → Rule GraphFault
sizes_at h set mode = first_of (
    unless (nat_le h 1000000000000) (TooMany KHyperperiod)
    ∷ each (λ a. unless (nat_le (unsigned_abs a.deadline) h) (DeadlineLong a.name)) mode.apps
    ∷ unless (nat_le (h / unsigned_abs set.round) 256) (TooMany KRounds)
    ∷ unless (nat_le (runs_in h (λ a. length a.tasks) mode.apps) 4096) (TooMany KRuns)
    ∷ unless (nat_le (slots_in h mode.apps) 512) (TooMany KInstances)
    ∷ unless (nat_le (slots_in h mode.apps + pairs_in (flat_map (λ a. a.tasks) mode.apps)) 4096) (TooMany KDecisions) ∷ [])

abbrev pub size_values : RawSet → RawMode → Rule GraphFault
size_values set mode = sizes_at (hyper_of mode) set mode

-- a mode: its name is new in the file; it has an application; each application; its sizes
abbrev pub mode_rules : RawSet → List RawMode → RawMode → List (Rule GraphFault)
mode_rules set earlier mode =
    named mode.name (is_mode earlier mode.name)
    ∷ unless (has_some mode.apps) (OutOfRange KApp)
    ∷ each_after (app_values set) [] mode.apps
    ∷ size_values set mode ∷ []

abbrev pub mode_values : RawSet → List RawMode → RawMode → Rule GraphFault
mode_values set earlier mode = first_of (mode_rules set earlier mode)

-- the slots and the length of a round, and the greatest gap
abbrev pub round_rules : RawSet → List (Rule GraphFault)
round_rules set =
    unless (within (pos 1) (pos 32) set.slots) (OutOfRange KSlots)
    ∷ unless (within (pos 1) (pos 1000000000) set.round) (OutOfRange KRound)
    ∷ unless (within set.round (pos 1000000000) set.gap) (OutOfRange KGap) ∷ []

abbrev pub round_values : RawSet → Rule GraphFault
round_values set = first_of (round_rules set)

-- 1 to 64 nodes, none twice, and the host among them
abbrev pub node_rules : RawSet → List (Rule GraphFault)
node_rules set =
    unless (has_some set.nodes) (OutOfRange KNodes) ∷ unless (at_most 64 set.nodes) (TooMany KNodes)
    ∷ each_after (listed KNodes (λ n. true)) [] set.nodes
    ∷ unless (is_name set.host) (OutOfRange KHost) ∷ unless (among set.host set.nodes) (Unknown set.host) ∷ []

abbrev pub node_values : RawSet → Rule GraphFault
node_values set = first_of (node_rules set)

-- the rounds, the nodes, 1 to 8 modes, and each mode
abbrev pub set_rules : RawSet → List (Rule GraphFault)
set_rules set =
    round_values set ∷ node_values set
    ∷ unless (has_some set.modes) (OutOfRange KMode) ∷ unless (at_most 8 set.modes) (TooMany KMode)
    ∷ each_after (mode_values set) [] set.modes ∷ []

abbrev pub value_rules : RawSet → Rule GraphFault
value_rules set = first_of (set_rules set)
