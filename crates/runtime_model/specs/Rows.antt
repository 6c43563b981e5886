-- Worked rows: what scripts do in four small systems, line by line
use Rattle.std.specs.Prelude.{◌≡◌, ℕ, true, false, List, [], ◌∷◌, drop, replicate, reverse, Some, None, pos, negsuc}
use Rattle.std.specs.List.{flat_map}
use Rattle.task_body.specs.Body.{BodySeen, first_numbers}
use Rattle.task_body.specs.Tally.{answer, numbers_after_fire}
use Rattle.sched_model.specs.PlainMode.{PlainMode}
use Rattle.runtime_model.specs.Timeline.{steady}
use Rattle.runtime_model.specs.HostCalls.{host_after}
use Rattle.runtime_model.specs.Plans.{Plan}
use Rattle.runtime_model.specs.Outcomes.{PlainEvent, advance, request, restart, Outcome, beaconed, sent, silent, started, off, finished, void, requested, restarted}
use Rattle.runtime_model.specs.System.{System}
use Rattle.runtime_model.specs.Bodies.{Bodies, by_bodies}
use Rattle.runtime_model.specs.History.{history}
use Rattle.runtime_model.specs.Script.{ScriptLine, go, lose, asks, restarts_node, until_beacon, Told, told}
use Rattle.runtime_model.specs.HostOfEvents.{schedule_counts, calls_of}
use Rattle.runtime_model.specs.NodeTables.{part_of}
use Rattle.runtime_model.specs.Laws.{PlansAreRight}

-- ---- the systems

-- a loop of three tasks: `sense` on node 1 sends `m1` to `ctrl` on node 0, which sends `m2` to `act` on node 2
abbrev pub loop_mode : PlainMode
loop_mode = record {
  slots = 2;
  round = 20;
  gap = 100;
  periods = 100 ∷ [];
  tasks = record { number = 0; app = 0; node = 1; wcet = 2; period = 100; deadline = 100 }
      ∷ record { number = 1; app = 0; node = 0; wcet = 5; period = 100; deadline = 100 }
      ∷ record { number = 2; app = 0; node = 2; wcet = 1; period = 100; deadline = 100 } ∷ [];
  messages = record { number = 0; period = 100; deadline = 100; copies = 1; from = 0 ∷ []; to = 1 ∷ [] }
      ∷ record { number = 1; period = 100; deadline = 100; copies = 1; from = 1 ∷ []; to = 2 ∷ [] } ∷ [];
}

abbrev pub loop_plan : Plan
loop_plan = record {
  mode = loop_mode;
  schedule = record {
    starts = pos 0 ∷ pos 23 ∷ [];
    tasks = pos 21 ∷ pos 43 ∷ pos 120 ∷ [];
    messages = (pos 23, pos 43) ∷ (pos 48, pos 120) ∷ [];
    tables = (1 ∷ []) ∷ (0 ∷ []) ∷ [];
  };
}

-- the same loop, where `sense` sends two copies of `m1`
abbrev pub double_mode : PlainMode
double_mode = record loop_mode {
  messages = record { number = 0; period = 100; deadline = 100; copies = 2; from = 0 ∷ []; to = 1 ∷ [] }
      ∷ record { number = 1; period = 100; deadline = 100; copies = 1; from = 1 ∷ []; to = 2 ∷ [] } ∷ [];
}

abbrev pub double_plan : Plan
double_plan = record {
  mode = double_mode;
  schedule = record {
    starts = pos 0 ∷ pos 23 ∷ pos 43 ∷ [];
    tasks = pos 21 ∷ pos 63 ∷ pos 120 ∷ [];
    messages = (pos 23, pos 63) ∷ (pos 68, pos 120) ∷ [];
    tables = (1 ∷ []) ∷ (0 ∷ []) ∷ (0 ∷ []) ∷ [];
  };
}

-- a mode of one task, with this number and node, that starts with the mode's one round
abbrev pub single_plan : (slots number node : ℕ) → Plan
single_plan slots number node = record {
  mode = record { slots = slots; round = 20; gap = 100; periods = 100 ∷ []; tasks = record { number = number; app = 0; node = node; wcet = 1; period = 100; deadline = 100 } ∷ []; messages = [] };
  schedule = record { starts = pos 0 ∷ []; tasks = pos 0 ∷ []; messages = []; tables = [] ∷ [] };
}

abbrev pub tally : BodySeen
tally = record { name = []; numbers = first_numbers; answer = answer; after_fire = numbers_after_fire }

-- all tasks have one body
abbrev pub tallies : Bodies
tallies = record { each = tally ∷ []; place = λ a. 0 }

-- the loop, and beside it an idle mode whose one task blinks on node 2
abbrev pub two_plans : List Plan
two_plans = loop_plan ∷ single_plan 2 3 2 ∷ []

abbrev pub two : System
two = record { nodes = 3; host = 0; plans = two_plans; answers = by_bodies two_plans tallies }

-- the loop with two copies alone
abbrev pub double_plans : List Plan
double_plans = double_plan ∷ []

abbrev pub double : System
double = record { nodes = 3; host = 0; plans = double_plans; answers = by_bodies double_plans tallies }

-- two modes of one task each, both on node 1
abbrev pub pair_plans : List Plan
pair_plans = single_plan 1 0 1 ∷ single_plan 1 1 1 ∷ []

abbrev pub pair : System
pair = record { nodes = 2; host = 0; plans = pair_plans; answers = by_bodies pair_plans tallies }

-- the plans of `pair` are right: what the laws suppose can be met
abbrev pub PairIsRight : Type 0
PairIsRight = PlansAreRight pair

-- ---- events and lines

-- at a tick, in this mode, this happened
abbrev pub line : ℕ → ℕ → Outcome → Told
line moment mode out = record { moment = moment; mode = mode; out = out }

-- the events of a line that waits for no beacon
abbrev pub events_of_line : ScriptLine → List PlainEvent
events_of_line (go n) = replicate n (advance 0)
events_of_line until_beacon = []
events_of_line (lose bits) = advance bits ∷ []
events_of_line (asks m) = request m ∷ []
events_of_line (restarts_node v) = restart v ∷ []

-- the events of lines, the latest first
abbrev pub events_of : List ScriptLine → List PlainEvent
events_of lines = reverse (flat_map events_of_line lines)

-- a beacon of a steady or a warning hyperperiod, of an opening one and of a draining one, that these nodes heard
abbrev pub steady_beacon : (round mode : ℕ) → List ℕ → Outcome
steady_beacon round mode hs = beaconed (record { round = round; mode = mode; trigger = false; opening = false }) hs

abbrev pub opening_beacon : (round mode : ℕ) → List ℕ → Outcome
opening_beacon round mode hs = beaconed (record { round = round; mode = mode; trigger = false; opening = true }) hs

abbrev pub draining_beacon : (round mode : ℕ) → List ℕ → Outcome
draining_beacon round mode hs = beaconed (record { round = round; mode = mode; trigger = true; opening = false }) hs

-- ---- the rows: what was done, with its ticks

-- node 1 misses a beacon: it does not send in that round, and the controller runs without the input
abbrev pub LostBeacon : Type 0
LostBeacon = told two (events_of (go 6 ∷ lose 2 ∷ go 9 ∷ [])) ≡
    line 0 0 (opening_beacon 1 0 (0 ∷ 1 ∷ 2 ∷ []))
    ∷ line 0 0 (silent 1)
    ∷ line 20 0 (off 2 2)
    ∷ line 21 0 (void 2 2)
    ∷ line 21 0 (started 1 0 0 [] (pos 1))
    ∷ line 23 0 (finished 1 0 0 (pos 1))
    ∷ line 23 0 (opening_beacon 2 0 (0 ∷ 2 ∷ []))
    ∷ line 23 0 (silent 0)
    ∷ line 43 0 (started 0 1 0 (None ∷ []) (pos 1))
    ∷ line 48 0 (finished 0 1 0 (pos 1))
    ∷ line 100 0 (steady_beacon 1 0 (0 ∷ 1 ∷ 2 ∷ []))
    ∷ line 100 0 (sent 0 1 0 (pos 1 ∷ []) (2 ∷ []))
    ∷ line 120 0 (started 2 2 0 (Some (pos 1) ∷ []) (pos 2))
    ∷ line 121 0 (finished 2 2 0 (pos 2))
    ∷ line 121 0 (started 1 0 1 [] (pos 2))
    ∷ line 123 0 (finished 1 0 1 (pos 2))
    ∷ []

abbrev pub change_events : List PlainEvent
change_events = events_of (go 2 ∷ asks 1 ∷ go 14 ∷ lose 4 ∷ go 3 ∷ lose 4 ∷ go 11 ∷ [])

-- a change to the idle mode, of which node 2 misses the beacons up to the draining's second: from the eighteenth line on
abbrev pub ModeChange : Type 0
ModeChange = drop 17 (told two change_events) ≡
    line 123 0 (steady_beacon 2 1 (0 ∷ 1 ∷ []))
    ∷ line 123 0 (sent 1 0 1 (pos 2 ∷ []) (0 ∷ []))
    ∷ line 143 0 (started 0 1 1 (Some (pos 2) ∷ []) (pos 4))
    ∷ line 148 0 (finished 0 1 1 (pos 4))
    ∷ line 200 0 (draining_beacon 1 1 (0 ∷ 1 ∷ []))
    ∷ line 200 0 (sent 0 1 1 (pos 4 ∷ []) [])
    ∷ line 220 0 (off 2 2)
    ∷ line 221 0 (void 2 2)
    ∷ line 221 0 (off 1 0)
    ∷ line 223 0 (void 1 0)
    ∷ line 223 0 (draining_beacon 2 1 (0 ∷ 1 ∷ 2 ∷ []))
    ∷ line 223 0 (silent 0)
    ∷ line 243 0 (off 0 1)
    ∷ line 248 0 (void 0 1)
    ∷ line 300 1 (opening_beacon 3 1 (0 ∷ 1 ∷ 2 ∷ []))
    ∷ line 300 1 (started 2 0 0 [] (pos 1))
    ∷ []

-- the host after that change's events: it is in the first round of the idle mode's opening hyperperiod
abbrev pub ModeChangeHost : Type 0
ModeChangeHost = host_after (schedule_counts two) (calls_of two (history two change_events))
    ≡ record { mode = 1; round = 1; phase = steady; opening = true; waiting = None; inside = true }

-- a node that misses the warning runs the old mode on, and stops where it hears the draining
abbrev pub MissedWarning : Type 0
MissedWarning = told pair (events_of (go 3 ∷ asks 1 ∷ lose 2 ∷ go 8 ∷ [])) ≡
    line 0 0 (opening_beacon 1 0 (0 ∷ 1 ∷ []))
    ∷ line 0 0 (started 1 0 0 [] (pos 1))
    ∷ line 1 0 (finished 1 0 0 (pos 1))
    ∷ line 1 0 (requested 1)
    ∷ line 100 0 (steady_beacon 1 1 (0 ∷ []))
    ∷ line 100 0 (started 1 0 1 [] (pos 2))
    ∷ line 101 0 (finished 1 0 1 (pos 2))
    ∷ line 200 0 (draining_beacon 1 1 (0 ∷ 1 ∷ []))
    ∷ line 200 0 (off 1 0)
    ∷ line 201 0 (void 1 0)
    ∷ line 300 1 (opening_beacon 2 1 (0 ∷ 1 ∷ []))
    ∷ line 300 1 (started 1 0 0 [] (pos 1))
    ∷ line 301 1 (finished 1 0 0 (pos 1))
    ∷ []

-- a node restarts before a beacon, hears it, and has nothing to send: from the seventh line on
abbrev pub RestartBeforeBeacon : Type 0
RestartBeforeBeacon = drop 6 (told two (events_of (go 6 ∷ restarts_node 1 ∷ restarts_node 1 ∷ go 2 ∷ []))) ≡
    line 23 0 (restarted 1) ∷ line 23 0 (restarted 1) ∷ line 23 0 (opening_beacon 2 0 (0 ∷ 1 ∷ 2 ∷ [])) ∷ line 23 0 (silent 0) ∷ []

-- the same where it restarts after the beacon
abbrev pub RestartAfterBeacon : Type 0
RestartAfterBeacon = drop 6 (told two (events_of (go 7 ∷ restarts_node 1 ∷ restarts_node 1 ∷ go 1 ∷ []))) ≡
    line 23 0 (opening_beacon 2 0 (0 ∷ 1 ∷ 2 ∷ [])) ∷ line 23 0 (restarted 1) ∷ line 23 0 (restarted 1) ∷ line 23 0 (silent 0) ∷ []

-- of two requests the later one counts: the last line
abbrev pub LatestRequest : Type 0
LatestRequest = drop 12 (told two (events_of (go 2 ∷ asks 1 ∷ asks 0 ∷ go 9 ∷ []))) ≡ line 100 0 (steady_beacon 1 0 (0 ∷ 1 ∷ 2 ∷ [])) ∷ []

abbrev pub LatestRequestExchanged : Type 0
LatestRequestExchanged = drop 12 (told two (events_of (go 2 ∷ asks 0 ∷ asks 1 ∷ go 9 ∷ []))) ≡ line 100 0 (steady_beacon 1 1 (0 ∷ 1 ∷ 2 ∷ [])) ∷ []

-- the part of node 1: it sends `m1` in the second round's first slot, and has no task in the idle mode
abbrev pub NodePart : Type 0
NodePart = part_of two_plans 1 ≡ record {
  node = 1;
  modes =
      record {
        hyper = 100;
        first_round = 1;
        tasks = record { number = 0; period = 100; offset = 21; wcet = 2 } ∷ [];
        messages = record { number = 0; role = 1; producers = 0 ∷ []; consumers = [] } ∷ [];
        rounds = record { start = 0; slots = [] } ∷ record { start = 23; slots = record { slot = 1; message = 0; release = pos 0; copy = 1 } ∷ [] } ∷ [];
      }
      ∷ record { hyper = 100; first_round = 3; tasks = []; messages = []; rounds = record { start = 0; slots = [] } ∷ [] } ∷ [];
}

-- the consumer's node loses the first copy and takes the second
abbrev pub CopyLost : Type 0
CopyLost = told double (events_of (go 7 ∷ lose 1 ∷ go 4 ∷ [])) ≡
    line 0 0 (opening_beacon 1 0 (0 ∷ 1 ∷ 2 ∷ []))
    ∷ line 0 0 (silent 1)
    ∷ line 20 0 (off 2 2)
    ∷ line 21 0 (void 2 2)
    ∷ line 21 0 (started 1 0 0 [] (pos 1))
    ∷ line 23 0 (finished 1 0 0 (pos 1))
    ∷ line 23 0 (opening_beacon 2 0 (0 ∷ 1 ∷ 2 ∷ []))
    ∷ line 23 0 (sent 1 0 0 (pos 1 ∷ []) [])
    ∷ line 43 0 (opening_beacon 3 0 (0 ∷ 1 ∷ 2 ∷ []))
    ∷ line 43 0 (sent 1 0 0 (pos 1 ∷ []) (0 ∷ []))
    ∷ line 63 0 (started 0 1 0 (Some (pos 1) ∷ []) (pos 2))
    ∷ line 68 0 (finished 0 1 0 (pos 2))
    ∷ []

-- it takes the first copy and passes over the second: from the eighth line on
abbrev pub CopyPassedOver : Type 0
CopyPassedOver = drop 7 (told double (events_of (go 12 ∷ []))) ≡
    line 23 0 (sent 1 0 0 (pos 1 ∷ []) (0 ∷ []))
    ∷ line 43 0 (opening_beacon 3 0 (0 ∷ 1 ∷ 2 ∷ []))
    ∷ line 43 0 (sent 1 0 0 (pos 1 ∷ []) [])
    ∷ line 63 0 (started 0 1 0 (Some (pos 1) ∷ []) (pos 2))
    ∷ line 68 0 (finished 0 1 0 (pos 2))
    ∷ []

-- the part of node 0 where `m1` has two copies: the second and the third round carry the first and the second one
abbrev pub CopiesInPart : Type 0
CopiesInPart = part_of double_plans 0 ≡ record {
  node = 0;
  modes =
      record {
        hyper = 100;
        first_round = 1;
        tasks = record { number = 1; period = 100; offset = 63; wcet = 5 } ∷ [];
        messages = record { number = 0; role = 2; producers = 0 ∷ []; consumers = 1 ∷ [] } ∷ record { number = 1; role = 1; producers = 1 ∷ []; consumers = [] } ∷ [];
        rounds = record { start = 0; slots = record { slot = 1; message = 1; release = negsuc 99; copy = 1 } ∷ [] }
            ∷ record { start = 23; slots = record { slot = 1; message = 0; release = pos 0; copy = 1 } ∷ [] }
            ∷ record { start = 43; slots = record { slot = 1; message = 0; release = pos 0; copy = 2 } ∷ [] } ∷ [];
      }
      ∷ [];
}
