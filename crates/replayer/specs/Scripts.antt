-- Scripts as lists of events, and what every script has
use Rattle.std.specs.Prelude.{◌≡◌, ℕ, ◌+◌, ◌<◌, ◌≤◌, List, [], ◌∷◌, ◌++◌, length, map, replicate, Option, ℤ}
use Rattle.app_graph.specs.declared.mode_set.ModeSet.{ModeSet}
use Rattle.app_graph.specs.Validation.{KeepsRules}
use Rattle.sched_model.specs.declared.schedule.Schedule.{Schedule}
use Rattle.replay_script.specs.declared.line.Line.{Line}
use Rattle.replay_script.specs.declared.line.Line.TheVariants.{Go, UntilBeacon, Lose, Request, Restart}
use Rattle.replay_script.specs.Fitting.{FitsScript}
use Rattle.runtime_model.specs.Laws.{PlansAreRight, RequestsFit}
use Rattle.runtime_model.specs.Outcomes.{PlainEvent, advance, Step}
use Rattle.runtime_model.specs.Plans.{AreSchedules}
use Rattle.runtime_model.specs.Script.{ScriptLine, go, until_beacon, lose, asks, restarts_node, Until, Spells}
use Rattle.runtime_model.specs.System.{System, system_of}
use Rattle.runtime_model.specs.History.{history, now_after}

-- a line of the code as one of the definitions
abbrev pub plain_line : Line → ScriptLine
plain_line (Go n) = go n
plain_line UntilBeacon = until_beacon
plain_line (Lose nodes) = lose nodes
plain_line (Request mode) = asks mode
plain_line (Restart node) = restarts_node node

-- each request of these lines names a mode of the system
abbrev pub AsksFit : System → List ScriptLine → Type 0
AsksFit y [] = Unit {0}
AsksFit y (asks m ∷ ls) = (m < length y.plans) × AsksFit y ls
AsksFit y (go n ∷ ls) = AsksFit y ls
AsksFit y (until_beacon ∷ ls) = AsksFit y ls
AsksFit y (lose bits ∷ ls) = AsksFit y ls
AsksFit y (restarts_node v ∷ ls) = AsksFit y ls

-- with right plans, a script whose requests name modes spells exactly one list of events: each cycle has a beacon, so every wait for one ends
abbrev pub ScriptsSpellOnce : Type 0
ScriptsSpellOnce = (y : System) → PlansAreRight y → (ls : List ScriptLine) → AsksFit y ls →
    (es : List PlainEvent) × Spells y ls es × ((fs : List PlainEvent) → Spells y ls fs → fs ≡ es)

-- A beacon comes soon: after so many Advances, and not much later
abbrev pub BeaconsComeSoon : Type 0
BeaconsComeSoon = (set : ModeSet) (schedules : List Schedule) (answers : List Step → ℕ → List (Option ℤ) → ℤ) (es : List PlainEvent) →
    let y = system_of set schedules answers in
    KeepsRules set → AreSchedules set schedules → RequestsFit y es →
    (n : ℕ) × Until y es n × (n ≤ 100000000000000)
    × (now_after y (history y (replicate n (advance 0) ++ es)) ≤ now_after y (history y es) + 1000000000000)

-- A script that fits the set is short: its requests name modes of the system, and its events and ticks can be counted in 63 bits
abbrev pub ScriptsAreShort : Type 0
ScriptsAreShort = (set : ModeSet) (schedules : List Schedule) (answers : List Step → ℕ → List (Option ℤ) → ℤ) (lines : List Line) (es : List PlainEvent) →
    let y = system_of set schedules answers in
    KeepsRules set → AreSchedules set schedules → FitsScript set lines → Spells y (map plain_line lines) es →
    RequestsFit y es × (length es ≤ 1000001000000000000) × (now_after y (history y es) ≤ 1020000000000000000)
