-- The words of a mode file
use Rattle.std.specs.Prelude.{ℕ, List, codes}
use Rattle.app_graph.specs.declared.keys.Key.{Key}
use Rattle.app_graph.specs.declared.keys.Key.TheVariants.{KSlots, KRound, KGap, KHost, KNodes, KMode, KName, KApp, KPeriod, KDeadline, KTask, KMessage, KNode, KWcet, KBody, KFrom, KTo, KCopies, KInputs, KHyperperiod, KRounds, KRuns, KInstances, KDecisions}

abbrev pub word : Key → List ℕ
word KSlots = codes "slots"
word KRound = codes "round"
word KGap = codes "gap"
word KHost = codes "host"
word KNodes = codes "nodes"
word KMode = codes "mode"
word KName = codes "name"
word KApp = codes "app"
word KPeriod = codes "period"
word KDeadline = codes "deadline"
word KTask = codes "task"
word KMessage = codes "message"
word KNode = codes "node"
word KWcet = codes "wcet"
word KBody = codes "body"
word KFrom = codes "from"
word KTo = codes "to"
word KCopies = codes "copies"
word KInputs = codes "inputs"
word KHyperperiod = codes "hyperperiod"
word KRounds = codes "rounds"
word KRuns = codes "runs"
word KInstances = codes "instances"
word KDecisions = codes "decisions"
