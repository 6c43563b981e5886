-- The constraint problem of a mode and r rounds: variables, constraints that always hold, decisions, their alternatives, and the
-- constraints that a choice adds. All constraints bound the difference of two variables, in ticks.
use Rattle.std.specs.Prelude.{ℕ, zero, suc, ◌+◌, ◌-◌, ◌*◌, ◌/◌, ◌%◌, Bool, cond, nat_lt, nat_eq, ◌&&◌, List, [], ◌∷◌, ◌++◌, length, map, slice_index_or, ℤ, pos, negsuc, ◌+ℤ◌, ◌-ℤ◌, ◌*ℤ◌, neg_ℤ}
use Rattle.std.specs.List.{flat_map}
use Rattle.std.specs.Int.{int_div_euclid}
use Rattle.tick_num.specs.declared.differences.Diff.{Diff}
use Rattle.tick_num.specs.Differences.{diff}
use Rattle.sched_model.specs.Numbers.{below, natural, span, gcd}
use Rattle.sched_model.specs.PlainMode.{PlainMode, PlainTask, hyper, task_at, message_at, copy_count}
use Rattle.sched_model.specs.TaskGraph.{first, last, reaches}

-- ---- variables: the rounds' starts, the tasks' starts, then each message's opening and closing

-- the start of the round at place j; the first round's is variable 0
abbrev pub round_var : ℕ → ℕ
round_var j = j

-- the start of task a's first run
abbrev pub task_var : ℕ → ℕ → ℕ
task_var r a = r + a

-- where the first window of message i opens
abbrev pub opens_var : PlainMode → ℕ → ℕ → ℕ
opens_var m r i = r + length m.tasks + 2 * i

-- where it closes
abbrev pub closes_var : PlainMode → ℕ → ℕ → ℕ
closes_var m r i = r + length m.tasks + 2 * i + 1

-- how many variables there are
abbrev pub vars : PlainMode → ℕ → ℕ
vars m r = r + length m.tasks + 2 * length m.messages

-- ---- the base list, in force whatever is chosen

-- the next round starts after this one's end, and within the greatest gap
abbrev pub next_round : PlainMode → ℕ → List Diff
next_round m j = diff j (j + 1) (neg_ℤ (pos m.round)) ∷ diff (j + 1) j (pos m.gap) ∷ []

-- the last round ends with the hyperperiod, and the first one of the next hyperperiod starts within the greatest gap
abbrev pub turn : PlainMode → ℕ → List Diff
turn m r = diff (r - 1) 0 (pos (hyper m) -ℤ pos m.round) ∷ diff 0 (r - 1) (pos m.gap -ℤ pos (hyper m)) ∷ []

-- a task starts no earlier than the first round, and a first task within its period
abbrev pub of_task : PlainMode → ℕ → ℕ → List Diff
of_task m r a = diff 0 (task_var r a) (pos 0) ∷ cond (first m a) (diff (task_var r a) 0 (pos (task_at m a).period -ℤ pos 1) ∷ []) []

-- message i's window opens after producer a's end and closes within a period of it
abbrev pub of_producer : PlainMode → ℕ → ℕ → ℕ → List Diff
of_producer m r i a = diff (task_var r a) (opens_var m r i) (neg_ℤ (pos (task_at m a).wcet)) ∷ diff (closes_var m r i) (task_var r a) (pos ((task_at m a).wcet + (message_at m i).period)) ∷ []

-- consumer b starts at the close of message i's window or later, and within a period of its opening
abbrev pub of_consumer : PlainMode → ℕ → ℕ → ℕ → List Diff
of_consumer m r i b = diff (closes_var m r i) (task_var r b) (pos 0) ∷ diff (task_var r b) (opens_var m r i) (pos (message_at m i).period -ℤ pos 1) ∷ []

-- the producers, that the window closes after its opening, and the consumers
abbrev pub of_message : PlainMode → ℕ → ℕ → List Diff
of_message m r i =
    flat_map (of_producer m r i) (message_at m i).from ++ (diff (opens_var m r i) (closes_var m r i) (negsuc 0) ∷ flat_map (of_consumer m r i) (message_at m i).to)

-- task l ends within the deadline from the start of task f, where l is a last task that f reaches
abbrev pub of_chain : PlainMode → ℕ → ℕ → ℕ → List Diff
of_chain m r f l = cond (last m l && reaches m f l) (diff (task_var r l) (task_var r f) (pos (task_at m f).deadline -ℤ pos (task_at m l).wcet) ∷ []) []

-- the chains of a first task
abbrev pub of_first : PlainMode → ℕ → ℕ → List Diff
of_first m r f = cond (first m f) (flat_map (of_chain m r f) (below (length m.tasks))) []

-- rounds, tasks, messages and chains, in this order
unfoldable pub base : PlainMode → ℕ → List Diff
base m r =
    flat_map (next_round m) (below (r - 1))
    ++ (turn m r
    ++ (flat_map (of_task m r) (below (length m.tasks))
    ++ (flat_map (of_message m r) (below (length m.messages))
    ++ flat_map (of_first m r) (below (length m.tasks)))))

-- ---- the decisions

-- which round instance carries copy x of message i, counted over its windows, or at which place the runs of task b stand between
-- those of task a
pub data Decision : Type 0 where
  serve : ℕ → ℕ → Decision
  order : ℕ → ℕ → Decision

-- the copies of a message in a hyperperiod, window by window
abbrev pub serves : PlainMode → ℕ → List Decision
serves m i = map (serve i) (below (copy_count m (message_at m i)))

-- a stands before b, on one node
abbrev pub share : PlainMode → ℕ → ℕ → Bool
share m a b = nat_lt a b && nat_eq (task_at m a).node (task_at m b).node

-- their pair, where they share a node
abbrev pub ordered : PlainMode → ℕ → ℕ → List Decision
ordered m a b = cond (share m a b) (order a b ∷ []) []

-- the pairs of a task with the later ones on its node
abbrev pub orders : PlainMode → ℕ → List Decision
orders m a = flat_map (ordered m a) (below (length m.tasks))

-- the messages' copies, then the pairs of tasks, in file order
unfoldable pub decisions : PlainMode → List Decision
decisions m = flat_map (serves m) (below (length m.messages)) ++ flat_map (orders m) (below (length m.tasks))

-- the place among the decisions of copy x of message i
abbrev pub place : PlainMode → ℕ → ℕ → ℕ
place m i x = length (flat_map (serves m) (below i)) + x

-- the round instance that a list of choices has for it
abbrev pub choice : PlainMode → List ℤ → ℕ → ℕ → ℕ
choice m p i x = natural (slice_index_or p (place m i x) (pos 0))

-- ---- the alternatives of a decision

-- the latest start of a task
abbrev pub latest : PlainTask → ℤ
latest t = pos t.period -ℤ pos 1 +ℤ pos t.deadline -ℤ pos t.wcet

-- the places z, ascending, for which some starts from 0 to the latest ones of the two tasks have
-- z * d + e1 <= second - first <= (z + 1) * d - e2, where d is the greatest common divisor of the periods; none where both runs have no room in d
abbrev pub places : PlainTask → PlainTask → List ℤ
places s t =
    let d = gcd s.period t.period in
    cond (nat_lt d (s.wcet + t.wcet)) []
    (span (int_div_euclid (pos t.wcet -ℤ latest s +ℤ pos d -ℤ pos 1) (pos d) -ℤ pos 1) (int_div_euclid (latest t -ℤ pos s.wcet) (pos d)))

-- after the choices p. The choices of a message's earlier copies are the last ones of p: a later copy has a later round instance,
-- and all are within one hyperperiod's rounds from the first one's
abbrev pub alternatives_of : PlainMode → ℕ → Decision → List ℤ → List ℤ
alternatives_of m r (serve i zero) p = let msg = message_at m i in span (pos 1) (pos (r * ((msg.period + msg.deadline) / hyper m + 1)))
alternatives_of m r (serve i (suc x)) p = span (slice_index_or p (length p - 1) (pos 0) +ℤ pos 1) (slice_index_or p (length p - suc x) (pos 0) +ℤ pos r -ℤ pos 1)
alternatives_of m r (order a b) p = places (task_at m a) (task_at m b)

-- the alternatives of the next decision, ascending
abbrev pub alternatives : PlainMode → ℕ → List ℤ → List ℤ
alternatives m r p = alternatives_of m r (slice_index_or (decisions m) (length p) (order 0 0)) p

-- ---- the constraints of choices

-- the window of copy x of message i
abbrev pub window_of : PlainMode → ℕ → ℕ → ℕ
window_of m i x = x / (message_at m i).copies

-- the two constraints that a choice adds: the round instance lies in the copy's window, or the runs of the second task stand between
-- those of the first
abbrev pub chosen : PlainMode → ℕ → Decision → ℤ → List Diff
chosen m r (serve i x) v =
    let g = natural v in
    let j = (g - 1) % r in
    let shift = pos ((g - 1) / r * hyper m) -ℤ pos (window_of m i x * (message_at m i).period) in
    diff (opens_var m r i) (round_var j) shift ∷ diff (round_var j) (closes_var m r i) (neg_ℤ shift -ℤ pos m.round) ∷ []
chosen m r (order a b) z =
    let s = task_at m a in
    let t = task_at m b in
    let d = pos (gcd s.period t.period) in
    diff (task_var r a) (task_var r b) (neg_ℤ (z *ℤ d +ℤ pos s.wcet)) ∷ diff (task_var r b) (task_var r a) ((z +ℤ pos 1) *ℤ d -ℤ pos t.wcet) ∷ []

-- those of a list of choices, one for each decision from the first on
abbrev pub chosen_all : PlainMode → ℕ → List Decision → List ℤ → List Diff
chosen_all m r [] vs = []
chosen_all m r (d ∷ ds) [] = []
chosen_all m r (d ∷ ds) (v ∷ vs) = chosen m r d v ++ chosen_all m r ds vs

-- the constraints in force after the choices p, in the order of their numbers from 0
abbrev pub in_force : PlainMode → ℕ → List ℤ → List Diff
in_force m r p = base m r ++ chosen_all m r (decisions m) p

-- how many of the choices name the round at place j
abbrev pub load_of : ℕ → ℕ → List Decision → List ℤ → ℕ
load_of r j [] vs = 0
load_of r j (d ∷ ds) [] = 0
load_of r j (serve i x ∷ ds) (v ∷ vs) = cond (nat_eq ((natural v - 1) % r) j) 1 0 + load_of r j ds vs
load_of r j (order a b ∷ ds) (v ∷ vs) = load_of r j ds vs

-- the same for choices of a mode's decisions
abbrev pub load : PlainMode → ℕ → ℕ → List ℤ → ℕ
load m r j p = load_of r j (decisions m) p
