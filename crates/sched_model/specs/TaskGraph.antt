-- The graph of a mode's tasks: an edge leads from each producer of a message to each of its consumers
use Rattle.std.specs.Prelude.{◌≡◌, ℕ, zero, suc, Bool, true, ◌&&◌, ◌||◌, not, nat_eq, length}
use Rattle.std.specs.List.{list_any}
use Rattle.sched_model.specs.Numbers.{below, has}
use Rattle.sched_model.specs.PlainMode.{PlainMode}

-- some message goes from task a to task b
abbrev pub edge : PlainMode → ℕ → ℕ → Bool
edge m a b = list_any (λ msg. has msg.from a && has msg.to b) m.messages

-- the same as a fact
abbrev pub IsEdge : PlainMode → ℕ → ℕ → Type 0
IsEdge m a b = edge m a b ≡ true

-- a walk of n edges from a to b
abbrev pub Walk : PlainMode → ℕ → ℕ → ℕ → Type 0
Walk m a b zero = a ≡ b
Walk m a b (suc n) = (c : ℕ) × IsEdge m a c × Walk m c b n

-- a walk, possibly of no edge, leads from a to b
abbrev pub Reaches : PlainMode → ℕ → ℕ → Type 0
Reaches m a b = (n : ℕ) × Walk m a b n

-- a first task consumes no message
abbrev pub first : PlainMode → ℕ → Bool
first m a = not (list_any (λ msg. has msg.to a) m.messages)

-- a last task produces no message
abbrev pub last : PlainMode → ℕ → Bool
last m a = not (list_any (λ msg. has msg.from a) m.messages)

-- a walk of at most n edges leads from a to b, as a test
abbrev pub reaches_in : ℕ → PlainMode → ℕ → ℕ → Bool
reaches_in zero m a b = nat_eq a b
reaches_in (suc n) m a b = nat_eq a b || list_any (λ c. edge m a c && reaches_in n m c b) (below (length m.tasks))

-- whether a reaches b, as a test: no walk of a valid mode has more edges than there are tasks
abbrev pub reaches : PlainMode → ℕ → ℕ → Bool
reaches m a b = reaches_in (length m.tasks) m a b
