-- The inputs of a run
use Rattle.std.specs.Prelude.{ℕ, cond, List, [], length, map, replicate, Option, Some, None, ℤ}
use Rattle.std.specs.List.{flat_map}
use Rattle.sched_model.specs.Numbers.{below, has}
use Rattle.sched_model.specs.PlainMode.{message_at}
use Rattle.runtime_model.specs.Plans.{Plan, node_of}
use Rattle.runtime_model.specs.Outcomes.{Step, took}
use Rattle.runtime_model.specs.LookingBack.{recall}

-- n inputs: the values where there are any
abbrev pub given : ℕ → Option (List ℤ) → List (Option ℤ)
given n None = replicate n None
given n (Some xs) = map (λ x. Some x) xs

-- the inputs from message i for run k of a task on node v: the values of the packet of window k, where v took it and is unbroken since
abbrev pub input : Plan → ℕ → ℕ → ℕ → ℕ → List Step → List (Option ℤ)
input p v stay i k ds = given (length (message_at p.mode i).from) (recall v stay (took v i k) ds)

-- the inputs of run k of task b, by the messages that it consumes in file order
abbrev pub inputs : Plan → ℕ → ℕ → ℕ → List Step → List (Option ℤ)
inputs p stay b k ds = flat_map (λ i. cond (has (message_at p.mode i).to b) (input p (node_of p b) stay i k ds) []) (below (length p.mode.messages))
