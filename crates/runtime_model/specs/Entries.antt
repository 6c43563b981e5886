-- The entries of a mode's hyperperiod, its cycle. All ticks count from the hyperperiod's start
use Rattle.std.specs.Prelude.{ℕ, ◌+◌, ◌%◌, Bool, cond, ◌&&◌, nat_eq, List, [], ◌∷◌, ◌++◌, length, map, slice_index_or}
use Rattle.std.specs.List.{flat_map}
use Rattle.sched_model.specs.Numbers.{below, natural}
use Rattle.sched_model.specs.PlainMode.{hyper, task_at}
use Rattle.sched_model.specs.Rounds.{round_start}
use Rattle.runtime_model.specs.Plans.{Plan, offset, place_from}

-- the end of a task, the beacon of a round, a slot of a round with a message, the start of a task. All go by their places, from 0
pub data Action : Type 0 where
  task_ends : ℕ → Action
  beacon : ℕ → Action
  slot : ℕ → ℕ → Action
  task_starts : ℕ → Action

-- an entry, with its tick
pub record Entry : Type 0 where
  pub tick : ℕ
  pub action : Action

-- task a starts at tick u
abbrev pub due_start : Plan → ℕ → ℕ → Bool
due_start p u a = nat_eq (offset p a % (task_at p.mode a).period) (u % (task_at p.mode a).period)

-- task a ends at tick u
abbrev pub due_end : Plan → ℕ → ℕ → Bool
due_end p u a = nat_eq ((offset p a + (task_at p.mode a).wcet) % (task_at p.mode a).period) (u % (task_at p.mode a).period)

-- the entries of the tasks that meet a test, by node number
abbrev pub by_node : ℕ → Plan → (ℕ → Bool) → (ℕ → Action) → ℕ → List Entry
by_node nodes p test what u =
    flat_map (λ v. flat_map (λ a. cond (nat_eq (task_at p.mode a).node v && test a) (record { tick = u; action = what a } ∷ []) []) (below (length p.mode.tasks))) (below nodes)

-- the beacon and the slots of the round at place j, where it starts at tick u
abbrev pub round_at : Plan → ℕ → ℕ → List Entry
round_at p u j =
    cond (nat_eq (natural (round_start p.schedule j)) u)
    (record { tick = u; action = beacon j } ∷ map (λ number. record { tick = u; action = slot j (place_from 0 p.mode.messages number) }) (slice_index_or p.schedule.tables j []))
    []

-- the entries of a tick: ends, then the round that starts there, then starts
abbrev pub at_tick : ℕ → Plan → ℕ → List Entry
at_tick nodes p u =
    by_node nodes p (due_end p u) task_ends u
    ++ (flat_map (round_at p u) (below (length p.schedule.starts))
    ++ by_node nodes p (due_start p u) task_starts u)

-- the entries of one hyperperiod, in order
unfoldable pub cycle : ℕ → Plan → List Entry
cycle nodes p = flat_map (at_tick nodes p) (below (hyper p.mode))
