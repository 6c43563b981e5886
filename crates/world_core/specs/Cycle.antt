-- What a world keeps of the cycle of a plan: tasks and messages by their numbers over the file
use Rattle.std.specs.Prelude.{◌≡◌, ℕ, suc, ◌+◌, ◌%◌, ◌≤◌, cond, nat_eq, List, [], ◌∷◌, ◌++◌, length, map, slice_index_or, All, unsigned_abs, pos}
use Rattle.std.specs.List.{flat_map}
use Rattle.sched_model.specs.declared.schedule.Schedule.{Schedule}
use Rattle.sched_model.specs.Numbers.{below}
use Rattle.sched_model.specs.PlainMode.{task_at, message_at}
use Rattle.runtime_model.specs.Entries as plain
use Rattle.runtime_model.specs.Plans.{Plan, node_of}
use Rattle.node_tables.specs.PartLimits.{FewSlots}
use Rattle.world_core.specs.declared.cycle.Action.{Action}
use Rattle.world_core.specs.declared.cycle.Action.TheVariants.{End, Beacon, Slot, Start}
use Rattle.world_core.specs.declared.cycle.Entry.{Entry}
use Rattle.world_core.specs.declared.due.DueTask.{DueTask}

-- the slot of the message with this number, where the table begins at slot s
abbrev pub slot_of : ℕ → List ℕ → ℕ → ℕ
slot_of s [] number = s
slot_of s (n ∷ table) number = cond (nat_eq n number) s (slot_of (suc s) table number)

-- what a world keeps of an action of the plan: tasks and messages by their numbers over the file, rounds from 0 in the mode, slots from 1
abbrev pub kept_action : Plan → plain.Action → Action
kept_action p (plain.task_ends a) = End (node_of p a) (task_at p.mode a).number
kept_action p (plain.beacon j) = Beacon j
kept_action p (plain.slot j i) = Slot (slot_of 1 (slice_index_or p.schedule.tables j []) (message_at p.mode i).number) (message_at p.mode i).number
kept_action p (plain.task_starts a) = Start (node_of p a) (task_at p.mode a).number

-- and of an entry
abbrev pub kept_entry : Plan → plain.Entry → Entry
kept_entry p e = record { tick = pos e.tick; action = kept_action p e.action }

-- the entries that a world keeps of a plan for so many nodes
abbrev pub kept_cycle : ℕ → Plan → List Entry
kept_cycle nodes p = map (kept_entry p) (plain.cycle nodes p)

-- ---- the same entries by what is due in a tick

-- the entry with this action in tick u
abbrev pub entry_in : ℕ → Action → Entry
entry_in u action = record { tick = pos u; action = action }

-- the end of the task, if it is due in tick u
abbrev pub ends_in : ℕ → DueTask → List Entry
ends_in u t = cond (nat_eq t.end (u % t.period)) (entry_in u (End t.node t.number) ∷ []) []

-- the start of the task, if it is due in tick u
abbrev pub starts_in : ℕ → DueTask → List Entry
starts_in u t = cond (nat_eq t.start (u % t.period)) (entry_in u (Start t.node t.number) ∷ []) []

-- the slot at place k of a table
abbrev pub slot_in : ℕ → List ℕ → ℕ → Entry
slot_in u table k = entry_in u (Slot (k + 1) (slice_index_or table k 0))

-- the slots of a table
abbrev pub slots_in : ℕ → List ℕ → List Entry
slots_in u table = map (slot_in u table) (below (length table))

-- the beacon and the slots of the round at place j, if it is due in tick u
abbrev pub round_in : ℕ → Schedule → ℕ → List Entry
round_in u s j =
    cond (nat_eq (unsigned_abs (slice_index_or s.starts j (pos 0))) u)
    (entry_in u (Beacon j) ∷ slots_in u (slice_index_or s.tables j []))
    []

-- what is due in tick u: ends, then the round, then starts
abbrev pub due_in : List DueTask → Schedule → ℕ → List Entry
due_in tasks s u = flat_map (ends_in u) tasks ++ (flat_map (round_in u s) (below (length s.starts)) ++ flat_map (starts_in u) tasks)

-- a schedule has few rounds, each with a table of few messages
pub record FewRounds (s : Schedule) : Type 0 where
  pub most : length s.starts ≤ 256
  pub tables : length s.tables ≡ length s.starts
  pub few : All FewSlots s.tables
