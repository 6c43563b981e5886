-- Which tasks a task reaches, and the sets of tasks that show it
use Rattle.std.specs.Prelude.{◌≡◌, ℕ, zero, suc, ◌+◌, ◌-◌, ◌*◌, ◌%◌, ◌^◌, ◌<◌, ◌≤◌, Bool, true, ◌&&◌, nat_eq, if◌then◌else◌, List, [], ◌∷◌, ⊤, length, fold, All, sum_by, bit_or}
use Rattle.std.specs.List.{list_any}
use Rattle.std.specs.Int.{bit_at}
use Rattle.app_graph.specs.declared.mode_set.Message.{Message}
use Rattle.app_graph.specs.declared.mode_set.App.{App}
use Rattle.app_graph.specs.declared.mode_set.Mode.{Mode}
use Rattle.app_graph.specs.declared.mode_set.ModeSet.{ModeSet}
use Rattle.app_graph.specs.Queries.{produces, consumes, any_message}

-- some message of the set goes from the one task to the other
abbrev pub edge : ModeSet → ℕ → ℕ → Bool
edge set a b = any_message (λ m. produces m a && consumes m b) set

-- a walk of n edges from the one task to the other, where this tells the edges
abbrev pub Walk : (ℕ → ℕ → Bool) → ℕ → ℕ → ℕ → Type 0
Walk goes zero a b = a ≡ b
Walk goes (suc n) a b = (via : ℕ) × (goes a via ≡ true) × Walk goes n via b

-- a walk, possibly of no edge, leads from the one task to the other
abbrev pub Reaches : (ℕ → ℕ → Bool) → ℕ → ℕ → Type 0
Reaches goes a b = (n : ℕ) × Walk goes n a b

-- some message of the mode goes from the one task to the other
abbrev pub mode_edge : Mode → ℕ → ℕ → Bool
mode_edge mode a b = list_any (λ app. list_any (λ m. produces m a && consumes m b) app.messages) mode.apps

-- ---- sets of 128 tasks as numbers: the lowest bit stands for the task with the number `first`

-- the task is in the set
abbrev pub is_marked : ℕ → ℕ → ℕ → Bool
is_marked first marks task = nat_eq (bit_at marks (task - first)) 1

-- the set with these tasks too
abbrev pub with_tasks : ℕ → ℕ → List ℕ → ℕ
with_tasks first marks tasks = fold (λ marks task. bit_or marks (1 * 2 ^ (task - first) % 2 ^ 128)) marks tasks

-- with the consumers of the message, where one of its producers is in the set
abbrev pub after_message : ℕ → ℕ → Message → ℕ
after_message first marks m = if list_any (is_marked first marks) m.from then with_tasks first marks m.to else marks

-- the same message by message
abbrev pub after_app : ℕ → ℕ → App → ℕ
after_app first marks app = fold (after_message first) marks app.messages

-- the same application by application
abbrev pub after_mode : ℕ → ℕ → Mode → ℕ
after_mode first marks mode = fold (after_app first) marks mode.apps

-- the set after n times the mode
abbrev pub after_times : ℕ → ℕ → ℕ → Mode → ℕ
after_times zero first marks mode = marks
after_times (suc n) first marks mode = after_mode first (after_times n first marks mode) mode

-- the tasks have numbers from `first` to before `end`
abbrev pub Between : ℕ → ℕ → List ℕ → Type 0
Between first end tasks = All (λ task. (first ≤ task) × (task < end)) tasks

-- so have the producers and the consumers of a message
pub record HasEnds (first end : ℕ) (m : Message) : Type 0 where
  pub from : Between first end m.from
  pub to : Between first end m.to

-- so have those of each message of an application
pub record EndsWithin (first end : ℕ) (app : App) : Type 0 where
  pub messages : All (HasEnds first end) app.messages

-- so have those of each message of a mode
abbrev pub EndsBetween : ℕ → ℕ → Mode → Type 0
EndsBetween first end mode = All (EndsWithin first end) mode.apps

-- how many tasks a mode has
abbrev pub count_of : Mode → ℕ
count_of mode = sum_by (λ app. length app.tasks) mode.apps

-- the tasks of each mode have the numbers after those of the modes before it, at most 128 in a mode and 1,024 in all,
-- and its messages go from them to them
abbrev pub Numbered : ℕ → List Mode → Type 0
Numbered first [] = ⊤
Numbered first (mode ∷ modes) = (count_of mode ≤ 128) × (first + count_of mode ≤ 1024) × EndsBetween first (first + count_of mode) mode × Numbered (first + count_of mode) modes
