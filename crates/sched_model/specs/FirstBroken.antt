-- The first clause that a schedule breaks
use Rattle.std.specs.Prelude.{◌≡◌, ℕ, zero, suc, ◌<◌, ◌≤◌, ⊤, true, length}
use Rattle.sched_model.specs.declared.schedule.Schedule.{Schedule}
use Rattle.sched_model.specs.PlainMode.{PlainMode, task_at}
use Rattle.sched_model.specs.TaskGraph.{first, last, Reaches}
use Rattle.sched_model.specs.Rounds.{Carries}
use Rattle.sched_model.specs.RightSchedule.{RoundsFit, GapsFit, OffsetFits, MessageFits, ChainFits, RunsApart, AllServed, Timely}

-- the schedule keeps the clause of this number, from S1 to S8; there are no others
abbrev pub Keeps : PlainMode → Schedule → ℕ → Type 0
Keeps m s zero = ⊤
Keeps m s (suc zero) = RoundsFit m s
Keeps m s (suc (suc zero)) = GapsFit m s
Keeps m s (suc (suc (suc zero))) = (a : ℕ) → a < length m.tasks → OffsetFits m s a
Keeps m s (suc (suc (suc (suc zero)))) = (i : ℕ) → i < length m.messages → MessageFits m s i
Keeps m s (suc (suc (suc (suc (suc zero))))) = (f l : ℕ) → f < length m.tasks → l < length m.tasks → first m f ≡ true → last m l ≡ true → Reaches m f l → ChainFits m s f l
Keeps m s (suc (suc (suc (suc (suc (suc zero)))))) = (a b : ℕ) → a < b → b < length m.tasks → (task_at m a).node ≡ (task_at m b).node → RunsApart m s a b
Keeps m s (suc (suc (suc (suc (suc (suc (suc zero))))))) = AllServed m s
Keeps m s (suc (suc (suc (suc (suc (suc (suc (suc zero)))))))) = (i g : ℕ) → i < length m.messages → 1 ≤ g → Carries m s i g → Timely m s i g
Keeps m s (suc (suc (suc (suc (suc (suc (suc (suc (suc n))))))))) = ⊤

-- the schedule breaks this clause, and keeps those before it
pub record BreaksFirst (m : PlainMode) (s : Schedule) (clause : ℕ) : Type 0 where
  pub kept : (k : ℕ) → k < clause → Keeps m s k
  pub broken : Keeps m s clause → ⊥
