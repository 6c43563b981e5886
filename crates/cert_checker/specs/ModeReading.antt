-- What is still to be read of a mode, and what a line leads to
use Rattle.std.specs.Prelude.{◌≡◌, ℕ, ◌+◌, ◌-◌, ◌<◌, ◌≤◌, ◌⊎◌, ⊤, length, Option, Some, None, Ok}
use Rattle.sched_model.specs.PlainMode.{most_rounds}
use Rattle.sched_model.specs.RightSchedule.{HasShape}
use Rattle.sched_model.specs.TimeLimits.{HasTimes}
use Rattle.sched_model.specs.declared.schedule.Schedule.{Schedule}
use Rattle.proof_tree.specs.Accepting.{DocMode}
use Rattle.proof_tree.specs.TreeLines.{Items}
use Rattle.proof_tree.specs.Reading.{Place, Read, ◌>>=◌, next_item, schedule, counts_at}
use Rattle.cert_checker.specs.declared.draft.Draft.{Draft}
use Rattle.cert_checker.specs.declared.counts.Inside.{Inside}
use Rattle.cert_checker.specs.declared.counts.Inside.TheVariants.{Count, Node, Starts, Rest}
use Rattle.cert_checker.specs.declared.counts.Next.{Next}
use Rattle.cert_checker.specs.declared.counts.Next.TheVariants.{More, Due, Plan}
use Rattle.cert_checker.specs.TreeStack.{IsWalk, walk_due, behind_line}
use Rattle.cert_checker.specs.DraftReading.{InHand, draft_due}

-- where the count r is due in mode o
abbrev pub count_due : ℕ → DocMode → ℕ → Place → Read (Option Schedule)
count_due o d r at = counts_at o d (most_rounds d.mode + 1 - r) r at (next_item at.rest)

-- what is left of mode o
abbrev pub inside_due : ℕ → DocMode → Inside → Place → Read (Option Schedule)
inside_due o d (Count r) at = count_due o d r at
inside_due o d (Node w) at = walk_due o w at >>= λ x. count_due o d (w.problem.rounds + 1) x.1
inside_due o d (Starts r) at = schedule d r at
inside_due o d (Rest s) at = draft_due d s at

-- a line of the draft is left
abbrev pub IsLeft : Draft → Type 0
IsLeft s = (length s.tasks.items < length s.task_names) ⊎ (length s.messages.items < length s.message_names) ⊎ (length s.tables.items < length s.starts.items)

-- what is known of what is due
abbrev pub IsInside : DocMode → Inside → Type 0
IsInside d (Count r) = (1 ≤ r) × (r ≤ most_rounds d.mode + 1)
IsInside d (Node w) = IsWalk w × (w.problem.mode ≡ d.mode) × (1 ≤ w.problem.rounds) × (w.problem.rounds ≤ most_rounds d.mode)
IsInside d (Starts r) = 1 ≤ r
IsInside d (Rest s) = InHand d s × IsLeft s

-- a plan that was read: a schedule has the shape of the mode, and its times are within the limit
abbrev pub IsShaped : DocMode → Option Schedule → Type 0
IsShaped d None = ⊤
IsShaped d (Some s) = HasShape d.mode (length s.starts) s × HasTimes s

-- what comes after a line: what is inside now, where that goes on
abbrev pub now_due : Inside → Next → Next
now_due inside More = Due inside
now_due inside (Due next) = Due next
now_due inside (Plan plan) = Plan plan

-- what is read, whatever comes behind the line, goes on so: with what is due next, or to the mode's plan
abbrev pub Follows : ℕ → DocMode → ℕ → (Items → Read (Option Schedule)) → Next → Type 0
Follows o d line read More = ⊥
Follows o d line read (Due inside) = IsInside d inside × ((rest : Items) → read rest ≡ inside_due o d inside (behind_line line rest))
Follows o d line read (Plan plan) = IsShaped d plan × ((rest : Items) → read rest ≡ Ok (plan, behind_line line rest))
