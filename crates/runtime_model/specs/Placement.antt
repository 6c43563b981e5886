-- Which entries of a hyperperiod are placed, and which run or window of the stay each one belongs to
use Rattle.std.specs.Prelude.{◌≡◌, ℕ, ◌+◌, ◌-◌, ◌*◌, ◌/◌, Bool, true, false, cond, not, nat_lt, ℤ, pos, negsuc, ◌+ℤ◌, ◌-ℤ◌, ◌*ℤ◌, ◌≤ℤ◌}
use Rattle.std.specs.Int.{int_div_euclid}
use Rattle.sched_model.specs.Numbers.{natural}
use Rattle.sched_model.specs.PlainMode.{hyper, task_at, message_at}
use Rattle.sched_model.specs.Rounds.{round_start, opens, closes}
use Rattle.runtime_model.specs.Timeline.{PlainPhase, drains}
use Rattle.runtime_model.specs.Plans.{Plan, offset}

-- the release of a slot of the round at place j with message i, from the hyperperiod's start: the last multiple of the period
-- after which the window has opened
abbrev pub release : Plan → ℕ → ℕ → ℤ
release p j i =
    let period = pos (message_at p.mode i).period in
    int_div_euclid (round_start p.schedule j -ℤ opens p.schedule i) period *ℤ period

-- r is a multiple of the period, and the round lies in the window that it shifts to
pub record IsRelease (p : Plan) (j i : ℕ) (r : ℤ) : Type 0 where
  pub multiple : (z : ℤ) × (r ≡ z *ℤ pos (message_at p.mode i).period)
  pub opens_before : (opens p.schedule i +ℤ r) ≤ℤ round_start p.schedule j
  pub closes_after : (round_start p.schedule j +ℤ pos p.mode.round) ≤ℤ (closes p.schedule i +ℤ r)

-- an opening hyperperiod places only its own entries, whose instances are released in it or later, and a draining one only the others
abbrev pub placed : Bool → PlainPhase → Bool → Bool
placed opening phase own = cond opening own (cond (drains phase) (not own) true)

-- a start at tick u is of an instance that is released in this hyperperiod or later
abbrev pub own_start : Plan → ℕ → ℕ → Bool
own_start p u a = not (nat_lt u (offset p a))

abbrev pub not_negative : ℤ → Bool
not_negative (pos n) = true
not_negative (negsuc n) = false

-- so is a slot
abbrev pub own_slot : Plan → ℕ → ℕ → Bool
own_slot p j i = not_negative (release p j i)

-- ---- numbers in the stay, of a hyperperiod with n hyperperiods of the stay before it

-- the run that starts at tick u
abbrev pub run_at : Plan → ℕ → ℕ → ℕ → ℕ
run_at p n u a = (n * hyper p.mode + u - offset p a) / (task_at p.mode a).period

-- the end at tick u is that of a run of the stay
abbrev pub ends_run : Plan → ℕ → ℕ → ℕ → Bool
ends_run p n u a = not (nat_lt (n * hyper p.mode + u) (offset p a + (task_at p.mode a).wcet))

-- the run that ends at tick u
abbrev pub ending_run_at : Plan → ℕ → ℕ → ℕ → ℕ
ending_run_at p n u a = (n * hyper p.mode + u - (offset p a + (task_at p.mode a).wcet)) / (task_at p.mode a).period

-- the window of a slot
abbrev pub window_at : Plan → ℕ → ℕ → ℕ → ℕ
window_at p n j i = natural (pos (n * hyper p.mode) +ℤ release p j i) / (message_at p.mode i).period
