-- Round instances that serve the copies of a message. The round instances are numbered from 1 over all hyperperiods.
use Rattle.std.specs.Prelude.{count_by, map, ◌≡◌, ℕ, suc, length, slice_index_or, ◌+ℤ◌, ◌+◌, ◌-◌, ◌*◌, ◌/◌, ◌%◌, ◌≤◌, Bool, nat_eq, List, [], ◌∷◌, ℤ, pos, ◌-ℤ◌, neg_ℤ}
use Rattle.tick_num.specs.declared.differences.Diff.{Diff}
use Rattle.tick_num.specs.Differences.{diff}
use Rattle.sched_model.specs.Numbers.{natural, span}
use Rattle.sched_model.specs.PlainMode.{PlainMode, hyper, message_at}
use Rattle.sched_model.specs.ConstraintProblem.{alternatives_of, chosen, closes_var, load_of, opens_var, serve}
use Rattle.round_service.specs.declared.choices.MessageTimes.{MessageTimes}

-- the numbers are within the limits
pub record IsServable (t : MessageTimes) : Type 0 where
  pub rounds : (1 ≤ t.rounds) × (t.rounds ≤ 256)
  pub round : (1 ≤ t.round) × (t.round ≤ 1000000000)
  pub hyper : (1 ≤ t.hyper) × (t.hyper ≤ 1000000000000)
  pub period : (1 ≤ t.period) × (t.period ≤ 1000000000)
  pub deadline : t.deadline ≤ 1000000000000
  pub copies : 1 ≤ t.copies

-- the greatest round instance that any copy of the message can have
abbrev pub most_choice : MessageTimes → ℕ
most_choice t = t.rounds * ((t.period + t.deadline) / t.hyper + 2)

-- the two constraints that round instance v lies in the window of copy i, where variables x and y open and close the message's first window
abbrev pub served : ℕ → ℕ → MessageTimes → ℕ → ℤ → List Diff
served x y t i v =
    let g = natural v in
    let j = (g - 1) % t.rounds in
    let shift = pos ((g - 1) / t.rounds * t.hyper) -ℤ pos (i / t.copies * t.period) in
    diff x j shift ∷ diff j y (neg_ℤ shift -ℤ pos t.round) ∷ []

-- the round, from 1, of a round instance: g is n * r + j for some n
abbrev pub round_named : ℕ → ℤ → ℕ
round_named r g = (natural g - 1) % r + 1

-- round instance g is one of round j
abbrev pub names_round : ℕ → ℕ → ℤ → Bool
names_round r j g = nat_eq (round_named r g) j

-- the numbers are those of message i of the mode, for r rounds
pub record Shows (m : PlainMode) (r i : ℕ) (t : MessageTimes) : Type 0 where
  pub rounds : t.rounds ≡ r
  pub round : t.round ≡ m.round
  pub hyper : t.hyper ≡ hyper m
  pub period : t.period ≡ (message_at m i).period
  pub deadline : t.deadline ≡ (message_at m i).deadline
  pub copies : t.copies ≡ (message_at m i).copies

-- the alternatives of the first copy and of the later ones, and the constraints of every choice, are those of the constraint problem
abbrev pub ChoicesAreDecisions : Type 0
ChoicesAreDecisions = (m : PlainMode) (r i : ℕ) (t : MessageTimes) → Shows m r i t →
    ((p : List ℤ) → span (pos 1) (pos (t.rounds * ((t.period + t.deadline) / t.hyper + 1))) ≡ alternatives_of m r (serve i 0) p)
    × ((k : ℕ) (p : List ℤ) → span (slice_index_or p (length p - 1) (pos 0) +ℤ pos 1) (slice_index_or p (length p - suc k) (pos 0) +ℤ pos t.rounds -ℤ pos 1) ≡ alternatives_of m r (serve i (suc k)) p)
    × ((k : ℕ) (v : ℤ) → served (opens_var m r i) (closes_var m r i) t k v ≡ chosen m r (serve i k) v)

-- for choices of copies of messages, the load of the round at place j is how many of them name the round j + 1
abbrev pub LoadsAreCounts : Type 0
LoadsAreCounts = (r j : ℕ) (copies : List (ℕ × ℕ)) (vs : List ℤ) → length vs ≤ length copies →
    load_of r j (map (λ s. serve s.0 s.1) copies) vs ≡ count_by (names_round r (j + 1)) vs
