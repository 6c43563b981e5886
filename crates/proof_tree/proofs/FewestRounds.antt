-- The certificates of an accepted mode show that its schedule has the fewest rounds, or that it has none.
use Rattle.std.proofs.Common.{◌≡◌, ℕ, zero, suc, ◌+◌, ◌*◌, ◌<◌, ◌≤◌, length, sym, ◌∙◌, ap, subst, arith, pos, ◌≤ℤ◌, Option, Some, None, ⊎_elim}
use Rattle.std.proofs.lemmas.Int.{ints}
use Rattle.std.proofs.lemmas.Bool.{cases_lt}
use Rattle.std.proofs.lemmas.Nat.{le-div}
use Rattle.std.proofs.lemmas.List.{length-map}
use Rattle.sched_model.specs.declared.schedule.Schedule.{Schedule}
use Rattle.sched_model.specs.PlainMode.{PlainMode, hyper, most_rounds}
use Rattle.sched_model.specs.Rounds.{round_start}
use Rattle.sched_model.specs.RightSchedule.{IsSchedule, RoundsFit}
use Rattle.sched_model.specs.ValidMode.{IsValid}
use Rattle.proof_tree.specs.TreeLines.{Items, TreesFrom, TreeStands}
use Rattle.proof_tree.specs.Accepting.{DocMode, ModeEnds, IsMode, IsRight}
use Rattle.proof_tree.specs.Fewest.{IsBest}
use Rattle.proof_tree.proofs.TreeRefuting.{lines_refute}

trees_at : (m : PlainMode) (r n : ℕ) (ls rest : Items) → TreesFrom m r n ls rest → (q : ℕ) → r ≤ q → q < r + n → (x y : Items) × TreeStands m q x y
trees_at m r zero ls rest t q le lt = absurd (omega arith)
trees_at m r (suc n) ls rest t q le lt =
    ⊎_elim
    (λ (more : r < q). trees_at m (r + 1) n t.1 rest t.4 q (omega arith) (omega arith))
    (λ (no_more : q ≤ r). let e : r ≡ q = omega arith in (t.0, t.1, subst (λ (k : ℕ). TreeStands m k t.0 t.1) e t.3))
    (cases_lt r q)

-- no schedule has as many rounds as one of the trees is for
none_at : (m : PlainMode) (n : ℕ) (ls rest : Items) → IsValid m → TreesFrom m 1 n ls rest → (r : ℕ) → 1 ≤ r → r ≤ n → (s : Schedule) → IsSchedule m r s → ⊥
none_at m n ls rest ok trees r some le s is =
    let t = trees_at m 1 n ls rest trees r some (omega arith) in
    lines_refute m r t.0 t.1 ok t.2 s is

starts_rise : (m : PlainMode) (s : Schedule) → RoundsFit m s → (j : ℕ) → j < length s.starts → pos (j * m.round) ≤ℤ round_start s j
starts_rise m s fit zero l = omega (arith, ints, fit.begin)
starts_rise m s fit (suc j) l = let a = starts_rise m s fit j (omega arith) in let b = fit.apart j l in omega (arith, ints, a, b)

rounds_fit : (m : PlainMode) (r : ℕ) (s : Schedule) → IsSchedule m r s → r * m.round ≤ hyper m
rounds_fit m zero s is = omega (arith, is.shape.some)
rounds_fit m (suc j) s is = let a = starts_rise m s is.s1 j (omega (arith, is.shape.starts)) in let b = is.s1.end j (sym is.shape.starts) in omega (arith, ints, a, b)

-- a right schedule has no more rounds than a hyperperiod has room for
pub few : (m : PlainMode) (r : ℕ) (s : Schedule) → IsValid m → IsSchedule m r s → r ≤ most_rounds m
few m r s ok is = le-div r (hyper m) m.round (omega (arith, ok.round)) (rounds_fit m r s is)

-- the rounds of a schedule that is told are those of its starts
pub told_rounds : (d : DocMode) (r : ℕ) (s : Schedule) (ls rest : Items) → ModeEnds d (Some s) r ls rest → length s.starts ≡ r
told_rounds d r s ls rest e = ap (λ (x : Schedule). length x.starts) e.2 ∙ length-map e.0.starts pos ∙ e.4.counted

best : (d : DocMode) (plan : Option Schedule) (n : ℕ) (ls mid rest : Items) → IsValid d.mode → TreesFrom d.mode 1 n ls mid → ModeEnds d plan (n + 1) mid rest → IsRight d plan → IsBest d plan
best d None n ls mid rest ok trees ends right = λ r s is. none_at d.mode n ls mid ok trees r is.shape.some (omega (arith, ends.0, few d.mode r s ok is)) s is
best d (Some s) n ls mid rest ok trees ends right =
    let rounds = told_rounds d (n + 1) s mid rest ends in
    record {
      found = (s, right);
      least = λ q t it. ⊎_elim
          (λ (less : q < n + 1). absurd (none_at d.mode n ls mid ok trees q it.shape.some (omega arith) t it))
          (λ (le : n + 1 ≤ q). omega (arith, rounds))
          (cases_lt q (n + 1));
    }

pub mode_is_best : (d : DocMode) (plan : Option Schedule) (ls rest : Items) → IsValid d.mode → IsMode d plan ls rest → IsRight d plan → IsBest d plan
mode_is_best d plan ls rest ok is right = best d plan is.0 is.1 is.2 rest ok is.4 is.5 right
