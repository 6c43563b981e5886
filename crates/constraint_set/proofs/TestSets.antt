-- The mode set of the tests
use Rattle.std.proofs.Common.{◌≡◌, ℕ, ◌+◌, ◌*◌, ◌/◌, ◌<◌, ◌≤◌, [], ◌∷◌, take, Contains, get_or, lit<, refl, sym, subst, arith, pos}
use Rattle.std.proofs.lemmas.Int.{ints}
use Rattle.app_graph.specs.declared.mode_set.ModeSet.{ModeSet}
use Rattle.app_graph.specs.Validation.{KeepsRules}
use Rattle.sched_model.specs.PlainMode.{PlainMode, plain_at, message_at, hyper, copy_count, most_rounds}
use Rattle.sched_model.specs.ConstraintProblem.{Decision, serve, order, decisions, alternatives, alternatives_of}
use Rattle.sched_model.specs.OpenPrefix.{Chosen}
use Rattle.sched_model.specs.TestModes.{loop_with}
use Rattle.sched_model.proofs.Places.{decision_at}
use Rattle.sched_model.proofs.TestLaws.{wide_kept}
use Rattle.constraint_set.specs.Posed.{Posed}
use Rattle.constraint_set.specs.Decided.{MayChoose}

pub loop_rules : (set : ModeSet) → set ≡ loop_with (pos 100) → KeepsRules set
loop_rules set e = subst KeepsRules (sym e) wide_kept.2

five_rounds : most_rounds (plain_at (loop_with (pos 100)) 0) ≡ 5
unfolding hyper
five_rounds = refl

pub some_rounds : (set : ModeSet) (r : ℕ) → set ≡ loop_with (pos 100) → r ≤ 5 → r ≤ most_rounds (plain_at set 0)
some_rounds set r e l = subst (λ (x : ModeSet). r ≤ most_rounds (plain_at x 0)) (sym e) (omega (arith, l, five_rounds))

one_copy : 0 < copy_count (plain_at (loop_with (pos 100)) 0) (message_at (plain_at (loop_with (pos 100)) 0) 0)
unfolding hyper
one_copy = lit< tt

first_decision : get_or (decisions (plain_at (loop_with (pos 100)) 0)) 0 (order 0 0) ≡ serve 0 0
first_decision = decision_at (plain_at (loop_with (pos 100)) 0) 0 0 (order 0 0) (lit< tt) one_copy

may_two : (m : PlainMode) (d : Decision) → d ≡ serve 0 0 → MayChoose m 1 d (pos 2)
may_two m d e =
    let q = ((message_at m 0).period + (message_at m 0).deadline) / hyper m in
    let two : 2 ≤ 1 * (q + 2) = omega arith in
    subst (λ (x : Decision). MayChoose m 1 x (pos 2)) (sym e) (omega (arith, ints), omega (arith, ints, two))

-- the second round instance may be chosen for the first decision
pub may_choose : (set : ModeSet) (p : Posed) → set ≡ loop_with (pos 100) → p ≡ record { mode = plain_at set 0; rounds = 1 } → MayChoose p.mode p.rounds (get_or (decisions p.mode) 0 (order 0 0)) (pos 2)
may_choose set p e is =
    subst (λ (x : Posed). MayChoose x.mode x.rounds (get_or (decisions x.mode) 0 (order 0 0)) (pos 2)) (sym is)
    (may_two (plain_at set 0) (get_or (decisions (plain_at set 0)) 0 (order 0 0)) (subst (λ (x : ModeSet). get_or (decisions (plain_at x 0)) 0 (order 0 0) ≡ serve 0 0) (sym e) first_decision))

first_chosen : Chosen (plain_at (loop_with (pos 100)) 0) 1 (pos 2 ∷ [])
unfolding hyper
first_chosen = λ k l.
    let m = plain_at (loop_with (pos 100)) 0 in
    let e : 0 ≡ k = omega (arith, l) in
    subst (λ j. Contains (alternatives m 1 (take j (pos 2 ∷ []))) (get_or (pos 2 ∷ []) j (pos 0))) e
    (subst (λ (d : Decision). Contains (alternatives_of m 1 d []) (pos 2)) (sym first_decision) (1, lit< tt, refl))

-- the second round instance is chosen for the first decision
pub chosen_first : (set : ModeSet) (p : Posed) → set ≡ loop_with (pos 100) → p ≡ record { mode = plain_at set 0; rounds = 1 } → Chosen p.mode p.rounds (pos 2 ∷ [])
chosen_first set p e is =
    subst (λ (x : Posed). Chosen x.mode x.rounds (pos 2 ∷ [])) (sym is) (subst (λ (x : ModeSet). Chosen (plain_at x 0) 1 (pos 2 ∷ [])) (sym e) first_chosen)
