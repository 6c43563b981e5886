-- The load of a round is a count of choices
use Rattle.std.proofs.Common.{◌≡◌, ℕ, ◌+◌, ◌-◌, ◌%◌, ◌≤◌, refl, sym, ◌∙◌, ap, arith, add-one, List, [], ◌∷◌, length, map, eqb, cond, ℤ}
use Rattle.std.specs.List.{count_by}
use Rattle.std.proofs.lemmas.List.Sums.{sum_by-cons}
use Rattle.std.proofs.Math.Dec.{eqb-suc-suc}
use Rattle.sched_model.specs.Numbers.{natural}
use Rattle.sched_model.specs.ConstraintProblem.{serve, load_of}
use Rattle.round_service.specs.Serving.{LoadsAreCounts, names_round}

same_test : (a b : ℕ) → eqb (a + 1) (b + 1) ≡ eqb a b
same_test a b = simp add-one (eqb-suc-suc a b)

counted_on : (r j : ℕ) (ss : List (ℕ × ℕ)) (vs : List ℤ) → length vs ≤ length ss → load_of r j (map (λ s. serve s.0 s.1) ss) vs ≡ count_by (names_round r (j + 1)) vs
counted_on r j [] [] l = refl
counted_on r j [] (v ∷ vs) l = absurd (omega arith)
counted_on r j (s ∷ ss) [] l = refl
counted_on r j (s ∷ ss) (v ∷ vs) l =
    ap (λ n. cond (eqb ((natural v - 1) % r) j) 1 0 + n) (counted_on r j ss vs (omega arith))
    ∙ ap (λ b. cond b 1 0 + count_by (names_round r (j + 1)) vs) (sym (same_test ((natural v - 1) % r) j))
    ∙ sym (sum_by-cons (λ (g : ℤ). cond (names_round r (j + 1) g) 1 0) v vs)

pub loads_are : LoadsAreCounts
loads_are = counted_on
