use Rattle.std.proofs.Common.{◌≡◌, [], ◌∷◌, ◌++◌, sym, ap, subst, ◌∙◌, arith, rules, ◌≤ℤ◌, FitsSigned, w64}
use Rattle.std.proofs.lemmas.Int.{ints, to_z-of_z}
use Rattle.sched_model.specs.ConstraintProblem.{alternatives}
use Rattle.sched_model.specs.OpenPrefix.{Chosen}
use Rattle.cert_checker.proofs.Levels.{is_chosen}
use Rattle.cert_checker.proofs.Walks.{walk_first}
use Rattle.cert_checker.proofs.walk.Walk.open.Goals as goal

pub alternatives-low-requires-clause-chosen : goal.alternatives-low-requires-clause-chosen
alternatives-low-requires-clause-chosen c =
    let w = c.args.self.now in
    subst (Chosen w.problem.mode w.problem.rounds) (sym c.as_slice.ensures.value) (is_chosen w.problem.mode w.problem.rounds w.prefix.items w.highs.items c.requires.kept.levels)

pub returns-clause-goes : goal.returns-clause-goes
returns-clause-goes c =
    let w = c.args.self.now in
    let y = c.put.new.self in
    let low = c.alternatives-low.result.0 in
    let high = c.alternatives-low.result.1 in
    let fits0 : FitsSigned w64 low = search rules in
    let fits1 : FitsSigned w64 high = search rules in
    let le : low ≤ℤ high = omega (arith, ints, c.if-low-high.false, fits0, fits1) in
    let prefix : y.prefix.items ≡ w.prefix.items ++ low ∷ [] = simp to_z-of_z at c.in_ok-put.ensures.prefix in
    let highs : y.highs.items ≡ w.highs.items ++ high ∷ [] = simp to_z-of_z at c.in_ok-put.ensures.highs in
    walk_first w y low high c.in_ok-put.ensures.problem c.requires.kept.same (c.alternatives-low.ensures ∙ ap (alternatives w.problem.mode w.problem.rounds) c.as_slice.ensures.value) le prefix highs
