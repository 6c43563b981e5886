use Rattle.std.proofs.Common.{◌≡◌, ◌-◌, ◌<◌, [], ◌∷◌, ◌++◌, length, ◌∙◌, arith, rules, pos, ◌+ℤ◌, ◌≤ℤ◌, FitsSigned, w64, refl}
use Rattle.std.proofs.lemmas.Int.{ints, to_z-of_z}
use Rattle.cert_checker.proofs.Walks.{next_among, walk_next, walk_down}
use Rattle.cert_checker.proofs.walk.Walk.advance.Goals as goal

pub put-requires-clause-among : goal.put-requires-clause-among
put-requires-clause-among c =
    let w = c.loop-self.self in
    let x = c.pop-last.new.self in
    let last = c.pop-last.result.0 in
    let most = c.pop-last.result.1 in
    let k = length w.prefix.items - 1 in
    let fits0 : FitsSigned w64 last = search rules in
    let fits1 : FitsSigned w64 most = search rules in
    let less : (last +ℤ pos 1) ≤ℤ most = omega (arith, ints, c.if-last-most.true, fits0, fits1) in
    let fits2 : FitsSigned w64 (last +ℤ pos 1) = search (rules, less) in
    let some : 0 < length w.prefix.items = search rules in
    simp to_z-of_z (next_among w.problem x.problem w.prefix.items w.highs.items x.prefix.items k last most (last +ℤ pos 1) (c.loop-self.invariant.kept.levels k (omega (arith, some)))
    c.pop-last.ensures.problem c.pop-last.ensures.prefix c.pop-last.ensures.last c.pop-last.ensures.most refl less)

pub returns-then-last-most-clause-goes : goal.returns-then-last-most-clause-goes
returns-then-last-most-clause-goes c =
    let w = c.loop-self.self in
    let x = c.pop-last.new.self in
    let y = c.put.new.self in
    let last = c.pop-last.result.0 in
    let most = c.pop-last.result.1 in
    let fits0 : FitsSigned w64 last = search rules in
    let fits1 : FitsSigned w64 most = search rules in
    let less : (last +ℤ pos 1) ≤ℤ most = omega (arith, ints, c.if-last-most.true, fits0, fits1) in
    let fits2 : FitsSigned w64 (last +ℤ pos 1) = search (rules, less) in
    let some : 0 < length w.prefix.items = search rules in
    let prefix : y.prefix.items ≡ x.prefix.items ++ (last +ℤ pos 1) ∷ [] = simp to_z-of_z at c.in_ok-put.ensures.prefix in
    let highs : y.highs.items ≡ x.highs.items ++ most ∷ [] = simp to_z-of_z at c.in_ok-put.ensures.highs in
    λ o at. walk_next w x y last most (last +ℤ pos 1) c.pop-last.ensures.problem c.in_ok-put.ensures.problem some c.loop-self.invariant.kept.same
    c.pop-last.ensures.prefix c.pop-last.ensures.highs c.pop-last.ensures.last c.pop-last.ensures.most prefix highs refl less o at
    ∙ c.loop-self.invariant.goes o at

pub loop-self-preserved : goal.loop-self-preserved
loop-self-preserved c =
    let w = c.loop-self.self in
    let x = c.pop-last.new.self in
    let last = c.pop-last.result.0 in
    let most = c.pop-last.result.1 in
    let fits0 : FitsSigned w64 last = search rules in
    let fits1 : FitsSigned w64 most = search rules in
    let more : most ≤ℤ last = omega (arith, ints, c.if-last-most.false, fits0, fits1) in
    let some : 0 < length w.prefix.items = search rules in
    record {
      kept = c.pop-last.ensures.kept;
      problem = c.pop-last.ensures.problem ∙ c.loop-self.invariant.problem;
      goes = λ o at. walk_down w x last most c.pop-last.ensures.problem some c.pop-last.ensures.prefix c.pop-last.ensures.highs c.pop-last.ensures.last c.pop-last.ensures.most more o at
          ∙ c.loop-self.invariant.goes o at;
    }
