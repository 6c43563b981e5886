-- A walk from one prefix to the next
use Rattle.std.proofs.Common.{◌≡◌, ℕ, suc, ◌-◌, ◌<◌, ◌≤◌, true, cond, ⊎_elim, List, [], ◌∷◌, ◌++◌, length, take, Some, Ok, Err, refl, sym, ◌∙◌, ap, subst, arith, ℤ, pos, ◌+ℤ◌, ◌≤ℤ◌}
use Rattle.std.proofs.lemmas.Int.{ints}
use Rattle.std.proofs.lemmas.Bool.{cases_lt, lt-ltb, le-ltb}
use Rattle.std.proofs.lemmas.List.{length-take-le}
use Rattle.sched_model.specs.Numbers.{span}
use Rattle.sched_model.specs.ConstraintProblem.{alternatives, decisions}
use Rattle.proof_tree.specs.Items.{Branch}
use Rattle.proof_tree.specs.TreeLines.{Items}
use Rattle.proof_tree.specs.Reading.{Place, ◌>>=◌, BadLeaf, tree_at}
use Rattle.constraint_set.specs.Posed.{Posed}
use Rattle.cert_checker.specs.declared.walk.Walk.{Walk}
use Rattle.cert_checker.specs.TreeStack.{at_, IsLevel, trees_for, beside, tree_due, line_at, behind_line, walk_due, walk_beside, walk_branch, walk_children, walk_goes}
use Rattle.cert_checker.proofs.Besides.{bind_assoc, span_first, first_due, next_due, down_due}

pub next_among : (a b : Posed) (p g p' : List ℤ) (k : ℕ) (last most v : ℤ) → IsLevel a.mode a.rounds p g k → b ≡ a → p' ≡ take k p → last ≡ at_ p k → most ≡ at_ g k → v ≡ last +ℤ pos 1 → v ≤ℤ most →
    (low : ℤ) × (alternatives b.mode b.rounds p' ≡ span low most) × (low ≤ℤ v) × (v ≤ℤ most)
next_among a b p g p' k last most v (low, is, from, to) eb ep el em ev le = (
  low,
  ap (λ (x : Posed). alternatives x.mode x.rounds p') eb ∙ ap (alternatives a.mode a.rounds) ep ∙ is ∙ ap (span low) (sym em),
  omega (arith, ints, from, el, ev),
  le,
)

-- the same problem, and other choices
other_problem : (o : ℕ) (a b : Posed) (p g : List ℤ) (at : Place) → b ≡ a → tree_due o b.mode b.rounds p g at ≡ tree_due o a.mode a.rounds p g at
other_problem o a b p g at e = ap (λ (x : Posed). tree_due o x.mode x.rounds p g at) e

pub walk_next : (w x y : Walk) (last most v : ℤ) → x.problem ≡ w.problem → y.problem ≡ x.problem → 0 < length w.prefix.items → length w.highs.items ≡ length w.prefix.items
    → x.prefix.items ≡ take (length w.prefix.items - 1) w.prefix.items → x.highs.items ≡ take (length w.prefix.items - 1) w.highs.items
    → last ≡ at_ w.prefix.items (length w.prefix.items - 1) → most ≡ at_ w.highs.items (length w.prefix.items - 1)
    → y.prefix.items ≡ x.prefix.items ++ v ∷ [] → y.highs.items ≡ x.highs.items ++ most ∷ [] → v ≡ last +ℤ pos 1 → v ≤ℤ most
    → (o : ℕ) (at : Place) → walk_goes true o y at ≡ walk_beside o w at
walk_next w x y last most v ex ey some same xp xg el em yp yg ev le o at =
    let k = length w.prefix.items - 1 in
    let top : length w.prefix.items ≡ suc k = omega (arith, some) in
    other_problem o w.problem y.problem y.prefix.items y.highs.items at (ey ∙ ex)
    ∙ next_due o w.problem.mode w.problem.rounds k w.prefix.items w.highs.items y.prefix.items y.highs.items v top (same ∙ top) (ev ∙ ap (λ (z : ℤ). z +ℤ pos 1) el)
    (subst (λ (z : ℤ). v ≤ℤ z) em le) (yp ∙ ap (λ (l : List ℤ). l ++ v ∷ []) xp)
    (yg ∙ ap (λ (l : List ℤ). l ++ most ∷ []) xg ∙ ap (λ (z : ℤ). take k w.highs.items ++ z ∷ []) em) at
    ∙ ap (λ n. beside o w.problem.mode w.problem.rounds w.prefix.items w.highs.items n at) (sym top)

pub walk_down : (w x : Walk) (last most : ℤ) → x.problem ≡ w.problem → 0 < length w.prefix.items
    → x.prefix.items ≡ take (length w.prefix.items - 1) w.prefix.items → x.highs.items ≡ take (length w.prefix.items - 1) w.highs.items
    → last ≡ at_ w.prefix.items (length w.prefix.items - 1) → most ≡ at_ w.highs.items (length w.prefix.items - 1) → most ≤ℤ last
    → (o : ℕ) (at : Place) → walk_beside o x at ≡ walk_beside o w at
walk_down w x last most ex some xp xg el em le o at =
    let k = length w.prefix.items - 1 in
    let top : length w.prefix.items ≡ suc k = omega (arith, some) in
    let len : length x.prefix.items ≡ k = ap (λ (l : List ℤ). length l) xp ∙ length-take-le k w.prefix.items (omega (arith, top)) in
    ap (λ (a : Posed). beside o a.mode a.rounds x.prefix.items x.highs.items (length x.prefix.items) at) ex
    ∙ ap (λ n. beside o w.problem.mode w.problem.rounds x.prefix.items x.highs.items n at) len
    ∙ sym (down_due o w.problem.mode w.problem.rounds k w.prefix.items w.highs.items x.prefix.items x.highs.items xp xg (omega (arith, ints, le, el, em)) at)
    ∙ ap (λ n. beside o w.problem.mode w.problem.rounds w.prefix.items w.highs.items n at) (sym top)

pub walk_first : (w y : Walk) (low high : ℤ) → y.problem ≡ w.problem → length w.highs.items ≡ length w.prefix.items
    → span low high ≡ alternatives w.problem.mode w.problem.rounds w.prefix.items → low ≤ℤ high
    → y.prefix.items ≡ w.prefix.items ++ low ∷ [] → y.highs.items ≡ w.highs.items ++ high ∷ []
    → (o : ℕ) (at : Place) → walk_goes true o y at ≡ walk_children o w at
walk_first w y low high ey same es le yp yg o at =
    let m = w.problem.mode in
    let r = w.problem.rounds in
    let k = length w.prefix.items in
    other_problem o w.problem y.problem y.prefix.items y.highs.items at ey
    ∙ first_due o m r k w.prefix.items w.highs.items y.prefix.items y.highs.items low high refl same yp yg at
    ∙ ap (λ (l : List ℤ). trees_for o m r (length (decisions m) - suc k) w.prefix.items l at >>= λ x. walk_beside o w x.1) (sym (span_first low high le) ∙ es)

-- the line of a branch
pub branch_due : (w : Walk) (o line : ℕ) (rest : Items) → walk_due o w (line_at line Branch rest) ≡ walk_branch line o w (behind_line line rest)
branch_due w o line rest =
    let m = w.problem.mode in
    let r = w.problem.rounds in
    let p = w.prefix.items in
    let n = length (decisions m) in
    ⊎_elim
    (λ (lt : length p < n).
    let left : n - length p ≡ suc (n - suc (length p)) = omega arith in
    ap (λ k. tree_at o m r k p (line_at line Branch rest) (Some Branch) >>= λ x. walk_beside o w x.1) left
    ∙ bind_assoc (trees_for o m r (n - suc (length p)) p (alternatives m r p) (behind_line line rest)) (λ x. Ok (tt, x.1)) (λ x. walk_beside o w x.1)
    ∙ sym (ap (λ b. cond b (walk_children o w (behind_line line rest)) (Err (BadLeaf line))) (lt-ltb (length p) n lt)))
    (λ (ge : n ≤ length p).
    let left : n - length p ≡ 0 = omega arith in
    ap (λ k. tree_at o m r k p (line_at line Branch rest) (Some Branch) >>= λ x. walk_beside o w x.1) left
    ∙ sym (ap (λ b. cond b (walk_children o w (behind_line line rest)) (Err (BadLeaf line))) (le-ltb (length p) n ge)))
    (cases_lt (length p) n)
