use Rattle.std.proofs.Common.{◌≡◌, ℕ, ◌∷◌, length, map, suc, sym, ap, ◌∙◌, arith, rules, ℤ, ◌+ℤ◌, FitsSigned, w64, to_z}
use mir.Syntax.{w128}
use Rattle.std.proofs.lemmas.Int.{to_z-of_z}
use Rattle.proof_tree.specs.Grammar.{value}
use Rattle.cert_checker.specs.Following.{goes_round}
use Rattle.cert_checker.proofs.Cycles.{went_on, one_less}
use Rattle.cert_checker.proofs.leaves.leads_back.Goals as goal

pub loop-word-preserved : goal.loop-word-preserved
loop-word-preserved c =
    let ds = c.args.list.now in
    let x = c.args.first.x in
    let next = c.in-Some-constraint_at.next in
    let is = map value c.next.new.self in
    let s = to_z w128 c.loop-word.sum-bits in
    let t = c.sum_with-sum.result in
    let fits : FitsSigned w64 next.c = search rules in
    let big : FitsSigned w128 t = search rules in
    let sum : t ≡ s +ℤ next.c = simp to_z-of_z at c.sum_with-sum.ensures in
    let left : length c.loop-word.left ≡ suc (length c.next.new.self) = ap length c.in-Some.ensures.steps in
    let numbers : map value c.loop-word.left ≡ c.value.result ∷ is = ap (map value) c.in-Some.ensures.steps ∙ ap (λ (n : ℕ). n ∷ is) (sym c.value.ensures.number) in
    let goes = went_on ds x c.loop-word.at s c.value.result is next c.in-Some-constraint_at.ensures.some.0 c.in-Some-constraint_at.ensures.some.1 (sym c.begins_at.ensures ∙ c.if-not-begins_at.false) in
    simp to_z-of_z (record {
      goes = ap (λ (z : ℤ). goes_round ds x next.y z is) sum ∙ sym goes ∙ ap (goes_round ds x c.loop-word.at s) (sym numbers) ∙ c.loop-word.invariant.goes;
      few = omega (arith, left, c.loop-word.invariant.few);
      bounds = one_less (length c.loop-word.left) (length c.next.new.self) s next.c t left c.loop-word.invariant.few sum fits c.loop-word.invariant.bounds;
    })
