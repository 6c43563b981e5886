use Rattle.std.proofs.Common.{rules, ◌≡◌, ◌∙◌, ap, get_or, List, ℤ, pos, unsigned_abs, arith, subst, w64, FitsSigned}
use Rattle.std.proofs.lemmas.Int.{to_z-of_z}
use Rattle.std.proofs.lemmas.List.{take_all}
use Rattle.world_core.specs.Due.{NoRound}
use Rattle.world_core.proofs.DueLemmas.{no_round_more}
use Rattle.world_core.proofs.due.next_round.Goals as goal

pub loop-start-preserved : goal.loop-start-preserved
loop-start-preserved c =
    let z = get_or c.args.starts.now c.loop-start.start-index (pos 0) in
    let f : FitsSigned w64 z = search rules in
    let is : c.unsigned_abs.result ≡ unsigned_abs z = c.unsigned_abs.ensures.value ∙ ap unsigned_abs (to_z-of_z w64 z f) in
    record {
      from = c.sooner-next.ensures.from;
      most = omega (arith, c.sooner-next.ensures.most, c.loop-start.invariant.most);
      quiet = no_round_more c.args.starts.now c.loop-start.start-index c.args.tick c.loop-start.next c.sooner-next.result (pos 0) c.loop-start-test.true c.sooner-next.ensures.most c.loop-start.invariant.quiet
          (λ l. omega (arith, is, c.sooner-next.ensures.start (omega (arith, l, is))));
    }

pub returns-clause-quiet : goal.returns-clause-quiet
returns-clause-quiet c =
    subst (λ (zs : List ℤ). NoRound zs c.args.tick c.loop-start.next) (take_all c.loop-start.start-index c.args.starts.now (omega (arith, c.loop-start-test.false))) c.loop-start.invariant.quiet
