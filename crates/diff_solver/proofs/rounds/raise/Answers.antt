use Rattle.std.proofs.Common.{arith, ap, set, refl}
use Rattle.std.proofs.lemmas.Int.{ints}
use borrow.Author.Differences.{same_in}
use Rattle.diff_solver.proofs.rounds.raise.Goals as goal

pub returns-clause-raised : goal.returns-clause-raised
returns-clause-raised c =
    let low = c.requires.from_zero c.args.d.now.x in
    let high = c.requires.within c.args.d.now.x in
    let small = c.requires.small in
    record {
      less = grind (arith, ints, low, high, small);
      value = ap (set c.args.values.now c.args.d.now.y) (same_in _ _ (omega (arith, ints, low, high, small)));
      marked = refl;
      cause = refl;
    }
