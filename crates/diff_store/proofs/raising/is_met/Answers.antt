use Rattle.std.proofs.Common.{arith, ℤ, pos, ◌≤ℤ◌}
use Rattle.std.proofs.lemmas.Int.{ints}
use Rattle.tick_num.specs.Differences.{listed}
use Rattle.diff_store.proofs.Ticks.{modest_of, test_exact}
use Rattle.diff_store.proofs.raising.is_met.Goals as goal

far : (w : ℤ) → w ≤ℤ pos 4_000_010_000_000_000_000 → w ≤ℤ pos 8_100_000_000_000_000_000
far w h = omega (arith, ints, h)

pub returns : goal.returns
returns c =
    let v = listed c.args.values.now in
    test_exact (v c.args.d.x) c.args.d.c (v c.args.d.y)
    (modest_of (v c.args.d.x) c.args.d.c (c.requires.from_zero c.args.d.x) (c.requires.low c.args.d.x) c.requires.small)
    (c.requires.from_zero c.args.d.y)
    (far (v c.args.d.y) (c.requires.low c.args.d.y))
